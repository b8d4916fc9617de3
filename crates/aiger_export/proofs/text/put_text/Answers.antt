-- `put_text` meets its contract: four parts in a row. From the text in parts.
use mathlib.Core.Path.{◌∙◌, sym}
use mathlib.Core.List.{[]}
use native.Mathlib.Nat.{zero-add}
use Rattle.graph.specs.Graph.{Graph}
use Rattle.tagged_file.specs.Write.{in_order}
use Rattle.aiger.specs.Export.{header}
use Rattle.aiger.proofs.Exported.{few_gates}
use Rattle.aiger_export.specs.Inner.{input_line, output_line, node_lines}
use Rattle.aiger_export.proofs.Parts.{text_is}
use Rattle.aiger_export.proofs.Stored.{four_put, text_long}
use native.Mathlib.Omega.{arith}
use Rattle.aiger_export.proofs.text.put_text.Goals as goal
use Rattle.aiger_export.proofs.text.put_text.Goals.{Start}
use Rattle.graph.specs.Tables.{lent_graph}

abbrev graph : Start → Graph
graph s = let a = s.args in lent_graph a.circuit.now.lent

pub put_header-first-requires : goal.put_header-first-requires
put_header-first-requires c =
    omega (arith, few_gates _ c.args.circuit.now.admitted, text_long (graph (goal.at.put_header-first-requires c).Start) _ c.gate_count-count.ensures)

pub put_inputs-second-requires : goal.put_inputs-second-requires
put_inputs-second-requires c =
    omega (arith, c.requires, text_long (graph (goal.at.put_inputs-second-requires c).Start) _ c.gate_count-count.ensures)

pub put_outputs-third-requires : goal.put_outputs-third-requires
put_outputs-third-requires c =
    let h = c.requires in
    (h.0, h.1, omega (arith, h, text_long (graph (goal.at.put_outputs-third-requires c).Start) _ c.gate_count-count.ensures, c.put_header-first, c.put_inputs-second))

pub put_nodes-requires : goal.put_nodes-requires
put_nodes-requires c =
    let h = c.requires in
    (h.0, h.1, omega (arith, h, text_long (graph (goal.at.put_nodes-requires c).Start) _ c.gate_count-count.ensures, c.put_header-first, c.put_inputs-second))

pub returns : goal.returns
returns c =
    let g : Graph = graph (goal.at.returns c).Start in
    let f = c.put_header-first.ensures in
    let h = four_put _ (header g.I c.gate_count-count.result g.O []) (in_order input_line 0 g.I) (in_order (output_line g) 0 g.O) (in_order (node_lines g) 0 g.N)
    (text_is g _ c.gate_count-count.ensures) _ _ _ _ _ 0 _ _ _ _ (f.0 ∙ sym (zero-add _), f.1) c.put_inputs-second.ensures c.put_outputs-third.ensures c.put_nodes.ensures in
    (h.0 ∙ zero-add _, h.1)
