-- `put_settled` meets its contract: the first two lines, the nodes' and the outputs', one after another. From the laws on texts put in a row.
use native.Mathlib.Omega.{arith}
use mathlib.Core.List.{List, ◌++◌}
use Prim.Native.Nat.{ℕ}
use Rattle.tagged_file.specs.Write.{in_order}
use Rattle.report.specs.Report.{sizes_line, counts_line, node_line_at, output_line_at, settled_text}
use Rattle.report.proofs.Put.{three_parts}
use Rattle.graph.specs.Graph.{Graph}
use Rattle.graph.proofs.Words.{word_fits, output_fits}
use Rattle.report.proofs.lines.put_settled.Goals as goal
use Rattle.report.proofs.lines.put_settled.Goals.{Start}
use Rattle.graph.specs.Tables.{lent_graph, lent_table}

abbrev graph-of : Start → Graph
graph-of s = lent_graph s.args.lent.now

pub put_nodes-middle-requires : goal.put_nodes-middle-requires
put_nodes-middle-requires c =
    let a = c.requires.admitted in
    record { fact = (a.few_inputs, a.few_nodes, a.held_nodes, λ j h. word_fits (graph-of (goal.at.put_nodes-middle-requires c).Start) a j h); nodes_in_bounds = omega (arith, c.requires.output_bits_in_bounds, a.held_nodes, a.few_nodes, c.put_head-first.ensures.1, c.put_head-first.auto.buffer) }

pub put_outputs-requires : goal.put_outputs-requires
put_outputs-requires c =
    let a = c.requires.admitted in
    record { fact = (a.held_outputs, λ j h. output_fits (graph-of (goal.at.put_outputs-requires c).Start) a j h); outputs_in_bounds = omega (arith, c.requires.output_bits_in_bounds, a.held_nodes, a.held_outputs, a.few_nodes, c.put_head-first.ensures.1, c.put_nodes-middle.ensures.1, c.put_head-first.auto.buffer, c.put_nodes-middle.auto.buffer) }

pub returns : goal.returns
unfolding settled_text
returns c =
    let a = c.args in
    let h : List ℕ = sizes_line a.lent.now.inputs a.lent.now.nodes a.lent.now.outputs ++ counts_line a.settled.before a.settled.after a.settled.rounds in
    let ns : List ℕ = in_order (node_line_at a.lent.now.inputs (lent_table a.lent.now.node_table)) 0 a.lent.now.nodes in
    let os : List ℕ = in_order (output_line_at (lent_table a.lent.now.output_table)) 0 a.lent.now.outputs in
    let p = c.put_head-first.ensures in
    let q = c.put_nodes-middle.ensures in
    let u = c.put_outputs.ensures in
    let f = three_parts a.buffer.now _ _ _ h ns os _ _ _ p.0 p.2 q.0 q.2 (u.0, u.2) in
    (f.0, omega arith, f.1)
