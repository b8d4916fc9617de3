-- `text_size` meets its contract: the parts' lengths come to the text's. From the text in parts.
use Rattle.graph.specs.Graph.{Graph}
use Rattle.aiger.proofs.Exported.{few_gates}
use Rattle.aiger_export.proofs.Stored.{text_long}
use native.Mathlib.Omega.{arith}
use Rattle.aiger_export.proofs.sizes.text_size.Goals as goal
use Rattle.graph.specs.Tables.{lent_graph}

pub header_size-requires : goal.header_size-requires
header_size-requires c =
    omega (arith, c.args.circuit.now.admitted, c.gate_count-count.ensures, few_gates _ c.args.circuit.now.admitted)

pub returns : goal.returns
returns c =
    let a = c.args in
    let g : Graph = lent_graph a.circuit.now.lent in
    omega (arith, text_long g _ c.gate_count-count.ensures, c.header_size.ensures.0, c.inputs_size.ensures.0, c.outputs_size.ensures.0, c.nodes_size.ensures.0)
