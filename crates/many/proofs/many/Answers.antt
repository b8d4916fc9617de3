-- `many` meets its contract. From the laws on faults and outcomes.
use Rattle.std.proofs.Common.{sym, ap, ap₂, ◌∙◌}
use Rattle.graph.specs.Answer.{whole, outcome}
use Rattle.graph.specs.Count.{C}
use Rattle.graph.specs.Finite.{difference}
use Rattle.graph.specs.Graph.{Graph, graph_of}
use Rattle.graph.specs.Literals.{literals}
use Rattle.graph.proofs.Answers.{accepted_outcome}
use Rattle.graph.proofs.Difference.{read_as_lem}
use Rattle.moves.specs.Call.{moved}
use Rattle.moves.proofs.Ends.{ends_outcome}
use Rattle.many.specs.Many.{many_number, many_call}
use Rattle.many.proofs.Refusing.{accepted_many}
use Rattle.many.proofs.many.Goals as goal
use Rattle.many.proofs.many.Goals.{Start}

abbrev graph : Start → Graph
graph s = let a = s.args in graph_of a.inputs a.nodes a.outputs (literals a.node_table.now a.node_bits.now) (literals a.output_table.now a.output_bits.now)

pub returns-in_err-check_many : goal.returns-in_err-check_many
unfolding many_call
returns-in_err-check_many c = ends_outcome _ _ _ _ _ _ c.from_residual.ensures.1 c.in_err-check_many.ensures

pub make_all-requires : goal.make_all-requires
make_all-requires c =
    accepted_many (graph (goal.at.make_all-requires c).Start) c.args.locks.now c.args.list.now c.args.bytes.now (sym c.in_ok-check_many.ensures)

pub returns : goal.returns
unfolding many_call
returns c =
    let a = c.args in
    let g : Graph = graph (goal.at.returns c).Start in
    let h : Graph = moved g a.list.now a.bytes.now in
    ap₂ outcome (ap whole (read_as_lem _ c.make_all.type_inv ∙ c.make_all.ensures.saved)) c.make_all.ensures.graph
    ∙ accepted_outcome (many_number g a.locks.now a.list.now a.bytes.now) g (outcome (whole (difference (C g) (C h))) h) (sym c.in_ok-check_many.ensures)
