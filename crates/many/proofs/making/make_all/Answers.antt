-- `make_all` meets its contract: after both sweeps the graph is the one that the moves give, and the saving is by what was counted before
-- and after. From the laws of the sweeps.
use mathlib.Core.Path.{◌≡◌, ap, ap₂, ◌∙◌}
use native.Mathlib.Omega.{arith}
use Rattle.graph.specs.Count.{C}
use Rattle.graph.specs.Finite.{difference}
use Rattle.graph.specs.Graph.{Graph, graph_of}
use Rattle.graph.specs.Literals.{literals}
use Rattle.graph.proofs.Difference.{read_as_lem}
use Rattle.moves.specs.Call.{moved}
use Rattle.many.specs.Making.{bare, chosen}
use Rattle.many.proofs.Sweeping.{ready_first, noted_none, both_made, made_admitted}
use Rattle.many.proofs.making.make_all.Goals as goal
use Rattle.many.proofs.making.make_all.Goals.{After-turn_outputs, Start}

abbrev graph : (s : Start) → Graph
graph s = graph_of s.args.inputs s.args.nodes s.args.outputs (literals s.args.node_table.now s.args.node_bits.now) (literals s.args.output_table.now s.args.output_bits.now)

-- after both sweeps

made : (c : After-turn_outputs) →
    let a = c.args in
    graph_of a.inputs a.nodes a.outputs (literals a.node_table.now c.turn_nodes.new.node_bits) (literals a.output_table.now c.turn_outputs.new.output_bits) ≡ moved ((graph_of c.args.inputs c.args.nodes c.args.outputs (literals c.args.node_table.now c.args.node_bits.now) (literals c.args.output_table.now c.args.output_bits.now))) a.list.now a.bytes.now
made c =
    let a = c.args in
    both_made ((graph_of c.args.inputs c.args.nodes c.args.outputs (literals c.args.node_table.now c.args.node_bits.now) (literals c.args.output_table.now c.args.output_bits.now))) a.list.now a.bytes.now (literals a.node_table.now c.turn_nodes.new.node_bits) c.requires.0 c.turn_nodes.ensures.0 c.turn_nodes.new.seen c.turn_nodes.ensures.1 (literals a.output_table.now c.turn_outputs.new.output_bits) c.turn_outputs.ensures

pub turn_nodes-requires : goal.turn_nodes-requires
turn_nodes-requires c =
    let a = c.args in
    (ready_first (graph (goal.at.turn_nodes-requires c).Start) a.list.now a.bytes.now c.requires.0 c.requires.1, noted_none (bare a.inputs a.nodes (literals a.node_table.now a.node_bits.now)) (chosen a.list.now a.bytes.now))

pub turn_outputs-requires : goal.turn_outputs-requires
turn_outputs-requires c =
    let d = c.requires.0 in
    (d.held_outputs, λ j h. omega (arith, d.output_below j h, d.few_inputs, d.few_nodes), c.turn_nodes.ensures.1.room)

pub complemented-after-requires : goal.complemented-after-requires
complemented-after-requires c =
    rw (made (goal.at.complemented-after-requires c).After-turn_outputs) (made_admitted (graph (goal.at.complemented-after-requires c).Start) c.args.list.now c.args.bytes.now c.requires.0)

pub returns : goal.returns
returns c =
    record { graph = made (goal.at.returns c).After-turn_outputs; saved = read_as_lem _ c.less.type_inv ∙ c.less.ensures ∙ ap₂ difference c.complemented-before.ensures.0 (c.complemented-after.ensures.0 ∙ ap C (made (goal.at.returns c).After-turn_outputs)) }
