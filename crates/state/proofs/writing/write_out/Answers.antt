-- `write_out` leaves the tables of the graph that the state stands for. From the law of both tables written.
use native.Mathlib.Omega.{arith}
use Rattle.graph.proofs.Literals.{held_literals}
use Rattle.state.specs.State.{Pendings}
use Rattle.state.proofs.Written.{written}
use Rattle.state.proofs.writing.write_out.Goals as goal
use Rattle.state.proofs.writing.write_out.Goals.{Start}

pendings : (s : Start) → Pendings s.args.inputs s.args.nodes s.args.scratch.now
pendings s = let o = s.requires in record { few_inputs = o.admitted.few_inputs; few_nodes = o.admitted.few_nodes; long = o.long }

pub write_nodes-requires : goal.write_nodes-requires
write_nodes-requires c = let h = held_literals c.args.node_table.now c.args.node_bits.now in (pendings (goal.at.write_nodes-requires c).Start, omega (arith, h, c.requires.admitted.held_nodes), omega (arith, h, c.requires.admitted.held_nodes))

pub write_outputs-requires : goal.write_outputs-requires
write_outputs-requires c = (pendings (goal.at.write_outputs-requires c).Start, c.requires.admitted.held_outputs)

pub returns : goal.returns
returns c =
    let a = c.args in
    let n = c.write_nodes in
    let o = c.write_outputs in
    written a.inputs a.nodes a.outputs a.node_table.now a.node_bits.now a.output_table.now a.output_bits.now a.scratch.now c.requires n.new.bits o.new.bits n.ensures o.ensures
