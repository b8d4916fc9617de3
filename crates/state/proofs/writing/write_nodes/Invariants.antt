-- `write_nodes` meets its contract: the bits of the nodes passed are put. From the contract of one node.
use mathlib.Core.Path.{◌≡◌}
use Prim.Native.Nat.{◌*◌, ◌-◌, ◌≤◌}
use lib.ListN.{length}
use Rattle.graph.specs.Inner.{begun, BitsPut}
use Rattle.state.specs.State.{bit_now}
use Rattle.state.proofs.writing.write_nodes.Given as goal

abbrev pub invariant-loop-v : goal.invariant-loop-v
invariant-loop-v l =
    (l.end ≡ l.nodes) × (l.v ≤ l.end) × (length l.bits ≡ length l.initial.bits) × BitsPut (bit_now l.inputs l.nodes l.scratch l.table) l.initial.bits (begun (3 * l.v) l.got l.bits) (3 * l.v)
