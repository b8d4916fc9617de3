-- `turn_nodes` meets its contract: the words of the nodes passed are turned and their indices noted, and the next node's place in the list is
-- known. From the laws of the sweep and of a rising list.
use mathlib.Core.Path.{◌≡◌}
use Prim.Native.Nat.{◌+◌, ◌*◌, ◌-◌, ◌≤◌}
use lib.ListN.{length}
use Rattle.graph.specs.Literals.{literals}
use Rattle.many.specs.Making.{Noted, Stands, bare, chosen, nodes_to}
use Rattle.many.proofs.making.turn_nodes.Given as goal

abbrev pub invariant-loop-v : goal.invariant-loop-v
invariant-loop-v l =
    let ns = literals l.node_table l.initial.node_bits in
    (l.v ≤ l.nodes) × (length l.node_bits ≡ length l.initial.node_bits) × (length l.seen ≡ length l.initial.seen) × Stands l.list (l.inputs + 1 + l.v) l.k
    × (literals l.node_table l.node_bits ≡ nodes_to l.inputs l.nodes ns (chosen l.list l.bytes) (3 * l.v)) × Noted (bare l.inputs l.nodes ns) (chosen l.list l.bytes) l.seen (l.inputs + 1 + l.v)
