-- `tell_nodes` meets its contract: the words of the nodes passed are turned as they are to be, and it is noted whose readers are. From the laws of what is
-- noted.
use mathlib.Core.Path.{◌≡◌}
use mathlib.Core.Bool.{true}
use Prim.Native.Nat.{ℕ, ◌+◌, ◌*◌, ◌≤◌, ◌<◌}
use lib.ListN.{length}
use Rattle.many.specs.Making.{Noted, bare}
use Rattle.compare.specs.Telling.{apart, told, fits}
use Rattle.compare.proofs.telling.tell_nodes.Given as goal
use Rattle.graph.specs.Tables.{lent_table}

abbrev pub invariant-loop-v : goal.invariant-loop-v
invariant-loop-v l =
    let t = lent_table l.first.node_table in
    let g = bare l.first.inputs l.first.nodes t in
    let w = apart t l.second_bits in
    (l.v ≤ l.first.nodes) × (length l.seen ≡ length l.initial.seen) × Noted g (told g w) l.seen (l.first.inputs + 1 + l.v) × ((j : ℕ) → j < 3 * l.v → fits g w (told g w) j ≡ true)
