-- `number_living` meets its contract: the nodes passed have their numbers. From the laws on ranks.
use mathlib.Core.Path.{◌≡◌}
use mathlib.Core.Bool.{Bool}
use Prim.Native.Nat.{ℕ, ◌≤◌}
use lib.ListN.{length}
use Rattle.finder.specs.Numbering.{Flags, Numbering}
use Rattle.finder.proofs.numbering.number_living.Given as goal

abbrev pub invariant-loop-v : goal.invariant-loop-v
invariant-loop-v l =
    (l.v ≤ l.nodes) × (l.to ≤ l.v) × (length l.scratch ≡ length l.initial.scratch) × ((live : ℕ → Bool) → Flags live l.nodes l.initial.scratch → Numbering l.inputs l.nodes live l.v l.to l.initial.scratch l.scratch)
