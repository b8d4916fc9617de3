-- `front::fill_low` meets its contract. The invariant: the words of the constant and of the inputs passed are there. From the laws on words
-- that stand at the front.
use mathlib.Core.Path.{◌≡◌}
use mathlib.Core.List.{[]}
use Prim.Native.Nat.{◌+◌, ◌≤◌}
use lib.ListN.{length, take}
use Rattle.evaluation.specs.Inner.{by_index}
use Rattle.evaluation.proofs.front.fill_low.Given as goal

abbrev pub invariant-loop-k : goal.invariant-loop-k
invariant-loop-k l =
    (l.k ≤ l.inputs) × (l.k-end ≡ l.inputs) × (length l.scratch ≡ length l.initial.scratch) × (take (l.k + 1) l.scratch ≡ by_index l.k l.input_words [])
