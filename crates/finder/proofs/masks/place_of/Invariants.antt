-- `place_of` meets its contract: of the indices that have been looked at so many are below the one sought. From the laws on ways.
use Prim.Native.Nat.{◌≤◌}
use Rattle.finder.proofs.Meets.{Before}
use Rattle.finder.proofs.masks.place_of.Given as goal

abbrev pub invariant-loop-c : goal.invariant-loop-c
invariant-loop-c l = (l.c ≤ l.m) × Before l.list l.index l.below l.c
