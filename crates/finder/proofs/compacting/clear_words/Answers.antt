-- `clear_words` meets its contract: the places passed are 0. From the laws on `set`.
use mathlib.Core.Path.{◌≡◌}
use Prim.Native.Nat.{ℕ, ◌≤◌, ◌<◌}
use native.Mathlib.Omega.{arith}
use Rattle.graph.proofs.Literals.{held_le}
use Rattle.finder.proofs.Compact.{cleared_none, cleared_more}
use Rattle.finder.proofs.Rooms.{room_same, room_then, held_kept}
use Rattle.finder.proofs.compacting.clear_words.Goals as goal

inside : (j b l l₀ : ℕ) → j < b → b ≤ l₀ → l ≡ l₀ → j < l
inside j b l l₀ h k e = omega arith

less : (j b k l : ℕ) → j < b → b ≤ k → k ≤ l → j < l
less j b k l h p q = omega arith

pub loop-j-init : goal.loop-j-init
loop-j-init c = (omega arith, omega arith, room_same _ _, cleared_none _ _)

pub set_word-requires : goal.set_word-requires
set_word-requires c =
    (inside _ _ _ _ c.loop-j-test.true c.requires.2 (held_kept _ _ _ _ c.loop-j.invariant.2), λ n. omega arith)

pub loop-j-preserved : goal.loop-j-preserved
loop-j-preserved c = (
  omega (arith, c.loop-j.invariant.0),
  omega (arith, c.loop-j-test.true),
  room_then _ _ _ _ c.loop-j.invariant.2 _ _ c.set_word.auto.table c.set_word.auto.bits,
  rw c.set_word.ensures (cleared_more _ _ _ _ c.loop-j.invariant.3 c.loop-j.invariant.0 (less _ _ _ _ c.loop-j-test.true c.requires.2 (held_le _))),
)

pub shape_of-table : goal.shape_of-table
shape_of-table c = c.loop-j.invariant.2.indices

pub shape_of-bits : goal.shape_of-bits
shape_of-bits c = c.loop-j.invariant.2.bits

pub returns : goal.returns
returns c =
    let e : c.loop-j.j ≡ c.args.b = omega (arith, c.loop-j-test.false, c.loop-j.invariant.1) in
    rw e at c.loop-j.invariant.3
