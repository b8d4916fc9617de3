-- `readers_turn` meets its contract. From what the told move of each kind turns.
use mathlib.Core.Path.{◌≡◌, sym, ap, ◌∙◌}
use mathlib.Core.Bool.{Bool, true, false, cond}
use native.Mathlib.Omega.{arith}
use Prim.Native.Nat.{ℕ, ◌+◌, ◌%◌, ◌≤◌}
use Rattle.moves.specs.Rows.{flag}
use Rattle.order.specs.Inner.{tells}
use Rattle.compare.proofs.Told.{xor_turns, majority_turns}
use Rattle.compare.proofs.telling.readers_turn.Goals as goal

readers : (k : Bool) (x y : ℕ) → x ≤ 1 → y ≤ 1 → (x + cond k y 0) % 2 ≡ flag k (tells k x y) 3
readers true x y p q = sym (xor_turns x y p q).2
readers false x y p q = omega (arith, (majority_turns x y p q).3)

either-le : (k : Bool) (y : ℕ) → y ≤ 1 → cond k y 0 ≤ 1
either-le true y h = h
either-le false y h = omega arith

pub overflow_add-result : goal.overflow_add-result
overflow_add-result c = omega (arith, c.either.ensures, either-le c.args.xor c.args.y c.requires.1, c.requires.0)

pub returns : goal.returns
returns c =
    let a = c.args in
    (ap (λ (t : ℕ). (a.x + t) % 2) c.either.ensures ∙ readers a.xor a.x a.y c.requires.0 c.requires.1, omega arith)
