-- `narrowed` meets its contract. From the laws on ways.
use mathlib.Core.Path.{◌≡◌}
use mathlib.Core.Logic.{inl}
use Prim.Native.Nat.{ℕ, ◌/◌, ◌%◌, ◌^◌}
use native.Mathlib.Omega.{arith}
use Rattle.graph.specs.Literals.{bit}
use Rattle.finder.proofs.Meets.{narrow}
use Rattle.finder.proofs.masks.narrowed.Goals as goal

even : (k w : ℕ) → (w / 2 ^ k % 2 ≡ 1 → ⊥) → bit k w ≡ 0
unfolding bit
even k w n = omega arith

pub returns-then-mask-a-eq1 : goal.returns-then-mask-a-eq1
returns-then-mask-a-eq1 c = λ k e. inl e

pub returns-then-mask-b-eq1 : goal.returns-then-mask-b-eq1
returns-then-mask-b-eq1 c = λ k e. inl e

pub returns : goal.returns
returns c =
    λ k e. narrow c.args.met c.args.mask c.args.a c.args.b k (even _ _ c.if-mask-a-eq1.false) (even _ _ c.if-mask-b-eq1.false) e
