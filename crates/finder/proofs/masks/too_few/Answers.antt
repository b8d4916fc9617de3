-- `too_few` meets its contract: of at most three places the three are 0, 1 and 2.
use mathlib.Core.Path.{◌≡◌, sym}
use mathlib.Core.Bool.{true≢false}
use mathlib.Core.Logic.{inl, inr}
use Prim.Native.Nat.{ℕ, ◌/◌, ◌%◌, ◌^◌, ◌≤◌, ◌<◌}
use native.Mathlib.Omega.{arith}
use borrow.Author.Tests.{eqb-true}
use Rattle.graph.specs.Literals.{bit}
use Rattle.finder.specs.Meeting.{Lacks}
use Rattle.finder.proofs.masks.too_few.Goals as goal

even : (w : ℕ) → w % 2 ≡ 0 → bit 0 w ≡ 0
unfolding bit
even w e = omega arith

off : (k w : ℕ) → w / 2 ^ k % 2 ≡ 0 → bit k w ≡ 0
unfolding bit
off k w e = e

three : (m w : ℕ) → m ≤ 3 → Lacks w 0 1 2 → (a b c : ℕ) → a < b → b < c → c < m → Lacks w a b c
three m w h l a b c p q r =
    let x : a ≡ 0 = omega arith in
    let y : b ≡ 1 = omega arith in
    let z : c ≡ 2 = omega arith in
    rw (x, y, z) l

pub returns-then-m-gt3 : goal.returns-then-m-gt3
returns-then-m-gt3 c e = absurd (true≢false (sym e))

pub returns-then-allowed-eq0 : goal.returns-then-allowed-eq0
returns-then-allowed-eq0 c e = let a = c.args in three a.m a.allowed (omega (arith, c.if-m-gt3.false)) (inl (even a.allowed c.if-allowed-eq0.true))

pub returns-then-allowed-eq0-2 : goal.returns-then-allowed-eq0-2
returns-then-allowed-eq0-2 c e = let a = c.args in three a.m a.allowed (omega (arith, c.if-m-gt3.false)) (inr (inl (off 1 a.allowed c.if-allowed-eq0-2.true)))

pub returns : goal.returns
returns c e = let a = c.args in three a.m a.allowed (omega (arith, c.if-m-gt3.false)) (inr (inr (off 2 a.allowed (eqb-true _ _ e))))
