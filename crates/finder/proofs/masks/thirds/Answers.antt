-- `thirds` meets its contract: of the words that have been looked at, one misses the places a, b and c wherever c is not left. From the laws on ways.
use mathlib.Core.Path.{◌≡◌}
use mathlib.Core.Logic.{⊎_elim, inl, inr}
use Prim.Native.Nat.{ℕ, ◌+◌, ◌/◌, ◌%◌, ◌^◌}
use native.Mathlib.Omega.{arith}
use Rattle.graph.specs.Literals.{bit}
use Rattle.finder.proofs.Meets.{unmet_up, missed_here}
use Rattle.finder.proofs.masks.thirds.Goals as goal

even : (k w : ℕ) → w / 2 ^ k % 2 ≡ 0 → bit k w ≡ 0
unfolding bit
even k w e = e

pub returns-then-allowed-a-eq0 : goal.returns-then-allowed-a-eq0
returns-then-allowed-a-eq0 c = λ j e. inl (inl (even _ _ c.if-allowed-a-eq0.true))

pub returns-then-allowed-b-eq0 : goal.returns-then-allowed-b-eq0
returns-then-allowed-b-eq0 c = λ j e. inl (inr (inl (even _ _ c.if-allowed-b-eq0.true)))

pub loop-k-init : goal.loop-k-init
loop-k-init c = (omega arith, λ j e. inl (inr (inr e)))

pub bounds-ways-k : goal.bounds-ways-k
bounds-ways-k c = omega (arith, c.loop-k-test.true, c.requires.2)

pub loop-k-preserved : goal.loop-k-preserved
loop-k-preserved c =
    let l = c.loop-k in
    let a = c.args in (
      omega (arith, c.loop-k-test.true),
      λ j e.
          ⊎_elim
          (λ (q : bit j l.met ≡ 0). unmet_up a.allowed l.k (l.k + 1) a.ways.now a.a a.b j (omega arith) (l.invariant.1 j q))
          (λ q. inr (missed_here l.k a.ways.now a.a a.b j q))
          (c.narrowed-met.ensures j e),
    )

pub returns : goal.returns
returns c = let e : c.loop-k.k ≡ c.args.n = omega (arith, c.loop-k-test.false, c.loop-k.invariant.0) in rw (← e) c.loop-k.invariant.1
