-- The first least of some numbers, found one by one: the start, and the two ways to go on. Assumes nothing.
use Rattle.std.proofs.Common.{◌≡◌, ℕ, ◌+◌, ◌<◌, ◌≤◌, ap, arith, below_more}
use Rattle.choice.specs.Inner.{FirstBelow}

module _ (g : ℕ → ℕ) where
  pub scan_one : FirstBelow g 1 0
  scan_one = record { below = omega arith; low = λ k h. zeroth k (omega arith); first = λ k h. absurd (omega arith) }
    where
      zeroth : (k : ℕ) → k ≡ 0 → g 0 ≤ g k
      zeroth k e = omega (arith, ap g e)

  pub scan_keep : {n m : ℕ} → FirstBelow g n m → g m ≤ g n → FirstBelow g (n + 1) m
  scan_keep {n} {m} b h = record { below = omega (arith, b.below); low = below_more (λ k. g m ≤ g k) n b.low h; first = b.first }

  pub scan_take : {n m : ℕ} → FirstBelow g n m → g n < g m → FirstBelow g (n + 1) n
  scan_take {n} {m} b h = record {
    below = omega arith;
    low = below_more (λ k. g n ≤ g k) n (λ k l. omega (arith, b.low k l)) (omega arith);
    first = λ k l. omega (arith, b.low k l);
  }
