-- What the lengths of the lent slices decide: the number by tests that divide, and back. From the laws on tests.
use mathlib.Core.Path.{◌≡◌, refl}
use Prim.Native.Nat.{ℕ, ◌+◌, ◌*◌, ◌/◌, ◌≤◌, ◌<◌}
use native.Mathlib.Omega.{arith}
use Rattle.graph.proofs.Tests.{less, no_less, off}
use Rattle.report.specs.Report.{buffer_number, report_number}

module _ (n o r : ℕ) where
  pub short : r < 128 + 18 * (n + o) → 104 ≡ buffer_number n o r
  unfolding buffer_number
  short k = less _ _ _ _ k refl

  pub long : 128 + 18 * (n + o) ≤ r → 0 ≡ buffer_number n o r
  unfolding buffer_number
  long k = no_less _ _ _ _ k refl

module _ (n o s r : ℕ) where
  pub short_scratch : s / 8 < n / 3 → 103 ≡ report_number n o s r
  unfolding report_number
  short_scratch h = less _ _ _ _ (omega arith) refl

  pub long_scratch : n / 3 ≤ s / 8 → buffer_number n o r ≡ report_number n o s r
  unfolding report_number
  long_scratch h = no_less _ _ _ _ (omega arith) refl

  pub enough_is : report_number n o s r ≡ 0 → (8 * (n / 3) ≤ s) × (128 + 18 * (n + o) ≤ r)
  unfolding report_number buffer_number
  enough_is e = let a = off _ _ _ _ e in let b = off _ _ _ _ a.1 in (a.0, b.0)
