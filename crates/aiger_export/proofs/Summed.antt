-- Lengths of parts in a row, added up: those of the parts that are left come to the whole, and none is above 84. From the laws
-- on parts in a row.
use Prim.Native.Nat.{ℕ, ◌+◌, ◌-◌, ◌*◌, ◌<◌, ◌≤◌}
use mathlib.Core.Path.{◌≡◌}
use mathlib.Core.List.{List}
use native.Mathlib.Omega.{arith}
use lib.ListN.{length}
use Rattle.tagged_file.specs.Write.{in_order}
use Rattle.tagged_file.proofs.WholeWrite.{size_start, size_more, size_none}

pub record Summed (F : ℕ → List ℕ) (n size v : ℕ) : Type 0 where
  pub most : size ≤ 84 * v
  pub whole : size + length (in_order F v (n - v)) ≡ length (in_order F 0 n)

pub summed_start : (F : ℕ → List ℕ) (n : ℕ) → Summed F n 0 0
summed_start F n = record { most = omega arith; whole = size_start F n }

module _ (F : ℕ → List ℕ) (n size v : ℕ) (h : Summed F n size v) where
  pub summed_more : v < n → (k : ℕ) → k ≡ length (F v) → k ≤ 84 → Summed F n (size + k) (v + 1)
  summed_more l k e m = record { most = omega (arith, h.most); whole = size_more F _ size (size + k) v n l h.whole (omega arith) }

  pub summed_end : v ≡ n → (size ≡ length (in_order F 0 n)) × (size ≤ 84 * n)
  summed_end e = (size_none F _ size v n (omega arith) h.whole, omega (arith, h.most))
