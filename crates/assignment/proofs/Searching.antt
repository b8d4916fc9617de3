-- Blocks without a place, and the first place of the first block that has one. From the laws on the least number.
use mathlib.Core.Path.{◌≡◌, sym, ap, ◌∙◌}
use mathlib.Core.List.{List}
use mathlib.Core.Logic.{⊎_elim, ◌≢◌}
use Prim.Native.Nat.{ℕ, ◌+◌, ◌-◌, ◌*◌, ◌%◌, ◌^◌, ◌≤◌, ◌<◌}
use native.Mathlib.Nat.{mod-lt}
use native.Mathlib.Omega.{arith}
use lib.Pow.{pow_pos}
use Rattle.std.specs.Prelude.{None, Some, option_to_list}
use Rattle.graph.specs.Graph.{Graph}
use Rattle.graph.proofs.Cases.{lt_or_le}
use Rattle.graph.specs.Literals.{bit}
use Rattle.evaluation.proofs.Bits.{bit_zero}
use Rattle.assignment.specs.Assignment.{by_number, least_assignment}
use Rattle.assignment.specs.Inner.{Places, FirstPlace}
use Rattle.assignment.proofs.Least.{least_none, least_at}
use Rattle.assignment.proofs.Same.{by_lowest}
use Rattle.assignment.proofs.Blocks.{clean_off, clean_on}

module _ (g : Graph) (wanted : List ℕ) where
  -- no assignment below n gives the pattern
  abbrev pub NoneBelow : ℕ → Type 0
  NoneBelow n = (i : ℕ) → i < n → by_number g wanted i ≢ 0

  -- up to a place of block b
  up_to : (b places j : ℕ) → NoneBelow (64 * b) → Places g wanted b places → j ≤ 64 → ((i : ℕ) → i < j → bit i places ≡ 0) → NoneBelow (64 * b + j)
  up_to b places j before at h none i l =
      ⊎_elim
      (λ (k : i < 64 * b). before i k)
      (λ (k : 64 * b ≤ i).
      let e : 64 * b + (i - 64 * b) ≡ i = omega arith in
      let d = clean_off (by_number g wanted (64 * b + (i - 64 * b))) (sym (at (i - 64 * b) (omega arith)) ∙ none (i - 64 * b) (omega arith)) in
      rw e at d)
      (lt_or_le i (64 * b))

  pub block_none : (b places : ℕ) → NoneBelow (64 * b) → Places g wanted b places → places ≡ 0 → NoneBelow (64 * (b + 1))
  block_none b places before at z =
      let e : 64 * b + 64 ≡ 64 * (b + 1) = omega arith in
      rw e at (up_to b places 64 before at (omega arith) (λ i l. ap (bit i) z ∙ bit_zero i))

  -- an assignment that gives the pattern, and none below it: its number has no more bits than there are inputs
  least_low : (n : ℕ) → NoneBelow n → by_number g wanted n ≡ 0 → n < 2 ^ g.I
  least_low n before e =
      ⊎_elim
      (λ (l : n < 2 ^ g.I). l)
      (λ (l : 2 ^ g.I ≤ n).
      absurd (before (n % 2 ^ g.I) (omega (arith, mod-lt n (pow_pos g.I))) (by_lowest g wanted n ∙ e)))
      (lt_or_le n (2 ^ g.I))

  pub found_at : (b places j : ℕ) → NoneBelow (64 * b) → Places g wanted b places → FirstPlace places j → option_to_list (Some (64 * b + j)) ≡ least_assignment g wanted
  unfolding least_assignment
  found_at b places j before at f =
      let n = 64 * b + j in
      let e = clean_on (by_number g wanted n) (sym (at j f.low) ∙ f.here) in
      let none = up_to b places j before at (omega (arith, f.low)) f.before in
      let l = least_low n none e in
      sym (least_at (2 ^ g.I) (by_number g wanted) n l e none)

  pub found_none : (b : ℕ) → 2 ^ g.I ≤ 64 * b → NoneBelow (64 * b) → option_to_list None ≡ least_assignment g wanted
  unfolding least_assignment
  found_none b h none =
      sym (least_none (2 ^ g.I) (by_number g wanted) (λ i l. none i (omega arith)))
