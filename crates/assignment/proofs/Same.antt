-- What a graph computes looks only at its inputs' bits; so a pattern is missed alike under assignments that agree there. From the laws on
-- bits.
use mathlib.Core.Path.{◌≡◌, refl, ap, ap₂}
use mathlib.Core.List.{List, ◌∷◌}
use Prim.Native.Nat.{ℕ, zero, suc, ◌+◌, ◌*◌, ◌%◌, ◌^◌, ◌≤◌, ◌<◌}
use native.Mathlib.Omega.{arith}
use lib.ListN.{get_or}
use Rattle.graph.specs.Finite.{tab, first, first_of, if_equal}
use Rattle.graph.specs.Graph.{Graph}
use Rattle.graph.specs.Value.{Assignment, values, output_value}
use Rattle.graph.proofs.Finite.{tab_same}
use Rattle.graph.specs.Literals.{bit}
use Rattle.evaluation.specs.Evaluation.{assignment_at}
use Rattle.evaluation.proofs.Gather.{bit_low}
use Rattle.assignment.specs.Assignment.{numbered, misses, missed, by_number}
use Rattle.assignment.specs.Inner.{input_word}
use Rattle.assignment.proofs.Numbers.{words_bit}

pub first_of_same : (n : ℕ) (f h : ℕ → ℕ) → ((j : ℕ) → j < n → f j ≡ h j) → first_of n f ≡ first_of n h
unfolding first_of
first_of_same zero f h e = refl
first_of_same (suc n) f h e = ap₂ first (first_of_same n f h (λ j l. e j (omega arith))) (e n (omega arith))

module _ (g : Graph) (a a' : Assignment) (same : (k : ℕ) → k < g.I → a k % 2 ≡ a' k % 2) where
  values_same : (n : ℕ) → values g a n ≡ values g a' n
  unfolding values
  values_same zero = ap (λ (l : List ℕ). 0 ∷ l) (tab_same g.I (λ k. a k % 2) (λ k. a' k % 2) same)
  values_same (suc n) = rw (values_same n)

  pub output_same : (o : ℕ) → output_value g a o ≡ output_value g a' o
  unfolding output_value
  output_same o = rw (values_same g.N)

  pub missed_same : (wanted : List ℕ) → missed g wanted a ≡ missed g wanted a'
  unfolding missed misses
  missed_same wanted =
      first_of_same g.O _ _ (λ o h. ap (λ (x : ℕ). if_equal (get_or wanted o 0) 2 0 (if_equal x (get_or wanted o 0) 0 1)) (output_same o))

module _ (g : Graph) (wanted : List ℕ) where
  -- a number is as good as its lowest bits, one for each input
  pub by_lowest : (n : ℕ) → by_number g wanted (n % 2 ^ g.I) ≡ by_number g wanted n
  unfolding by_number numbered
  by_lowest n =
      missed_same g (λ k. bit k (n % 2 ^ g.I)) (λ k. bit k n) (λ k h. ap (λ (x : ℕ). x % 2) (bit_low k g.I n h)) wanted

  -- place j of the words of block b is the assignment 64 b + j
  pub by_place : (words : List ℕ) (b j : ℕ) → words ≡ tab 16 (input_word b) → g.I ≤ 16 → j < 64
      → first_of g.O (misses g wanted (assignment_at words j)) ≡ by_number g wanted (64 * b + j)
  unfolding by_number numbered missed assignment_at
  by_place words b j e few h =
      missed_same g (λ k. bit j (get_or words k 0)) (λ k. bit k (64 * b + j)) (λ k l. ap (λ (x : ℕ). x % 2) (words_bit words b k j e (omega arith) h)) wanted
