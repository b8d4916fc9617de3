-- The least assignment is what it is said to be. From the laws on the least number and on assignments that agree.
use mathlib.Core.Path.{◌≡◌, refl, sym, ◌∙◌}
use mathlib.Core.List.{List, [], ◌∷◌}
use mathlib.Core.Logic.{⊎_elim, ◌≢◌}
use Prim.Native.Nat.{ℕ, ◌%◌, ◌^◌, ◌≤◌, ◌<◌}
use native.Mathlib.Omega.{arith}
use lib.ListN.{get_or}
use Rattle.graph.specs.Finite.{if_equal}
use Rattle.graph.specs.Graph.{Graph}
use Rattle.graph.specs.Value.{Assignment, output_value}
use Rattle.graph.proofs.Cases.{eq_or_ne, lt_or_le}
use Rattle.graph.proofs.Tests.{equal, unequal, is, all_none, each_none}
use Rattle.graph.specs.Literals.{bit}
use Rattle.evaluation.specs.Word.{gather}
use Rattle.evaluation.proofs.Gather.{bit_gather, gather_lt}
use Rattle.assignment.specs.Assignment.{numbered, misses, missed, by_number, least_assignment}
use Rattle.assignment.specs.Promises.{Gives, number_from, IsLeast, LeastOf}
use Rattle.assignment.proofs.Least.{least_at, least_none, FirstZero, zero_or_none}
use Rattle.assignment.proofs.Same.{missed_same}

module _ (g : Graph) (wanted : List ℕ) where
  -- nothing is missed just where the pattern is given
  pub gives_by : (a : Assignment) → missed g wanted a ≡ 0 → Gives g wanted a
  unfolding missed misses
  gives_by a e o h d =
      let want = get_or wanted o 0 in
      let z = each_none g.O (misses g wanted a) e o h in
      let y = unequal want 2 0 (if_equal (output_value g a o) want 0 1) d refl ∙ z in
      (is (output_value g a o) want 0 0 y).0

  pub missed_none : (a : Assignment) → Gives g wanted a → missed g wanted a ≡ 0
  unfolding missed misses
  missed_none a h =
      all_none g.O (misses g wanted a)
      (λ o l.
      let want = get_or wanted o 0 in
      ⊎_elim
      (λ (e : want ≡ 2). sym (equal want 2 0 (if_equal (output_value g a o) want 0 1) e refl))
      (λ (d : want ≢ 2). sym (unequal want 2 0 (if_equal (output_value g a o) want 0 1) d (equal (output_value g a o) want 0 1 (h o l d) refl)))
      (eq_or_ne want 2))

  -- every assignment has a number
  number_low : (a : Assignment) → number_from g a < 2 ^ g.I
  unfolding number_from
  number_low a = gather_lt (λ k. a k % 2) (λ k. omega arith) g.I

  by_its_number : (a : Assignment) → by_number g wanted (number_from g a) ≡ missed g wanted a
  unfolding by_number numbered number_from
  by_its_number a =
      missed_same g (λ k. bit k (gather (λ i. a i % 2) g.I)) a
      (λ k h. let e = bit_gather (λ i. a i % 2) (λ i. omega arith) g.I k h in omega (arith, e)) wanted

  first_is : (z : FirstZero (2 ^ g.I) (by_number g wanted)) → least_assignment g wanted ≡ z.at ∷ []
  unfolding least_assignment
  first_is z = least_at (2 ^ g.I) (by_number g wanted) z.at z.low z.zeroes z.before

  none_is : ((i : ℕ) → i < 2 ^ g.I → by_number g wanted i ≢ 0) → least_assignment g wanted ≡ []
  unfolding least_assignment
  none_is d = least_none (2 ^ g.I) (by_number g wanted) d

  first_least : (z : FirstZero (2 ^ g.I) (by_number g wanted)) → IsLeast g wanted z.at
  unfolding by_number
  first_least z =
      record {
        low = z.low;
        gives = gives_by (numbered z.at) z.zeroes;
        least = λ a h.
            ⊎_elim
            (λ (l : number_from g a < z.at). absurd (z.before (number_from g a) l (by_its_number a ∙ missed_none a h)))
            (λ (l : z.at ≤ number_from g a). l)
            (lt_or_le (number_from g a) z.at);
      }

  given_not : (d : (i : ℕ) → i < 2 ^ g.I → by_number g wanted i ≢ 0) (a : Assignment) → Gives g wanted a → ⊥
  given_not d a h = d (number_from g a) (number_low a) (by_its_number a ∙ missed_none a h)

  same_head : (x : List ℕ) (m n : ℕ) → x ≡ m ∷ [] → x ≡ n ∷ [] → m ≡ n
  same_head x m n p q = cc

  not_empty : (x : List ℕ) (n : ℕ) → x ≡ n ∷ [] → x ≡ [] → ⊥
  not_empty x n p q = let z : ◌≡◌ {A = ℕ} 0 1 = cc in omega arith

  pub least_of : LeastOf g wanted
  least_of =
      ⊎_elim
      (λ (z : FirstZero (2 ^ g.I) (by_number g wanted)).
      record {
        found = λ n e. let q = same_head _ _ _ (first_is z) e in rw q at (first_least z);
        none = λ e. absurd (not_empty _ _ (first_is z) e);
        only_then = λ d. absurd (d (numbered z.at) (first_least z).gives);
      })
      (λ (d : (i : ℕ) → i < 2 ^ g.I → by_number g wanted i ≢ 0).
      record {
        found = λ n e. absurd (not_empty _ _ e (none_is d));
        none = λ e a h. given_not d a h;
        only_then = λ h. none_is d;
      })
      (zero_or_none (2 ^ g.I) (by_number g wanted))
