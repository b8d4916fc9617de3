-- The first fault of an evaluation: its bound, what it says where there is none, and the results bit by bit. From the laws on
-- tests and admission.
use mathlib.Core.Path.{◌≡◌, refl, sym, ap, ◌∙◌}
use mathlib.Core.List.{List, ◌++◌}
use Prim.Native.Nat.{ℕ, zero, suc, ◌≤◌, ◌<◌}
use native.Mathlib.Omega.{arith}
use lib.ListN.{length, get_or, drop, get_or-append}
use Rattle.graph.specs.Finite.{tab, first}
use Rattle.graph.specs.Graph.{Graph, output}
use Rattle.graph.specs.Literals.{bit}
use Rattle.graph.specs.Value.{values, output_value}
use Rattle.graph.specs.Admission.{tables_number, content_number, admission_number, Admitted}
use Rattle.graph.proofs.Finite.{length_tab, get_d_tab}
use Rattle.graph.proofs.Tests.{less, no_less, equal, fault, both, off}
use Rattle.graph.proofs.Admit.{admitted_by}
use Rattle.graph.proofs.Answers.{if_less_le, first_le, admission_le}
use Rattle.graph.proofs.Values.{literal_bit}
use Rattle.evaluation.specs.Evaluation.{assignment_at, output_word, slice_number, scratch_number, evaluate_number, results_after}
use Rattle.evaluation.specs.Promises.{ResultBit}
use Rattle.evaluation.proofs.Gather.{bit_gather}

-- a fault that is a number of its own
pub met : {k : ℕ} (a b : ℕ) → 0 < k → k ≡ a → k ≡ first a b
met a b h e = fault a b e (λ z. omega arith)

first_within : (t s w q n : ℕ) → first t w ≤ n → s ≤ n → q ≤ n → first t (first s (first w q)) ≤ n
unfolding first
first_within (suc t) s w q n h hs hq = h
first_within zero s w q n h hs hq = first_le s (first w q) n hs (first_le w q n h hq)

-- what an evaluation without a fault has been lent
pub record Lent (g : Graph) (w s r : ℕ) : Type 0 where
  pub admitted : Admitted g
  pub words : g.I ≤ w
  pub scratch : g.N ≤ s
  pub results : g.O ≤ r

module _ (g : Graph) (w r : ℕ) where
  pub short_words : w < g.I → 4 ≡ slice_number g w r
  unfolding slice_number
  short_words h = less _ _ _ _ h refl

  pub short_results : g.I ≤ w → r < g.O → 4 ≡ slice_number g w r
  unfolding slice_number
  short_results h k = no_less _ _ _ _ h (less _ _ _ _ k refl)

  pub long_slices : g.I ≤ w → g.O ≤ r → slice_number g w r ≡ 0
  unfolding slice_number
  long_slices h k = sym (no_less _ _ _ _ h (no_less _ _ _ _ k refl))

module _ (g : Graph) (ls : List ℕ) (w s r : ℕ) where
  pub evaluate_le : evaluate_number g ls w s r ≤ 13
  unfolding evaluate_number slice_number scratch_number admission_number
  evaluate_le =
      first_within (tables_number g ls) _ (content_number g ls) _ 13 (admission_le g ls)
      (if_less_le _ _ _ _ _ (omega arith) (if_less_le _ _ _ _ _ (omega arith) (omega arith)))
      (if_less_le _ _ _ _ _ (omega arith) (omega arith))

  pub lent : evaluate_number g ls w s r ≡ 0 → Lent g w s r
  unfolding evaluate_number slice_number scratch_number content_number
  lent e =
      let t = both (tables_number g ls) _ e in
      let d = both _ _ t.1 in
      let x = both (content_number g ls) _ d.1 in
      let i = off w g.I 3 _ d.0 in
      record {
        admitted = admitted_by g ls t.0 (both _ _ x.0).0;
        words = i.0;
        scratch = (off s g.N 7 0 x.1).0;
        results = (off r g.O 3 0 i.1).0;
      }

-- bit j of result o, where nothing is refused, is the output's value under the assignment of place j
module _ (g : Graph) (words : List ℕ) where
  output_bit : (o j : ℕ) → j < 64 → bit j (output_word g words o) ≡ output_value g (assignment_at words j) o
  unfolding output_word output_value
  output_bit o j h =
      bit_gather (λ k. output_value g (assignment_at words k) o) (λ k. literal_bit (values g (assignment_at words k) g.N) (output g o)) 64 j h

  pub result_bit : (ls : List ℕ) (s : ℕ) (results : List ℕ) → ResultBit g words ls s results
  unfolding results_after
  result_bit ls s results e o j h k =
      let t = length_tab g.O (output_word g words) in
      let q = equal (evaluate_number g ls (length words) s (length results)) 0 (tab g.O (output_word g words) ++ drop g.O results) results e refl in
      ap (λ (l : List ℕ). bit j (get_or l o 0)) (sym q)
      ∙ ap (bit j) (get_or-append (tab g.O (output_word g words)) (drop g.O results) 0 o (omega arith) ∙ get_d_tab g.O (output_word g words) o h)
      ∙ output_bit o j k
