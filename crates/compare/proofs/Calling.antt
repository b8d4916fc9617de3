-- Refusals and sizes of a comparison: what is known of graphs that are not refused, and what each test leaves of the call. From
-- the laws on tests and faults.
use mathlib.Core.Path.{◌≡◌, refl, ap, ◌∙◌}
use mathlib.Core.List.{List, [], ◌∷◌}
use mathlib.Core.Logic.{⊎_elim, ◌≢◌}
use Prim.Native.Nat.{ℕ, ◌≤◌, ◌<◌}
use native.Mathlib.Omega.{arith}
use lib.ListN.{length}
use Rattle.graph.specs.Admission.{Admitted, content_number}
use Rattle.graph.specs.Answer.{accepted, refused, number_of}
use Rattle.graph.specs.Graph.{Graph}
use Rattle.std.specs.Prelude.{Result}
use Rattle.std.specs.Result.{IsErrAnd}
use Rattle.std.proofs.lemmas.Result.{err_from_is_err_and}
use Rattle.graph.specs.declared.Refusal.{Refusal}
use Rattle.compare.specs.declared.Comparison.{Comparison}
use Rattle.graph.proofs.Admit.{admitted_by}
use Rattle.graph.proofs.Answers.{number_some}
use Rattle.graph.proofs.Cases.{eq_or_ne}
use Rattle.graph.proofs.Tests.{both, off, less, no_less, equal, unequal}
use Rattle.compare.specs.Compare.{compared, comparison_answer, size_apart, words_compared, graphs_compared, rooms_number, contents_number, compare_number, compare_call}

module _ (g : Graph) (ls : List ℕ) (h : Graph) (ks : List ℕ) where
  pub accepted_both : (b : ℕ) → compare_number g ls h ks b ≡ 0 → Admitted g × Admitted h × (g.N ≤ b)
  unfolding compare_number rooms_number contents_number content_number
  accepted_both b z =
      let p = both _ _ z in
      let r = both _ _ p.0 in
      let t = both _ _ r.1 in
      let q = both _ _ p.1 in
      (admitted_by g ls r.0 (both _ _ q.0).0, admitted_by h ks t.1 (both _ _ q.1).0, (off b g.N 3 0 t.0).0)

  module _ (bs : List ℕ) where
    pub refused_call : (r : Result Comparison Refusal) (x : Refusal) → IsErrAnd r (λ y. y ≡ x) → number_of x ≡ compare_number g ls h ks (length bs) → compared (comparison_answer r) bs ≡ compare_call g ls h ks bs
    unfolding compare_call
    refused_call r x q e =
        let p = err_from_is_err_and r q in
        rw (p.1, p.2) (unequal _ 0 _ _ (λ z. number_some x (e ∙ z)) (ap (λ (y : ℕ). compared (refused y) bs) e))

    pub accepted_call : compare_number g ls h ks (length bs) ≡ 0 → graphs_compared g h bs ≡ compare_call g ls h ks bs
    unfolding compare_call
    accepted_call z = equal _ 0 _ _ z refl

-- sizes
module _ (g h : Graph) where
  pub sizes_same : 3 ≤ size_apart g h → (g.I ≡ h.I) × (g.N ≡ h.N) × (g.O ≡ h.O)
  unfolding size_apart
  sizes_same l =
      ⊎_elim
      (λ (p : g.I ≡ h.I).
      ⊎_elim
      (λ (q : g.N ≡ h.N).
      ⊎_elim
      (λ (r : g.O ≡ h.O). (p, q, r))
      (λ (r : g.O ≢ h.O). absurd (short 2 (equal _ _ _ _ p (equal _ _ _ _ q (unequal _ _ _ _ r refl))) (omega arith)))
      (eq_or_ne g.O h.O))
      (λ (q : g.N ≢ h.N). absurd (short 1 (equal _ _ _ _ p (unequal _ _ _ _ q refl)) (omega arith)))
      (eq_or_ne g.N h.N))
      (λ (p : g.I ≢ h.I). absurd (short 0 (unequal _ _ _ _ p refl) (omega arith)))
      (eq_or_ne g.I h.I)
    where
      short : (k : ℕ) → k ≡ size_apart g h → k < 3 → ⊥
      short k e i = omega (arith, e, l)

  pub size_told : (bs : List ℕ) (k : ℕ) → k ≡ size_apart g h → k < 3 → compared (accepted (1 ∷ k ∷ [])) bs ≡ graphs_compared g h bs
  unfolding graphs_compared
  size_told bs k e l = less (size_apart g h) 3 _ _ (omega arith) (ap (λ (y : ℕ). compared (accepted (1 ∷ y ∷ [])) bs) e)

  pub sizes_told : (bs : List ℕ) → 3 ≤ size_apart g h → words_compared g h bs ≡ graphs_compared g h bs
  unfolding graphs_compared
  sizes_told bs l = no_less (size_apart g h) 3 _ _ l refl
