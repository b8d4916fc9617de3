-- Which number refuses a tree call, and what is known where none does. From the laws on tests and on admission.
use mathlib.Core.Path.{◌≡◌, refl, ap, ◌∙◌}
use mathlib.Core.Bool.{true, and-false}
use mathlib.Core.List.{List}
use mathlib.Core.Logic.{◌≢◌}
use Prim.Native.Nat.{ℕ, ◌*◌, ◌≤◌, ◌<◌}
use lib.ListN.{length}
use borrow.Author.Tests.{eq-eqb, ne_eqb}
use Rattle.graph.specs.Graph.{Graph}
use Rattle.graph.specs.Count.{readers, node_readers}
use Rattle.graph.specs.Admission.{Admitted}
use Rattle.graph.proofs.Admit.{admitted, locks_admitted}
use Rattle.graph.specs.Answer.{Answer, Outcome, outcome}
use Rattle.graph.proofs.Answers.{accepted_outcome}
use Rattle.graph.proofs.Tests.{off, both, passes, less, no_less}
use Rattle.moves.specs.Call.{root_fault, scratch_fault, tree_number, rewrite, tree_call}
use Rattle.moves.specs.Tree.{is_root, tree}
use Rattle.moves.specs.Compose.{IsRoot}
use Rattle.moves.proofs.Known.{node_known}

-- the test of a root, as the code makes it
module _ (g : Graph) (u : ℕ) where
  pub root_several : readers g u ≢ 1 → 0 ≡ root_fault g u
  unfolding root_fault is_root
  root_several d = rw (ne_eqb (readers g u) 1 d)

  pub root_read : node_readers g u ≢ 1 → 0 ≡ root_fault g u
  unfolding root_fault is_root
  root_read d = rw (ne_eqb (node_readers g u) 1 d, and-false)

  pub no_root : readers g u ≡ 1 → node_readers g u ≡ 1 → 7 ≡ root_fault g u
  unfolding root_fault is_root
  no_root a b = rw (eq-eqb (readers g u) 1 a, eq-eqb (node_readers g u) 1 b)

module _ (g : Graph) where
  pub root_known : (u : ℕ) → root_fault g u ≡ 0 → is_root g u ≡ true
  unfolding root_fault
  root_known u e = passes (is_root g u) 6 e

  pub scratch_known : (s : ℕ) → scratch_fault g s ≡ 0 → 8 * g.N ≤ s
  unfolding scratch_fault
  scratch_known s e = (off s (8 * g.N) 7 0 e).0

  module _ (ls : List ℕ) (s r : ℕ) where
    -- what an accepted call may rest on
    pub accepted_by : tree_number g ls s r ≡ 0 → (Admitted g) × (IsRoot g r) × (8 * g.N ≤ s) × (g.N ≤ length ls)
    unfolding tree_number
    accepted_by e =
        let a = both _ _ e in
        let n = both _ _ a.1 in
        let t = both _ _ n.1 in
        let h = node_known g r n.0 in
        (admitted g ls a.0, record { after_inputs = h.0; within = h.1; root = root_known r t.0 }, scratch_known s t.1, (locks_admitted g ls a.0).enough)

pub short_scratch : (g : Graph) (s : ℕ) → s < 8 * g.N → 8 ≡ scratch_fault g s
unfolding scratch_fault
short_scratch g s h = less s (8 * g.N) 8 0 h refl

pub long_scratch : (g : Graph) (s : ℕ) → 8 * g.N ≤ s → 0 ≡ scratch_fault g s
unfolding scratch_fault
long_scratch g s h = no_less s (8 * g.N) 8 0 h refl

-- the call, accepted
pub accepted_call : (g : Graph) (ls : List ℕ) (s r : ℕ) (o : Outcome) → tree_number g ls s r ≡ 0 → o ≡ rewrite g ls (tree g r) → o ≡ tree_call g ls s r
unfolding tree_call
accepted_call g ls s r o e q = q ∙ accepted_outcome (tree_number g ls s r) g (rewrite g ls (tree g r)) e

pub accepted_number : (g : Graph) (ls : List ℕ) (r : ℕ) (a : Answer) (h : Graph) → outcome a h ≡ rewrite g ls (tree g r) → a.number ≡ 0
unfolding rewrite
accepted_number g ls r a h e = ap (λ (o : Outcome). o.answer.number) e
