-- The finder whole: scratch that is cleared says nothing, a refusal changes nothing, and what is accepted is the pass and the drop. From the
-- definitions.
use mathlib.Core.Path.{◌≡◌, ◌∙◌}
use mathlib.Core.List.{List, [], ◌∷◌}
use Prim.Native.Nat.{ℕ, ◌+◌, ◌*◌, ◌≤◌}
use native.Mathlib.Omega.{arith}
use lib.ListN.{length}
use Rattle.std.proofs.Common.{Result}
use Rattle.std.specs.Result.{IsErrAnd}
use Rattle.std.proofs.lemmas.Result.{err_from_is_err_and}
use Rattle.graph.specs.Graph.{Graph}
use Rattle.graph.specs.Admission.{Admitted, LockBytes, admission_number}
use Rattle.graph.specs.Answer.{locked_outcome, accepted, number_of}
use Rattle.graph.specs.declared.Refusal.{Refusal}
use Rattle.graph.proofs.Admit.{admitted, locks_admitted}
use Rattle.graph.proofs.Answers.{number_some, refused_locked, accepted_locked}
use Rattle.graph.proofs.Tests.{both, off}
use Rattle.moves.specs.Call.{scratch_fault}
use Rattle.trees.specs.Filling.{Cleared}
use Rattle.hidden.specs.Find.{passed}
use Rattle.hidden.specs.Drop.{dropped, dropped_locks}
use Rattle.hidden.specs.Call.{found_answer, nodes_after_answer, find_number, found, find_call}
use Rattle.hidden.proofs.Pass.{passed_same}
use Rattle.majority_call.proofs.Decided.{cleared_facts}
use Rattle.finder.specs.Passing.{Clean}

-- cleared scratch says nothing of any node
pub cleared_clean : (g : Graph) (n : ℕ) (sc : List ℕ) → n ≡ g.N → 8 * g.N ≤ length sc → Cleared n sc → Clean g 0 sc
cleared_clean g n sc e l z =
    let y : Cleared g.N sc = rw e at z in
    record { facts = cleared_facts g sc y; room = l; empty = λ w h k. y (8 * w + 2) (omega arith); high = λ w h k. y (8 * w + 0) (omega arith); names = λ w h. absurd (omega arith); opens = λ w h. absurd (omega arith) }

-- after the pass the graph is admitted as before it, and so are its locks
pub passed_admitted : (g k : Graph) (ls : List ℕ) → Admitted g → k ≡ passed g ls g.N → Admitted k
passed_admitted g k ls adm e = rw e (passed_same g ls adm g.N (omega arith)).keeps.admitted

-- a check's refusal leaves the graph with its nodes
pub ends_find : (r : Result ℕ Refusal) (x : Refusal) (k : ℕ → Graph) (n : ℕ) (ls : List ℕ) (s : ℕ) → IsErrAnd r (λ y. y ≡ x) → number_of x ≡ find_number (k n) ls s
    → locked_outcome (found_answer r) (k (nodes_after_answer n (found_answer r))) ls ≡ find_call (k n) ls s
unfolding find_call
ends_find r x k n ls s e q =
    let p = err_from_is_err_and r e in
    rw (p.1, p.2) (refused_locked (number_of x) (find_number (k n) ls s) (k n) ls (found (k n) ls) q (λ z. number_some x (q ∙ z)))

module _ (g : Graph) (ls : List ℕ) (s : ℕ) where
  -- what an accepted call knows
  pub record Fine : Type 0 where
    pub admitted : Admitted g
    pub locked : LockBytes g.N ls
    pub long : 8 * g.N ≤ s

  pub fine : find_number g ls s ≡ 0 → Fine
  unfolding find_number scratch_fault
  fine e =
      let a = both (admission_number g ls) _ e in
      record { admitted = admitted g ls a.0; locked = locks_admitted g ls a.0; long = (off s (8 * g.N) 7 0 a.1).0 }

  pub accepted_call : (k : Graph) (n : ℕ) (ls' : List ℕ) → n ≡ k.N → find_number g ls s ≡ 0 → k ≡ dropped (passed g ls g.N) ls → ls' ≡ dropped_locks (passed g ls g.N) ls
      → locked_outcome (accepted (n ∷ [])) k ls' ≡ find_call g ls s
  unfolding find_call found
  accepted_call k n ls' c z e q = rw (c, e, q) (accepted_locked (find_number g ls s) g ls (found g ls) z)
