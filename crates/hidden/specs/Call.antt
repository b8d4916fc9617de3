-- The majority call and the finder's call, on a graph g with the locks ls.
use Rattle.std.specs.Prelude.{◌∷◌, Result}
use Rattle.graph.specs.All.{cond, List, [], ℕ, get_or, if_less, if_equal, first, Graph, admission_number, Answer, accepted, Outcome, outcome, guarded, LockedOutcome, locked_outcome, guarded_locks}
use Rattle.moves.specs.All.{lock_at, node_fault, scratch_fault}
use Rattle.hidden.specs.Truth.{Triple, leak, truth}
use Rattle.hidden.specs.Majority.{is_majority, made}
use Rattle.hidden.specs.Find.{passed}
use Rattle.hidden.specs.Drop.{dropped, dropped_locks}
use Rattle.hidden.specs.declared.Majority.{Majority}
use Rattle.hidden.specs.declared.Majority.TheVariants as became
use Rattle.graph.specs.{Answer.answer_by, declared.Refusal.Refusal}

-- what each case of the majority call's answer says: 0 where the node is a majority now, 1 for "not majority", 2 for "not covered"
abbrev pub told_majority : Majority → Answer
told_majority became.Made = accepted (0 ∷ [])
told_majority became.NotMajority = accepted (1 ∷ [])
told_majority became.NotCovered = accepted (2 ∷ [])

abbrev pub majority_answer : Result Majority Refusal → Answer
majority_answer = answer_by told_majority

-- and of the finder's: the new number of nodes
abbrev pub found_answer : Result ℕ Refusal → Answer
found_answer = answer_by (λ n. accepted (n ∷ []))

-- the number of nodes that a graph of n has after such an answer
abbrev pub nodes_after_answer : ℕ → Answer → ℕ
nodes_after_answer n a = get_or a.values 0 n

-- 7: the triple names the constant, is not rising, or is not below u
unfoldable pub triple_fault : Triple → ℕ → ℕ
triple_fault t u = if_less 0 t.one (if_less t.one t.two (if_less t.two t.three (if_less t.three u 0 7) 7) 7) 7

-- 16: the node u is locked
unfoldable pub lock_fault : Graph → List ℕ → ℕ → ℕ
lock_fault g ls u = if_equal (lock_at g ls u) 1 16 0

-- the first fault of the majority call at u, with s words of scratch: 3, 4, 5, 13, 7, 7 of the triple, 16, 8
unfoldable pub majority_number : Graph → List ℕ → ℕ → Triple → ℕ → ℕ
majority_number g ls s t u =
    first (admission_number g ls) (first (node_fault g u) (first (triple_fault t u) (first (lock_fault g ls u) (scratch_fault g s))))

-- past them: not covered, made, or not majority
unfoldable pub majority_outcome : Graph → Triple → ℕ → Outcome
majority_outcome g t u =
    if_equal (truth g t u) leak (outcome (accepted (2 ∷ [])) g)
    (cond (is_majority (truth g t u)) (outcome (accepted (0 ∷ [])) (made g t u)) (outcome (accepted (1 ∷ [])) g))

unfoldable pub majority_call : Graph → List ℕ → ℕ → Triple → ℕ → Outcome
majority_call g ls s t u = guarded (majority_number g ls s t u) g (majority_outcome g t u)

-- the finder's: 3, 4, 5, 13, 8
unfoldable pub find_number : Graph → List ℕ → ℕ → ℕ
find_number g ls s = first (admission_number g ls) (scratch_fault g s)

-- the pass over all nodes, then the drop; the new N is returned
unfoldable pub found : Graph → List ℕ → LockedOutcome
found g ls = let h = passed g ls g.N in locked_outcome (accepted ((dropped h ls).N ∷ [])) (dropped h ls) (dropped_locks h ls)

unfoldable pub find_call : Graph → List ℕ → ℕ → LockedOutcome
find_call g ls s = guarded_locks (find_number g ls s) g ls (found g ls)
