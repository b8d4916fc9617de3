-- What loading answers, and what it leaves in the tables and the lock bytes.
use Rattle.std.specs.Prelude.{◌+◌, ◌∷◌, ◌++◌, Result, Ok, Err}
use Rattle.graph.specs.All.{ℕ, List, [], length, drop, if_equal, tab, Graph, graph_of, held, filled, Answer, accepted, LockedOutcome, locked_outcome, guarded_locks}
use Rattle.file_checks.specs.All.{be4, file_number, node_words, single_words, after_nodes, locks_from, lock_indices}
use Rattle.graph.specs.declared.Refusal.{Refusal}
use Rattle.graph.specs.Answer.{answer_by}
use Rattle.tagged_file.specs.declared.Sizes.{Sizes}

abbrev pub loaded_answer : Result Sizes Refusal → Answer
loaded_answer = answer_by (λ z. accepted (z.inputs ∷ z.nodes ∷ z.outputs ∷ []))

-- lent tables that hold no graph yet
abbrev pub blank : List ℕ → List ℕ → Graph
blank ns os = graph_of 0 0 0 ns os

-- the graph that the tables hold after loading: none where the file is refused
abbrev pub loaded_graph : Result Sizes Refusal → List ℕ → List ℕ → Graph
loaded_graph (Ok z) ns os = graph_of z.inputs z.nodes z.outputs ns os
loaded_graph (Err r) ns os = blank ns os

-- the graph that an accepted file says, in the lent tables
unfoldable pub graph_read : List ℕ → List ℕ → List ℕ → Graph
graph_read s ns os =
    graph_of (be4 s 3) (be4 s 7) (be4 s 11)
    (filled (node_words (be4 s 7) (drop 15 s)) ns)
    (filled (single_words (be4 s 11) (after_nodes (be4 s 7) (drop 15 s))) os)

-- 1 where u is one of these, else 0
abbrev pub among : List ℕ → ℕ → ℕ
among [] u = 0
among (x ∷ l) u = let more = among l u in if_equal x u 1 more

-- its locks, in the lent bytes: a node's is 1 where a field names the node and else 0, later bytes are left
unfoldable pub locks_read : List ℕ → List ℕ → List ℕ
locks_read s ls = tab (be4 s 7) (λ v. among (lock_indices (locks_from s)) (be4 s 3 + 1 + v)) ++ drop (be4 s 7) ls

-- the locks of n nodes that are all free, in the lent bytes: later ones are left
unfoldable pub free_locks : ℕ → List ℕ → List ℕ
free_locks n ls = tab n (λ v. 0) ++ drop n ls

-- loading the file s into the tables ns and os and the lock bytes ls
unfoldable pub load_call : List ℕ → List ℕ → List ℕ → List ℕ → LockedOutcome
load_call s ns os ls =
    guarded_locks (file_number s (held ns) (held os) (length ls)) (blank ns os) ls
    (locked_outcome (accepted (be4 s 3 ∷ be4 s 7 ∷ be4 s 11 ∷ [])) (graph_read s ns os) (locks_read s ls))
