-- Document 01's worked graphs P1 to P10, with P7 as request M-101 has it and two rows of that request, and P2 and P3 with locks (M-105); two
-- lists of calls (M-106, M-109); and trials worked out by hand (M-103).
use Rattle.std.specs.Prelude.{◌≡◌, ◌∷◌}
use Rattle.graph.specs.All.{ℕ, List, [], map, get_or, ℤ, pos, negsuc, tab, Graph, graph_of, mark, C, Answer, refused, gained, whole, LockedOutcome, locked_outcome}
use Rattle.choice.specs.All.{choices}
use Rattle.moves.specs.All.{kind_moves, best_at, named_by, trial_call}
use Rattle.promises.specs.Demand.{Call, node_at, pair_at, tree_at, settling, many_at, resistive_at, Locked, with_locks, step, left, savings}

-- the call c on g with the locks ls answers vs and both numbers of its saving (M-104), and leaves h; at the nodes us the moves ms are best; C is b
-- before and a after
abbrev Row : Graph → List ℕ → Call → (us ms vs : List ℕ) → ℤ → ℤ → Graph → ℕ → ℕ → Type 0
Row g ls c us ms vs own others h b a =
    (step (with_locks g ls) c ≡ locked_outcome (gained vs own others) h ls) × (best_at g ls us ≡ ms) × (C g ≡ b) × (C h ≡ a)

-- the scratch that a graph of two nodes needs
abbrev scratch : List ℕ
scratch = tab 16 (λ j. 0)

-- the locks of two nodes: none, the lower one, the upper one
abbrev free : List ℕ
free = 0 ∷ 0 ∷ []

abbrev lower : List ℕ
lower = 1 ∷ 0 ∷ []

abbrev upper : List ℕ
upper = 0 ∷ 1 ∷ []

-- P1 and P2 with what they are afterwards, as P3 is too
abbrev p1 : Graph
p1 = graph_of 3 1 1 (3 ∷ 5 ∷ 7 ∷ []) (9 ∷ [])

abbrev p1_after : Graph
p1_after = graph_of 3 1 1 (2 ∷ 4 ∷ 6 ∷ []) (8 ∷ [])

abbrev p2 : Graph
p2 = graph_of 5 2 1 (3 ∷ 5 ∷ 6 ∷ 13 ∷ 8 ∷ 11 ∷ []) (14 ∷ [])

abbrev p2_after : Graph
p2_after = graph_of 5 2 1 (2 ∷ 4 ∷ 7 ∷ 12 ∷ 8 ∷ 11 ∷ []) (14 ∷ [])

abbrev p3 : Graph
p3 = graph_of 5 2 1 (3 ∷ 5 ∷ 6 ∷ 12 ∷ 9 ∷ 10 ∷ []) (15 ∷ [])

abbrev pub WorkedGraphs : Type 0
WorkedGraphs =
    Row p1 (0 ∷ []) (node_at 4) (4 ∷ []) (1 ∷ []) [] (pos 3) (pos 1) p1_after 4 0
    × Row p2 free (tree_at 7 scratch) (7 ∷ 6 ∷ []) (0 ∷ 1 ∷ []) [] (pos 2) (pos 0) p2_after 4 2
    × Row p3 free (pair_at 7 1) (6 ∷ 7 ∷ []) (1 ∷ 1 ∷ []) [] (pos 1) (pos 1) p2_after 4 2
    × Row p3 free (node_at 6) (6 ∷ []) (0 ∷ []) [] (pos 0) (pos 0) p3 4 4
    × Row p3 free (node_at 7) (7 ∷ []) (0 ∷ []) [] (pos 0) (pos 0) p3 4 4
    × Row (graph_of 2 1 1 (3 ∷ 5 ∷ mark ∷ []) (6 ∷ [])) (0 ∷ []) (node_at 3) (3 ∷ []) (1 ∷ []) [] (pos 2) (pos 0) (graph_of 2 1 1 (2 ∷ 4 ∷ mark ∷ []) (6 ∷ [])) 2 0
    × Row (graph_of 2 1 1 (3 ∷ 4 ∷ mark ∷ []) (7 ∷ [])) (0 ∷ []) (node_at 3) (3 ∷ []) (2 ∷ []) [] (pos 1) (pos 1) (graph_of 2 1 1 (2 ∷ 4 ∷ mark ∷ []) (6 ∷ [])) 2 0
    × Row (graph_of 2 1 1 (0 ∷ 3 ∷ 5 ∷ []) (6 ∷ [])) (0 ∷ []) (node_at 3) (3 ∷ []) (0 ∷ []) [] (pos 0) (pos 0) (graph_of 2 1 1 (0 ∷ 3 ∷ 5 ∷ []) (6 ∷ [])) 2 2
    × Row (graph_of 2 1 1 (2 ∷ 2 ∷ 5 ∷ []) (6 ∷ [])) (0 ∷ []) (tree_at 3 scratch) (3 ∷ []) (0 ∷ []) [] (pos 0) (pos 0) (graph_of 2 1 1 (2 ∷ 2 ∷ 5 ∷ []) (6 ∷ [])) 1 1
    × Row (graph_of 3 1 2 (3 ∷ 5 ∷ 6 ∷ []) (9 ∷ 8 ∷ [])) (0 ∷ []) (node_at 4) (4 ∷ []) (1 ∷ []) [] (pos 1) (pos 0) (graph_of 3 1 2 (2 ∷ 4 ∷ 7 ∷ []) (8 ∷ 9 ∷ [])) 3 2
    × Row (graph_of 1 0 1 [] (3 ∷ [])) [] (settling []) [] [] (1 ∷ 1 ∷ 1 ∷ []) (pos 0) (pos 0) (graph_of 1 0 1 [] (3 ∷ [])) 1 1
    × Row (graph_of 1 1 1 (1 ∷ 2 ∷ mark ∷ []) (4 ∷ [])) (0 ∷ []) (node_at 2) (2 ∷ []) (0 ∷ []) [] (pos 0) (pos 0) (graph_of 1 1 1 (1 ∷ 2 ∷ mark ∷ []) (4 ∷ [])) 1 1
    × Row (graph_of 1 0 1 [] (1 ∷ [])) [] (settling []) [] [] (1 ∷ 1 ∷ 1 ∷ []) (pos 0) (pos 0) (graph_of 1 0 1 [] (1 ∷ [])) 1 1
    × Row p2 lower (tree_at 7 scratch) (7 ∷ 6 ∷ []) (0 ∷ 0 ∷ []) [] (pos 0) (pos 0) p2 4 4
    × Row p2 upper (tree_at 7 scratch) (7 ∷ 6 ∷ []) (0 ∷ 1 ∷ []) [] (pos 2) (pos 0) p2_after 4 2
    × Row p3 lower (pair_at 7 1) (6 ∷ 7 ∷ []) (0 ∷ 0 ∷ []) [] (pos 0) (pos 0) p3 4 4
    × Row p3 upper (pair_at 7 1) (6 ∷ 7 ∷ []) (0 ∷ 0 ∷ []) [] (pos 0) (pos 0) p3 4 4
    × Row p2 upper (settling scratch) [] [] (2 ∷ 4 ∷ 2 ∷ []) (pos 2) (pos 0) p2_after 4 2

-- what each call of a list answers and leaves
abbrev outcomes : Locked → List Call → List LockedOutcome
outcomes d [] = []
outcomes d (c ∷ cs) = step d c ∷ outcomes (left (step d c)) cs

-- P1 settled, its node turned back, and settled again: what each call answers and leaves, and all savings
abbrev pub ThereAndBack : Type 0
ThereAndBack =
    let d = with_locks p1 (0 ∷ []) in
    let calls = settling scratch ∷ many_at (4 ∷ []) (1 ∷ []) ∷ settling scratch ∷ [] in
    let there = locked_outcome (gained (2 ∷ 4 ∷ 0 ∷ []) (pos 3) (pos 1)) p1_after (0 ∷ []) in
    (outcomes d calls ≡ there ∷ locked_outcome (whole (negsuc 3)) p1 (0 ∷ []) ∷ there ∷ []) × (savings d calls ≡ pos 4)

-- a majority below another, no edge complemented: for resistive memory the upper one gets a complemented input, which loses 4, and a tree call
-- wins them back
abbrev pub LostAndWon : Type 0
LostAndWon =
    let g = graph_of 3 2 1 (2 ∷ 4 ∷ 6 ∷ 8 ∷ 2 ∷ 4 ∷ []) (10 ∷ []) in
    let h = graph_of 3 2 1 (3 ∷ 5 ∷ 7 ∷ 9 ∷ 2 ∷ 4 ∷ []) (10 ∷ []) in
    let calls = resistive_at 5 scratch ∷ tree_at 5 scratch ∷ [] in
    (outcomes (with_locks g free) calls ≡ locked_outcome (gained [] (negsuc 3) (pos 0)) h free ∷ locked_outcome (gained [] (pos 4) (pos 0)) g free ∷ [])
    × (savings (with_locks g free) calls ≡ pos 0)

-- what trials at node u and the node that its word k names answer, of these moves at both, the named node's first; and of every two moves that the
-- kinds have, by the named node's move and then by the node's
abbrev Tried : Graph → List ℕ → ℕ → ℕ → List (List ℕ) → List Answer → Type 0
Tried g ls u k ms xs = map (λ m. trial_call g ls u k (get_or m 0 0) (get_or m 1 0)) ms ≡ xs

abbrev Every : Graph → List ℕ → ℕ → ℕ → List Answer → Type 0
Every g ls u k xs = Tried g ls u k (choices (map (kind_moves g) (named_by g u k ∷ u ∷ []))) xs

-- P3, and with its lower node locked; a node that names the other twice; one that loses by every move; two XORs, the upper naming the lower by both words.
-- Then P3 with its lower node locked: the order in which faults of both moves are told. A word that names an input, where only the upper node's move
-- is asked for; and no such word, which is told first
abbrev pub WorkedTrials : Type 0
WorkedTrials =
    Every p3 free 7 1 (map whole (pos 0 ∷ pos 0 ∷ pos 0 ∷ pos 2 ∷ []))
    × Every p3 (1 ∷ 0 ∷ []) 7 1 (whole (pos 0) ∷ whole (pos 0) ∷ refused 16 ∷ refused 16 ∷ [])
    × Every (graph_of 2 2 1 (3 ∷ 5 ∷ 0 ∷ 7 ∷ 7 ∷ 3 ∷ []) (9 ∷ [])) free 4 1 (map whole (pos 0 ∷ pos 4 ∷ pos 3 ∷ pos 3 ∷ []))
    × Every (graph_of 2 2 1 (2 ∷ 4 ∷ 0 ∷ 6 ∷ 2 ∷ mark ∷ []) (8 ∷ [])) free 4 1 (map whole (pos 0 ∷ negsuc 1 ∷ negsuc 1 ∷ negsuc 1 ∷ negsuc 3 ∷ negsuc 3 ∷ negsuc 3 ∷ negsuc 5 ∷ []))
    × Every (graph_of 2 2 1 (3 ∷ 4 ∷ mark ∷ 6 ∷ 7 ∷ mark ∷ []) (9 ∷ [])) free 4 2
    (map whole (pos 0 ∷ pos 0 ∷ pos 0 ∷ pos 2 ∷ pos 0 ∷ pos 0 ∷ pos 0 ∷ pos 2 ∷ pos 1 ∷ pos 1 ∷ pos 3 ∷ pos 1 ∷ negsuc 0 ∷ negsuc 0 ∷ pos 1 ∷ negsuc 0 ∷ []))
    × Tried p3 (1 ∷ 0 ∷ []) 7 1 ((2 ∷ 0 ∷ []) ∷ (1 ∷ 2 ∷ []) ∷ (0 ∷ 2 ∷ []) ∷ []) (map refused (15 ∷ 16 ∷ 15 ∷ []))
    × Tried p3 (0 ∷ 1 ∷ []) 7 2 ((5 ∷ 0 ∷ []) ∷ (5 ∷ 1 ∷ []) ∷ (5 ∷ 2 ∷ []) ∷ []) (whole (pos 0) ∷ refused 16 ∷ refused 15 ∷ [])
    × Tried p3 (0 ∷ 1 ∷ []) 7 4 ((2 ∷ 1 ∷ []) ∷ []) (refused 7 ∷ [])
