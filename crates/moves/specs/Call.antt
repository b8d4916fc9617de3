-- The node, pair and tree calls on a graph g with the locks ls, which no call changes: one notion of best, at three lists of nodes, with its saving
-- in two parts, over the words of the nodes that the call names and over all other edges. And the trial: what two moves on a pair would save.
use Rattle.std.specs.Prelude.{◌+◌, ◌-◌, ◌*◌, ◌/◌, ◌&&◌, ◌∷◌, Result}
use Rattle.graph.specs.All.{ℕ, Bool, true, false, cond, List, [], map, eqb, ltb, leb, ℤ, pos, if_less, if_equal, first, Graph, node, word, index, is_xor, C, admission_number, Answer, gained, Outcome, outcome, guarded, sum, node_adds, output_adds, difference, whole, unless}
use Rattle.choice.specs.All.{best}
use Rattle.moves.specs.{Rows.kind_moves, Rows.lock_at, Rows.moves_at, Apply.none, Apply.put, Apply.apply, Tree.is_root, Tree.tree, declared.Saving.Saving}
use Rattle.graph.specs.{Answer.answer_by, declared.Refusal.Refusal}

-- w is one of the list
unfoldable pub among : List ℕ → ℕ → Bool
among [] w = false
among (u ∷ us) w = let later = among us w in cond (eqb w u) true later

-- what the words of the nodes us add to C
unfoldable pub own_adds : Graph → List ℕ → ℕ
own_adds g us = sum (3 * g.N) (λ j. cond (among us (node g (j / 3))) (node_adds g j) 0)

-- what all other edges add: the words of other nodes, and the outputs
unfoldable pub other_adds : Graph → List ℕ → ℕ
other_adds g us = sum (3 * g.N) (λ j. cond (among us (node g (j / 3))) 0 (node_adds g j)) + sum g.O (output_adds g)

pub record Split : Type 0 where
  pub own : ℤ
  pub others : ℤ

-- from g to h, by a call that names the nodes us
unfoldable pub split : List ℕ → Graph → Graph → Split
split us g h = record { own = difference (own_adds g us) (own_adds h us); others = difference (other_adds g us) (other_adds h us) }

-- what a node, pair or tree call answers
abbrev pub told_saving : Saving → Answer
told_saving s = gained [] s.own s.others

abbrev pub saving_answer : Result Saving Refusal → Answer
saving_answer = answer_by told_saving

-- the graph after the moves ms at the nodes us
unfoldable pub moved : Graph → List ℕ → List ℕ → Graph
moved g us ms = apply g (put none us ms)

-- C after them
unfoldable pub moved_c : Graph → List ℕ → List ℕ → ℕ
moved_c g us ms = C (moved g us ms)

-- of all lists of moves at the nodes us that leave locked nodes alone, the first with the least C
unfoldable pub best_at : Graph → List ℕ → List ℕ → List ℕ
best_at g ls us = best (moved_c g us) (map (moves_at g ls) us)

-- moves ms at the nodes us made, with what they save in both parts
abbrev pub rewrite_by : Graph → List ℕ → List ℕ → Outcome
rewrite_by g us ms =
    let h = moved g us ms in
    let d = split us g h in
    outcome (gained [] d.own d.others) h

-- the best moves made
unfoldable pub rewrite : Graph → List ℕ → List ℕ → Outcome
rewrite g ls us = rewrite_by g us (best_at g ls us)

-- u is the index of a node
unfoldable pub is_node : Graph → ℕ → Bool
is_node g u = ltb g.I u && ltb u (node g g.N)

-- 7: not a node
unfoldable pub node_fault : Graph → ℕ → ℕ
node_fault g u = cond (is_node g u) 0 7

-- 7: no such word of the node, which has three words, an XOR two
unfoldable pub word_fault : Graph → ℕ → ℕ → ℕ
word_fault g u k = cond (leb 1 k && leb k (cond (is_xor g (u - (g.I + 1))) 2 3)) 0 7

-- 7: not a root
unfoldable pub root_fault : Graph → ℕ → ℕ
root_fault g r = cond (is_root g r) 0 7

-- 8: scratch of s words, where 8 × N are needed
unfoldable pub scratch_fault : Graph → ℕ → ℕ
scratch_fault g s = if_less s (8 * g.N) 8 0

-- 15: a move number that the node's kind lacks
unfoldable pub move_fault : Graph → ℕ → ℕ → ℕ
move_fault g u m = if_less m (kind_moves g u) 0 15

-- 16: a move other than 0 at a locked node
unfoldable pub locked_fault : Graph → List ℕ → ℕ → ℕ → ℕ
locked_fault g ls u m = if_equal (lock_at g ls u) 1 (if_equal m 0 0 16) 0

-- what refuses move m at node u
unfoldable pub move_number : Graph → List ℕ → ℕ → ℕ → ℕ
move_number g ls u m = first (move_fault g u m) (locked_fault g ls u m)

-- the node call
unfoldable pub node_number : Graph → List ℕ → ℕ → ℕ
node_number g ls u = first (admission_number g ls) (node_fault g u)

unfoldable pub node_call : Graph → List ℕ → ℕ → Outcome
node_call g ls u = guarded (node_number g ls u) g (rewrite g ls (u ∷ []))

-- the index that word k (1 to 3) of node u names
unfoldable pub named_by : Graph → ℕ → ℕ → ℕ
named_by g u k = index (word g (3 * (u - (g.I + 1)) + (k - 1)))

-- the pair call: the named node's move is compared first; a word that names no node changes nothing
unfoldable pub pair_number : Graph → List ℕ → ℕ → ℕ → ℕ
pair_number g ls u k = first (admission_number g ls) (first (node_fault g u) (word_fault g u k))

unfoldable pub pair_rewrite : Graph → List ℕ → ℕ → ℕ → Outcome
pair_rewrite g ls u k = cond (is_node g (named_by g u k)) (rewrite g ls (named_by g u k ∷ u ∷ [])) (outcome (gained [] (pos 0) (pos 0)) g)

unfoldable pub pair_call : Graph → List ℕ → ℕ → ℕ → Outcome
pair_call g ls u k = guarded (pair_number g ls u k) g (pair_rewrite g ls u k)

-- the tree call, with s words of scratch
unfoldable pub tree_number : Graph → List ℕ → ℕ → ℕ → ℕ
tree_number g ls s r = first (admission_number g ls) (first (node_fault g r) (first (root_fault g r) (scratch_fault g s)))

unfoldable pub tree_call : Graph → List ℕ → ℕ → ℕ → Outcome
tree_call g ls s r = guarded (tree_number g ls s r) g (rewrite g ls (tree g r))

-- what a call answers that tells its saving in one number
abbrev pub gain_answer : Result ℤ Refusal → Answer
gain_answer = answer_by whole

-- what refuses a trial of move a at the node that word k of node u names, and of move m at u: what refuses the pair call, then move a,
-- then move m. A word that names no node asks nothing of move a
unfoldable pub trial_number : Graph → List ℕ → ℕ → ℕ → ℕ → ℕ → ℕ
trial_number g ls u k a m =
    let p = named_by g u k in
    first (pair_number g ls u k) (first (cond (is_node g p) (move_number g ls p a) 0) (move_number g ls u m))

-- C before both less C after; a word that names no node saves nothing
unfoldable pub trial_saving : Graph → ℕ → ℕ → ℕ → ℕ → ℤ
trial_saving g u k a m =
    let p = named_by g u k in
    cond (is_node g p) (difference (C g) (moved_c g (p ∷ u ∷ []) (a ∷ m ∷ []))) (pos 0)

-- the trial
unfoldable pub trial_call : Graph → List ℕ → ℕ → ℕ → ℕ → ℕ → Answer
trial_call g ls u k a m = unless (trial_number g ls u k a m) (whole (trial_saving g u k a m))
