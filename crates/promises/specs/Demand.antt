-- Demand 3, over every list of node, pair, tree, settling, many, majority and finder calls, and calls on a tree for resistive memory.
use Rattle.std.specs.Prelude.{◌+◌, ◌-◌, ◌≤◌, ◌<◌, ◌≡◌, ◌∷◌, ◌++◌, ◌+ℤ◌}
use Rattle.graph.specs.All.{ℕ, Bool, true, false, List, [], map, Perm, length, ℤ, pos, if_less, first, Graph, node, wiring, Assignment, value, output_value, C, Admitted, LockBytes, Outcome, LockedOutcome, locked_outcome, saving_of}
use Rattle.choice.specs.All.{Fits}
use Rattle.moves.specs.All.{moves_at, tree, moved, is_node, named_by, node_fault, word_fault, root_fault, scratch_fault, node_call, pair_call, tree_call}
use Rattle.many.specs.All.{Entry, entries, one_by_one, list_number, many_call}
use Rattle.rounds.specs.All.{settle, settle_call, NothingLowers}
use Rattle.resistive.specs.All.{resistive_call, MostSingle}
use Rattle.hidden.specs.All.{Triple, AllRead, triple_fault, lock_fault, majority_call, find_call}

-- a call, with whatever nodes, word, moves and scratch it is given
pub data Call : Type 0 where
  node_at : (node : ℕ) → Call
  pair_at : (node word : ℕ) → Call
  tree_at : (root : ℕ) (scratch : List ℕ) → Call
  settling : (scratch : List ℕ) → Call
  many_at : (nodes moves : List ℕ) → Call
  majority_at : (node : ℕ) (of : Triple) (scratch : List ℕ) → Call
  finding : (scratch : List ℕ) → Call
  resistive_at : (root : ℕ) (scratch : List ℕ) → Call

-- a graph with its locks
pub record Locked : Type 0 where
  pub graph : Graph
  pub locks : List ℕ

abbrev pub with_locks : Graph → List ℕ → Locked
with_locks g ls = record { graph = g; locks = ls }

-- the outcome of a call on it: what the call's entry says. To all but the finder its locks are lent to be read, so that the call leaves them
abbrev pub beside : Locked → Outcome → LockedOutcome
beside d o = locked_outcome o.answer o.graph d.locks

abbrev pub step : Locked → Call → LockedOutcome
step d (node_at u) = beside d (node_call d.graph d.locks u)
step d (pair_at u k) = beside d (pair_call d.graph d.locks u k)
step d (tree_at r scratch) = beside d (tree_call d.graph d.locks (length scratch) r)
step d (settling scratch) = beside d (settle_call d.graph d.locks (length scratch))
step d (many_at us ms) = beside d (many_call d.graph d.locks us ms)
step d (majority_at u t scratch) = beside d (majority_call d.graph d.locks (length scratch) t u)
step d (finding scratch) = find_call d.graph d.locks (length scratch)
step d (resistive_at r scratch) = beside d (resistive_call d.graph d.locks (length scratch) r)

-- what it leaves for the next call
abbrev pub left : LockedOutcome → Locked
left o = with_locks o.graph o.locks

-- the graph and the locks after a list of calls, each made on what the one before left
abbrev pub run : Locked → List Call → Locked
run d [] = d
run d (c ∷ cs) = run (left (step d c)) cs

-- all savings that the calls reported: the numbers of each, together
abbrev pub savings : Locked → List Call → ℤ
savings d [] = pos 0
savings d (c ∷ cs) = saving_of (step d c).answer +ℤ savings (left (step d c)) cs

-- what refuses a call on an admitted graph with its locks, or nothing: 7 or 8, a list of moves 4, 7, 14, 15 or 16, and a majority call 7, 16
-- or 8
abbrev pub fault : Locked → Call → ℕ
fault d (node_at u) = node_fault d.graph u
fault d (pair_at u k) = first (node_fault d.graph u) (word_fault d.graph u k)
fault d (tree_at r scratch) = first (node_fault d.graph r) (first (root_fault d.graph r) (scratch_fault d.graph (length scratch)))
fault d (settling scratch) = scratch_fault d.graph (length scratch)
fault d (many_at us ms) = first (if_less (length ms) (length us) 4 0) (list_number d.graph d.locks us ms)
fault d (majority_at u t scratch) =
    first (node_fault d.graph u) (first (triple_fault t u) (first (lock_fault d.graph d.locks u) (scratch_fault d.graph (length scratch))))
fault d (finding scratch) = scratch_fault d.graph (length scratch)
fault d (resistive_at r scratch) = first (node_fault d.graph r) (first (root_fault d.graph r) (scratch_fault d.graph (length scratch)))

-- rounds as settling reports them: those of the definition, at most the fall plus one; and the sums over their calls
pub record RoundsReported (d : Locked) (o : LockedOutcome) : Type 0 where
  pub values : o.answer.values ≡ (settle d.locks d.graph).rounds ∷ C d.graph ∷ C o.graph ∷ []
  pub signed : o.answer.signed ≡ (settle d.locks d.graph).made.own ∷ (settle d.locks d.graph).made.others ∷ []
  pub few : (settle d.locks d.graph).rounds ≤ (C d.graph - C o.graph) + 1

-- no choice of moves at the nodes us that leaves locked nodes alone, made on d, has a lower C than o left
abbrev pub Least : Locked → List ℕ → LockedOutcome → Type 0
Least d us o = (ms : List ℕ) → Fits (map (moves_at d.graph d.locks) us) ms → C o.graph ≤ C (moved d.graph us ms)

-- what an accepted call on d promises beside: a node, pair or tree call that it is least; settling that no such choice at one node, on a
-- pair or on a tree lowers C then; many moves that one by one, in every order, they give the graph that it left; a majority call that every
-- index keeps its value; the finder that no free node is left unread, and that it returns the new number of nodes; a call for resistive
-- memory that every choice at the tree's nodes that leaves locked nodes alone and the root's readers unturned has fewer majorities with just
-- one complemented input, or as many and at least the C that it left
abbrev pub Beside : Locked → Call → LockedOutcome → Type 0
Beside d (node_at u) o = Least d (u ∷ []) o
Beside d (pair_at u k) o = is_node d.graph (named_by d.graph u k) ≡ true → Least d (named_by d.graph u k ∷ u ∷ []) o
Beside d (tree_at r scratch) o = Least d (tree d.graph r) o
Beside d (settling scratch) o = NothingLowers o.graph o.locks × RoundsReported d o
Beside d (many_at us ms) o = (es : List Entry) → Perm (entries us ms) es → one_by_one d.graph es ≡ o.graph
Beside d (majority_at u t scratch) o = (a : Assignment) (i : ℕ) → i < node d.graph d.graph.N → value o.graph a i ≡ value d.graph a i
Beside d (finding scratch) o = AllRead o.graph o.locks × (o.answer.values ≡ o.graph.N ∷ [])
Beside d (resistive_at r scratch) o = MostSingle d.graph d.locks r o.graph

-- a call on d, the graph and the locks as the load or the call before left them
pub record Made (d : Locked) (c : Call) : Type 0 where
  pub admitted : Admitted d.graph
  pub locked : LockBytes d.graph.N d.locks
  pub number : (step d c).answer.number ≡ fault d c
  pub refused : (fault d c ≡ 0 → ⊥) → (left (step d c) ≡ d) × ((step d c).answer.values ≡ []) × ((step d c).answer.signed ≡ [])
  pub accepted : fault d c ≡ 0 → Beside d c (step d c)

-- the calls that may rewire
abbrev pub rewires : Call → Bool
rewires (node_at u) = false
rewires (pair_at u k) = false
rewires (tree_at r scratch) = false
rewires (settling scratch) = false
rewires (many_at us ms) = false
rewires (majority_at u t scratch) = true
rewires (finding scratch) = true
rewires (resistive_at r scratch) = false

-- no call of the list may
abbrev pub NoneRewires : List Call → Type 0
NoneRewires [] = Unit
NoneRewires (c ∷ cs) = (rewires c ≡ false) × NoneRewires cs

-- each such call of the list leaves the graph and the locks as they were: it is refused, or finds nothing to change
abbrev pub Quiet : Locked → List Call → Type 0
Quiet d [] = Unit
Quiet d (c ∷ cs) = (rewires c ≡ true → left (step d c) ≡ d) × Quiet (left (step d c)) cs

-- what a quiet list made on d keeps: the wiring, the number of nodes in it, and the locks; and C is what it was less all savings that the
-- calls reported
pub record Unwired (d : Locked) (calls : List Call) : Type 0 where
  pub wired : wiring (run d calls).graph ≡ wiring d.graph
  pub locked : (run d calls).locks ≡ d.locks
  pub count : pos (C (run d calls).graph) +ℤ savings d calls ≡ pos (C d.graph)

-- demand 3 for a start d and a list of calls
pub record Demand (d : Locked) (calls : List Call) : Type 0 where
  -- every call of the list, after those before it
  pub each : (before : List Call) (c : Call) (after : List Call) → calls ≡ before ++ (c ∷ after) → Made (run d before) c
  -- wiring, locks and count are the loaded ones, or those that the last call left which rewired: at any place from which on the list is quiet
  pub since : (before after : List Call) → calls ≡ before ++ after → Quiet (run d before) after → Unwired (run d before) after
  -- every output has, under every assignment, its loaded value
  pub outputs : (a : Assignment) (j : ℕ) → j < d.graph.O → output_value (run d calls).graph a j ≡ output_value d.graph a j
  -- the number of nodes never grows
  pub fewer : (run d calls).graph.N ≤ d.graph.N
