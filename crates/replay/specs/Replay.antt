-- A replay: a file is loaded, and a list of calls is made on the loaded graph and its locks, each on what the one before left. A call is three
-- words: its kind (0 node, 1 pair, 2 tree, 3 settling, 4 many moves, 5 majority, 6 finder, 7 a tree for resistive memory), a node and a word.
-- Many moves have in their place where their part of the lent nodes and moves begins, and how many entries it has; a majority call has for a
-- word where its three indices begin among the lent nodes. A call's answer is three signed words: the number, and what it saved over the words of the nodes that
-- it names and over all other edges. Settling's are the sums over its calls, and many moves' the whole saving and 0; the majority call and
-- the finder have what they answer, and 0.
use Rattle.std.specs.Prelude.{◌+◌, ◌*◌, ◌/◌, ◌%◌, ◌≤◌, ◌<◌, ◌≡◌, ◌∷◌, ◌++◌, ◌+ℤ◌, Result, Ok, Err}
use Rattle.graph.specs.All.{ℕ, cond, List, [], length, get_or, take, drop, ℤ, pos, if_less, if_equal, first, Graph, graph_of, wiring, Assignment, output_value, C, Answer, accepted, refused, number_of, own_of, others_of, LockedOutcome, locked_outcome, guarded_locks}
use Rattle.tagged_file.specs.All.{blank, load_call}
use Rattle.hidden.specs.All.{Triple, triple}
use Rattle.promises.specs.All.{Call, node_at, pair_at, tree_at, settling, many_at, majority_at, finding, resistive_at, Locked, step, left, run, rewires, Quiet, Demand}
use Rattle.tagged_file.specs.declared.Sizes.{Sizes}
use Rattle.replay.specs.{declared.CallsFault.CallsFault, declared.ReplayFault.ReplayFault}
use Rattle.replay.specs.declared.CallsFault.TheVariants.{LeftOver, UnknownKind, PartOutside}
use Rattle.replay.specs.declared.ReplayFault.TheVariants.{NotCalls, Refused}

-- what the calls are lent: scratch, and nodes with a move each
pub record Lent : Type 0 where
  pub scratch : List ℕ
  pub list : List ℕ
  pub moves : List ℕ

abbrev pub lent : List ℕ → List ℕ → List ℕ → Lent
lent scratch list moves = record { scratch = scratch; list = list; moves = moves }

-- so many entries of a list, from a place on
unfoldable pub part : ℕ → ℕ → List ℕ → List ℕ
part start count l = take count (drop start l)

-- three entries of it, from a place on
unfoldable pub three_at : ℕ → List ℕ → Triple
three_at start l = triple (get_or l start 0) (get_or l (start + 1) 0) (get_or l (start + 2) 0)

-- the calls that make moves, of the kinds 0 to 4
unfoldable pub moving_of : Lent → ℕ → ℕ → ℕ → Call
moving_of t k u w =
    if_equal k 0 (node_at u)
    (if_equal k 1 (pair_at u w)
    (if_equal k 2 (tree_at u t.scratch)
    (if_equal k 3 (settling t.scratch)
    (many_at (part u w t.list) (part u w t.moves)))))

-- the call of kind k at node u and word w: what a kind does not want is not looked at, and a kind above 7 is refused before any call
unfoldable pub call_of : Lent → ℕ → ℕ → ℕ → Call
call_of t k u w =
    if_less k 5 (moving_of t k u w)
    (if_equal k 5 (majority_at u (three_at w t.list) t.scratch)
    (if_equal k 6 (finding t.scratch)
    (resistive_at u t.scratch)))

-- the calls that words say, three to a call
abbrev pub decode : Lent → List ℕ → List Call
decode t [] = []
decode t (k ∷ []) = []
decode t (k ∷ u ∷ []) = []
decode t (k ∷ u ∷ w ∷ ws) = call_of t k u w ∷ decode t ws

-- the value that an answer has, 0 where it has none
abbrev pub value_of : Answer → ℤ
value_of a = pos (get_or a.values 0 0)

-- the second word of a call's answer: the first number of its saving; of a call that may rewire what it answers
abbrev pub second_of : Call → Answer → ℤ
second_of c a = cond (rewires c) (value_of a) (own_of a)

-- what the calls answer, three words to a call; a refused call saves nothing
abbrev pub answers_of : Locked → List Call → List ℤ
answers_of d [] = []
answers_of d (c ∷ cs) =
    let a = (step d c).answer in
    pos a.number ∷ second_of c a ∷ others_of a ∷ answers_of (left (step d c)) cs

-- The faults of a list of words are a replay's own, and their numbers are none of document 01's. 101: words are left over, fewer
-- than a call has; 102: a call's kind is above 7; 105: the part of many moves, or the three of a majority call, reach past the end of the
-- lent nodes.
abbrev pub calls_number : CallsFault → ℕ
calls_number LeftOver = 101
calls_number UnknownKind = 102
calls_number PartOutside = 105

-- of entries up to a place, where n nodes are lent; of one call; and of the first call that has a fault
unfoldable pub part_number : ℕ → ℕ → ℕ
part_number n end = if_less n end 105 0

unfoldable pub call_number : ℕ → ℕ → ℕ → ℕ → ℕ
call_number n k u w = first (if_less 7 k 102 0) (if_equal k 4 (part_number n (u + w)) (if_equal k 5 (part_number n (w + 3)) 0))

abbrev pub words_number : ℕ → List ℕ → ℕ
words_number n [] = 0
words_number n (k ∷ []) = 0
words_number n (k ∷ u ∷ []) = 0
words_number n (k ∷ u ∷ w ∷ ws) = first (call_number n k u w) (words_number n ws)

-- the lesser of two numbers
unfoldable pub lesser : ℕ → ℕ → ℕ
lesser a b = if_less a b a b

-- of room for answers 2^60 words are used at most
abbrev pub usable : ℕ → ℕ
usable room = lesser room 1152921504606846976

-- what refuses the words: an own fault, or 4 where there is room for fewer than three words a call
unfoldable pub code_number : List ℕ → ℕ → ℕ → ℕ
code_number ws n room =
    first (if_equal (length ws % 3) 0 0 101) (first (words_number n ws) (if_less (usable room) (3 * (length ws / 3)) 4 0))

-- the number that refuses a replay: of the words, then of the file
unfoldable pub replay_number : List ℕ → List ℕ → ℕ → List ℕ → List ℕ → List ℕ → ℕ → ℕ
replay_number file words n ns os ls room = first (code_number words n room) (load_call file ns os ls).answer.number

-- the replay, in the tables ns and os and the lock bytes ls: the graph and the locks are those after all calls, and the graph's I, N and O
-- are answered
unfoldable pub replay_call : List ℕ → List ℕ → Lent → List ℕ → List ℕ → List ℕ → ℕ → LockedOutcome
replay_call file words t ns os ls room =
    let d = run (left (load_call file ns os ls)) (decode t words) in
    let g = d.graph in
    guarded_locks (replay_number file words (length t.list) ns os ls room) (blank ns os) ls (locked_outcome (accepted (g.I ∷ g.N ∷ g.O ∷ [])) g d.locks)

-- the words for answers after it: all calls' answers in front; as they were where it is refused
unfoldable pub answers_after : List ℕ → List ℕ → Lent → List ℕ → List ℕ → List ℕ → List ℤ → List ℤ
answers_after file words t ns os ls before =
    if_equal (replay_number file words (length t.list) ns os ls (length before)) 0
    (answers_of (left (load_call file ns os ls)) (decode t words) ++ drop (3 * (length words / 3)) before)
    before

abbrev pub replayed_answer : Result Sizes ReplayFault → Answer
replayed_answer (Ok z) = accepted (z.inputs ∷ z.nodes ∷ z.outputs ∷ [])
replayed_answer (Err (NotCalls f)) = refused (calls_number f)
replayed_answer (Err (Refused r)) = refused (number_of r)

-- the graph that the tables hold after it: none where it is refused
abbrev pub replayed_graph : Result Sizes ReplayFault → List ℕ → List ℕ → Graph
replayed_graph (Ok z) ns os = graph_of z.inputs z.nodes z.outputs ns os
replayed_graph (Err f) ns os = blank ns os

-- the savings among the answers to calls: the second and third of every three words, but for calls that may rewire
abbrev pub savings_in : List Call → List ℤ → ℤ
savings_in [] l = pos 0
savings_in (c ∷ cs) l = cond (rewires c) (pos 0) (get_or l 1 (pos 0) +ℤ get_or l 2 (pos 0)) +ℤ savings_in cs (drop 3 l)

-- of a list of calls that is quiet from d on: h has the wiring and the locks of d, and C is what it was less all savings that they answered
pub record UnwiredMet (d : Locked) (calls : List Call) (h : Locked) (answers : List ℤ) : Type 0 where
  pub wired : wiring h.graph ≡ wiring d.graph
  pub locked : h.locks ≡ d.locks
  pub count : pos (C h.graph) +ℤ savings_in calls answers ≡ pos (C d.graph)

-- demand 3 of what a caller holds after calls on the loaded d: h in the tables and the lock bytes, and the answers
pub record DemandMet (d : Locked) (calls : List Call) (h : Locked) (answers : List ℤ) : Type 0 where
  pub outputs : (a : Assignment) (j : ℕ) → j < d.graph.O → output_value h.graph a j ≡ output_value d.graph a j
  pub fewer : h.graph.N ≤ d.graph.N
  pub since : (before after : List Call) → calls ≡ before ++ after → Quiet (run d before) after
      → UnwiredMet (run d before) after h (drop (3 * length before) answers)
  -- and of each call on the way
  pub demand : Demand d calls
