-- What calls at the nodes us promise beside their definitions: what locks mean, and what the parts of a saving come to.
use Rattle.std.specs.Prelude.{◌/◌, ◌≤◌, ◌<◌, ◌≡◌, ◌∷◌, ◌+ℤ◌}
use Rattle.graph.specs.All.{ℕ, true, List, [], map, get_or, Graph, node, word, index, is_edge, C, Assignment, value, difference, Admitted}
use Rattle.choice.specs.All.{Fits, best}
use Rattle.moves.specs.{Rows.kind_moves, Rows.lock_at, Apply.Choice, Apply.none, Apply.put, Apply.seen, Apply.turns, Call.split, Call.moved, Call.moved_c, Call.best_at, Call.rewrite, Decide.pair_cost, Decide.FirstPair, Decide.numbers_of, Decide.naming, Pair.pair_saving, Pair.FirstGreatest, declared.decide.NodeNumbers.NodeNumbers}

-- both parts of a saving add to C before less C after (M-104)
abbrev pub SplitWhole : List ℕ → Graph → Graph → Type 0
SplitWhole us g h = (split us g h).own +ℤ (split us g h).others ≡ difference (C g) (C h)

-- the choice of moves that such a call makes
abbrev pub made_at : Graph → List ℕ → List ℕ → Choice
made_at g ls us = put none us (best_at g ls us)

-- M-105, of a locked node v: it has only move 0; its readers do not turn, and an edge of its own turns only by the move of the node that
-- it names; its value stays
pub record LockedNode (g : Graph) (ls us : List ℕ) (v : ℕ) : Type 0 where
  pub locked_move : made_at g ls us (node g v) ≡ 0
  pub locked_readers : seen g (made_at g ls us) (node g v) ≡ 0
  pub locked_turns : (j : ℕ) → j / 3 ≡ v → is_edge g j ≡ true → turns g (made_at g ls us) j ≡ seen g (made_at g ls us) (index (word g j))
  pub locked_value : Admitted g → (a : Assignment) → value (moved g us (best_at g ls us)) a (node g v) ≡ value g a (node g v)

-- moves at the nodes us that leave locked ones alone
abbrev pub Alone : Graph → List ℕ → List ℕ → List ℕ → Type 0
Alone g ls [] ms = Unit {0}
Alone g ls (u ∷ us) [] = Unit {0}
Alone g ls (u ∷ us) (k ∷ ms) = (lock_at g ls u ≡ 1 → k ≡ 0) × Alone g ls us ms

-- the best is least among all choices of the kinds' moves that do
abbrev pub LowestAlone : Graph → List ℕ → List ℕ → Type 0
LowestAlone g ls us = Admitted g → (ms : List ℕ) → Fits (map (kind_moves g) us) ms → Alone g ls us ms → C (moved g us (best_at g ls us)) ≤ C (moved g us ms)

-- with no node locked the best is document 01's, of all moves of every kind, and to make it is the same as with no locks at all
pub record NoneLocked (g : Graph) (ls us : List ℕ) : Type 0 where
  pub best_free : best_at g ls us ≡ best (moved_c g us) (map (kind_moves g) us)
  pub rewrite_free : rewrite g ls us ≡ rewrite g [] us

-- M-103: a pair's saving from the numbers of both nodes is C before less C after, for any two moves
abbrev pub PairSaving : Graph → List ℕ → (p v a k : ℕ) → Type 0
PairSaving g ls p v a k =
    pair_saving (numbers_of g ls p) (numbers_of g ls v) (naming g v (node g p)) a k ≡ difference (C g) (moved_c g (node g p ∷ node g v ∷ []) (a ∷ k ∷ []))

-- and the first pair that leaves least, which settling finds by two answers, is the first that saves most
abbrev pub OneWinner : NodeNumbers → NodeNumbers → List ℕ → (r s a k b l : ℕ) → Type 0
OneWinner p n w r s a k b l = FirstPair (pair_cost p n w) r s a k → FirstGreatest (pair_saving p n w) r s b l → (a ≡ b) × (k ≡ l)

pub record Promises : Type 0 where
  pub split_whole : (us : List ℕ) (g h : Graph) → SplitWhole us g h
  pub locked_node : (g : Graph) (ls us : List ℕ) (v : ℕ) → v < g.N → get_or ls v 0 ≡ 1 → LockedNode g ls us v
  pub lowest_alone : (g : Graph) (ls us : List ℕ) → LowestAlone g ls us
  pub none_locked : (g : Graph) (ls us : List ℕ) → ((v : ℕ) → v < g.N → get_or ls v 0 ≡ 0) → NoneLocked g ls us
  pub pair_saving_lem : (g : Graph) (ls : List ℕ) → Admitted g → (p v : ℕ) → p < v → v < g.N → (a k : ℕ) → PairSaving g ls p v a k
  pub one_winner : (p n : NodeNumbers) (w : List ℕ) (r s a k b l : ℕ) → OneWinner p n w r s a k b l
