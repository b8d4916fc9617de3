-- A tree decided: the move of each of its nodes stands in field 4, where its costs stood. What inner functions ask of each other,
-- and no promise to a caller.
use Rattle.std.specs.Prelude.{◌≡◌, List, map, ◌≢◌, ℕ, ◌+◌, ◌-◌, ◌/◌, ◌%◌, ◌<◌}
use Rattle.graph.specs.Finite.{if_equal}
use Rattle.graph.specs.Graph.{Graph, mark, node, word, is_xor}
use Rattle.moves.specs.Rows.{flag, kind_moves, moves_at}
use Rattle.moves.specs.Apply.{Choice}
use Rattle.moves.specs.Tree.{root_of, tree}
use Rattle.moves.specs.Call.{moved, best_at}
use Rattle.state.specs.State.{field, stands}

-- the moves that stand in scratch
unfoldable pub moves_in : ℕ → List ℕ → Choice
moves_in i sc u = field sc (u - (i + 1)) 4

-- the bit that the word at place p shows the node that it names, once the move stored at its own node is made
unfoldable pub shows_at : Graph → List ℕ → ℕ → ℕ
shows_at g sc p = (word (stands g sc) p + flag (is_xor g (p / 3)) (field sc (p / 3) 4) (p % 3)) % 2

-- how many of node v's readers are complemented once the nodes above it are decided
unfoldable pub odd_at : Graph → List ℕ → ℕ → ℕ
odd_at g sc v = if_equal (field sc v 3) mark (field sc v 1) (shows_at g sc (field sc v 3))

-- the node of v's only reading word, if v has one, has a move of its kind stored
abbrev pub ReaderDecided : Graph → List ℕ → ℕ → Type 0
ReaderDecided g sc v = field sc v 3 ≢ mark → field sc (field sc v 3 / 3) 4 < kind_moves g (node g (field sc v 3 / 3))

-- the nodes of the tree of r in h, with the locks ls, have moves stored that they have
abbrev pub MovesHeld : Graph → List ℕ → ℕ → List ℕ → Type 0
MovesHeld h ls r sc = (v : ℕ) → v < h.N → root_of h (node h v) ≡ r → field sc v 4 < moves_at h ls (node h v)

-- h after the moves stored for them
abbrev pub stored_moved : Graph → ℕ → List ℕ → Graph
stored_moved h r sc = moved h (tree h r) (map (moves_in h.I sc) (tree h r))

-- such moves stored that are the best
pub record TreeDecided (h : Graph) (ls : List ℕ) (r : ℕ) (sc : List ℕ) : Type 0 where
  pub permitted : MovesHeld h ls r sc
  pub best : map (moves_in h.I sc) (tree h r) ≡ best_at h ls (tree h r)
