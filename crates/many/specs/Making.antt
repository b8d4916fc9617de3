-- Moves looked up in a rising list and made word by word, in one sweep of each table: what the inner functions ask of each other, and
-- no promise to a caller.
use Rattle.std.specs.Prelude.{◌≡◌, Bool, List, [], ℕ, ◌/◌, ◌%◌, ◌≤◌, ◌<◌, length, get_or}
use Rattle.graph.specs.Graph.{Graph, graph_of, index}
use Rattle.graph.specs.Inner.{Readable}
use Rattle.graph.specs.Admission.{Admitted}
use Rattle.graph.specs.Literals.{bit_at}
use Rattle.graph.specs.Turned.{turned_table, up_to}
use Rattle.moves.specs.Rows.{flag, kind_moves}
use Rattle.moves.specs.Apply.{Choice, none, put, seen, turns}

-- indices rise
abbrev pub Rises : List ℕ → Type 0
Rises us = (i j : ℕ) → i < j → j < length us → get_or us i 0 < get_or us j 0

-- k is the place of u in a rising list, or where it would stand
pub record Stands (us : List ℕ) (u k : ℕ) : Type 0 where
  pub within : k ≤ length us
  pub before : (i : ℕ) → i < k → get_or us i 0 < u
  pub after : (i : ℕ) → k ≤ i → i < length us → u ≤ get_or us i 0

-- a list that can be made: it rises, names nodes, and each move is one that its node's kind has
pub record Listed (g : Graph) (us ms : List ℕ) : Type 0 where
  pub rises : Rises us
  pub enough : length us ≤ length ms
  pub nodes : (j : ℕ) → j < length us → g.I < get_or us j 0
  pub have : (j : ℕ) → j < length us → get_or ms j 0 < kind_moves g (get_or us j 0)

-- its moves as a choice
abbrev pub chosen : List ℕ → List ℕ → Choice
chosen us ms = put none us ms

-- a graph of nodes alone
abbrev pub bare : ℕ → ℕ → List ℕ → Graph
bare i n ns = graph_of i n 0 ns []

-- slices in which an entry's node can be looked at
pub record Rooms (i n : ℕ) (ns ls : List ℕ) : Type 0 where
  pub few_inputs : i ≤ 4096
  pub few_nodes : n ≤ 100000
  pub words : (v : ℕ) → v < n → Readable ns v
  pub enough_locks : n ≤ length ls

-- a node table on which it can be made
pub record Ready (i n : ℕ) (ns us ms : List ℕ) : Type 0 where
  pub admitted : Admitted (bare i n ns)
  pub listed : Listed (bare i n ns) us ms

-- the node table, with its words below place j turned as a choice turns them
unfoldable pub nodes_to : ℕ → ℕ → List ℕ → Choice → ℕ → List ℕ
nodes_to i n ns m j = turned_table ns (up_to j (turns (bare i n ns) m))

-- bits that say of each index below u whether a choice turns its readers; the rest are 0
pub record Noted (g : Graph) (m : Choice) (bs : List ℕ) (u : ℕ) : Type 0 where
  pub room : length bs ≡ 1627
  pub below : (w : ℕ) → w < u → bit_at bs w ≡ seen g m w
  pub after : (w : ℕ) → u ≤ w → bit_at bs w ≡ 0

-- r has what move m of a kind turns, a bit each: words 1 to 3, and every reader
pub record Row (x : Bool) (m r : ℕ) : Type 0 where
  pub first : r % 2 ≡ flag x m 0
  pub second : r / 2 % 2 ≡ flag x m 1
  pub third : r / 4 % 2 ≡ flag x m 2
  pub readers : r / 8 % 2 ≡ flag x m 3

-- what is noted of the index that the word at place j of a table names
unfoldable pub named : List ℕ → List ℕ → ℕ → ℕ
named bs l j = bit_at bs (index (get_or l j 0))
