-- Words by the new indices that scratch has. What the inner functions ask of each other, and no promise to a caller.
use Rattle.std.specs.Prelude.{◌≡◌, Bool, true, false, cond, ◌&&◌, ◌≢◌, ◌⊎◌, List, ℕ, ◌+◌, ◌-◌, ◌*◌, ◌/◌, ◌%◌, ◌≤◌, ◌<◌, eqb, length, get_or, set}
use Rattle.graph.specs.Finite.{if_less}
use Rattle.graph.specs.Graph.{Graph, graph_of, mark, word, index}
use Rattle.hidden.specs.Drop.{new_word, new_nodes, new_locks}
use Rattle.finder.specs.Numbering.{rank_of, Numbers}

-- the literal x, of a graph with i inputs
unfoldable pub renumber_by : ℕ → List ℕ → ℕ → ℕ
renumber_by i sc x = if_less i (x / 2) (2 * get_or sc (x / 2 - (i + 1)) 0 + x % 2) x

-- the word at place j of a node table: the mark stays
unfoldable pub moved_word : ℕ → List ℕ → List ℕ → ℕ → ℕ
moved_word i sc ns j = cond (eqb (j % 3) 2 && eqb (get_or ns j 0) mark) (get_or ns j 0) (renumber_by i sc (get_or ns j 0))

-- x is a literal, and what it names has a number that a literal can hold
pub record Holds (i : ℕ) (sc : List ℕ) (x : ℕ) : Type 0 where
  pub low : index x < 2147483647
  pub number : i < index x → (index x < i + 1 + length sc) × (get_or sc (index x - (i + 1)) 0 < 1000000)

-- the first k words of a table of outputs by their new indices, the others as they were
pub record OutputsMoved (i k : ℕ) (sc os os' : List ℕ) : Type 0 where
  pub same : length os' ≡ length os
  pub done : (j : ℕ) → j < k → get_or os' j 0 ≡ renumber_by i sc (get_or os j 0)
  pub due : (j : ℕ) → k ≤ j → get_or os' j 0 ≡ get_or os j 0

-- each word of node v is the mark, or a literal that can be renumbered
abbrev pub NodeHolds : ℕ → List ℕ → List ℕ → ℕ → Type 0
NodeHolds i sc ns v = (k : ℕ) → k < 3 → (eqb ((3 * v + k) % 3) 2 && eqb (get_or ns (3 * v + k) 0) mark) ≡ false → Holds i sc (get_or ns (3 * v + k) 0)

-- node v moved to the place of node t
unfoldable pub moved_node : ℕ → List ℕ → List ℕ → ℕ → ℕ → List ℕ
moved_node i sc ns v t =
    set (set (set ns (3 * t) (moved_word i sc ns (3 * v + 0))) (3 * t + 1) (moved_word i sc ns (3 * v + 1))) (3 * t + 2) (moved_word i sc ns (3 * v + 2))

-- node v left, or moved to the place t with its lock; r places are taken then
pub record Left (sc : List ℕ) (v t r : ℕ) (ns ls ns' ls' : List ℕ) : Type 0 where
  pub dead : get_or sc v 0 ≡ 0
  pub count : r ≡ t
  pub words : ns' ≡ ns
  pub locks : ls' ≡ ls

pub record Taken (i : ℕ) (sc : List ℕ) (v t r : ℕ) (ns ls ns' ls' : List ℕ) : Type 0 where
  pub lives : get_or sc v 0 ≢ 0
  pub count : r ≡ t + 1
  pub words : ns' ≡ moved_node i sc ns v t
  pub locks : ls' ≡ set ls t (get_or ls v 0)

abbrev pub Shifted : ℕ → List ℕ → ℕ → ℕ → ℕ → List ℕ → List ℕ → List ℕ → List ℕ → Type 0
Shifted i sc v t r ns ls ns' ls' = Left sc v t r ns ls ns' ls' ⊎ Taken i sc v t r ns ls ns' ls'

-- the first v nodes of g, with the locks ls₀, have been moved together as l says
pub record Compacted (g : Graph) (l : ℕ → Bool) (ls₀ : List ℕ) (v t : ℕ) (ns ls : List ℕ) : Type 0 where
  pub same : length ns ≡ length g.nodes
  pub same_locks : length ls ≡ length ls₀
  pub count : t ≡ rank_of l v
  pub done : (w k : ℕ) → w < v → l w ≡ true → k < 3 → get_or ns (3 * rank_of l w + k) 0 ≡ new_word g l (3 * w + k)
  pub due : (j : ℕ) → 3 * t ≤ j → get_or ns j 0 ≡ word g j
  pub locks_done : (w : ℕ) → w < v → l w ≡ true → get_or ls (rank_of l w) 0 ≡ get_or ls₀ w 0
  pub locks_due : (j : ℕ) → t ≤ j → get_or ls j 0 ≡ get_or ls₀ j 0

-- what is known where the nodes of g are moved
pub record Moves (g : Graph) (l : ℕ → Bool) (sc : List ℕ) : Type 0 where
  pub numbers : Numbers g.I l g.N sc
  pub words : (v k : ℕ) → v < g.N → l v ≡ true → k < 3 → moved_word g.I sc g.nodes (3 * v + k) ≡ new_word g l (3 * v + k)

-- the places from a to b are 0 now, the others as they were
pub record Cleared (a b : ℕ) (xs xs' : List ℕ) : Type 0 where
  pub same : length xs' ≡ length xs
  pub zero : (j : ℕ) → a ≤ j → j < b → get_or xs' j 0 ≡ 0
  pub below : (j : ℕ) → j < a → get_or xs' j 0 ≡ get_or xs j 0
  pub above : (j : ℕ) → b ≤ j → get_or xs' j 0 ≡ get_or xs j 0

-- the nodes of a table that have numbers stand together, with their locks, and all behind them up to the n-th is 0; the same for all that goes
-- by them
abbrev pub Cut : ℕ → ℕ → List ℕ → List ℕ → List ℕ → List ℕ → List ℕ → Type 0
Cut i n sc ns ls ns' ls' =
    (o : ℕ) (os : List ℕ) (l : ℕ → Bool) → Moves (graph_of i n o ns os) l sc → (ns' ≡ new_nodes (graph_of i n o ns os) l) × (ls' ≡ new_locks (graph_of i n o ns os) ls l)
