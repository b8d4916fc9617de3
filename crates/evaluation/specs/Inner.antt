-- What the inner functions say, and no promise to a caller: words by index, of which bit place j has the values under the
-- assignment of place j.
use Rattle.std.specs.Prelude.{◌≡◌, List, [], ◌∷◌, ◌++◌, map, ℕ, ◌+◌, ◌*◌, ◌<◌, ◌≤◌, get_or, take}
use Rattle.graph.specs.Graph.{Graph, graph_of, mark, index}
use Rattle.graph.specs.Literals.{bit, held}
use Rattle.graph.specs.Value.{literal_value, values}
use Rattle.evaluation.specs.Word.{gather}
use Rattle.evaluation.specs.Evaluation.{assignment_at}

-- the words by index: the constant's, the inputs' and those of the nodes so far
unfoldable pub by_index : ℕ → List ℕ → List ℕ → List ℕ
by_index i words node_words = 0 ∷ (take i words ++ node_words)

-- bit j of each word
unfoldable pub column : ℕ → List ℕ → List ℕ
column j ws = map (bit j) ws

-- the word of the literal x, where ws has the word of index i at place i
unfoldable pub literal_word : List ℕ → ℕ → ℕ
literal_word ws x = gather (λ j. literal_value (column j ws) x) 64

-- the same of the literal at place o of an output table
unfoldable pub output_word_from : List ℕ → List ℕ → ℕ → ℕ
output_word_from ws outputs o = literal_word ws (get_or outputs o 0)

-- the graph of a node table alone: a node's value does not look at outputs
abbrev pub nodes_of : ℕ → ℕ → List ℕ → Graph
nodes_of i n table = graph_of i n 0 table []

-- the words of node v are there, and name indices below its own; the third may be the mark
pub record NodeBelow (i : ℕ) (table : List ℕ) (v : ℕ) : Type 0 where
  pub there : 3 * v + 2 < held table
  pub few : i + v < 2147483647
  pub first : index (get_or table (3 * v) 0) < i + 1 + v
  pub second : index (get_or table (3 * v + 1) 0) < i + 1 + v
  pub third : (get_or table (3 * v + 2) 0 ≡ mark → ⊥) → index (get_or table (3 * v + 2) 0) < i + 1 + v

-- a literal that is no mark, of whose index there is a word
abbrev pub Named : (ℕ → Type 0) → ℕ → Type 0
Named can x = (index x < 2147483647) × can (index x)

-- the words of node v are there, and of each index that they name there is a word
pub record NodeNamed (can : ℕ → Type 0) (table : List ℕ) (v : ℕ) : Type 0 where
  pub there : 3 * v + 2 < held table
  pub few : v ≤ 100000
  pub first : Named can (get_or table (3 * v) 0)
  pub second : Named can (get_or table (3 * v + 1) 0)
  pub third : (get_or table (3 * v + 2) 0 ≡ mark → ⊥) → Named can (get_or table (3 * v + 2) 0)

-- node_words are the words of the first n nodes: bit place j has the values under the assignment of place j
abbrev pub NodeWords : Graph → List ℕ → List ℕ → ℕ → Type 0
NodeWords g words node_words n = (j : ℕ) → j < 64 → column j (by_index g.I words node_words) ≡ values g (assignment_at words j) n

-- where the front of s had the words of the first v nodes, that of t has those of the first u
abbrev pub Filled : ℕ → List ℕ → List ℕ → List ℕ → ℕ → List ℕ → ℕ → Type 0
Filled i table words s v t u = (n : ℕ) → NodeWords (nodes_of i n table) words (take v s) v → NodeWords (nodes_of i n table) words (take u t) u

-- the front of s has the words of all indices below node v, each at its index: those of the constant and the inputs first
pub record Front (g : Graph) (words s : List ℕ) (v : ℕ) : Type 0 where
  pub low : take (g.I + 1) s ≡ by_index g.I words []
  pub rows : (j : ℕ) → j < 64 → column j (take (g.I + 1 + v) s) ≡ values g (assignment_at words j) v
