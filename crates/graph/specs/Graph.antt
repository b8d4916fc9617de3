-- The graph as document 01 holds it: numbers of inputs, nodes and outputs, and two tables of words.
use Rattle.std.specs.Prelude.{◌+◌, ◌*◌, ◌/◌, ◌%◌, ◌&&◌}
use Rattle.graph.specs.Words.{ℕ, Bool, not, cond, List, eqb, length, get_or}
use Rattle.graph.specs.Finite.{tab}

-- I inputs, N nodes and O outputs, with both whole tables. Only the first 3 × N words of `nodes` and the first O of
-- `outputs` belong to the graph; what follows them is the tables' tails.
pub record Graph : Type 0 where
  pub I : ℕ
  pub N : ℕ
  pub O : ℕ
  pub nodes : List ℕ
  pub outputs : List ℕ

-- the graph of what an entry is lent
abbrev pub graph_of : ℕ → ℕ → ℕ → List ℕ → List ℕ → Graph
graph_of i n o ns os = record { I = i; N = n; O = o; nodes = ns; outputs = os }

-- the mark (document 01's term): the third word of an XOR
abbrev pub mark : ℕ
mark = 4294967295

-- a literal is 2 × index, plus 1 if complemented
abbrev pub index : ℕ → ℕ
index x = x / 2

abbrev pub complement : ℕ → ℕ
complement x = x % 2

-- a literal turned t times (document 01's term): its complement bit changed t times
unfoldable pub turn : ℕ → ℕ → ℕ
turn t x = x / 2 * 2 + (x + t) % 2

-- index 0 is the constant false, 1 to I are inputs; node v, counted from 0, has the index I + 1 + v
abbrev pub node : Graph → ℕ → ℕ
node g v = g.I + 1 + v

-- the word at place j of the node table, three a node; and of the output table
abbrev pub word : Graph → ℕ → ℕ
word g j = get_or g.nodes j 0

abbrev pub output : Graph → ℕ → ℕ
output g j = get_or g.outputs j 0

-- node v is an XOR of its first two words; any other node is a majority of its three
unfoldable pub is_xor : Graph → ℕ → Bool
is_xor g v = eqb (word g (3 * v + 2)) mark

-- the word at place j of the node table is an edge: it is not a third word that is the mark
unfoldable pub is_edge : Graph → ℕ → Bool
is_edge g j = not (eqb (j % 3) 2 && eqb (word g j) mark)

-- the wiring: I, N and O, and tables with every word's index and every mark, without complement bits and tails
unfoldable pub wire : Graph → ℕ → ℕ
wire g j = cond (is_edge g j) (index (word g j)) mark

unfoldable pub output_wire : Graph → ℕ → ℕ
output_wire g j = index (output g j)

unfoldable pub wiring : Graph → Graph
wiring g = graph_of g.I g.N g.O (tab (3 * g.N) (wire g)) (tab g.O (output_wire g))

-- a table of words, word j turned t j times
unfoldable pub turned_table : List ℕ → (ℕ → ℕ) → List ℕ
turned_table l t = tab (length l) (λ j. turn (t j) (get_or l j 0))

-- the same graph, word j of the node table turned t j times, and of the output table o j times. Every rewriting is one of these
unfoldable pub turned_by : Graph → (ℕ → ℕ) → (ℕ → ℕ) → Graph
turned_by g t o = graph_of g.I g.N g.O (turned_table g.nodes t) (turned_table g.outputs o)
