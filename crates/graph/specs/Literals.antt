-- How a table is lent: the indices of its literals in one slice, and in words of 64 bits beside it their complement bits, place j at
-- bit j % 64 of word j / 64. Both slices together are one list of what stands at each place, and every definition of a graph is over such
-- lists. No two contents of the slices make the same list, so that an equation between two graphs speaks of every lent word.
use Rattle.std.specs.Prelude.{◌+◌, ◌-◌, ◌*◌, ◌/◌, ◌%◌, ◌^◌, ◌++◌}
use Rattle.graph.specs.Words.{ℕ, min, max, List, ltb, length, get_or, drop, ones}
use Rattle.std.specs.Borrow.{Bor}
use denote.Triple.Both.{Both}
use Rattle.graph.specs.{Finite.tab, Finite.sum, Finite.count, Finite.if_less, Finite.if_equal, Graph.Graph, Graph.graph_of, Graph.mark}

-- bit k of a word, and bit j of a list of words
unfoldable pub bit : ℕ → ℕ → ℕ
bit k w = w / 2 ^ k % 2

unfoldable pub bit_at : List ℕ → ℕ → ℕ
bit_at bs j = bit (j % 64) (get_or bs (j / 64) 0)

-- what stands at place j of a list of indices: a word of 32 bits, and so at most the mark
unfoldable pub index_at : List ℕ → ℕ → ℕ
index_at us j = min (get_or us j 0) mark

-- what the index u says with the bit b: the literal 2 × u + b, and the mark where u is the mark and its bit is 0. A mark with a bit, and an
-- index from 2,147,483,647 on, are no words of a graph: they are told by numbers above those that are.
unfoldable pub literal_of : ℕ → ℕ → ℕ
literal_of u b =
    if_less u 2147483647 (2 * u + b)
    (if_equal (2 * u + b) (2 * mark) mark
    (4294967296 + 2 * u + b))

-- what both say at place j. Where the indices or the bits have ended there is no literal, and what is left of both is told from 2 to the
-- 40th on.
unfoldable pub literal_at : List ℕ → List ℕ → ℕ → ℕ
literal_at us bs j =
    if_less j (min (length us) (64 * length bs))
    (literal_of (index_at us j) (bit_at bs j))
    (1099511627776 + 2 * index_at us j + bit_at bs j)

-- the table: every place that has an index or a bit
unfoldable pub literals : List ℕ → List ℕ → List ℕ
literals us bs = tab (max (length us) (64 * length bs)) (literal_at us bs)

-- the graph of what an entry is lent: both tables with their bits
abbrev pub graph_in : ℕ → ℕ → ℕ → List ℕ → List ℕ → List ℕ → List ℕ → Graph
graph_in i n o us bs vs ds = graph_of i n o (literals us bs) (literals vs ds)

-- how many places of a table have both an index and a bit
unfoldable pub held : List ℕ → ℕ
held l = count (length l) (λ j. ltb (get_or l j 0) 1099511627776)

-- the bit of what stands at a place: the mark has none
unfoldable pub bit_of : ℕ → ℕ
bit_of x = if_equal x mark 0 (x % 2)

-- how many words the bits of n places take
abbrev pub words_for : ℕ → ℕ
words_for n = (n + 63) / 64

-- how many bits are set past the first n places in the last word of these
unfoldable pub strays : ℕ → List ℕ → ℕ
strays n l = sum (64 * words_for n - n) (λ k. bit_of (get_or l (n + k) 0))

-- how many bits are set in the first m words
unfoldable pub ones_in : ℕ → List ℕ → ℕ
ones_in m bs = sum m (λ k. ones (get_or bs k 0))

-- what stands at a place, with its bit cleared: a mark with a bit is then the mark
unfoldable pub evened : ℕ → ℕ
evened x = if_equal x mark mark (if_equal x (literal_of mark 1) mark (x / 2 * 2))

-- a table with the bits of the first m words cleared
unfoldable pub cleared : ℕ → List ℕ → List ℕ
cleared m l = tab (length l) (λ j. if_less j (64 * m) (evened (get_or l j 0)) (get_or l j 0))

-- a table whose first words are ws: later ones are left, but for the bits past the last of ws in its word, which are cleared
unfoldable pub filled : List ℕ → List ℕ → List ℕ
filled ws l = ws ++ drop (length ws) (cleared (words_for (length ws)) l)

-- What a contract says of a lent place: what it holds when the call begins, and when it has ended
abbrev pub before : {X : Type 0} → Both (Bor X) (Bor X) → X
before x = x.entry.now

abbrev pub after : {X : Type 0} → Both (Bor X) (Bor X) → X
after x = x.exit.now

-- so of a table in two slices, and of a graph in two tables
abbrev pub Slice : Type 0
Slice = Both (Bor (List ℕ)) (Bor (List ℕ))

abbrev pub table_before : Slice → Slice → List ℕ
table_before us bs = literals (before us) (before bs)

abbrev pub table_after : Slice → Slice → List ℕ
table_after us bs = literals (after us) (after bs)

abbrev pub graph_before : ℕ → ℕ → ℕ → (us bs vs ds : Slice) → Graph
graph_before i n o us bs vs ds = graph_of i n o (table_before us bs) (table_before vs ds)

abbrev pub graph_after : ℕ → ℕ → ℕ → (us bs vs ds : Slice) → Graph
graph_after i n o us bs vs ds = graph_of i n o (table_after us bs) (table_after vs ds)
