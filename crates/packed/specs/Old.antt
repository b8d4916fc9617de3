-- M-108. What a list of literals tells of the two slices that it was read from: every word of both, and C by the words of bits. Then the graph that a
-- packed one was before, the old one, in two tables of literals, 3 × N and O of them: which numbers refuse both, and what it means that a call
-- answers on both alike and leaves graphs that correspond.
use Rattle.std.specs.Prelude.{◌+◌, ◌*◌, ◌≤◌, ◌<◌, ◌≡◌, ◌⊎◌}
use Rattle.graph.specs.All.{ℕ, List, length, get_or, take, tab, if_equal, first, first_of, Graph, graph_of, mark, index, word, output, bit_at, index_at, literals, graph_in, held, bit_of, words_for, strays, room_number, tables_number, word_number, output_number, locks_number, content_number, admission_number, Admitted, C, ones_in}
use Rattle.evaluation.specs.All.{gather}

-- a slice of indices has words of 32 bits, and one of complement bits words of 64
abbrev pub Indices : List ℕ → Type 0
Indices us = (j : ℕ) → get_or us j 0 < 4294967296

abbrev pub BitWords : List ℕ → Type 0
BitWords bs = (k : ℕ) → get_or bs k 0 < 18446744073709551616

-- two lent tables of equal lengths whose literals are the same are the same, word for word
abbrev pub TellsAll : (us bs vs ds : List ℕ) → Type 0
TellsAll us bs vs ds =
    Indices us → Indices vs → BitWords bs → BitWords ds → length us ≡ length vs → length bs ≡ length ds
    → literals us bs ≡ literals vs ds → (us ≡ vs) × (bs ≡ ds)

-- the number of complemented edges is the number of ones in the words that the graph needs of both tables
abbrev pub OnesAreC : ℕ → ℕ → ℕ → (us bs vs ds : List ℕ) → Type 0
OnesAreC i n o us bs vs ds =
    Admitted (graph_in i n o us bs vs ds) → BitWords bs → BitWords ds
    → C (graph_in i n o us bs vs ds) ≡ ones_in (words_for (3 * n)) bs + ones_in (words_for o) ds

-- n literals of a packed table: 2 × index + bit, and the mark as it was
unfoldable pub old_table : ℕ → List ℕ → List ℕ → List ℕ
old_table n us bs = tab n (λ j. if_equal (index_at us j) mark mark (2 * index_at us j + bit_at bs j))

abbrev pub old_graph : ℕ → ℕ → ℕ → List ℕ → List ℕ → List ℕ → List ℕ → Graph
old_graph i n o us bs vs ds = graph_of i n o (old_table (3 * n) us bs) (old_table o vs ds)

-- what refused a graph in tables of literals, before there were bits beside them: 3 and 4, by the lengths of tables and locks; 5 and 13, by
-- literals and lock bytes; and the first of these
unfoldable pub old_tables_number : Graph → List ℕ → ℕ
old_tables_number g ls = room_number g.I g.N g.O (length g.nodes) (length g.outputs) (length ls)

unfoldable pub old_content_number : Graph → List ℕ → ℕ
old_content_number g ls = first (first (first_of (3 * g.N) (word_number g)) (first_of g.O (output_number g))) (locks_number g.N ls)

unfoldable pub old_number : Graph → List ℕ → ℕ
old_number g ls = first (old_tables_number g ls) (old_content_number g ls)

-- a graph in tables of 3 × N and O words of 32 bits
pub record IsOld (g : Graph) : Type 0 where
  pub nodes_long : length g.nodes ≡ 3 * g.N
  pub outputs_long : length g.outputs ≡ g.O
  pub words : (j : ℕ) → j < 3 * g.N → word g j < 4294967296
  pub output_words : (j : ℕ) → j < g.O → output g j < 4294967296

-- what refuses such a graph now is what refused it then, so that each call's definition says of it what it said
pub record SameRule (g : Graph) (ls : List ℕ) : Type 0 where
  pub tables : IsOld g → tables_number g ls ≡ old_tables_number g ls
  pub content : IsOld g → content_number g ls ≡ old_content_number g ls

-- a packed table of n literals: there is room for them, no bit is set past the last of them in its word, and each is an index below
-- 2,147,483,647 or a mark whose bit is 0
pub record Packed (n : ℕ) (us bs : List ℕ) : Type 0 where
  pub room : n ≤ held (literals us bs)
  pub clean : strays n (literals us bs) ≡ 0
  pub unpacks : (j : ℕ) → j < n → (index_at us j < 2147483647) ⊎ ((index_at us j ≡ mark) × (bit_at bs j ≡ 0))

-- of two such tables, the old graph is one in tables of literals, and both graphs are refused by the same number, or both admitted
pub record RefusedAlike (i n o : ℕ) (us bs vs ds : List ℕ) : Type 0 where
  pub is_old : Packed (3 * n) us bs → Packed o vs ds → IsOld (old_graph i n o us bs vs ds)
  pub number : Packed (3 * n) us bs → Packed o vs ds → (ls : List ℕ) → admission_number (graph_in i n o us bs vs ds) ls ≡ old_number (old_graph i n o us bs vs ds) ls
  -- an admitted packed graph has no others
  pub always : Admitted (graph_in i n o us bs vs ds) → Packed (3 * n) us bs × Packed o vs ds

-- a table of literals packed: its indices, with each mark, and its bits, 64 to a word
unfoldable pub indices_of : List ℕ → List ℕ
indices_of l = tab (length l) (λ j. if_equal (get_or l j 0) mark mark (index (get_or l j 0)))

unfoldable pub bits_of : List ℕ → List ℕ
bits_of l = tab (words_for (length l)) (λ k. gather (λ m. bit_of (get_or l (64 * k + m) 0)) 64)

-- every graph in tables of literals is the old graph of its packed one, which is admitted where it was
pub record EveryOld (g : Graph) (ls : List ℕ) : Type 0 where
  pub back : IsOld g → old_graph g.I g.N g.O (indices_of g.nodes) (bits_of g.nodes) (indices_of g.outputs) (bits_of g.outputs) ≡ g
  pub admitted : IsOld g → old_number g ls ≡ 0
      → admission_number (graph_in g.I g.N g.O (indices_of g.nodes) (bits_of g.nodes) (indices_of g.outputs) (bits_of g.outputs)) ls ≡ 0

-- what is told of an admitted packed graph is told of its old one
abbrev pub ToldAlike : {A : Type 0} → (Graph → A) → Type 0
ToldAlike tells =
    (i n o : ℕ) (us bs vs ds : List ℕ) → Admitted (graph_in i n o us bs vs ds) → tells (old_graph i n o us bs vs ds) ≡ tells (graph_in i n o us bs vs ds)

-- and a call that leaves graphs corresponds: where it leaves the words of bits cs and es beside the indices as they were, it leaves, of the old
-- graph, the old graph of these
abbrev pub InStep : {A : Type 0} → (Graph → A) → (Graph → Graph) → Type 0
InStep tells after =
    (i n o : ℕ) (us bs vs ds cs es : List ℕ) → Admitted (graph_in i n o us bs vs ds) → after (graph_in i n o us bs vs ds) ≡ graph_in i n o us cs vs es
    → (tells (old_graph i n o us bs vs ds) ≡ tells (graph_in i n o us bs vs ds)) × (after (old_graph i n o us bs vs ds) ≡ old_graph i n o us cs vs es)

-- trimmed (the team's term): a graph in tables without their tails
abbrev pub trimmed : Graph → Graph
trimmed g = graph_of g.I g.N g.O (take (3 * g.N) g.nodes) (take g.O g.outputs)

-- the same of a call that may rewire, and leave m nodes: the old graph's tables are as long as they were, so that what belongs to the graph is
-- told, without their tails
abbrev pub InGraph : {A : Type 0} → (Graph → A) → (Graph → Graph) → Type 0
InGraph tells after =
    (i n o m : ℕ) (us bs vs ds ws cs xs es : List ℕ) → Admitted (graph_in i n o us bs vs ds) → after (graph_in i n o us bs vs ds) ≡ graph_in i m o ws cs xs es
    → (tells (old_graph i n o us bs vs ds) ≡ tells (graph_in i n o us bs vs ds)) × (trimmed (after (old_graph i n o us bs vs ds)) ≡ old_graph i m o ws cs xs es)
