-- Complemented edges, and readers.
use Rattle.std.specs.Prelude.{◌+◌, ◌*◌, ◌%◌, ◌&&◌}
use Rattle.graph.specs.Words.{ℕ, Bool, cond, eqb}
use Rattle.graph.specs.{Finite.sum, Finite.count, Graph.Graph, Graph.mark, Graph.word, Graph.output, Graph.index, Graph.complement, Graph.is_edge}

-- what a literal adds to C: an edge from the constant is one like any other
unfoldable pub adds : ℕ → ℕ
adds x = complement x

-- what the word x at place j of a node table adds to C: the mark is no edge, though it is odd
unfoldable pub word_adds : ℕ → ℕ → ℕ
word_adds j x = cond (eqb (j % 3) 2 && eqb x mark) 0 (adds x)

unfoldable pub node_adds : Graph → ℕ → ℕ
node_adds g j = word_adds j (word g j)

unfoldable pub output_adds : Graph → ℕ → ℕ
output_adds g j = adds (output g j)

-- C (document 01's term): how many edges are complemented
unfoldable pub C : Graph → ℕ
C g = sum (3 * g.N) (node_adds g) + sum g.O (output_adds g)

-- the word at place j names index u; the mark names nothing
unfoldable pub named : Graph → ℕ → ℕ → Bool
named g u j = is_edge g j && eqb (index (word g j)) u

unfoldable pub output_named : Graph → ℕ → ℕ → Bool
output_named g u j = eqb (index (output g j)) u

-- the readers of index u: the words of the node table that name it, and with them those of the output table
unfoldable pub node_readers : Graph → ℕ → ℕ
node_readers g u = count (3 * g.N) (named g u)

unfoldable pub readers : Graph → ℕ → ℕ
readers g u = node_readers g u + count g.O (output_named g u)
