-- What a caller lends: a table, and a graph in two tables with its locks.
use Rattle.graph.specs.Words.{ℕ, List}
use Rattle.graph.specs.{Graph.Graph, Graph.graph_of, Literals.literals, declared.Lent.Lent, declared.table.Table.Table}

-- the literals of a table
abbrev pub lent_table : Table → List ℕ
lent_table t = literals t.indices.now t.bits.now

-- the graph of both tables
abbrev pub lent_graph : Lent → Graph
lent_graph g = graph_of g.inputs g.nodes g.outputs (lent_table g.node_table) (lent_table g.output_table)
