-- No promise to a caller: the graph that lent nodes make, without outputs.
use Rattle.graph.specs.{Graph.Graph, Tables.lent_table}
use Rattle.evaluation.specs.Inner.{nodes_of}
use Rattle.finder.specs.declared.nodes.Nodes.{Nodes}

abbrev pub nodes_in : Nodes → Graph
nodes_in n = nodes_of n.inputs n.nodes (lent_table n.table)
