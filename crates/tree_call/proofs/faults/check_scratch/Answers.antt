-- Eight words a node.
use Rattle.graph.specs.Graph.{graph_of}
use Rattle.tree_call.proofs.Refused.{short_scratch, long_scratch}
use Rattle.tree_call.proofs.faults.check_scratch.Goals as goal

pub returns-then-length-nodes : goal.returns-then-length-nodes
returns-then-length-nodes c = λ i o ns os. short_scratch (graph_of i c.args.nodes o ns os) c.args.length c.if-length-nodes.true

pub returns : goal.returns
returns c = λ i o ns os. long_scratch (graph_of i c.args.nodes o ns os) c.args.length c.if-length-nodes.false
