-- `set_sign` meets its contract. From the laws on signatures.
use Rattle.graph.specs.Graph.{Graph}
use Rattle.finder.proofs.Signatures.{sign_set}
use Rattle.finder.proofs.signs.set_sign.Goals as goal
use Rattle.finder.proofs.signs.set_sign.Goals.{Start}
use Rattle.finder.specs.Nodes.{nodes_in}

abbrev graph : Start → Graph
graph s = nodes_in s.args.graph.now

pub returns : goal.returns
returns c =
    sign_set (graph (goal.at.returns c).Start) c.requires.0 c.args.v c.requires.2 c.args.scratch.now c.node_sign-w.result _ c.node_sign-w.ensures c.store.ensures
