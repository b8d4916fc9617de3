-- `number` meets its contract. From the contracts of what it calls.
use Rattle.graph.specs.Graph.{Graph}
use Rattle.hidden.specs.Drop.{live}
use Rattle.finder.proofs.dropping.number.Goals as goal
use Rattle.finder.proofs.dropping.number.Goals.{Start}
use Rattle.graph.specs.Tables.{lent_graph}

abbrev graph : Start → Graph
graph s =
    let a = s.args in
    lent_graph a.lent.now

pub returns : goal.returns
returns c =
    let a = c.args in
    let r = c.number_living.ensures.1 (live (graph (goal.at.returns c).Start) a.lent.now.locks.now) c.mark_living.ensures in
    (c.number_living.ensures.0, r.0, r.1)
