-- `tried_if_met` meets its contract. From the laws on trials.
use Rattle.graph.specs.Graph.{Graph}
use Rattle.graph.specs.Literals.{bit}
use Rattle.hidden.specs.Truth.{triple}
use Rattle.finder.proofs.Unfit.{none_tried}
use Rattle.finder.proofs.trying.tried_if_met.Goals as goal
use Rattle.finder.proofs.trying.tried_if_met.Goals.{Start}
use Rattle.finder.specs.Nodes.{nodes_in}

abbrev graph : Start → Graph
graph s = nodes_in s.args.graph.now

pub returns-then-met-c-eq0 : goal.returns-then-met-c-eq0
unfolding bit
returns-then-met-c-eq0 c =
    let a = c.args in
    none_tried (graph (goal.at.returns-then-met-c-eq0 c).Start) a.v a.scratch.now c.requires.3 (triple a.one a.two a.three) (c.requires.7 c.if-met-c-eq0.true)
