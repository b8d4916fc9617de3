-- `tried_if_fit` meets its contract. From the laws on signatures.
use native.Mathlib.Omega.{arith}
use Rattle.graph.specs.Graph.{Graph}
use Rattle.hidden.specs.Truth.{Triple, triple}
use Rattle.finder.proofs.Signatures.{sign_room}
use Rattle.finder.proofs.Unfit.{unfit_read}
use Rattle.finder.proofs.trying.tried_if_fit.Goals as goal
use Rattle.finder.proofs.trying.tried_if_fit.Goals.{Start}
use Rattle.finder.specs.Nodes.{nodes_in}

abbrev graph : Start → Graph
graph s = nodes_in s.args.graph.now

abbrev three : Start → Triple
three s = triple s.args.one s.args.two s.args.three

pub sign_of-z-requires : goal.sign_of-z-requires
sign_of-z-requires c =
    sign_room (graph (goal.at.sign_of-z-requires c).Start) c.requires.0 c.args.v c.requires.2 c.args.three _ c.requires.1 (omega (arith, c.requires.4.below))

pub tried-requires : goal.tried-requires
tried-requires c = let p = c.requires in (p.0, p.1, p.2, p.3, p.4)

pub returns-then-could_be : goal.returns-then-could_be
returns-then-could_be c = c.tried.ensures

pub returns : goal.returns
returns c =
    let d = c.could_be in
    let z = c.sign_of-z in
    let a = c.args in
    unfit_read (graph (goal.at.returns c).Start) c.requires.0 a.v c.requires.2 a.scratch.now c.requires.3 (three (goal.at.returns c).Start) c.requires.4 a.w a.x a.y z.result c.requires.5 z.ensures d.result d.ensures c.if-could_be.false
