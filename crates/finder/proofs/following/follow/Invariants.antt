-- `follow` meets its contract: the way has come to an index by the places met so far. From the laws on ways.
use Rattle.finder.specs.Meeting.{Comes}
use Rattle.finder.proofs.following.follow.Given as goal
use Rattle.finder.specs.Nodes.{nodes_in}

abbrev pub invariant-loop-far : goal.invariant-loop-far
invariant-loop-far l = Comes (nodes_in l.graph) l.v l.m l.list l.x l.mask
