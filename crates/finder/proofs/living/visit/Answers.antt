-- `visit` meets its contract: the node's lock, then what it names where it is marked. From the laws on marks.
use Prim.Native.Nat.{ℕ, ◌≤◌, ◌<◌}
use native.Mathlib.Omega.{arith}
use Rattle.graph.specs.Graph.{Graph}
use Rattle.finder.proofs.Marks.{living_lock, living_past, living_node}
use Rattle.finder.proofs.living.visit.Goals as goal
use Rattle.finder.proofs.living.visit.Goals.{Start}
use Rattle.graph.specs.Tables.{lent_graph}

abbrev graph : Start → Graph
graph s =
    let a = s.args in
    lent_graph a.lent.now

below : (v n l : ℕ) → v < n → n ≤ l → v < l
below v n l h k = omega arith

pub mark_locked-requires : goal.mark_locked-requires
mark_locked-requires c = (below _ _ _ c.requires.2 c.requires.1.enough, below _ _ _ c.requires.2 c.requires.3.long)

pub bounds-scratch-v : goal.bounds-scratch-v
bounds-scratch-v c =
    let a = c.args in
    let l = living_lock (graph (goal.at.bounds-scratch-v c).Start) c.requires.0 a.lent.now.locks.now a.v c.requires.2 a.scratch.now _ c.requires.3 c.mark_locked.ensures in
    below _ _ _ c.requires.2 l.0.long

pub returns-then-scratch-v-ne1 : goal.returns-then-scratch-v-ne1
returns-then-scratch-v-ne1 c =
    let a = c.args in
    let l = living_lock (graph (goal.at.returns-then-scratch-v-ne1 c).Start) c.requires.0 a.lent.now.locks.now a.v c.requires.2 a.scratch.now _ c.requires.3 c.mark_locked.ensures in
    living_past (graph (goal.at.returns-then-scratch-v-ne1 c).Start) c.requires.0 a.lent.now.locks.now a.v c.requires.2 _ l.0 l.1 c.if-scratch-v-ne1.true

pub mark_named-requires : goal.mark_named-requires
mark_named-requires c =
    let a = c.args in
    let l = living_lock (graph (goal.at.mark_named-requires c).Start) c.requires.0 a.lent.now.locks.now a.v c.requires.2 a.scratch.now _ c.requires.3 c.mark_locked.ensures in
    (c.requires.0, c.requires.2, l.0.long)

pub returns : goal.returns
returns c =
    let a = c.args in
    let l = living_lock (graph (goal.at.returns c).Start) c.requires.0 a.lent.now.locks.now a.v c.requires.2 a.scratch.now _ c.requires.3 c.mark_locked.ensures in
    living_node (graph (goal.at.returns c).Start) c.requires.0 a.lent.now.locks.now a.v c.requires.2 _ l.0 l.1 _ c.mark_named.ensures c.if-scratch-v-ne1.false
