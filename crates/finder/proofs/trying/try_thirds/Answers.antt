-- `try_thirds` meets its contract: what is left to be tried gives the same. From the laws on trials.
use mathlib.Core.Path.{◌∙◌}
use mathlib.Core.List.{List}
use Prim.Native.Nat.{ℕ, suc, ◌+◌, ◌*◌, ◌≤◌, ◌<◌}
use native.Mathlib.Omega.{arith}
use lib.ListN.{get_or, take}
use Rattle.graph.specs.Graph.{Graph, node}
use Rattle.hidden.specs.Truth.{Triple, triple}
use Rattle.hidden.specs.Inner.{left₂, left₃}
use Rattle.finder.proofs.Signatures.{sign_here}
use Rattle.finder.proofs.Near.{three_rise}
use Rattle.finder.proofs.Trials.{going_none, going_ready, going_read, tried_on, tried_found, going_end, third_step, thirds_begin, thirds_end, listed_room}
use Rattle.finder.proofs.trying.try_thirds.Goals as goal
use Rattle.finder.proofs.trying.try_thirds.Goals.{Start}
use Rattle.finder.specs.Nodes.{nodes_in}

abbrev graph : Start → Graph
graph s = nodes_in s.args.graph.now

abbrev near : Start → List ℕ
near s = take s.args.m s.args.list.now

low : (a b m l : ℕ) → a ≤ b → b < m → m ≤ l → a < l
low a b m l h k q = omega arith

self : (a : ℕ) → a ≤ a
self a = omega arith

under : (a b : ℕ) → a < b → a ≤ b
under a b h = omega arith

room : (n v l : ℕ) → n ≤ 100000 → v < n → 8 * n ≤ l → (v < 100000) × (7 < 8) × (8 * v + 7 < l)
room n v l b h k = (omega arith, omega arith, omega arith)

pub bounds-list-a : goal.bounds-list-a
bounds-list-a c = low _ _ _ _ (under _ _ c.requires.1) c.requires.2 c.requires.0.listed

pub bounds-list-b : goal.bounds-list-b
bounds-list-b c = low _ _ _ _ (self _) c.requires.2 c.requires.0.listed

pub read-w-requires : goal.read-w-requires
read-w-requires c = room c.args.graph.now.nodes c.args.v _ c.requires.0.admitted.few_nodes c.requires.0.within c.requires.0.room

pub sign_of-x-requires : goal.sign_of-x-requires
sign_of-x-requires c =
    let a = c.args in
    listed_room (graph (goal.at.sign_of-x-requires c).Start) a.v a.m a.list.now a.scratch.now c.requires.0 a.a (omega (arith, c.requires.1, c.requires.2))

pub sign_of-y-requires : goal.sign_of-y-requires
sign_of-y-requires c =
    let a = c.args in
    listed_room (graph (goal.at.sign_of-y-requires c).Start) a.v a.m a.list.now a.scratch.now c.requires.0 a.b c.requires.2

pub loop-c-init : goal.loop-c-init
loop-c-init c =
    let a = c.args in
    (omega arith, omega (arith, c.requires.2), going_none (graph (goal.at.loop-c-init c).Start) a.v (left₃ (near (goal.at.loop-c-init c).Start) a.a a.b (suc a.b)) a.scratch.now _ (thirds_begin a.m a.list.now c.requires.0.listed a.a a.b) c.requires.0.facts)

pub bounds-list-c : goal.bounds-list-c
bounds-list-c c = low _ _ _ _ (self _) c.loop-c-test.true c.requires.0.listed

pub tried_if_met-tried-requires : goal.tried_if_met-tried-requires
tried_if_met-tried-requires c =
    let w = c.read-w in
    let x = c.sign_of-x in
    let y = c.sign_of-y in
    let l = c.loop-c in
    let a = c.args in
    let r = going_ready (graph (goal.at.tried_if_met-tried-requires c).Start) a.v (left₃ (near (goal.at.tried_if_met-tried-requires c).Start) a.a a.b (suc a.b)) a.scratch.now (left₃ (near (goal.at.tried_if_met-tried-requires c).Start) a.a a.b l.c) l.scratch l.invariant.2 a.m a.list.now c.requires.0 in (
      r.admitted,
      r.room,
      r.within,
      r.facts,
      three_rise (node (graph (goal.at.tried_if_met-tried-requires c).Start) a.v) a.m a.list.now r.listed r.rising a.a a.b l.c c.requires.1 l.invariant.0 c.loop-c-test.true,
      going_read (graph (goal.at.tried_if_met-tried-requires c).Start) a.v (left₃ (near (goal.at.tried_if_met-tried-requires c).Start) a.a a.b (suc a.b)) a.scratch.now (left₃ (near (goal.at.tried_if_met-tried-requires c).Start) a.a a.b l.c) l.scratch l.invariant.2 _ _ w.result x.result y.result
          (record { signed = c.requires.0.signed; here = w.ensures ∙ sign_here (graph (goal.at.tried_if_met-tried-requires c).Start) a.v a.scratch.now; first = x.ensures; second = y.ensures }),
      omega (arith, c.requires.3, c.loop-c-test.true),
      c.requires.4 l.c l.invariant.0 c.loop-c-test.true,
    )

pub returns-in-Some : goal.returns-in-Some
returns-in-Some c =
    let t = c.loop-c-test.true in
    let l = c.loop-c in
    let a = c.args in
    let x : Triple = triple (get_or a.list.now a.a 0) (get_or a.list.now a.b 0) (get_or a.list.now l.c 0) in
    tried_found (graph (goal.at.returns-in-Some c).Start) a.v (left₃ (near (goal.at.returns-in-Some c).Start) a.a a.b (suc a.b)) a.scratch.now (left₃ (near (goal.at.returns-in-Some c).Start) a.a a.b l.c) l.scratch l.invariant.2 x (left₃ (near (goal.at.returns-in-Some c).Start) a.a a.b (l.c + 1)) c.in-Some.byte _
    (third_step a.m a.list.now c.requires.0.listed a.a a.b l.c c.requires.1 l.invariant.0 t) c.in-Some.ensures (left₂ (near (goal.at.returns-in-Some c).Start) a.a (suc a.b))
    (three_rise (node (graph (goal.at.returns-in-Some c).Start) a.v) a.m a.list.now c.requires.0.listed c.requires.0.rising a.a a.b l.c c.requires.1 l.invariant.0 t)
    (omega arith)

pub loop-c-preserved : goal.loop-c-preserved
loop-c-preserved c =
    let t = c.loop-c-test.true in
    let l = c.loop-c in
    let a = c.args in
    let x : Triple = triple (get_or a.list.now a.a 0) (get_or a.list.now a.b 0) (get_or a.list.now l.c 0) in (
      omega (arith, l.invariant.0),
      omega (arith, t),
      tried_on (graph (goal.at.loop-c-preserved c).Start) a.v (left₃ (near (goal.at.loop-c-preserved c).Start) a.a a.b (suc a.b)) a.scratch.now (left₃ (near (goal.at.loop-c-preserved c).Start) a.a a.b l.c) l.scratch l.invariant.2 x (left₃ (near (goal.at.loop-c-preserved c).Start) a.a a.b (l.c + 1)) 256 _
          (third_step a.m a.list.now c.requires.0.listed a.a a.b l.c c.requires.1 l.invariant.0 t) c.in_default.ensures (omega arith),
    )

pub shape_of-scratch : goal.shape_of-scratch
shape_of-scratch c = c.loop-c.invariant.2.framed.same

pub returns : goal.returns
returns c =
    let l = c.loop-c in
    let a = c.args in
    going_end (graph (goal.at.returns c).Start) a.v (left₃ (near (goal.at.returns c).Start) a.a a.b (suc a.b)) a.scratch.now (left₃ (near (goal.at.returns c).Start) a.a a.b l.c) l.scratch l.invariant.2 (left₂ (near (goal.at.returns c).Start) a.a (suc a.b)) _
    (thirds_end a.m a.list.now c.requires.0.listed a.a a.b l.c (omega (arith, c.loop-c-test.false, l.invariant.1)))
