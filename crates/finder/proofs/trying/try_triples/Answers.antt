-- `try_triples` meets its contract: what is left to be tried gives the same. From the laws on trials.
use mathlib.Core.Path.{refl}
use mathlib.Core.List.{List, []}
use Prim.Native.Nat.{ℕ, suc}
use native.Mathlib.Omega.{arith}
use lib.ListN.{take}
use Rattle.graph.specs.Graph.{Graph}
use Rattle.hidden.specs.Find.{triples}
use Rattle.hidden.specs.Inner.{left₁}
use Rattle.hidden.proofs.Order.{left_all}
use Rattle.finder.proofs.Trials.{going_none, going_ready, going_on, going_found, going_end, firsts_next, firsts_end}
use Rattle.finder.proofs.trying.try_triples.Goals as goal
use Rattle.finder.proofs.trying.try_triples.Goals.{Start}
use Rattle.finder.specs.Nodes.{nodes_in}

abbrev graph : Start → Graph
graph s = nodes_in s.args.graph.now

abbrev near : Start → List ℕ
near s = take s.args.m s.args.list.now

pub loop-a-init : goal.loop-a-init
loop-a-init c =
    let a = c.args in
    (omega arith, going_none (graph (goal.at.loop-a-init c).Start) a.v (triples (near (goal.at.loop-a-init c).Start)) a.scratch.now _ (left_all (near (goal.at.loop-a-init c).Start)) c.requires.0.facts)

pub try_seconds-found-requires : goal.try_seconds-found-requires
try_seconds-found-requires c =
    let l = c.loop-a in
    let a = c.args in
    (going_ready (graph (goal.at.try_seconds-found-requires c).Start) a.v (triples (near (goal.at.try_seconds-found-requires c).Start)) a.scratch.now (left₁ (near (goal.at.try_seconds-found-requires c).Start) l.a) l.scratch l.invariant.1 a.m a.list.now c.requires.0, c.loop-a-test.true, c.requires.1)

pub returns-in-Some : goal.returns-in-Some
returns-in-Some c =
    let l = c.loop-a in
    let a = c.args in
    going_found (graph (goal.at.returns-in-Some c).Start) a.v (triples (near (goal.at.returns-in-Some c).Start)) a.scratch.now (left₁ (near (goal.at.returns-in-Some c).Start) l.a) l.scratch l.invariant.1 (left₁ (near (goal.at.returns-in-Some c).Start) l.a) (left₁ (near (goal.at.returns-in-Some c).Start) (suc l.a)) c.in-Some.trial.byte _ _ (refl) c.in-Some.ensures ([]) (omega arith)

pub loop-a-preserved : goal.loop-a-preserved
loop-a-preserved c =
    let t = c.loop-a-test.true in
    let l = c.loop-a in
    let a = c.args in (
      omega (arith, t),
      going_on (graph (goal.at.loop-a-preserved c).Start) a.v (triples (near (goal.at.loop-a-preserved c).Start)) a.scratch.now (left₁ (near (goal.at.loop-a-preserved c).Start) l.a) l.scratch l.invariant.1 (left₁ (near (goal.at.loop-a-preserved c).Start) l.a) (left₁ (near (goal.at.loop-a-preserved c).Start) (suc l.a)) 256 _ _ (refl) c.in_default.ensures _ (firsts_next a.m a.list.now c.requires.0.listed l.a) (omega arith),
    )

pub shape_of-scratch : goal.shape_of-scratch
shape_of-scratch c = c.loop-a.invariant.1.framed.same

pub returns : goal.returns
returns c =
    let l = c.loop-a in
    let a = c.args in
    going_end (graph (goal.at.returns c).Start) a.v (triples (near (goal.at.returns c).Start)) a.scratch.now (left₁ (near (goal.at.returns c).Start) l.a) l.scratch l.invariant.1 ([]) _ (firsts_end a.m a.list.now c.requires.0.listed l.a (omega (arith, c.loop-a-test.false, l.invariant.0)))
