-- `try_seconds` meets its contract: what is left to be tried gives the same. From the laws on trials.
use mathlib.Core.List.{List}
use Prim.Native.Nat.{ℕ, suc}
use native.Mathlib.Omega.{arith}
use lib.ListN.{take}
use Rattle.graph.specs.Graph.{Graph}
use Rattle.hidden.specs.Inner.{left₁, left₂, left₃}
use Rattle.finder.proofs.Trials.{going_none, going_ready, going_on, going_found, going_end, second_step, seconds_begin, seconds_next, seconds_end}
use Rattle.finder.proofs.trying.try_seconds.Goals as goal
use Rattle.finder.proofs.trying.try_seconds.Goals.{Start}
use Rattle.finder.specs.Nodes.{nodes_in}

abbrev graph : Start → Graph
graph s = nodes_in s.args.graph.now

abbrev near : Start → List ℕ
near s = take s.args.m s.args.list.now

pub loop-b-init : goal.loop-b-init
loop-b-init c =
    let a = c.args in
    (omega arith, omega (arith, c.requires.1), going_none (graph (goal.at.loop-b-init c).Start) a.v (left₁ (near (goal.at.loop-b-init c).Start) a.a) a.scratch.now _ (seconds_begin a.m a.list.now c.requires.0.listed a.a c.requires.1) c.requires.0.facts)

pub try_pair-found-requires : goal.try_pair-found-requires
try_pair-found-requires c =
    let l = c.loop-b in
    let a = c.args in
    (going_ready (graph (goal.at.try_pair-found-requires c).Start) a.v (left₁ (near (goal.at.try_pair-found-requires c).Start) a.a) a.scratch.now (left₂ (near (goal.at.try_pair-found-requires c).Start) a.a l.b) l.scratch l.invariant.2 a.m a.list.now c.requires.0, l.invariant.0, c.loop-b-test.true, c.requires.2)

pub returns-in-Some : goal.returns-in-Some
returns-in-Some c =
    let l = c.loop-b in
    let a = c.args in
    going_found (graph (goal.at.returns-in-Some c).Start) a.v (left₁ (near (goal.at.returns-in-Some c).Start) a.a) a.scratch.now (left₂ (near (goal.at.returns-in-Some c).Start) a.a l.b) l.scratch l.invariant.2 (left₃ (near (goal.at.returns-in-Some c).Start) a.a l.b (suc l.b)) (left₂ (near (goal.at.returns-in-Some c).Start) a.a (suc l.b)) c.in-Some.trial.byte _ _ (second_step a.m a.list.now c.requires.0.listed a.a l.b c.loop-b-test.true) c.in-Some.ensures (left₁ (near (goal.at.returns-in-Some c).Start) (suc a.a)) (omega arith)

pub loop-b-preserved : goal.loop-b-preserved
loop-b-preserved c =
    let t = c.loop-b-test.true in
    let l = c.loop-b in
    let a = c.args in (
      omega (arith, l.invariant.0),
      omega (arith, t),
      going_on (graph (goal.at.loop-b-preserved c).Start) a.v (left₁ (near (goal.at.loop-b-preserved c).Start) a.a) a.scratch.now (left₂ (near (goal.at.loop-b-preserved c).Start) a.a l.b) l.scratch l.invariant.2 (left₃ (near (goal.at.loop-b-preserved c).Start) a.a l.b (suc l.b)) (left₂ (near (goal.at.loop-b-preserved c).Start) a.a (suc l.b)) 256 _ _ (second_step a.m a.list.now c.requires.0.listed a.a l.b c.loop-b-test.true) c.in_default.ensures _ (seconds_next a.m a.list.now c.requires.0.listed a.a l.b) (omega arith),
    )

pub shape_of-scratch : goal.shape_of-scratch
shape_of-scratch c = c.loop-b.invariant.2.framed.same

pub returns : goal.returns
returns c =
    let l = c.loop-b in
    let a = c.args in
    going_end (graph (goal.at.returns c).Start) a.v (left₁ (near (goal.at.returns c).Start) a.a) a.scratch.now (left₂ (near (goal.at.returns c).Start) a.a l.b) l.scratch l.invariant.2 (left₁ (near (goal.at.returns c).Start) (suc a.a)) _ (seconds_end a.m a.list.now c.requires.0.listed a.a l.b (omega (arith, c.loop-b-test.false, l.invariant.1)))
