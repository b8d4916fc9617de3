-- `try_near` meets its contract. From the laws on trials and on nodes at which there is nothing to find.
use mathlib.Core.Path.{◌≡◌, refl}
use Prim.Native.Nat.{ℕ}
use native.Mathlib.Omega.{arith}
use mathlib.Core.List.{List}
use lib.ListN.{length}
use Rattle.graph.specs.Graph.{Graph, node}
use Rattle.hidden.specs.Find.{reaches}
use Rattle.finder.specs.Barred.{NoMajority}
use Rattle.finder.specs.Meeting.{Followed}
use Rattle.finder.specs.Nearness.{Grown}
use Rattle.finder.specs.Trying.{trial_byte}
use Rattle.finder.proofs.Barring.{barred_sought}
use Rattle.finder.proofs.Trials.{near_ready, sought_near}
use Rattle.finder.proofs.Unfit.{none_sought, unmet_passed}
use Rattle.finder.proofs.trying.try_near.Goals as goal
use Rattle.finder.proofs.trying.try_near.Goals.{Start}
use Rattle.finder.specs.Nodes.{nodes_in}

abbrev graph : Start → Graph
graph s = nodes_in s.args.graph.now

followed : (s : Start) (w : ℕ) → w ≡ s.args.v → (r : ℕ) (xs xs' : List ℕ) → Grown 39 (node (graph s) s.args.v) (reaches (graph s) 3 (node (graph s) s.args.v)) 0 r xs xs' → length xs ≡ 39
    → Followed (graph s) w r xs' s.args.scratch.now
followed s w e r xs xs' a n =
    let k = near_ready (graph s) s.args.v w r xs xs' e a s.args.scratch.now s.requires.0 s.requires.1 s.requires.2 s.requires.3 s.requires.4 n in
    record {
      near = record { admitted = k.admitted; within = k.within; some = omega (arith, n, a.same); few = omega (arith, a.few); listed = k.listed; rising = k.rising };
      room = k.room;
      facts = k.facts;
      tells = s.requires.5;
    }

pub nothing_to_find-requires : goal.nothing_to_find-requires
nothing_to_find-requires c = (c.requires.0, omega (arith, c.requires.2, c.wide-w.ensures))

pub returns-then-nothing_to_find : goal.returns-then-nothing_to_find
returns-then-nothing_to_find c =
    let w = c.wide-w in
    let a = c.args in
    let none : NoMajority (graph (goal.at.returns-then-nothing_to_find c).Start) a.v = rw w.ensures at (c.nothing_to_find.ensures c.if-nothing_to_find.true) in
    barred_sought (graph (goal.at.returns-then-nothing_to_find c).Start) a.v none a.scratch.now c.requires.3 _

pub allowed_places-allowed-requires : goal.allowed_places-allowed-requires
allowed_places-allowed-requires c =
    let o = c.reach-m in
    let w = c.wide-w in
    (followed (goal.at.allowed_places-allowed-requires c).Start w.result w.ensures o.result _ _ o.ensures refl).near

pub returns-then-too_few : goal.returns-then-too_few
returns-then-too_few c =
    let q = c.too_few in
    let d = c.allowed_places-allowed in
    let o = c.reach-m in
    let w = c.wide-w in
    let a = c.args in
    let l = o.new.list in
    sought_near (graph (goal.at.returns-then-too_few c).Start) a.v w.result o.result _ l w.ensures o.ensures 256 _ a.scratch.now _
    (none_sought (graph (goal.at.returns-then-too_few c).Start) w.result o.result l a.scratch.now
    (near_ready (graph (goal.at.returns-then-too_few c).Start) a.v w.result o.result _ l w.ensures o.ensures a.scratch.now c.requires.0 c.requires.1 c.requires.2 c.requires.3 c.requires.4 refl)
    (λ i j k h p r. d.ensures i j k h p r (q.ensures c.if-too_few.true i j k h p r)) _)

pub gather_ways-n-requires : goal.gather_ways-n-requires
gather_ways-n-requires c =
    let o = c.reach-m in
    let w = c.wide-w in
    (followed (goal.at.gather_ways-n-requires c).Start w.result w.ensures o.result _ _ o.ensures refl, omega arith)

pub spread-requires : goal.spread-requires
spread-requires c = let y = c.gather_ways-n in omega (arith, y.ensures.1, y.ensures.2)

pub returns-then-spread : goal.returns-then-spread
returns-then-spread c =
    let t = c.spread in
    let y = c.gather_ways-n in
    let d = c.allowed_places-allowed in
    let o = c.reach-m in
    let w = c.wide-w in
    let a = c.args in
    let l = o.new.list in
    sought_near (graph (goal.at.returns-then-spread c).Start) a.v w.result o.result _ l w.ensures o.ensures 256 _ a.scratch.now _
    (none_sought (graph (goal.at.returns-then-spread c).Start) w.result o.result l a.scratch.now
    (near_ready (graph (goal.at.returns-then-spread c).Start) a.v w.result o.result _ l w.ensures o.ensures a.scratch.now c.requires.0 c.requires.1 c.requires.2 c.requires.3 c.requires.4 refl)
    (λ i j k h p r. unmet_passed (graph (goal.at.returns-then-spread c).Start) w.result o.result l d.result y.result _ (record { few = omega (arith, o.ensures.few); listed = omega (arith, y.ensures.1, y.ensures.2); allows = d.ensures; bars = y.ensures.0 }) i j k h p r (t.ensures c.if-spread.true i j k)) _)

pub try_triples-requires : goal.try_triples-requires
try_triples-requires c =
    let y = c.gather_ways-n in
    let d = c.allowed_places-allowed in
    let o = c.reach-m in
    let w = c.wide-w in
    let a = c.args in (
      near_ready (graph (goal.at.try_triples-requires c).Start) a.v w.result o.result _ o.new.list w.ensures o.ensures a.scratch.now c.requires.0 c.requires.1 c.requires.2 c.requires.3 c.requires.4 refl,
      record { few = omega (arith, o.ensures.few); listed = omega (arith, y.ensures.1, y.ensures.2); allows = d.ensures; bars = y.ensures.0 },
    )

pub returns : goal.returns
returns c =
    let t = c.try_triples in
    let o = c.reach-m in
    let w = c.wide-w in
    let a = c.args in
    sought_near (graph (goal.at.returns c).Start) a.v w.result o.result _ o.new.list w.ensures o.ensures (trial_byte t.result) _ a.scratch.now _ t.ensures
