-- `link_all` meets its contract: the nodes passed are linked. From the laws on links.
use mathlib.Core.Path.{◌≡◌, refl, ◌∙◌}
use mathlib.Core.List.{List}
use Prim.Native.Nat.{ℕ, ◌+◌, ◌-◌, ◌*◌, ◌<◌}
use lib.ListN.{length}
use Rattle.graph.specs.Graph.{graph_of}
use Rattle.trees.specs.Linking.{Rising, Bounded, LinkedAt, LowKept}
use Rattle.trees.proofs.LinkSteps.{linked_step, step_kept, step_bounded, linking_none}
use native.Mathlib.Omega.{arith}
use Rattle.trees.proofs.links.link_all.Goals as goal
use Rattle.trees.proofs.links.link_all.Invariants.{Inv}

rises : (n : ℕ) (sc₀ sc : List ℕ) → LowKept sc₀ sc → Rising n sc₀ → Rising n sc
rises n sc₀ sc k r v h = rw (k (8 * v + 3) (omega arith)) (r v h)

begin : (n : ℕ) (sc : List ℕ) → Inv n sc sc n
begin n sc =
    record {
      within = omega arith;
      same = refl;
      kept = λ j l. refl;
      bounded = λ v a b. absurd (omega arith);
      linking = λ i o ns os adm ps. linking_none (graph_of i n o ns os) sc;
    }

again : (n : ℕ) (sc₀ sc sc' : List ℕ) (w v : ℕ) → Inv n sc₀ sc w → w ≡ v + 1 → Rising n sc₀ → length sc' ≡ length sc → LinkedAt v sc sc' → Inv n sc₀ sc' v
again n sc₀ sc sc' w v iv e r l st =
    let bd : Bounded n sc (v + 1) = rw (← e) iv.bounded in
    let ri = rises n sc₀ sc iv.kept r in
    let h : v < n = omega (arith, iv.within) in
    record {
      within = omega arith;
      same = l ∙ iv.same;
      kept = λ j k. step_kept n sc sc' v h ri bd st j k ∙ iv.kept j k;
      bounded = step_bounded n sc sc' v h ri bd st;
      linking = λ i o ns os adm ps.
          linked_step (graph_of i n o ns os) adm sc sc' (λ u k. iv.kept (8 * u + 3) (omega arith) ∙ ps u k) v h (rw (← e) (iv.linking i o ns os adm ps)) bd st;
    }

pub loop-v-init : goal.loop-v-init
loop-v-init c = begin _ _

pub link-requires : goal.link-requires
link-requires c =
    let e : c.loop-v.v ≡ (c.loop-v.v - 1) + 1 = omega arith in
    (omega (arith, c.requires.0), omega (arith, c.loop-v.invariant.same, c.requires.1), omega (arith, c.loop-v.invariant.within), rises c.args.nodes c.args.scratch.now c.loop-v.scratch c.loop-v.invariant.kept c.requires.2, rw (← e) c.loop-v.invariant.bounded)

pub loop-v-preserved : goal.loop-v-preserved
loop-v-preserved c = again _ _ _ _ _ _ c.loop-v.invariant (omega arith) c.requires.2 c.link.auto.scratch c.link.ensures

pub shape_of-scratch : goal.shape_of-scratch
shape_of-scratch c = c.loop-v.invariant.same

pub returns : goal.returns
returns c =
    let e : c.loop-v.v ≡ 0 = omega arith in
    (rw e at c.loop-v.invariant.linking, c.loop-v.invariant.kept)
