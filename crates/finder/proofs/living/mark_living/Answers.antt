-- `mark_living` meets its contract: after the last visit the marks are the definition's. From the laws on marks.
use mathlib.Core.Path.{◌≡◌, refl, ◌∙◌}
use Prim.Native.Nat.{ℕ, ◌+◌, ◌-◌, ◌≤◌, ◌<◌}
use native.Mathlib.Omega.{arith}
use Rattle.graph.specs.Graph.{Graph}
use Rattle.finder.proofs.Marks.{living_none, living_is}
use Rattle.finder.proofs.living.mark_living.Goals as goal
use Rattle.finder.proofs.living.mark_living.Goals.{Start}
use Rattle.graph.specs.Tables.{lent_graph}

abbrev graph : Start → Graph
graph s =
    let a = s.args in
    lent_graph a.lent.now

few : (n m l : ℕ) → m ≡ n → n ≤ 100000 → n ≤ l → (m ≤ 100000) × (m ≤ l)
few n m l e h k = (omega arith, omega arith)

pub unmark-requires : goal.unmark-requires
unmark-requires c =
    few c.args.lent.now.nodes c.wide.result _ c.wide.ensures c.requires.0.few_nodes c.requires.2

pub mark_outputs-requires : goal.mark_outputs-requires
mark_outputs-requires c =
    let a = c.args in
    (c.requires.0, c.requires.1, living_none (graph (goal.at.mark_outputs-requires c).Start) a.lent.now.locks.now _ (long _ _ _ c.requires.2 c.unmark.ensures.same) (λ v h. c.unmark.ensures.zero v (low _ _ _ h c.wide.ensures)))
  where
    long : (n l l₀ : ℕ) → n ≤ l₀ → l ≡ l₀ → n ≤ l
    long n l l₀ h e = omega arith

    low : (v n m : ℕ) → v < n → m ≡ n → v < m
    low v n m h e = omega arith

pub loop-v-init : goal.loop-v-init
loop-v-init c =
    (omega (arith, c.wide-v.ensures), refl, rw c.wide-v.ensures c.mark_outputs.ensures)

pub visit-requires : goal.visit-requires
visit-requires c =
    let e : c.loop-v.v ≡ (c.loop-v.v - 1) + 1 = omega (arith, c.loop-v-test.true) in
    (c.requires.0, c.requires.1, omega (arith, c.loop-v-test.true, c.loop-v.invariant.0), rw (← e) c.loop-v.invariant.2)

pub loop-v-preserved : goal.loop-v-preserved
loop-v-preserved c =
    (omega (arith, c.loop-v.invariant.0), c.visit.auto.scratch ∙ c.loop-v.invariant.1, c.visit.ensures)

pub shape_of-scratch : goal.shape_of-scratch
shape_of-scratch c =
    c.loop-v.invariant.1 ∙ c.mark_outputs.auto.scratch ∙ c.unmark.auto.scratch

pub returns : goal.returns
returns c =
    let a = c.args in
    let e : c.loop-v.v ≡ 0 = omega (arith, c.loop-v-test.false) in
    living_is (graph (goal.at.returns c).Start) c.requires.0 a.lent.now.locks.now c.loop-v.scratch (rw e at c.loop-v.invariant.2)
