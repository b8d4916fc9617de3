-- `mark_outputs` meets its contract: the outputs passed are marked. From the laws on marks.
use mathlib.Core.Path.{◌≡◌, refl, ◌∙◌}
use Prim.Native.Nat.{ℕ, ◌+◌, ◌≤◌, ◌<◌}
use native.Mathlib.Omega.{arith}
use Rattle.graph.specs.Graph.{Graph, output}
use Rattle.graph.specs.Inner.{Names}
use Rattle.finder.proofs.Named.{output_named_lem}
use Rattle.finder.proofs.Marks.{living_output}
use Rattle.finder.proofs.living.mark_outputs.Goals as goal
use Rattle.finder.proofs.living.mark_outputs.Goals.{Start}
use Rattle.graph.specs.Tables.{lent_graph}

abbrev graph : Start → Graph
graph s =
    let a = s.args in
    lent_graph a.lent.now

within : (j o l : ℕ) {k : ℕ} → k ≡ j → j < o → o ≤ l → k < l
within j o l e h b = omega arith

fits : (i n x l : ℕ) → x < i + 1 + n → n ≤ l → x ≤ i + l
fits i n x l b h = omega arith

pub loop-j-init : goal.loop-j-init
loop-j-init c = (omega arith, refl, c.requires.2)

pub index_at-requires : goal.index_at-requires
index_at-requires c = within _ _ _ c.wide.ensures c.loop-j-test.true c.requires.0.held_outputs

pub mark-requires : goal.mark-requires
mark-requires c =
    let a = c.args in
    let e : Names (output (graph (goal.at.mark-requires c).Start) c.loop-j.j) c.index_at.result = rw (← c.wide.ensures) c.index_at.ensures in
    fits a.lent.now.inputs a.lent.now.nodes _ _ (output_named_lem (graph (goal.at.mark-requires c).Start) c.requires.0 c.loop-j.j _ c.loop-j-test.true e).1 c.loop-j.invariant.2.long

pub loop-j-preserved : goal.loop-j-preserved
loop-j-preserved c =
    let a = c.args in
    let e : Names (output (graph (goal.at.loop-j-preserved c).Start) c.loop-j.j) c.index_at.result = rw (← c.wide.ensures) c.index_at.ensures in
    let n = (output_named_lem (graph (goal.at.loop-j-preserved c).Start) c.requires.0 c.loop-j.j _ c.loop-j-test.true e).0 in
    (omega (arith, c.loop-j-test.true), c.mark.ensures.same ∙ c.loop-j.invariant.1, living_output (graph (goal.at.loop-j-preserved c).Start) c.requires.0 a.lent.now.locks.now c.loop-j.j c.index_at.result c.loop-j.scratch _ c.loop-j.invariant.2 c.loop-j-test.true n c.mark.ensures)

pub shape_of-scratch : goal.shape_of-scratch
shape_of-scratch c = c.loop-j.invariant.1

pub returns : goal.returns
returns c =
    let e : c.loop-j.j ≡ c.args.lent.now.outputs = omega (arith, c.loop-j-test.false, c.loop-j.invariant.0) in
    rw e at c.loop-j.invariant.2
