-- `high_outputs` meets its contract: the sum over the outputs passed. From the definition of a sum.
use Rattle.std.proofs.Common.{◌≡◌, ℕ, ◌+◌, refl, ap, ◌∙◌, add-one, arith}
use Rattle.graph.specs.Finite.{sum}
use Rattle.graph.specs.Inner.{over_at}
use Rattle.graph.proofs.faults.high_outputs.Goals as goal

pub loop-j-init : goal.loop-j-init
unfolding sum
loop-j-init c = (omega arith, omega arith, refl)

pub overflow_add-c : goal.overflow_add-c
overflow_add-c c = omega (arith, c.above-c.ensures.1)

pub loop-j-preserved : goal.loop-j-preserved
unfolding sum over_at
loop-j-preserved c =
    let r = c.above-c in
    let q = rw c.raw_at.ensures at r.ensures.0 in
    (omega arith, omega (arith, r.ensures.1), rw (add-one c.loop-j.j) (omega (arith, c.loop-j.invariant.2, q)))

pub returns : goal.returns
returns c =
    let a = c.args in
    let e : c.loop-j.j ≡ a.outputs = omega arith in
    (c.loop-j.invariant.2 ∙ ap (λ (n : ℕ). sum n (over_at (a.last + 1) a.output_table.now)) e)
