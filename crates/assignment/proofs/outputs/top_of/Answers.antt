-- `outputs::top_of` meets its contract: the nodes that the outputs passed ask for. From the laws on blocks.
use mathlib.Core.Path.{◌≡◌}
use native.Mathlib.Nat.{not-suc-le-zero}
use native.Mathlib.Omega.{arith}
use Rattle.assignment.proofs.Blocks.{pattern_of, top_more}
use Rattle.assignment.proofs.outputs.top_of.Goals as goal
use Rattle.graph.specs.Tables.{lent_graph}

pub loop-o-init : goal.loop-o-init
loop-o-init c = (omega arith, record { few = omega arith; enough = λ o h d. absurd (not-suc-le-zero h) })

pub edge_at-x-requires : goal.edge_at-x-requires
edge_at-x-requires c =
    let p = pattern_of _ _ c.args.question.now.searchable in
    (omega (arith, p.there), p.low c.loop-o.o (omega arith))

pub bounds-question-o : goal.bounds-question-o
bounds-question-o c = omega (arith, c.args.question.now.searchable.long)

pub reached-top-requires : goal.reached-top-requires
reached-top-requires c =
    (c.args.question.now.searchable.few, omega (arith, c.loop-o.invariant.1.few, c.args.question.now.searchable.admitted.few_nodes))

pub loop-o-preserved : goal.loop-o-preserved
loop-o-preserved c =
    let a = c.args in
    (omega arith, top_more (lent_graph a.question.now.lent) a.question.now.wanted.now c.loop-o.o c.loop-o.top _ _ a.question.now.searchable (omega arith) c.loop-o.invariant.1 c.edge_at-x.ensures c.reached-top.ensures)

pub returns : goal.returns
returns c =
    let a = c.args in
    let e : c.loop-o.o ≡ a.question.now.lent.outputs = omega arith in
    rw e at c.loop-o.invariant.1
