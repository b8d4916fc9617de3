-- `search::search` meets its contract. The invariant: no assignment of the blocks passed gives the pattern. From the laws on searching.
use mathlib.Core.Path.{◌≡◌, refl, ◌∙◌}
use native.Mathlib.Nat.{not-suc-le-zero}
use native.Mathlib.Omega.{arith}
use Rattle.assignment.proofs.Searching.{block_none, found_at, found_none}
use borrow.Author.Rules.{rules}
use Rattle.assignment.proofs.search.search.Goals as goal
use Rattle.graph.specs.Tables.{lent_graph}

pub block_count-end-requires : goal.block_count-end-requires
block_count-end-requires c = c.args.question.now.searchable.few

pub loop-b-init : goal.loop-b-init
loop-b-init c = (omega arith, c.block_count-end.ensures.1, refl, λ i h. absurd (not-suc-le-zero h))

pub block_places-places-requires : goal.block_places-places-requires
block_places-places-requires c =
    (omega (arith, c.requires, c.loop-b.invariant.2), c.top_of-top.ensures)

pub overflow_mul-result : goal.overflow_mul-result
overflow_mul-result c = omega (arith, c.loop-b.invariant.1)

pub first_place-requires : goal.first_place-requires
first_place-requires c = c.if-places-ne0.true

pub overflow_add-result : goal.overflow_add-result
overflow_add-result c = omega (arith, c.loop-b.invariant.1, c.first_place.ensures.low)

pub shape_of-scratch-then-places-ne0 : goal.shape_of-scratch-then-places-ne0
shape_of-scratch-then-places-ne0 c = search rules

pub returns-then-places-ne0 : goal.returns-then-places-ne0
returns-then-places-ne0 c =
    let a = c.args in
    found_at (lent_graph a.question.now.lent) a.question.now.wanted.now c.loop-b.b c.block_places-places.result c.first_place.result c.loop-b.invariant.3 c.block_places-places.ensures c.first_place.ensures

pub loop-b-preserved : goal.loop-b-preserved
loop-b-preserved c =
    let a = c.args in (
      omega arith,
      c.loop-b.invariant.1,
      c.block_places-places.auto.scratch ∙ c.loop-b.invariant.2,
      block_none (lent_graph a.question.now.lent) a.question.now.wanted.now c.loop-b.b c.block_places-places.result c.loop-b.invariant.3 c.block_places-places.ensures c.if-places-ne0.false,
    )

pub shape_of-scratch : goal.shape_of-scratch
shape_of-scratch c = search rules

pub returns : goal.returns
returns c =
    let a = c.args in
    let e : c.loop-b.b ≡ c.block_count-end.result = omega arith in
    found_none (lent_graph a.question.now.lent) a.question.now.wanted.now c.block_count-end.result c.block_count-end.ensures.0 (rw e at c.loop-b.invariant.3)
