-- `outputs::left_from` meets its contract: the places left by the outputs passed. From the laws on blocks.
use mathlib.Core.Path.{◌≡◌, ◌∙◌}
use mathlib.Core.List.{List}
use Prim.Native.Nat.{ℕ, ◌+◌}
use native.Mathlib.Omega.{arith}
use lib.ListN.{length, get_or}
use Rattle.graph.specs.Finite.{first_of}
use Rattle.evaluation.specs.Inner.{by_index}
use Rattle.assignment.proofs.Blocks.{pattern_of, rest_none, next_rest, want_le, want_there}
use Rattle.assignment.proofs.outputs.left_from.Goals as goal
use Rattle.graph.specs.Tables.{lent_table}

pub overflow_add-high-2 : goal.overflow_add-high-2
overflow_add-high-2 c = omega (arith, c.requires.0, c.requires.2)

pub loop-o-init : goal.loop-o-init
unfolding first_of
loop-o-init c = let a = c.args in (omega arith, λ j h. rest_none j a.left)

pub edge_at-x-requires : goal.edge_at-x-requires
edge_at-x-requires c =
    (omega (arith, (pattern_of _ _ c.args.question.now.searchable).there), (pattern_of _ _ c.args.question.now.searchable).low c.loop-o.o (omega arith))

pub bounds-question-o : goal.bounds-question-o
bounds-question-o c = omega (arith, (pattern_of _ _ c.args.question.now.searchable).long)

pub left_by-rest-requires : goal.left_by-rest-requires
left_by-rest-requires c =
    let a = c.args in
    let e = c.want_in-want.ensures in
    let x = c.edge_at-x.result in
    let want = get_or a.question.now.wanted.now c.loop-o.o 0 in
    let high = a.words.now.inputs + 1 + length a.words.now.of_nodes.now in
    (rw e (want_le x want a.low high ((pattern_of _ _ c.args.question.now.searchable).small c.loop-o.o (omega arith))), c.requires.1, λ d. want_there x want a.low high (λ z. d (e ∙ z)))

pub loop-o-preserved : goal.loop-o-preserved
loop-o-preserved c =
    let a = c.args in
    let ws : List ℕ = by_index a.words.now.inputs a.words.now.of_inputs.now a.words.now.of_nodes.now in (
      omega arith,
      λ j h. next_rest ws (lent_table a.question.now.lent.output_table) a.question.now.wanted.now a.low (a.words.now.inputs + 1 + length a.words.now.of_nodes.now) j c.loop-o.o a.left c.loop-o.rest c.left_by-rest.result
          c.edge_at-x.result c.want_in-want.result c.edge_at-x.ensures c.want_in-want.ensures (c.loop-o.invariant.1 j h) (c.left_by-rest.ensures j h),
    )

pub returns : goal.returns
returns c =
    let a = c.args in
    let e : c.loop-o.o ≡ a.question.now.lent.outputs = omega arith in
    rw e at c.loop-o.invariant.1
