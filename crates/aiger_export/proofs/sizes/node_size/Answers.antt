-- `node_size` meets its contract: the third word decides. From the widths of a node's lines.
use mathlib.Core.Path.{sym, ap, ◌∙◌}
use Rattle.graph.specs.Graph.{is_xor}
use Rattle.aiger_export.specs.Inner.{wide_by}
use Rattle.aiger_export.proofs.Widths.{base_low, node_xor, node_majority}
use borrow.Author.Tests.{eqb-false}
use Rattle.graph.proofs.Literals.{names_index}
use Rattle.graph.proofs.Words.{readable}
use native.Mathlib.Omega.{arith}
use Rattle.aiger_export.proofs.sizes.node_size.Goals as goal

pub is_mark_at-requires : goal.is_mark_at-requires
is_mark_at-requires c = let r = readable _ c.args.circuit.now.admitted c.args.v c.requires.1 in (r.there, r.third)

pub xor_size-requires : goal.xor_size-requires
xor_size-requires c =
    let l = base_low _ c.args.circuit.now.admitted c.args.v c.requires.1 in
    omega (arith, c.requires.2)

pub returns-then-is_mark_at : goal.returns-then-is_mark_at
unfolding is_xor
returns-then-is_mark_at c =
    let a = c.args in
    let r = readable _ c.args.circuit.now.admitted a.v c.requires.1 in
    let ex = c.wide_by-x.ensures.0 ∙ ap (wide_by a.steps) (names_index c.index_at.ensures r.first) in
    let ey = c.wide_by-y.ensures.0 ∙ ap (wide_by a.steps) (names_index c.index_at-2.ensures r.second) in
    let e = node_xor _ c.args.circuit.now.admitted a.steps c.requires.0 a.v c.requires.1 (sym c.is_mark_at.ensures ∙ c.if-is_mark_at.true) in
    (c.xor_size.ensures.0 ∙ rw (c.requires.2, ex, ey) (sym e), c.xor_size.ensures.1)

pub majority_size-requires : goal.majority_size-requires
majority_size-requires c =
    let l = base_low _ c.args.circuit.now.admitted c.args.v c.requires.1 in
    omega (arith, c.requires.2, c.wide_by-x.ensures.1)

pub returns : goal.returns
unfolding is_xor
returns c =
    let a = c.args in
    let r = readable _ c.args.circuit.now.admitted a.v c.requires.1 in
    let ex = c.wide_by-x.ensures.0 ∙ ap (wide_by a.steps) (names_index c.index_at.ensures r.first) in
    let ey = c.wide_by-y.ensures.0 ∙ ap (wide_by a.steps) (names_index c.index_at-2.ensures r.second) in
    let ez = c.wide_by.ensures.0 ∙ ap (wide_by a.steps) (names_index c.index_at-3.ensures (r.third (eqb-false _ _ (sym c.is_mark_at.ensures ∙ c.if-is_mark_at.false)))) in
    let e = node_majority _ c.args.circuit.now.admitted a.steps c.requires.0 a.v c.requires.1 (sym c.is_mark_at.ensures ∙ c.if-is_mark_at.false) in
    (c.majority_size.ensures.0 ∙ rw (c.requires.2, ex, ey, ez) (sym e), c.majority_size.ensures.1)
