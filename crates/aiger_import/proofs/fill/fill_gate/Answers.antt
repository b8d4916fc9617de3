-- `fill::fill_gate` meets its contract. From what a line that is there says.
use mathlib.Core.Path.{ap, ◌∙◌}
use native.Mathlib.Omega.{arith}
use Rattle.aiger.specs.Lines.{number}
use Rattle.aiger_import.proofs.Filled.{one_there, one_part, two_there, two_part, three_there, three_after}
use Rattle.aiger_import.proofs.fill.fill_gate.Goals as goal

pub known_number-own-requires : goal.known_number-own-requires
known_number-own-requires c = c.requires.0.three 0 (omega arith)

pub slice_bounds-known_number-count : goal.slice_bounds-known_number-count
slice_bounds-known_number-count c = one_there c.args.s.now c.requires.0.three _ c.known_number-own.ensures.1

pub slice_bounds-known_number-start : goal.slice_bounds-known_number-start
slice_bounds-known_number-start c = let h = one_there c.args.s.now c.requires.0.three _ c.known_number-own.ensures.1 in omega arith

pub known_number-x-requires : goal.known_number-x-requires
known_number-x-requires c =
    rw (one_part c.args.s.now c.requires.0.three _ c.known_number-own.ensures.1) (c.requires.0.three 1 (omega arith))

pub overflow_add-third : goal.overflow_add-third
overflow_add-third c = omega (arith, two_there c.args.s.now c.requires.0.three _ c.known_number-own.ensures.1 _ c.known_number-x.ensures.1)

pub slice_bounds-known_number-count-2 : goal.slice_bounds-known_number-count-2
slice_bounds-known_number-count-2 c = two_there c.args.s.now c.requires.0.three _ c.known_number-own.ensures.1 _ c.known_number-x.ensures.1

pub slice_bounds-known_number-start-2 : goal.slice_bounds-known_number-start-2
slice_bounds-known_number-start-2 c = let h = two_there c.args.s.now c.requires.0.three _ c.known_number-own.ensures.1 _ c.known_number-x.ensures.1 in omega arith

pub known_number-y-requires : goal.known_number-y-requires
known_number-y-requires c =
    rw (two_part c.args.s.now c.requires.0.three _ c.known_number-own.ensures.1 _ c.known_number-x.ensures.1) (c.requires.0.three 2 (omega arith))

pub put_three-got-requires : goal.put_three-got-requires
put_three-got-requires c =
    let t = c.requires.0.three in
    let b = c.args.s.now in
    let x = c.known_number-x.ensures.0 ∙ ap number (one_part b t _ c.known_number-own.ensures.1) in
    let y = c.known_number-y.ensures.0 ∙ ap number (two_part b t _ c.known_number-own.ensures.1 _ c.known_number-x.ensures.1) in
    (c.requires.1, (λ d. omega arith), rw x c.requires.0.left, rw y c.requires.0.right)

pub overflow_add-result : goal.overflow_add-result
overflow_add-result c =
    omega (arith, c.well_formed.0, three_there c.args.s.now c.requires.0.three _ c.known_number-own.ensures.1 _ c.known_number-x.ensures.1 _ c.known_number-y.ensures.1)

pub returns : goal.returns
returns c =
    let t = c.requires.0.three in
    let b = c.args.s.now in
    let e = c.known_number-own.ensures.1 in
    let f = c.known_number-x.ensures.1 in
    let g = c.known_number-y.ensures.1 in
    let x = c.known_number-x.ensures.0 ∙ ap number (one_part b t _ e) in
    let y = c.known_number-y.ensures.0 ∙ ap number (two_part b t _ e _ f) in
    ((three_there b t _ e _ f _ g, three_after b t _ e _ f _ g), rw (x, y) at c.put_three-got.ensures)
