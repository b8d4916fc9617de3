-- `fill::after_ones` meets its contract. The invariant: so many lines are passed. From the laws of the fill pass.
use mathlib.Core.Path.{◌≡◌, refl}
use Prim.Native.Nat.{◌+◌}
use native.Mathlib.Omega.{arith}
use Rattle.file_checks.proofs.Checked.{rest}
use Rattle.aiger_import.specs.Reading.{NumberThere}
use Rattle.aiger_import.proofs.Filled.{there, after, past}
use Rattle.aiger_import.proofs.fill.after_ones.Goals as goal
use Rattle.aiger_import.proofs.fill.after_ones.Goals.{In-loop-k}

-- the number at the front

front : (c : In-loop-k) → NumberThere c.loop-k.s.now
front c = rw c.loop-k.invariant.0 (c.requires c.loop-k.k c.loop-k-test.true)

pub loop-k-init : goal.loop-k-init
loop-k-init c = (refl, omega arith)

pub known_number-size-requires : goal.known_number-size-requires
known_number-size-requires c = front (goal.at.known_number-size-requires c).In-loop-k

pub slice_bounds-s-count : goal.slice_bounds-s-count
slice_bounds-s-count c = omega (arith, there c.loop-k.s.now _ (front (goal.at.slice_bounds-s-count c).In-loop-k) c.known_number-size.ensures.1)

pub slice_bounds-s-start : goal.slice_bounds-s-start
slice_bounds-s-start c = omega (arith, there c.loop-k.s.now _ (front (goal.at.slice_bounds-s-start c).In-loop-k) c.known_number-size.ensures.1)

pub loop-k-preserved : goal.loop-k-preserved
loop-k-preserved c =
    let s = c.loop-k.s.now in
    let n = c.known_number-size.result.size in
    (past c.args.rest.now s _ c.loop-k.k 1 n (c.loop-k.k + 1) c.loop-k.invariant.0 (rest n s) (after s n (front (goal.at.loop-k-preserved c).In-loop-k) c.known_number-size.ensures.1) refl, omega arith)

pub returns : goal.returns
returns c =
    let e : c.loop-k.k ≡ c.args.lines = omega arith in
    rw e at c.loop-k.invariant.0
