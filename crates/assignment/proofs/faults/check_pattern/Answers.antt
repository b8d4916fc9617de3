-- `check_pattern` meets its contract: no byte passed is above 2. From the laws on tests.
use Rattle.std.proofs.Common.{◌≡◌, ◌<◌, refl, sym, arith}
use Rattle.std.proofs.lemmas.List.{get_or-take, length-take-le}
use lib.ListN.{get_or}
use Rattle.graph.specs.Finite.{first_of}
use Rattle.graph.proofs.Steps.{one_further}
use Rattle.graph.proofs.Tests.{less, no_less, first_at}
use Rattle.assignment.specs.Assignment.{wish_number, pattern_number}
use Rattle.assignment.proofs.faults.check_pattern.Goals as goal
use Rattle.assignment.proofs.faults.check_pattern.Goals.{In-loop-want}

-- there is a byte of the pattern for each output
within : (c : In-loop-want) → c.loop-want.want-index < c.args.outputs
within c = rw (length-take-le c.args.outputs c.args.wanted.now c.requires) at c.loop-want-test.true

pub loop-want-init : goal.loop-want-init
unfolding first_of
loop-want-init c = (omega arith, refl)

pub returns-then-want-gt2 : goal.returns-then-want-gt2
unfolding pattern_number wish_number
returns-then-want-gt2 c =
    let a = c.args in
    let o = c.loop-want.want-index in
    let k = within (goal.at.returns-then-want-gt2 c).In-loop-want in
    sym (first_at a.outputs (wish_number a.wanted.now) o 17 k c.loop-want.invariant.1 (sym (less 2 (get_or a.wanted.now o 0) 18 0 (rw (get_or-take a.outputs a.wanted.now o 0 k) at c.if-want-gt2.true) refl)))

pub loop-want-preserved : goal.loop-want-preserved
unfolding wish_number
loop-want-preserved c =
    let a = c.args in
    let o = c.loop-want.want-index in
    let k = within (goal.at.loop-want-preserved c).In-loop-want in
    (omega arith, sym (one_further o 0 (wish_number a.wanted.now) c.loop-want.invariant.1 (no_less 2 (get_or a.wanted.now o 0) 18 0 (rw (get_or-take a.outputs a.wanted.now o 0 k) at c.if-want-gt2.false) refl)))

pub returns : goal.returns
unfolding pattern_number
returns c =
    let a = c.args in
    let e : c.loop-want.want-index ≡ a.outputs = omega (arith, length-take-le a.outputs a.wanted.now c.requires) in
    sym (rw e at c.loop-want.invariant.1)
