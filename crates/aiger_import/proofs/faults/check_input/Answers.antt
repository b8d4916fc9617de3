-- `faults::check_input` tests what `input_line_number` does. From the laws on a line tested by its numbers.
use mathlib.Core.Path.{refl}
use Prim.Native.Nat.{◌+◌, ◌*◌}
use native.Mathlib.Omega.{arith}
use Rattle.graph.specs.declared.Refusal.TheVariants.{WrongNumbering}
use Rattle.graph.proofs.Tests.{equal, unequal}
use Rattle.aiger.specs.Lines.{number}
use Rattle.aiger.specs.Import.{input_line_number}
use Rattle.aiger_import.proofs.Tested.{line_fault, number_fault, number_none}
use Rattle.aiger_import.proofs.faults.check_input.Goals as goal

pub returns-in_err-size : goal.returns-in_err-size
unfolding input_line_number
returns-in_err-size c = line_fault _ _ _ _ _ _ c.from_residual.ensures.1 c.in_err-size.ensures

pub returns-then-n-k : goal.returns-then-n-k
unfolding input_line_number
returns-then-n-k c =
    let n = c.in_ok-size.ensures.numbers _ refl 0 (omega arith) in
    let a = c.args in
    number_fault _ _ _ _ _ c.in_ok-size.ensures WrongNumbering (unequal (number a.s.now) (2 * (1 + a.k)) _ _ (λ y. c.if-n-k.true (omega (arith, n, y))) refl)

pub returns : goal.returns
unfolding input_line_number
returns c =
    let n = c.in_ok-size.ensures.numbers _ refl 0 (omega arith) in
    let a = c.args in
    number_none _ _ _ _ _ c.in_ok-size.ensures (equal (number a.s.now) (2 * (1 + a.k)) _ _ (omega (arith, n, c.if-n-k.false)) refl)
