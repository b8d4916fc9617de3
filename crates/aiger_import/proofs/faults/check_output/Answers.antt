-- `faults::check_output` tests what `output_line_number` does. From the laws on a line tested by its numbers.
use mathlib.Core.Path.{refl}
use native.Mathlib.Omega.{arith}
use Rattle.graph.specs.declared.Refusal.TheVariants.{BadLiteral}
use Rattle.graph.proofs.Tests.{less, no_less}
use Rattle.aiger.specs.Import.{output_line_number}
use Rattle.aiger_import.proofs.Tested.{line_fault, number_fault, number_none}
use Rattle.aiger_import.proofs.faults.check_output.Goals as goal

pub returns-in_err-size : goal.returns-in_err-size
unfolding output_line_number
returns-in_err-size c = line_fault _ _ _ _ _ _ c.from_residual.ensures.1 c.in_err-size.ensures

pub returns-then-end-n : goal.returns-then-end-n
unfolding output_line_number
returns-then-end-n c =
    let n = c.in_ok-size.ensures.numbers _ refl 0 (omega arith) in
    number_fault _ _ _ _ _ c.in_ok-size.ensures BadLiteral (no_less _ _ _ _ (omega arith) refl)

pub returns : goal.returns
unfolding output_line_number
returns c =
    let n = c.in_ok-size.ensures.numbers _ refl 0 (omega arith) in
    number_none _ _ _ _ _ c.in_ok-size.ensures (less _ _ _ _ (omega arith) refl)
