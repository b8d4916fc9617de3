-- `faults::check_gate` tests what `gate_line_number` does. From the laws on a line tested by its numbers.
use mathlib.Core.Path.{refl, sym, ◌∙◌}
use native.Mathlib.Omega.{arith}
use Rattle.graph.specs.declared.Refusal.TheVariants.{WrongNumbering, BadLiteral}
use Rattle.graph.proofs.Tests.{less, no_less, equal, unequal}
use Rattle.aiger.specs.Import.{gate_line_number}
use Rattle.aiger_import.proofs.Tested.{line_fault, number_fault, number_none}
use Rattle.aiger_import.proofs.faults.check_gate.Goals as goal

pub returns-in_err-size : goal.returns-in_err-size
unfolding gate_line_number
returns-in_err-size c = line_fault _ _ _ _ _ _ c.from_residual.ensures.1 c.in_err-size.ensures

pub returns-then-n-index : goal.returns-then-n-index
unfolding gate_line_number
returns-then-n-index c =
    let n = c.in_ok-size.ensures.numbers _ refl 0 (omega arith) in
    number_fault _ _ _ _ _ c.in_ok-size.ensures WrongNumbering (unequal _ _ _ _ (λ y. c.if-n-index.true (n ∙ y)) refl)

pub returns-then-index-n : goal.returns-then-index-n
unfolding gate_line_number
returns-then-index-n c =
    let n = c.in_ok-size.ensures.numbers _ refl in
    let x = n 1 (omega arith) in
    number_fault _ _ _ _ _ c.in_ok-size.ensures BadLiteral (equal _ _ _ _ (sym (n 0 (omega arith)) ∙ c.if-n-index.false) (no_less _ _ _ _ (omega arith) refl))

pub returns-then-index-n-2 : goal.returns-then-index-n-2
unfolding gate_line_number
returns-then-index-n-2 c =
    let n = c.in_ok-size.ensures.numbers _ refl in
    let x = n 1 (omega arith) in
    let y = n 2 (omega arith) in
    number_fault _ _ _ _ _ c.in_ok-size.ensures BadLiteral (equal _ _ _ _ (sym (n 0 (omega arith)) ∙ c.if-n-index.false) (less _ _ _ _ (omega arith) (no_less _ _ _ _ (omega arith) refl)))

pub returns : goal.returns
unfolding gate_line_number
returns c =
    let n = c.in_ok-size.ensures.numbers _ refl in
    let x = n 1 (omega arith) in
    let y = n 2 (omega arith) in
    number_none _ _ _ _ _ c.in_ok-size.ensures
    (equal _ _ _ _ (sym (n 0 (omega arith)) ∙ c.if-n-index.false) (less _ _ _ _ (omega arith) (less _ _ _ _ (omega arith) refl)))
