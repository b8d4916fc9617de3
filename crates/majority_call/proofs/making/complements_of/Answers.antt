-- `complements_of` meets its contract. From the computed tests.
use native.Mathlib.Omega.{arith}
use Rattle.majority_call.proofs.Complements.{of_232, of_212, of_178, of_113, of_142, of_77, of_43, of_23, the_last}
use Rattle.majority_call.proofs.making.complements_of.Goals as goal

pub returns-in-232 : goal.returns-in-232
returns-in-232 c = (of_232 _ c.in-232.is, omega arith)

pub returns-in-212 : goal.returns-in-212
returns-in-212 c = (of_212 _ c.in-212.is, omega arith)

pub returns-in-178 : goal.returns-in-178
returns-in-178 c = (of_178 _ c.in-178.is, omega arith)

pub returns-in-113 : goal.returns-in-113
returns-in-113 c = (of_113 _ c.in-113.is, omega arith)

pub returns-in-142 : goal.returns-in-142
returns-in-142 c = (of_142 _ c.in-142.is, omega arith)

pub returns-in-77 : goal.returns-in-77
returns-in-77 c = (of_77 _ c.in-77.is, omega arith)

pub returns-in-43 : goal.returns-in-43
returns-in-43 c = (of_43 _ c.in-43.is, omega arith)

pub returns-in_default : goal.returns-in_default
returns-in_default c =
    (of_23 _ (the_last c.args.byte c.requires.0 c.requires.1 (λ e. omega arith) (λ e. omega arith) (λ e. omega arith) (λ e. omega arith) (λ e. omega arith) (λ e. omega arith) (λ e. omega arith)), omega arith)
