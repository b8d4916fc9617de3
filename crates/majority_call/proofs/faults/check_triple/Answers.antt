-- `check_triple` meets its contract. From the laws on tests.
use mathlib.Core.Path.{refl}
use native.Mathlib.Omega.{arith}
use Rattle.graph.proofs.Tests.{less, no_less}
use Rattle.hidden.specs.Call.{triple_fault}
use Rattle.majority_call.proofs.faults.check_triple.Goals as goal

pub returns-then-one-eq0 : goal.returns-then-one-eq0
unfolding triple_fault
returns-then-one-eq0 c = no_less _ _ _ _ (omega arith) refl

pub returns-then-two-one : goal.returns-then-two-one
unfolding triple_fault
returns-then-two-one c = less _ _ _ _ (omega arith) (no_less _ _ _ _ (omega arith) refl)

pub returns-then-three-two : goal.returns-then-three-two
unfolding triple_fault
returns-then-three-two c = less _ _ _ _ (omega arith) (less _ _ _ _ (omega arith) (no_less _ _ _ _ (omega arith) refl))

pub returns-then-node-three : goal.returns-then-node-three
unfolding triple_fault
returns-then-node-three c = less _ _ _ _ (omega arith) (less _ _ _ _ (omega arith) (less _ _ _ _ (omega arith) (no_less _ _ _ _ (omega arith) refl)))

pub returns : goal.returns
unfolding triple_fault
returns c = less _ _ _ _ (omega arith) (less _ _ _ _ (omega arith) (less _ _ _ _ (omega arith) (less _ _ _ _ (omega arith) refl)))
