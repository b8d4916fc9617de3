-- `payload` is the length that each tag has. From the laws on tests.
use mathlib.Core.Path.{refl, sym}
use native.Mathlib.Omega.{arith}
use Rattle.graph.specs.Finite.{if_equal}
use Rattle.graph.proofs.Tests.{unequal}
use Rattle.file_checks.specs.File.{payload_of}
use Rattle.file_checks.proofs.fields.payload.Goals as goal

pub returns-in-1 : goal.returns-in-1
unfolding payload_of if_equal
returns-in-1 c = rw c.in-1.is refl

pub returns-in-2 : goal.returns-in-2
unfolding payload_of if_equal
returns-in-2 c = rw c.in-2.is refl

pub returns-in-3 : goal.returns-in-3
unfolding payload_of if_equal
returns-in-3 c = rw c.in-3.is refl

pub returns-in-4 : goal.returns-in-4
unfolding payload_of if_equal
returns-in-4 c = rw c.in-4.is refl

pub returns-in-5 : goal.returns-in-5
unfolding payload_of if_equal
returns-in-5 c = rw c.in-5.is refl

pub returns-in-6 : goal.returns-in-6
unfolding payload_of if_equal
returns-in-6 c = rw c.in-6.is refl

pub returns-in_default : goal.returns-in_default
unfolding payload_of
returns-in_default c =
    sym (unequal _ _ _ _ (λ e. omega arith) (unequal _ _ _ _ (λ e. omega arith) (unequal _ _ _ _ (λ e. omega arith)
    (unequal _ _ _ _ (λ e. omega arith) (unequal _ _ _ _ (λ e. omega arith) (unequal _ _ _ _ (λ e. omega arith) refl))))))
