-- `is_valued` meets its contract. From the laws on fields.
use native.Mathlib.Omega.{arith}
use mathlib.Core.Path.{refl}
use Rattle.hidden.specs.Truth.{triple}
use Rattle.majority_call.proofs.Known.{not_one, not_two, by_three}
use Rattle.majority_call.proofs.valuing.is_valued.Goals as goal

pub returns-then-read-one : goal.returns-then-read-one
returns-then-read-one c =
    let a = c.args in
    not_one a.scratch.now (triple a.one a.two a.three) a.v (λ e. omega (arith, c.read.ensures))

pub returns-then-read-two : goal.returns-then-read-two
returns-then-read-two c =
    let a = c.args in
    not_two a.scratch.now (triple a.one a.two a.three) a.v (λ e. omega (arith, c.read-2.ensures))

pub returns : goal.returns
returns c =
    let a = c.args in
    by_three a.scratch.now (triple a.one a.two a.three) a.v _ c.read-3.result (omega (arith, c.read.ensures)) (omega (arith, c.read-2.ensures)) c.read-3.ensures refl
