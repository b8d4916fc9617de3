-- `kept_at` meets its contract. From the laws on fields.
use mathlib.Core.Path.{sym, ◌∙◌}
use native.Mathlib.Omega.{arith}
use Rattle.hidden.specs.Truth.{triple}
use Rattle.majority_call.proofs.Known.{kept_high, kept_way, kept_none}
use Rattle.majority_call.proofs.valuing.kept_at.Goals as goal

pub returns-then-one-inputs : goal.returns-then-one-inputs
returns-then-one-inputs c =
    let a = c.args in
    c.stored.ensures ∙ sym (kept_high a.scratch.now (triple a.one a.two a.three) a.v a.inputs (omega arith))

pub returns-then-read-gt1 : goal.returns-then-read-gt1
returns-then-read-gt1 c =
    let a = c.args in
    sym (kept_way a.scratch.now (triple a.one a.two a.three) a.v a.inputs (omega arith) (omega (arith, c.read.ensures)))

pub returns : goal.returns
returns c =
    let a = c.args in
    c.stored-2.ensures ∙ sym (kept_none a.scratch.now (triple a.one a.two a.three) a.v a.inputs (omega arith) (omega (arith, c.read.ensures)))
