-- `stored` meets its contract. Assumes nothing.
use mathlib.Core.Path.{◌≡◌, sym, ◌∙◌}
use mathlib.Core.Bool.{true, false}
use Rattle.hidden.specs.Truth.{triple}
use Rattle.majority_call.specs.Valuing.{is_valued}
use Rattle.majority_call.proofs.valuing.stored.Goals as goal

pub returns-then-is_valued : goal.returns-then-is_valued
returns-then-is_valued c =
    let a = c.args in
    let e : is_valued a.scratch.now (triple a.one a.two a.three) a.v ≡ true = sym c.is_valued.ensures ∙ c.if-is_valued.true in
    rw e c.read.ensures

pub returns : goal.returns
returns c =
    let a = c.args in
    let e : is_valued a.scratch.now (triple a.one a.two a.three) a.v ≡ false = sym c.is_valued.ensures ∙ c.if-is_valued.false in
    rw e
