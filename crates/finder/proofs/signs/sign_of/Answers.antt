-- `sign_of` meets its contract: the constant, an input or a node. From the laws on signatures.
use mathlib.Core.Path.{◌≡◌, ap, ◌∙◌}
use Prim.Native.Nat.{ℕ, ◌+◌, ◌-◌}
use native.Mathlib.Omega.{arith}
use Rattle.state.specs.State.{field}
use Rattle.finder.proofs.Signatures.{sign_zero, sign_input, sign_node}
use Rattle.finder.proofs.signs.sign_of.Goals as goal

pub returns-then-index-eq0 : goal.returns-then-index-eq0
returns-then-index-eq0 c = let a = c.args in rw c.if-index-eq0.true (sign_zero a.inputs a.scratch.now)

pub returns-then-index-inputs : goal.returns-then-index-inputs
returns-then-index-inputs c =
    let a = c.args in
    c.input_sign.ensures ∙ sign_input a.inputs a.scratch.now a.index c.if-index-eq0.false (omega arith)

pub returns : goal.returns
returns c =
    let a = c.args in
    let e : a.index - a.inputs - 1 ≡ a.index - (a.inputs + 1) = omega arith in
    c.read.ensures ∙ ap (λ (n : ℕ). field a.scratch.now n 7) e ∙ sign_node a.inputs a.scratch.now a.index (omega arith)
