-- `literal_sign` meets its contract: the signature of its index, turned as its bit says. Assumes nothing.
use mathlib.Core.Path.{ap, ◌∙◌}
use Prim.Native.Nat.{ℕ, ◌+◌, ◌%◌}
use Rattle.graph.specs.Literals.{bit}
use Rattle.finder.specs.Signs.{sign_of}
use Rattle.finder.proofs.signs.literal_sign.Goals as goal

pub returns : goal.returns
returns c j h =
    let a = c.args in
    let e = c.sign_of.ensures ∙ ap (sign_of a.inputs a.scratch.now) c.index_of.ensures in
    c.turned.ensures j h ∙ ap (λ (n : ℕ). (bit j n + a.x % 2) % 2) e
