-- `words::narrowed` meets its contract. From the laws on bits.
use mathlib.Core.Path.{ap, ◌∙◌}
use Prim.Native.Nat.{min}
use Rattle.graph.specs.Literals.{bit}
use Rattle.evaluation.proofs.Bits.{bit_and_lem}
use Rattle.assignment.proofs.words.narrowed.Goals as goal

pub returns : goal.returns
returns c = λ j h. let a = c.args in bit_and_lem j a.left c.fitting.result ∙ ap (min (bit j a.left)) (c.fitting.ensures j h)
