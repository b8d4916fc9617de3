-- `outputs::left_by` meets its contract. From its callees' contracts.
use mathlib.Core.Path.{refl, ap, ◌∙◌}
use Prim.Native.Nat.{ℕ, min}
use Rattle.graph.specs.Literals.{bit}
use Rattle.evaluation.specs.Inner.{by_index}
use Rattle.evaluation.proofs.Index.{literal_is}
use Rattle.assignment.specs.Inner.{fits}
use Rattle.assignment.proofs.Blocks.{left_either}
use Rattle.assignment.proofs.outputs.left_by.Goals as goal

pub returns-then-want-eq2 : goal.returns-then-want-eq2
returns-then-want-eq2 c = λ j h. left_either _ _ _ _ c.if-want-eq2.true

pub word-requires : goal.word-requires
word-requires c = (c.requires.1, c.requires.2 c.if-want-eq2.false)

pub returns : goal.returns
returns c = λ j h.
    let a = c.args in
    let e = literal_is (by_index a.words.now.inputs a.words.now.of_inputs.now a.words.now.of_nodes.now) a.x _ _ c.word.result c.turned.result refl refl c.word.ensures c.turned.ensures in
    c.narrowed.ensures j h ∙ ap (λ (w : ℕ). min (bit j a.left) (fits (bit j w) a.want)) e
