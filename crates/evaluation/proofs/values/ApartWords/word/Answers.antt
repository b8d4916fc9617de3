-- `word` of words apart meets its contract: the constant, an input or a node. From the laws on words by index.
use Rattle.std.proofs.Common.{sym, arith}
use Rattle.evaluation.proofs.Index.{at_constant, at_input, at_node}
use Rattle.evaluation.proofs.values.ApartWords.word.Goals as goal

pub returns-then-index-eq0 : goal.returns-then-index-eq0
returns-then-index-eq0 c =
    let s = c.args.self.now in
    rw c.if-index-eq0.true (sym (at_constant s.inputs s.of_inputs.now s.of_nodes.now (c.requires.0)))

pub returns-then-index-self : goal.returns-then-index-self
returns-then-index-self c =
    let s = c.args.self.now in
    sym (at_input s.inputs s.of_inputs.now s.of_nodes.now (c.requires.0) c.args.index (omega arith) (omega arith))

pub returns : goal.returns
returns c =
    let s = c.args.self.now in
    sym (at_node s.inputs s.of_inputs.now s.of_nodes.now (c.requires.0) c.args.index (omega arith))
