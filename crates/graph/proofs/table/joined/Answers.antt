-- `joined` meets its contract. From what an index and a bit say.
use Rattle.std.proofs.Common.{sym, arith}
use Rattle.graph.proofs.Literals.{literal_word_lem, literal_word_mark}
use Rattle.graph.proofs.table.joined.Goals as goal

pub returns-then-u-eq-MARK : goal.returns-then-u-eq-MARK
returns-then-u-eq-MARK c = sym (literal_word_mark c.args.u c.args.b (omega arith) c.requires.0 c.requires.1 c.if-u-eq-MARK.true)

pub overflow_mul-result : goal.overflow_mul-result
overflow_mul-result c = omega (arith, literal_word_lem c.args.u c.args.b (omega arith) c.requires.0 c.requires.1 c.if-u-eq-MARK.false)

pub overflow_add-result : goal.overflow_add-result
overflow_add-result c = omega (arith, literal_word_lem c.args.u c.args.b (omega arith) c.requires.0 c.requires.1 c.if-u-eq-MARK.false)

pub returns : goal.returns
returns c = sym (literal_word_lem c.args.u c.args.b (omega arith) c.requires.0 c.requires.1 c.if-u-eq-MARK.false)
