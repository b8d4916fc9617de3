-- `stored_bit` meets its contract. From the parts of a word.
use Rattle.std.proofs.Common.{sym, arith}
use Rattle.graph.proofs.Literals.{parts_low, parts_mark}
use Rattle.graph.proofs.table.stored_bit.Goals as goal

pub returns-then-x-eq-MARK : goal.returns-then-x-eq-MARK
returns-then-x-eq-MARK c = (sym (parts_mark c.args.x c.if-x-eq-MARK.true).1, omega arith)

pub returns : goal.returns
returns c = (sym (parts_low c.args.x (c.requires c.if-x-eq-MARK.false)).1, omega arith)
