-- `stored_index` meets its contract. From the parts of a word.
use Rattle.graph.proofs.Literals.{parts_low, parts_mark}
use Rattle.graph.proofs.table.stored_index.Goals as goal

pub returns-then-x-eq-MARK : goal.returns-then-x-eq-MARK
returns-then-x-eq-MARK c = let p = parts_mark c.args.x c.if-x-eq-MARK.true in rw p.1 p.0

pub returns : goal.returns
returns c = let p = parts_low c.args.x (c.requires c.if-x-eq-MARK.false) in rw p.1 p.0
