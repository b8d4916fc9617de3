-- `put_last` meets its contract. From what the words are with one that has begun.
use Rattle.std.proofs.Common.{sym}
use Rattle.graph.proofs.Gathered.{begun_none, begun_some}
use Rattle.graph.proofs.table.put_last.Goals as goal

pub returns-then-many-eq0 : goal.returns-then-many-eq0
returns-then-many-eq0 c = let a = c.args in sym (begun_none a.bits.now a.got a.j c.if-many-eq0.true)

pub returns : goal.returns
returns c = let a = c.args in sym (begun_some a.bits.now a.got a.j c.if-many-eq0.false)
