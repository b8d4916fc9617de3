-- `check_rising` meets its contract. From the laws on tests.
use Rattle.many.proofs.Refusing.{first_rises, later_rises, not_rising}
use Rattle.many.proofs.faults.check_rising.Goals as goal

pub returns-then-j-eq0 : goal.returns-then-j-eq0
returns-then-j-eq0 c = first_rises _ _ c.if-j-eq0.true

pub returns-then-list-j : goal.returns-then-list-j
returns-then-list-j c = let a = c.args in later_rises a.list.now a.j c.if-j-eq0.false c.if-list-j.true

pub returns : goal.returns
returns c = let a = c.args in not_rising a.list.now a.j c.if-j-eq0.false c.if-list-j.false
