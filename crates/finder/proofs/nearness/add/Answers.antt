-- `add` meets its contract. From the laws on insertion.
use Rattle.finder.proofs.Inserting.{grown_nought, grown_insert}
use Rattle.finder.proofs.nearness.add.Goals as goal

pub returns-then-index-eq0 : goal.returns-then-index-eq0
returns-then-index-eq0 c = let a = c.args in grown_nought a.index a.n a.list.now c.if-index-eq0.true

pub returns : goal.returns
returns c =
    let a = c.args in
    grown_insert a.index a.n _ a.list.now _ c.if-index-eq0.false c.insert.ensures
