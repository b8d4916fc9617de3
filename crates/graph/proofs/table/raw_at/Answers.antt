-- `raw_at` meets its contract: a slice of words of 32 bits has one at each place. From that law.
use Rattle.std.proofs.Common.{arith}
use Rattle.graph.proofs.Literals.{index_is}
use Rattle.graph.proofs.table.raw_at.Goals as goal

pub returns : goal.returns
returns c =
    let a = c.args in
    index_is a.table.now a.j (omega (arith, c.type_inv.table a.j))
