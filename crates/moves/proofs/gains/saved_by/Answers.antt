-- `saved_by` meets its contract: both numbers are differences of counts. From the laws of differences.
use Rattle.std.proofs.Common.{◌≡◌, ◌+◌, [], ℤ, arith}
use Rattle.graph.specs.Answer.{gained}
use Rattle.graph.proofs.Difference.{read_back}
use Rattle.moves.proofs.gains.saved_by.Goals as goal

same-gained : {x y u v : ℤ} → x ≡ u → y ≡ v → gained [] x y ≡ gained [] u v
same-gained p q = λ i. gained [] (p i) (q i)

pub returns : goal.returns
returns c =
    let a = c.args in
    let o = a.odds in
    same-gained
    (read_back (a.before + o.after) (a.after + o.before) (omega arith) (omega arith) c.less-own.result c.less-own.ensures)
    (read_back o.before o.after (omega arith) (omega arith) c.less-others.result c.less-others.ensures)
