-- `put_bit` meets its contract. From the law of one bit more.
use Rattle.std.proofs.Common.{arith}
use Rattle.graph.proofs.BitsPut.{put_by}
use Rattle.graph.proofs.Gathered.{begun_more, begun_full}
use Rattle.graph.proofs.table.put_bit.Goals as goal

pub returns-then-j-ne63 : goal.returns-then-j-ne63
returns-then-j-ne63 c =
    let a = c.args in
    let bs = a.bits.now in
    put_by bs a.j a.got a.b c.requires.0 (omega arith) c.requires.1 _ (rw c.gathered-more.ensures (begun_more bs a.j a.got a.b c.requires.0 (omega arith) c.requires.1 c.if-j-ne63.true))

pub returns : goal.returns
returns c =
    let a = c.args in
    let bs = a.bits.now in
    put_by bs a.j a.got a.b c.requires.0 (omega arith) c.requires.1 _ (rw c.gathered-more.ensures (begun_full bs a.j a.got a.b c.requires.0 (omega arith) c.requires.1 _ (omega (arith, c.if-j-ne63.false))))
