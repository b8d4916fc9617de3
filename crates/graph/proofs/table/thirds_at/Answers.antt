-- `thirds_at` meets its contract. From the laws of bits by one shift, and of each by itself.
use Rattle.graph.proofs.Bits.{thirds_shifted, thirds_apart}
use Rattle.graph.proofs.table.thirds_at.Goals as goal

pub returns-then-at-lt53 : goal.returns-then-at-lt53
returns-then-at-lt53 c = let a = c.args in thirds_shifted a.bits.now a.at c.if-at-lt53.true

pub returns : goal.returns
returns c =
    let x = c.bit_at.ensures in
    let y = c.bit_at-2.ensures in
    let z = c.bit_at-3.ensures in
    let u = c.bit_at-4.ensures in
    thirds_apart _ _ _ _ _ _ x.0 y.0 z.0 u.0 x.1 y.1 z.1 u.1
