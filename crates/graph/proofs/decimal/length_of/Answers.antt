-- `length_of` meets its contract: the digits passed and those of what is left are all digits. From the laws on digits.
use Rattle.std.proofs.Common.{refl, arith}
use Rattle.graph.proofs.Digits.{length_small, length_more, length_some, length_at_most}
use Rattle.graph.proofs.decimal.length_of.Goals as goal

pub loop-left-init : goal.loop-left-init
loop-left-init c = (refl, omega arith)

pub overflow_add-k : goal.overflow_add-k
overflow_add-k c = omega (arith, length_some c.loop-left.left, length_at_most c.args.n (omega arith))

pub loop-left-preserved : goal.loop-left-preserved
loop-left-preserved c = let l = c.loop-left.left in (omega (arith, length_more l (omega arith)), omega arith)

pub returns : goal.returns
returns c =
    let l = c.loop-left in
    let e = length_small l.left (omega arith) in
    let m = length_at_most c.args.n (omega arith) in
    (omega arith, omega arith, omega arith)
