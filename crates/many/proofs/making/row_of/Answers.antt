-- `row_of` meets its contract. From the law of a row.
use native.Mathlib.Omega.{arith}
use Rattle.many.proofs.Sweeping.{row_is, row_low}
use Rattle.many.proofs.making.row_of.Goals as goal

pub overflow_mul-result : goal.overflow_mul-result
overflow_mul-result c = omega (arith, row_low c.args.xor c.args.m c.requires)

pub overflow_add-result : goal.overflow_add-result
overflow_add-result c = omega (arith, row_low c.args.xor c.args.m c.requires)

pub overflow_mul-result-2 : goal.overflow_mul-result-2
overflow_mul-result-2 c = omega (arith, row_low c.args.xor c.args.m c.requires)

pub overflow_shr-result : goal.overflow_shr-result
overflow_shr-result c = omega (arith, row_low c.args.xor c.args.m c.requires)

pub returns : goal.returns
returns c = row_is c.args.xor c.args.m c.requires
