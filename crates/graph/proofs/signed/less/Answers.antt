-- `less` meets its contract. From the laws of differences.
use Rattle.std.proofs.Common.{arith}
use Rattle.graph.proofs.Difference.{less_fits, less_returned}
use Rattle.graph.proofs.signed.less.Goals as goal

pub overflow_sub-result : goal.overflow_sub-result
overflow_sub-result c = less_fits c.args.a c.args.b (omega arith) (omega arith)

pub returns : goal.returns
returns c = less_returned c.args.a c.args.b (omega arith) (omega arith)
