-- `byte_at` meets its contract: a byte is a word of 32 bits.
use Rattle.std.proofs.Common.{arith}
use Rattle.graph.proofs.table.byte_at.Goals as goal

pub overflow_cast-result : goal.overflow_cast-result
overflow_cast-result c = omega (arith, c.type_inv.bytes c.args.k)
