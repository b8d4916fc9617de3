-- `count_of` meets its contract. From the laws of differences.
use Rattle.std.proofs.Common.{nat_abs, ap, w64}
use mir.ValLaws.{to_z-of_z}
use Rattle.graph.proofs.Difference.{counts}
use Rattle.graph.proofs.signed.count_of.Goals as goal

pub overflow_cast-result : goal.overflow_cast-result
overflow_cast-result c = counts c.args.x c.ranges.x c.requires.0 c.requires.1

pub returns : goal.returns
returns c = ap nat_abs (to_z-of_z w64 c.args.x c.ranges.x)
