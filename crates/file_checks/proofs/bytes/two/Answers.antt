-- `two` is the big-endian number of two bytes. Assumes their room.
use native.Mathlib.Omega.{arith}
use Rattle.file_checks.specs.File.{be2}
use Rattle.file_checks.proofs.bytes.two.Goals as goal

pub returns : goal.returns
unfolding be2
returns c = omega arith
