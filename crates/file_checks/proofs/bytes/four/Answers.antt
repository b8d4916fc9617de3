-- `four` is the big-endian number of four bytes. Assumes their room.
use native.Mathlib.Omega.{arith}
use Rattle.file_checks.specs.File.{be4}
use Rattle.file_checks.proofs.bytes.four.Goals as goal

pub returns : goal.returns
unfolding be4
returns c = omega arith
