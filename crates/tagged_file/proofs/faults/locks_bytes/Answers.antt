-- `locks_bytes` takes seven bytes for each locked node. From the law on the lengths of the locks' fields.
use native.Mathlib.Omega.{arith}
use lib.ListN.{take}
use Rattle.std.proofs.Common.{◌==◌}
use Rattle.std.proofs.lemmas.List.Sums.{count_by-le-length}
use lib.Seq.{length-take-le}
use Rattle.tagged_file.proofs.WholeWrite.{length_locks}
use Rattle.tagged_file.proofs.faults.locks_bytes.Goals as goal

pub returns : goal.returns
returns c =
    let ls = c.args.locks.now in
    let b = count_by-le-length (λ b. b == 1) (take c.args.nodes ls) in
    ((λ i. omega (arith, length_locks i ls c.args.nodes c.requires)), omega (arith, b, length-take-le c.args.nodes ls c.requires))
