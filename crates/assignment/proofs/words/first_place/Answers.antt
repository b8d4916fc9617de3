-- `first_place` meets its contract. From the law of the library's `trailing_zeros`.
use Rattle.std.proofs.Common.{arith}
use Rattle.graph.specs.Literals.{bit}
use Rattle.std.specs.Int.{w64}
use Rattle.std.proofs.lemmas.Nat.Bits.{bit_at-trailing_zeros}
use Rattle.assignment.proofs.words.first_place.Goals as goal

pub returns : goal.returns
unfolding bit
returns c =
    let p = bit_at-trailing_zeros w64 c.args.word (omega (arith, c.requires)) (c.ranges.word.fits) in
    record { low = p.0; here = p.1; before = p.2 }
