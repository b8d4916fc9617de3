-- `could_be` meets its contract: the complements of the first two that are meant are one of four cases. From the laws on votes.
use Prim.Native.Nat.{ℕ}
use lib.Bits.{bit_xor}
use Rattle.graph.specs.Literals.{bit}
use Rattle.graph.proofs.Bits.{bit_le}
use Rattle.finder.proofs.Fitting.{votes_never, could_all}
use Rattle.finder.proofs.signs.could_be.Goals as goal

pub returns : goal.returns
returns c d f =
    let a = c.args in
    let third : ℕ = bit 2 d in
    could_all (bit_xor a.x a.w) (bit_xor a.y a.w) (bit_xor a.z a.w) c.turned-not_p.result c.turned-not_q.result c.turned-not_p.ensures c.turned-not_q.ensures
    (bit 0 d) (bit 1 d) third (bit_le 0 d) (bit_le 1 d) (votes_never d a.w a.x a.y a.z f)
    c.fits.result c.fits-2.result c.fits-3.result c.fits-4.result
    (c.fits.ensures third (bit_le 2 d)) (c.fits-2.ensures third (bit_le 2 d)) (c.fits-3.ensures third (bit_le 2 d)) (c.fits-4.ensures third (bit_le 2 d))
    c.if-fits.false c.if-fits-2.false c.if-fits-3.false
