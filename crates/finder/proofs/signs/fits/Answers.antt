-- `fits` meets its contract. From the laws on words that are never set at once.
use native.Mathlib.Omega.{arith}
use Rattle.finder.proofs.Fitting.{fits_two, fits_all}
use Rattle.finder.proofs.signs.fits.Goals as goal

pub returns-then-p-q-ne0 : goal.returns-then-p-q-ne0
returns-then-p-q-ne0 c d h f =
    let a = c.args in
    absurd (c.if-p-q-ne0.true (fits_two a.p a.q a.r c.ranges.p.fits c.ranges.q.fits c.ranges.r.fits d f))

pub returns : goal.returns
returns c d h f =
    let a = c.args in
    fits_all a.p a.q a.r c.ranges.p.fits c.ranges.q.fits c.ranges.r.fits c.turned.result (omega (arith, c.turned.type_inv)) c.turned.ensures c.if-p-q-eq0.false d h f
