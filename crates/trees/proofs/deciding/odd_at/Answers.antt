-- `odd_at` meets its contract: at a root what is counted, at any other node what its only reading word shows.
use native.Mathlib.Omega.{arith}
use Rattle.trees.proofs.Shown.{odd_mark_lem, odd_place, place_fits}
use Rattle.trees.proofs.deciding.odd_at.Goals as goal

pub returns-then-place : goal.returns-then-place
returns-then-place c = odd_mark_lem _ _ _ _ _ c.read-place.ensures c.if-place.true c.read.ensures

pub shown_bit-requires : goal.shown_bit-requires
shown_bit-requires c =
    let p = c.requires in
    let f = place_fits _ _ p.0 _ p.1 _ c.read-place.ensures (λ e. omega arith) p.2 in
    (p.0, f.0, f.1, f.2)

pub returns : goal.returns
returns c = odd_place _ _ _ _ _ c.read-place.ensures (λ e. omega arith) c.shown_bit.ensures
