-- `pair_odds` meets its contract. From the contracts of its parts.
use Rattle.std.proofs.Common.{◌≡◌, ap, ◌∙◌, arith}
use Rattle.moves.specs.Outside.{odd_by, between_by, pair_odd}
use Rattle.moves.specs.Rows.{flag}
use Rattle.moves.proofs.Moves.{moves_row}
use Rattle.moves.proofs.gains.pair_odds.Goals as goal

pub flag_of-f-requires : goal.flag_of-f-requires
flag_of-f-requires c = (moves_row _ _ _ c.requires.0.has c.requires.2, omega arith)

pub flag_of-e-requires : goal.flag_of-e-requires
flag_of-e-requires c = (moves_row _ _ _ c.requires.1.has c.requires.3, omega arith)

pub returns : goal.returns
unfolding pair_odd
returns c =
    let a = c.args in
    let x : c.between_by.result ≡ between_by a.node a.which (flag a.named.xor a.a 3) = c.between_by.ensures.0 ∙ ap (between_by a.node a.which) c.flag_of-f.ensures.0 in
    let y : c.odd_by-3.result ≡ odd_by a.named (flag a.named.xor a.a 3) = c.odd_by-3.ensures.0 ∙ ap (odd_by a.named) c.flag_of-f.ensures.0 in
    let z : c.odd_by-4.result ≡ odd_by a.node (flag a.node.xor a.k 3) = c.odd_by-4.ensures.0 ∙ ap (odd_by a.node) c.flag_of-e.ensures.0 in
    record {
      before = omega (arith, c.odd_by.ensures.0, c.odd_by-2.ensures.0, x);
      after = omega (arith, y, z, c.between_by-2.ensures.0);
      few = omega (arith, c.odd_by.ensures.1, c.odd_by-2.ensures.1, c.between_by.ensures.1);
      few_after = omega (arith, c.odd_by-3.ensures.1, c.odd_by-4.ensures.1, c.between_by-2.ensures.1);
    }
