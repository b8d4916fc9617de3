-- `node_odds` meets its contract. From the contracts of its parts.
use Rattle.std.proofs.Common.{ap, ◌∙◌, arith}
use Rattle.moves.specs.Outside.{odd_by}
use Rattle.moves.proofs.Moves.{moves_row}
use Rattle.moves.proofs.gains.node_odds.Goals as goal

pub flag_of-f-requires : goal.flag_of-f-requires
flag_of-f-requires c = (moves_row _ _ _ c.requires.0.has c.requires.1, omega arith)

pub returns : goal.returns
returns c =
    record {
      before = c.odd_by-before.ensures.0;
      after = c.odd_by-after.ensures.0 ∙ ap (odd_by c.args.node) c.flag_of-f.ensures.0;
      few = omega (arith, c.odd_by-before.ensures.1);
      few_after = omega (arith, c.odd_by-after.ensures.1);
    }
