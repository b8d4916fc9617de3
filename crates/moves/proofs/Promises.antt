-- The promises of crate moves, each from its proof.
use Rattle.moves.specs.Promises.{Promises}
use Rattle.moves.proofs.Split.{split_whole}
use Rattle.moves.proofs.Locks.{locked_node, lowest_alone, none_locked}
use Rattle.moves.proofs.Pair.{pair_saving_lem, one_winner}

pub promises : Promises
promises =
    record {
      split_whole = split_whole;
      locked_node = locked_node;
      lowest_alone = lowest_alone;
      none_locked = none_locked;
      pair_saving_lem = pair_saving_lem;
      one_winner = one_winner;
    }
