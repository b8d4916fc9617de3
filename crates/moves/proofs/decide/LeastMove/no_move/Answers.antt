-- `no_move` meets its contract. From the first step of a scan.
use Rattle.moves.proofs.Scan.{scan_one}
use Rattle.moves.proofs.decide.LeastMove.no_move.Goals as goal

pub returns : goal.returns
returns c f e = record { found = scan_one f; cost = e }
