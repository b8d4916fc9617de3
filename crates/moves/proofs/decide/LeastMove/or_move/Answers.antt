-- `or_move` meets its contract. From the steps of a scan.
use Rattle.std.proofs.Common.{arith}
use Rattle.moves.proofs.Scan.{scan_keep, scan_take}
use Rattle.moves.proofs.decide.LeastMove.or_move.Goals as goal

pub returns-then-cost-self : goal.returns-then-cost-self
returns-then-cost-self c f l e = record { found = scan_take f l.found (omega (arith, e, l.cost, c.if-cost-self.true)); cost = e }

pub returns : goal.returns
returns c f l e = record { found = scan_keep f l.found (omega (arith, e, l.cost, c.if-cost-self.false)); cost = l.cost }
