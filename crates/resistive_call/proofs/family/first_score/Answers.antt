-- `first_score` meets its contract. From the steps of a scan.
use mathlib.Core.Path.{sym}
use Rattle.moves.proofs.Scan.{scan_one}
use Rattle.resistive_call.proofs.Families.{weighed_xor, as_xor, as_majority, first_ends}
use Rattle.resistive_call.proofs.family.first_score.Goals as goal

pub returns-then-moves-eq1 : goal.returns-then-moves-eq1
returns-then-moves-eq1 c = first_ends (scan_one _) (sym c.if-moves-eq1.true)

pub first_of_xor-requires : goal.first_of_xor-requires
first_of_xor-requires c = let p = c.requires in (p.0, weighed_xor _ _ c.if-xor.true c.if-moves-eq1.false p.1)

pub returns-then-xor : goal.returns-then-xor
returns-then-xor c = as_xor _ _ _ _ _ _ c.if-xor.true c.first_of_xor.ensures

pub returns : goal.returns
returns c = as_majority _ _ _ _ _ _ c.if-xor.false c.if-moves-eq1.false c.requires.1 c.first_of_majority.ensures
