-- `put_three` meets its contract: three numbers in a row. From the laws on texts in a row.
use mathlib.Core.List.{[]}
use Rattle.aiger.specs.Export.{ended}
use Rattle.aiger_export.proofs.Parts.{three_parts}
use Rattle.aiger_export.proofs.Stored.{three_put, line_long}
use native.Mathlib.Omega.{arith}
use Rattle.aiger_export.proofs.lines.put_three.Goals as goal

pub put_ended-first-requires : goal.put_ended-first-requires
put_ended-first-requires c = let a = c.args in omega (arith, line_long a.x a.y a.z)

pub put_ended-second-requires : goal.put_ended-second-requires
put_ended-second-requires c = let a = c.args in omega (arith, line_long a.x a.y a.z)

pub put_ended-requires : goal.put_ended-requires
put_ended-requires c = let a = c.args in omega (arith, line_long a.x a.y a.z)

pub returns : goal.returns
returns c =
    let a = c.args in
    three_put _ (ended a.x 32 []) (ended a.y 32 []) (ended a.z 10 []) (three_parts a.x a.y a.z) _ _ _ _ _ _ _ _
    c.put_ended-first.ensures c.put_ended-second.ensures c.put_ended.ensures
