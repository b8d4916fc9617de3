-- `put_majority` meets its contract: four lines in a row. From the laws on texts in a row.
use Prim.Native.Nat.{◌+◌, ◌*◌}
use Rattle.aiger_export.specs.Inner.{three_line}
use Rattle.aiger_export.proofs.Parts.{majority_lines}
use Rattle.aiger_export.proofs.Stored.{four_put, majority_long}
use native.Mathlib.Omega.{arith}
use Rattle.aiger_export.proofs.lines.put_majority.Goals as goal

pub put_three-first-requires : goal.put_three-first-requires
put_three-first-requires c =
    let a = c.args in
    omega (arith, majority_long a.b a.x a.y a.z _ _ c.turned.ensures c.turned-2.ensures)

pub put_three-second-requires : goal.put_three-second-requires
put_three-second-requires c =
    let a = c.args in
    omega (arith, majority_long a.b a.x a.y a.z _ _ c.turned.ensures c.turned-2.ensures)

pub put_three-third-requires : goal.put_three-third-requires
put_three-third-requires c =
    let a = c.args in
    omega (arith, majority_long a.b a.x a.y a.z _ _ c.turned.ensures c.turned-2.ensures)

pub put_three-requires : goal.put_three-requires
put_three-requires c =
    let a = c.args in
    omega (arith, majority_long a.b a.x a.y a.z _ _ c.turned.ensures c.turned-2.ensures, c.requires, c.put_three-second)

pub returns : goal.returns
returns c =
    let a = c.args in
    let b = a.b in
    four_put _ (three_line (2 * b) c.turned.result c.turned-2.result) (three_line (2 * b + 2) a.x (2 * b + 1)) (three_line (2 * b + 4) a.y a.z)
    (three_line (2 * b + 6) (2 * b + 3) (2 * b + 5)) (majority_lines b a.x a.y a.z _ _ c.turned.ensures c.turned-2.ensures) _ _ _ _ _ _ _ _ _ _
    c.put_three-first.ensures c.put_three-second.ensures c.put_three-third.ensures c.put_three.ensures
