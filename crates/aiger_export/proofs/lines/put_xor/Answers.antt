-- `put_xor` meets its contract: three lines in a row. From the laws on texts in a row.
use mathlib.Core.Path.{refl}
use Prim.Native.Nat.{◌+◌, ◌*◌}
use Rattle.aiger_export.specs.Inner.{three_line}
use Rattle.aiger_export.proofs.Parts.{xor_lines}
use Rattle.aiger_export.proofs.Stored.{three_put, xor_long}
use native.Mathlib.Omega.{arith}
use Rattle.aiger_export.proofs.lines.put_xor.Goals as goal

pub put_three-first-requires : goal.put_three-first-requires
put_three-first-requires c = let a = c.args in omega (arith, xor_long a.b a.x a.y _ _ refl c.turned.ensures)

pub put_three-second-requires : goal.put_three-second-requires
put_three-second-requires c =
    let a = c.args in
    omega (arith, xor_long a.b a.x a.y _ _ c.turned-2.ensures c.turned.ensures)

pub put_three-requires : goal.put_three-requires
put_three-requires c =
    let a = c.args in
    omega (arith, xor_long a.b a.x a.y _ _ c.turned-2.ensures c.turned.ensures)

pub returns : goal.returns
returns c =
    let a = c.args in
    let b = a.b in
    three_put _ (three_line (2 * b) a.x c.turned.result) (three_line (2 * b + 2) c.turned-2.result a.y) (three_line (2 * b + 4) (2 * b + 1) (2 * b + 3))
    (xor_lines b a.x a.y _ _ c.turned-2.ensures c.turned.ensures) _ _ _ _ _ _ _ _ c.put_three-first.ensures c.put_three-second.ensures c.put_three.ensures
