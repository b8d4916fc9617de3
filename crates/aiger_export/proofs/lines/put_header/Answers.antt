-- `put_header` meets its contract: four parts in a row. From the laws on texts in a row.
use mathlib.Core.Path.{refl, ◌∙◌}
use mathlib.Core.List.{[], ◌∷◌}
use Prim.Native.Nat.{◌+◌}
use native.Mathlib.Nat.{zero-add}
use Rattle.aiger.specs.Export.{ended}
use Rattle.aiger_export.specs.Inner.{three_line}
use Rattle.aiger_export.proofs.Parts.{header_parts}
use Rattle.aiger_export.proofs.Stored.{four_put, header_long}
use native.Mathlib.Omega.{arith}
use Rattle.aiger_export.proofs.lines.put_header.Goals as goal

pub put_name-requires : goal.put_name-requires
put_name-requires c = let a = c.args in omega (arith, header_long a.inputs a.count a.outputs)

pub put_ended-first-requires : goal.put_ended-first-requires
put_ended-first-requires c = let a = c.args in omega (arith, header_long a.inputs a.count a.outputs)

pub put_ended-second-requires : goal.put_ended-second-requires
put_ended-second-requires c =
    let a = c.args in
    omega (arith, header_long a.inputs a.count a.outputs)

pub put_three-requires : goal.put_three-requires
put_three-requires c =
    let a = c.args in
    omega (arith, header_long a.inputs a.count a.outputs)

pub returns : goal.returns
returns c =
    let a = c.args in
    let i = a.inputs in
    let n = a.count in
    let o = a.outputs in
    let h = four_put _ (97 ∷ 97 ∷ 103 ∷ 32 ∷ []) (ended (i + n) 32 []) (ended i 32 []) (three_line 0 o n) (header_parts i n o) _ _ _ _ _ 0 4 _ _ _
    (refl, c.put_name.ensures) c.put_ended-first.ensures c.put_ended-second.ensures c.put_three.ensures in
    (h.0 ∙ zero-add _, h.1)
