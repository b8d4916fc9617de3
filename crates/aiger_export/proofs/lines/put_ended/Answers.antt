-- `put_ended` meets its contract: a number, and a byte after it. From the laws on runs of stores.
use mathlib.Core.Path.{refl}
use mathlib.Core.List.{[], ◌∷◌}
use Rattle.graph.specs.Finite.{decimal}
use Rattle.tagged_file.proofs.Stores.{in_a_row}
use Rattle.aiger.specs.Export.{ended}
use Rattle.aiger.proofs.Length.{length_ended}
use native.Mathlib.Omega.{arith}
use Rattle.aiger_export.proofs.lines.put_ended.Goals as goal

pub put-middle-requires : goal.put-middle-requires
put-middle-requires c = let a = c.args in omega (arith, length_ended a.n a.end [])

pub bounds-buffer-middle : goal.bounds-buffer-middle
bounds-buffer-middle c = let a = c.args in omega (arith, length_ended a.n a.end [])

pub overflow_add-result : goal.overflow_add-result
overflow_add-result c = let a = c.args in omega (arith, length_ended a.n a.end [])

pub returns : goal.returns
unfolding ended
returns c =
    let a = c.args in
    in_a_row a.buffer.now _ _ (decimal a.n) (a.end ∷ []) a.at _ _ c.put-middle.ensures (refl, refl)
