-- `put_name` meets its contract, which is its four stores.
use lib.ListN.{length-set}
use native.Mathlib.Omega.{arith}
use Rattle.aiger_export.proofs.lines.put_name.Goals as goal

pub bounds-buffer-1 : goal.bounds-buffer-1
bounds-buffer-1 c = simp length-set (omega arith)

pub bounds-buffer-2 : goal.bounds-buffer-2
bounds-buffer-2 c = simp length-set (omega arith)
