-- `header_size` meets its contract. From the header's width.
use Rattle.aiger_export.proofs.Widths.{header_wide}
use native.Mathlib.Omega.{arith}
use Rattle.aiger_export.proofs.sizes.header_size.Goals as goal

pub returns : goal.returns
returns c = let a = c.args in (omega (arith, header_wide a.inputs a.count a.outputs), omega arith)
