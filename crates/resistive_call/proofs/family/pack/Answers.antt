-- `pack` meets its contract. From the laws on tests.
use Rattle.resistive_call.proofs.Families.{pack_more, pack_less}
use native.Mathlib.Omega.{arith}
use Rattle.resistive_call.proofs.family.pack.Goals as goal

pub returns-then-b-a : goal.returns-then-b-a
returns-then-b-a c = pack_more _ _ (omega arith)

pub returns : goal.returns
returns c = pack_less _ _ (omega arith)
