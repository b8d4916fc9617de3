-- `lines::digit` meets its contract. From the tests alone.
use mathlib.Core.Logic.{inl, inr, ⊎_elim}
use Prim.Native.Nat.{◌<◌, ◌≤◌}
use native.Mathlib.Omega.{arith}
use Rattle.graph.proofs.Cases.{lt_or_le}
use Rattle.aiger_import.proofs.lines.digit.Goals as goal

pub returns-in_default : goal.returns-in_default
returns-in_default c =
    ⊎_elim (λ (l : c.args.b < 48). inl l) (λ (l : 48 ≤ c.args.b). inr (omega arith)) (lt_or_le c.args.b 48)
