-- `first_of_xor` meets its contract: its moves, one after the other.
use mathlib.Core.Path.{sym, ◌≡◌}
use mathlib.Core.Logic.{◌⊎◌, ⊎_elim, ◌≢◌}
use Prim.Native.Nat.{ℕ}
use Rattle.resistive_call.proofs.Families.{arity_true, first_ends}
use native.Mathlib.Omega.{arith}
use Rattle.resistive_call.proofs.family.first_of_xor.Goals as goal

other : {n : ℕ} → (n ≡ 2) ⊎ (n ≡ 4) → n ≢ 2 → 4 ≡ n
other h d = ⊎_elim (λ q. absurd (d q)) (λ q. sym q) h

pub score-requires : goal.score-requires
score-requires c = (c.requires.0, arity_true _ (omega arith))

pub score-requires-2 : goal.score-requires-2
score-requires-2 c = (c.requires.0, arity_true _ (omega arith))

pub returns-then-moves-eq2 : goal.returns-then-moves-eq2
returns-then-moves-eq2 c = first_ends (c.or_move-least.ensures _ (c.no_move-least.ensures _ c.score.ensures) c.score-2.ensures).found (sym c.if-moves-eq2.true)

pub score-requires-3 : goal.score-requires-3
score-requires-3 c = (c.requires.0, arity_true _ (omega arith))

pub score-requires-4 : goal.score-requires-4
score-requires-4 c = (c.requires.0, arity_true _ (omega arith))

pub returns : goal.returns
returns c =
    let two = c.or_move-least.ensures _ (c.no_move-least.ensures _ c.score.ensures) c.score-2.ensures in
    first_ends (c.or_move-least-3.ensures _ (c.or_move-least-2.ensures _ two c.score-3.ensures) c.score-4.ensures).found (other c.requires.1 c.if-moves-eq2.false)
