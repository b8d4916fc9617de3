-- `flag_of` meets its contract: the table in the code is the table of document 01. From the laws on rows.
use Rattle.std.proofs.Common.{◌≡◌, ℕ, ◌+◌, ◌*◌, Bool, true, false, [], get_or, refl, ap, ◌∙◌, arith}
use mir.Val.{bool_byte}
use Rattle.moves.specs.Rows.{rows, first_row}
use Rattle.moves.proofs.Deciding.{row_is, row_low}
use Rattle.moves.proofs.Flags.{flag_bit}
use Rattle.moves.proofs.rows.flag_of.Goals as goal

-- where a kind's rows begin
first : (x : Bool) → 2 * bool_byte x ≡ first_row x
unfolding first_row
first true = refl
first false = refl

pub bounds-row : goal.bounds-row
bounds-row c = omega (arith, first c.args.xor, row_low c.args.xor c.args.m c.requires.0)

pub returns : goal.returns
unfolding rows
returns c =
    let a = c.args in
    let e = ap (λ (n : ℕ). get_or (get_or rows (n + a.m) []) a.k 0) (first a.xor) ∙ row_is a.xor a.m a.k c.requires.0 in
    (e, omega (arith, e, flag_bit a.xor a.m a.k c.requires.1))
