-- `faults::check_record` meets its contract. From the laws on refusing.
use Rattle.std.proofs.Common.{◌≡◌, ℕ, get_or, refl, sym, ◌∙◌, arith}
use Rattle.graph.specs.Finite.{if_less}
use Rattle.graph.proofs.Tests.{less, no_less, fault, none}
use Rattle.class_figures.specs.Call.{record_number}
use Rattle.class_figures.proofs.Refusing.{high_word, no_high_word}
use Rattle.class_figures.proofs.faults.check_record.Goals as goal
use Rattle.class_figures.proofs.faults.check_record.Goals.{Else-limit-counted}

-- a count that is low enough
low_count : (c : Else-limit-counted) → ◌≡◌ {A = ℕ} (if_less (get_or c.args.book.now 0 0) c.args.limit 0 3) 0
low_count c = sym (less (get_or c.args.book.now 0 0) c.args.limit 0 3 (omega (arith, c.counted.ensures)) refl)

pub returns-then-limit-counted : goal.returns-then-limit-counted
unfolding record_number
returns-then-limit-counted c =
    let a = c.args in
    let e : ◌≡◌ {A = ℕ} 3 (if_less (get_or a.book.now 0 0) a.limit 0 3) = no_less (get_or a.book.now 0 0) a.limit 0 3 (omega (arith, c.counted.ensures)) refl in
    fault _ _ e (λ z. omega arith)

pub returns-then-holds_high : goal.returns-then-holds_high
unfolding record_number
returns-then-holds_high c =
    none _ _ (low_count (goal.at.returns-then-holds_high c).Else-limit-counted) (sym (high_word c.args.book.now (sym c.holds_high.ensures ∙ c.if-holds_high.true)))

pub returns : goal.returns
unfolding record_number
returns c =
    none _ _ (low_count (goal.at.returns c).Else-limit-counted) (sym (no_high_word c.args.book.now (sym c.holds_high.ensures ∙ c.if-holds_high.false)))
