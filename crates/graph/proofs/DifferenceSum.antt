-- Differences add up by what is counted, one after the other and side by side. From the laws of one difference.
use Rattle.std.proofs.Common.{◌≡◌, ℕ, suc, ◌+◌, ◌-◌, ◌<◌, ◌≤◌, ℤ, pos, ◌+ℤ◌, ◌-ℤ◌, sym, refl, ap, ◌∙◌, ⊎_elim, arith}
use lib.IntN.{sub_ℕ, +ℤ_assoc, +ℤ_comm, +ℤ-neg_ℤ_cancel}
use Rattle.graph.proofs.Cases.{lt_or_le}
use Rattle.graph.proofs.Difference.{at_least, below, same_difference}
use Rattle.graph.specs.Finite.{difference}

opened : (a b : ℕ) → sub_ℕ a b ≡ difference a b
unfolding difference
opened a b = refl

mixed : (x y z w : ℕ) → x + w ≡ y + z → sub_ℕ x y ≡ difference z w
mixed x y z w e = opened x y ∙ same_difference x y z w e

pub differences_add : (a b c d : ℕ) → difference a b +ℤ difference c d ≡ difference (a + c) (b + d)
differences_add a b c d =
    ⊎_elim
    (λ (h : a < b).
    ⊎_elim
    (λ (k : c < d).
    rw (below a b (b - suc a) (omega arith), below c d (d - suc c) (omega arith)) (sym (below (a + c) (b + d) (suc (b - suc a + (d - suc c))) (omega arith))))
    (λ (k : d ≤ c).
    rw (below a b (b - suc a) (omega arith), at_least c d (c - d) (omega arith)) (mixed (c - d) (suc (b - suc a)) (a + c) (b + d) (omega arith)))
    (lt_or_le c d))
    (λ (h : b ≤ a).
    ⊎_elim
    (λ (k : c < d).
    rw (at_least a b (a - b) (omega arith), below c d (d - suc c) (omega arith)) (mixed (a - b) (suc (d - suc c)) (a + c) (b + d) (omega arith)))
    (λ (k : d ≤ c).
    rw (at_least a b (a - b) (omega arith), at_least c d (c - d) (omega arith)) (sym (at_least (a + c) (b + d) (a - b + (c - d)) (omega arith))))
    (lt_or_le c d))
    (lt_or_le a b)

-- a sum of differences, met by counting
pub sum_is : (a b c d e f : ℕ) → a + c + f ≡ b + d + e → difference a b +ℤ difference c d ≡ difference e f
sum_is a b c d e f h = differences_add a b c d ∙ same_difference (a + c) (b + d) e f (omega arith)

-- one after the other
pub telescope : (a b c : ℕ) → difference a b +ℤ difference b c ≡ difference a c
telescope a b c = sum_is a b b c a c (omega arith)

pub no_difference : (a : ℕ) → difference a a ≡ pos 0
no_difference a = at_least a a 0 (omega arith)

-- one part is the whole less the other
part_is : (x y z : ℤ) → x +ℤ y ≡ z → x ≡ z -ℤ y
part_is x y z e = sym (+ℤ-neg_ℤ_cancel x y) ∙ ap (λ w. w -ℤ y) e

pub part_by : (x y : ℤ) (a b c d : ℕ) → x +ℤ y ≡ difference a b → y ≡ difference c d → x ≡ difference (a + d) (b + c)
part_by x y a b c d e q =
    part_is x y (difference a b) e ∙ sym (part_is (difference (a + d) (b + c)) y (difference a b) (ap (λ z. difference (a + d) (b + c) +ℤ z) q ∙ sum_is (a + d) (b + c) c d a b (omega arith)))

-- two sums of two, added part by part
pub interchange : (a b c d : ℤ) → (a +ℤ b) +ℤ (c +ℤ d) ≡ (a +ℤ c) +ℤ (b +ℤ d)
interchange a b c d =
    +ℤ_assoc a b (c +ℤ d) ∙ ap (λ x. a +ℤ x) (sym (+ℤ_assoc b c d) ∙ ap (λ x. x +ℤ d) (+ℤ_comm b c) ∙ +ℤ_assoc c b d) ∙ sym (+ℤ_assoc a c (b +ℤ d))
