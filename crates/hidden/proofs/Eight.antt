-- Majority's class has the eight majorities of the three variables, each complemented or not. By computed tests.
use mathlib.Core.Path.{◌≡◌, refl}
use mathlib.Core.Bool.{Bool, true, not, cond, ◌&&◌}
use mathlib.Core.Logic.{⊎_elim}
use mathlib.Core.List.{[], ◌∷◌}
use Prim.Native.Nat.{ℕ, ◌+◌, ◌*◌, ◌%◌, ◌≤◌, ◌<◌}
use native.Mathlib.Omega.{arith}
use borrow.Author.Tests.{eqb-true, ltb-true}
use lib.Dec.{T, eqb, ltb, eqb→eq}
use lib.ListN.{length, get_or, get_or-eq_default}
use Rattle.graph.specs.Finite.{tab}
use Rattle.graph.specs.Value.{majority}
use Rattle.graph.proofs.Cases.{lt_or_le}
use Rattle.graph.specs.Literals.{bit}
use Rattle.evaluation.specs.Word.{gather}
use Rattle.moves.specs.Tree.{last}
use Rattle.moves.proofs.Flags.{all, all_at, all3_at}
use Rattle.hidden.specs.Class.{classes}
use Rattle.moves.proofs.Readers.{both_true}
use Rattle.hidden.proofs.Bools.{T_true}
use Rattle.hidden.specs.Majority.{majority_byte, is_majority, complements}
use Rattle.hidden.specs.Promises.{pick}

pub eight : tab 8 majority_byte ≡ 232 ∷ 212 ∷ 178 ∷ 113 ∷ 142 ∷ 77 ∷ 43 ∷ 23 ∷ []
unfolding tab majority_byte gather bit majority
eight = refl

-- the complements of a byte of the class make it; any other is none of the eight
right : ℕ → Bool
right f = cond (is_majority f) (ltb (complements f) 8 && eqb (majority_byte (complements f)) f) (all 8 (λ c. not (eqb (majority_byte c) f)))

all_right : T (all 256 right)
unfolding right is_majority classes complements last majority_byte gather bit majority
all_right = tt

length_classes : length classes ≡ 256
unfolding classes
length_classes = refl

pub below_256 : (f : ℕ) → is_majority f ≡ true → f < 256
unfolding is_majority
below_256 f e =
    ⊎_elim (λ (h : f < 256). h)
    (λ (h : 256 ≤ f). absurd (omega (arith, eqb-true (get_or classes f 0) 23 e, get_or-eq_default classes 0 {n = f} (rw length_classes h))))
    (lt_or_le f 256)

pub majority_is : (f : ℕ) → is_majority f ≡ true → (complements f < 8) × (majority_byte (complements f) ≡ f)
unfolding right
majority_is f e =
    let t : T (ltb (complements f) 8 && eqb (majority_byte (complements f)) f) = rw e at (all_at 256 right all_right f (below_256 f e)) in
    let b = both_true (ltb (complements f) 8) (eqb (majority_byte (complements f)) f) (T_true _ t) in
    (ltb-true (complements f) 8 b.0, eqb-true (majority_byte (complements f)) f b.1)

byte_right : ℕ → Bool
byte_right c = is_majority (majority_byte c)

bytes_right : T (all 8 byte_right)
unfolding byte_right is_majority classes majority_byte gather bit majority
bytes_right = tt

pub majority_only : (c : ℕ) → c < 8 → is_majority (majority_byte c) ≡ true
unfolding byte_right
majority_only c h = T_true _ (all_at 8 byte_right bytes_right c h)

-- bit k of such a byte is the majority of the bits of k, complemented
bit_right : ℕ → ℕ → ℕ → ℕ → Bool
bit_right c x y z = eqb (bit (x + 2 * y + 4 * z) (majority_byte c)) (majority ((x + bit 0 c) % 2) ((y + bit 1 c) % 2) ((z + bit 2 c) % 2))

bits_right : (c : ℕ) → T (all 2 (λ x. all 2 (λ y. all 2 (λ z. bit_right c x y z)))) → (x y z : ℕ) → x < 2 → y < 2 → z < 2
    → bit (x + 2 * y + 4 * z) (majority_byte c) ≡ majority ((x + bit 0 c) % 2) ((y + bit 1 c) % 2) ((z + bit 2 c) % 2)
unfolding bit_right
bits_right c t x y z hx hy hz = eqb→eq _ _ (all3_at 2 2 2 (bit_right c) t x y z hx hy hz)

all_bits : T (all 8 (λ c. all 2 (λ x. all 2 (λ y. all 2 (λ z. bit_right c x y z)))))
unfolding bit_right majority_byte gather bit majority
all_bits = tt

pub majority_bits : (c x y z : ℕ) → c < 8 → x < 2 → y < 2 → z < 2
    → bit (pick x y z) (majority_byte c) ≡ majority ((x + bit 0 c) % 2) ((y + bit 1 c) % 2) ((z + bit 2 c) % 2)
majority_bits c x y z h = bits_right c (all_at 8 (λ c. all 2 (λ x. all 2 (λ y. all 2 (λ z. bit_right c x y z)))) all_bits c h) x y z
