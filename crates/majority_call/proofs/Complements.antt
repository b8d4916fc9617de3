-- The complements of each of the eight majorities, and that there are no others. By computed tests.
use mathlib.Core.Path.{◌≡◌, refl}
use mathlib.Core.Bool.{Bool, true, cond, ◌||◌}
use mathlib.Core.Logic.{◌≢◌}
use Prim.Native.Nat.{ℕ, ◌/◌, ◌%◌, ◌<◌}
use native.Mathlib.Omega.{arith}
use borrow.Author.Tests.{eqb-true, ne_eqb}
use lib.Dec.{T, eqb}
use Rattle.graph.specs.Value.{majority}
use Rattle.graph.specs.Literals.{bit}
use Rattle.evaluation.specs.Word.{gather}
use Rattle.moves.specs.Tree.{last}
use Rattle.moves.proofs.Flags.{all, all_at}
use Rattle.hidden.specs.Class.{classes}
use Rattle.hidden.specs.Majority.{majority_byte, is_majority, complements}
use Rattle.hidden.proofs.Bools.{T_true}

module _ (f : ℕ) where
  pub of_232 : f ≡ 232 → 0 ≡ complements f
  unfolding complements last majority_byte gather bit majority
  of_232 e = rw e

  pub of_212 : f ≡ 212 → 1 ≡ complements f
  unfolding complements last majority_byte gather bit majority
  of_212 e = rw e

  pub of_178 : f ≡ 178 → 2 ≡ complements f
  unfolding complements last majority_byte gather bit majority
  of_178 e = rw e

  pub of_113 : f ≡ 113 → 3 ≡ complements f
  unfolding complements last majority_byte gather bit majority
  of_113 e = rw e

  pub of_142 : f ≡ 142 → 4 ≡ complements f
  unfolding complements last majority_byte gather bit majority
  of_142 e = rw e

  pub of_77 : f ≡ 77 → 5 ≡ complements f
  unfolding complements last majority_byte gather bit majority
  of_77 e = rw e

  pub of_43 : f ≡ 43 → 6 ≡ complements f
  unfolding complements last majority_byte gather bit majority
  of_43 e = rw e

  pub of_23 : f ≡ 23 → 7 ≡ complements f
  unfolding complements last majority_byte gather bit majority
  of_23 e = rw e

right : ℕ → Bool
right f = cond (is_majority f) (eqb f 232 || (eqb f 212 || (eqb f 178 || (eqb f 113 || (eqb f 142 || (eqb f 77 || (eqb f 43 || eqb f 23))))))) true

all_right : T (all 256 right)
unfolding right is_majority classes
all_right = tt

pub the_last : (f : ℕ) → f < 256 → is_majority f ≡ true → f ≢ 232 → f ≢ 212 → f ≢ 178 → f ≢ 113 → f ≢ 142 → f ≢ 77 → f ≢ 43 → f ≡ 23
unfolding right
the_last f h m a b c d e g k =
    let t : T (eqb f 232 || (eqb f 212 || (eqb f 178 || (eqb f 113 || (eqb f 142 || (eqb f 77 || (eqb f 43 || eqb f 23))))))) = rw m at (all_at 256 right all_right f h) in
    let s : T (eqb f 23) = rw (ne_eqb f 232 a, ne_eqb f 212 b, ne_eqb f 178 c, ne_eqb f 113 d, ne_eqb f 142 e, ne_eqb f 77 g, ne_eqb f 43 k) at t in
    eqb-true f 23 (T_true (eqb f 23) s)

-- the bits of the complements
pub bits : (c : ℕ) → (bit 0 c ≡ c % 2) × (bit 1 c ≡ c / 2 % 2) × (bit 2 c ≡ c / 4 % 2)
unfolding bit
bits c = (omega arith, refl, refl)
