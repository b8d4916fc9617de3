-- Equal answers leave the same at a lent place.
use Rattle.std.proofs.Common.{Result, Ok, Err}
use mathlib.Core.Path.{◌≡◌, refl, sym, ap, ◌∙◌}
use mathlib.Core.List.{List, [], ◌∷◌}
use Prim.Native.Nat.{ℕ}
use lib.IntN.{ℤ}
use Rattle.graph.specs.Answer.{Answer, refusal_number, answer_by}
use Rattle.graph.specs.declared.Refusal.{Refusal}
use Rattle.answers.specs.Told.{told, told_one, told_signed, told_gain}

pub same_one : {a b : Answer} (before : ℕ) → a ≡ b → told_one a before ≡ told_one b before
same_one before e = ap (λ a. told_one a before) e

pub same_told : {a b : Answer} (before : List ℕ) → a ≡ b → told a before ≡ told b before
same_told before e = ap (λ a. told a before) e

pub same_signed : {a b : Answer} {x y : List ℤ} → a ≡ b → x ≡ y → told_signed a x ≡ told_signed b y
same_signed {a} {b} {x} {y} e f = ap (λ (t : Answer). told_signed t x) e ∙ ap (told_signed b) f

pub same_gain : {a b : Answer} {x y : ℤ} → a ≡ b → x ≡ y → told_gain a x ≡ told_gain b y
same_gain {a} {b} {x} {y} e f = ap (λ (t : Answer). told_gain t x) e ∙ ap (told_gain b) f

-- the number of an answer is that of what refuses it
pub numbered : {T : Type 0} (f : T → Answer) (r : Result T Refusal) → ((x : T) → (f x).number ≡ 0) → refusal_number r ≡ (answer_by f r).number
numbered f (Ok x) z = sym (z x)
numbered f (Err r) z = refl

-- two numbers that read as they were stored
pub two : {x y u v : ℤ} → x ≡ u → y ≡ v → x ∷ y ∷ [] ≡ u ∷ v ∷ []
two p q = λ i. p i ∷ q i ∷ []
