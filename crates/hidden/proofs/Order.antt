-- The finder's triples as three loops go through them: what is left at each place, and one triple less. From the definitions.
use mathlib.Core.Path.{◌≡◌, refl, ap}
use mathlib.Core.Bool.{true, false}
use mathlib.Core.List.{List, [], ◌∷◌, ◌++◌, map}
use Prim.Native.Nat.{ℕ, zero, suc, ◌<◌}
use native.Mathlib.Omega.{arith}
use lib.ListN.{length, get_or, drop}
use Rattle.graph.specs.Graph.{Graph}
use Rattle.hidden.specs.Truth.{Triple, triple, truth}
use Rattle.hidden.specs.Majority.{is_majority, made}
use Rattle.hidden.specs.Find.{pairs, triples, first_made}
use Rattle.hidden.specs.Inner.{left₁, left₂, left₃}

-- what is left of a list at a place
drop_at : (l : List ℕ) (k : ℕ) → k < length l → drop k l ≡ get_or l k 0 ∷ drop (suc k) l
drop_at [] k h = absurd (omega arith)
drop_at (x ∷ l) zero h = refl
drop_at (x ∷ l) (suc k) h = drop_at l k (omega arith)

drop_end : (l : List ℕ) → drop (length l) l ≡ []
drop_end [] = refl
drop_end (x ∷ l) = drop_end l

append_assoc : (x y z : List Triple) → (x ++ y) ++ z ≡ x ++ (y ++ z)
append_assoc [] y z = refl
append_assoc (t ∷ x) y z = ap (λ (l : List Triple). t ∷ l) (append_assoc x y z)

module _ (l : List ℕ) where
  pub left_all : triples l ≡ left₁ l 0
  unfolding left₁
  left_all = refl

  pub left_none : left₁ l (length l) ≡ []
  unfolding left₁ triples
  left_none = rw (drop_end l)

  pub left_lowest : (a : ℕ) → a < length l → left₁ l a ≡ left₂ l a (suc a)
  unfolding left₁ left₂ triples
  left_lowest a h = rw (drop_at l a h)

  pub left_second : (a b : ℕ) → b < length l → left₂ l a b ≡ left₃ l a b (suc b)
  unfolding left₂ left₃ pairs
  left_second a b h =
      rw (drop_at l b h) (append_assoc (map (λ z. triple (get_or l a 0) (get_or l b 0) z) (drop (suc b) l)) (pairs (get_or l a 0) (drop (suc b) l)) (left₁ l (suc a)))

  pub left_seconds : (a : ℕ) → left₂ l a (length l) ≡ left₁ l (suc a)
  unfolding left₂ pairs
  left_seconds a = rw (drop_end l)

  pub left_third : (a b c : ℕ) → c < length l → left₃ l a b c ≡ triple (get_or l a 0) (get_or l b 0) (get_or l c 0) ∷ left₃ l a b (suc c)
  unfolding left₃
  left_third a b c h = rw (drop_at l c h)

  pub left_thirds : (a b : ℕ) → left₃ l a b (length l) ≡ left₂ l a (suc b)
  unfolding left₃
  left_thirds a b = rw (drop_end l)

-- one triple less, or the one taken
pub passed_over : (g : Graph) (u : ℕ) (t : Triple) (ts : List Triple) → is_majority (truth g t u) ≡ false → first_made g u (t ∷ ts) ≡ first_made g u ts
unfolding first_made
passed_over g u t ts e = rw e

pub taken : (g : Graph) (u : ℕ) (t : Triple) (ts : List Triple) → is_majority (truth g t u) ≡ true → first_made g u (t ∷ ts) ≡ made g t u
unfolding first_made
taken g u t ts e = rw e

pub none_left : (g : Graph) (u : ℕ) → first_made g u [] ≡ g
unfolding first_made
none_left g u = refl
