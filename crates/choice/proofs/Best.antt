-- What `best` is, that only it is that, and how it is met. Assumes nothing.
use Prim.Native.Nat.{ℕ, zero, suc, ◌+◌, ◌≤◌, ◌<◌, zero-le}
use mathlib.Core.List.Memᴰ
use mathlib.Core.List.{List, [], ◌∷◌, Memᴰ}
use mathlib.Core.Logic.{◌⊎◌, inl, inr, ⊎_elim}
use mathlib.Core.Path.{◌≡◌, ap, sym}
use native.Mathlib.Omega.{arith}
use native.Mathlib.Nat.{eq-or-lt_of_le}
use Rattle.choice.specs.Choice.{from, choices, least, best, Fits}
use Rattle.choice.specs.Inner.{◌≺◌, zeros, FirstBelow}
use Rattle.choice.proofs.Least.{First, here, there, first_mem, first_le, least_first}
use Rattle.choice.proofs.Lex.{Ordered, one, ≺_irrefl, ≺_cases, ≺_zeros, fits_mem, mem_fits, choices_ordered, mem_from, from_mem}

-- b fits, none that fits costs less, and each earlier one costs more
pub record Best (f : List ℕ → ℕ) (ns b : List ℕ) : Type 0 where
  pub fits : Fits ns b
  pub none_less : (l : List ℕ) → Fits ns l → f b ≤ f l
  pub earlier_more : (l : List ℕ) → Fits ns l → l ≺ b → f b < f l

first_earlier : (f : List ℕ → ℕ) {b : List ℕ} {xs : List (List ℕ)} → First f b xs → Ordered xs → (y : List ℕ) → Memᴰ y xs → y ≺ b → f b < f y
first_earlier f (here {x = x} e h) (one g o) y (Memᴰ.head p) l = absurd (≺_irrefl x (rw (e, p) at l))
first_earlier f (here e h) (one g o) y (Memᴰ.tail m) l = absurd (g y m (rw e at l))
first_earlier f (there c h) (one g o) y (Memᴰ.head p) l = omega (arith, ap f p)
first_earlier f (there c h) (one g o) y (Memᴰ.tail m) l = first_earlier f h o y m l

module _ (f : List ℕ → ℕ) (ns : List ℕ) where
  -- where there is a choice at all, `best` is the first of the least
  best_first : (l : List ℕ) → Fits ns l → First f (best f ns) (choices ns)
  unfolding best
  best_first l h = go (choices ns) (fits_mem ns l h)
    where
      go : (xs : List (List ℕ)) {y : List ℕ} → Memᴰ y xs → First f (least f [] xs) xs
      go [] m = absurd (Memᴰ.not-nil m)
      go (x ∷ xs) m = least_first f [] x xs

  pub best_is : (l : List ℕ) → Fits ns l → Best f ns (best f ns)
  best_is l h =
      let b = best_first l h in
      record {
        fits = mem_fits ns (best f ns) (first_mem f b);
        none_less = λ l g. first_le f b l (fits_mem ns l g);
        earlier_more = λ l g. first_earlier f b (choices_ordered ns) l (fits_mem ns l g);
      }

  pub unique : (b : List ℕ) → Best f ns b → b ≡ best f ns
  unique b h =
      let c = best_is b h.fits in
      ⊎_elim (λ l. absurd (omega (arith, c.earlier_more b h.fits l, h.none_less (best f ns) c.fits)))
      (⊎_elim (λ e. e) (λ l. absurd (omega (arith, h.earlier_more (best f ns) c.fits l, c.none_less b h.fits))))
      (≺_cases ns b (best f ns) h.fits c.fits)

  pub best_zeros : Fits ns (zeros ns) → f (zeros ns) ≤ f (best f ns) → best f ns ≡ zeros ns
  best_zeros ok h =
      let c = best_is (zeros ns) ok in
      sym (unique (zeros ns) (record {
        fits = ok;
        none_less = λ l g. omega (arith, c.none_less l g);
        earlier_more = λ l g e. absurd (≺_zeros ns l e);
      }))

-- costs that differ by a constant have the same best
pub best_shift : (f g : List ℕ → ℕ) (a : ℕ) (ns : List ℕ) → Fits ns (zeros ns) → ((l : List ℕ) → f l + a ≡ g l) → best f ns ≡ best g ns
best_shift f g a ns ok e =
    let b = best_is f ns (zeros ns) ok in
    unique g ns (best f ns) (record {
      fits = b.fits;
      none_less = λ l h. omega (arith, e l, e (best f ns), b.none_less l h);
      earlier_more = λ l h i. omega (arith, e l, e (best f ns), b.earlier_more l h i);
    })

-- the laws in the words of `choices`
module _ (f : List ℕ → ℕ) (ns : List ℕ) (ok : Fits ns (zeros ns)) where
  pub best_among : Memᴰ (best f ns) (choices ns)
  best_among = fits_mem ns (best f ns) (best_is f ns (zeros ns) ok).fits

  pub best_least : (l : List ℕ) → Memᴰ l (choices ns) → f (best f ns) ≤ f l
  best_least l m = (best_is f ns (zeros ns) ok).none_less l (mem_fits ns l m)

  pub best_earlier : (l : List ℕ) → Memᴰ l (choices ns) → l ≺ best f ns → f (best f ns) < f l
  best_earlier l m = (best_is f ns (zeros ns) ok).earlier_more l (mem_fits ns l m)

-- the first of the least of a range
range_first : (c : ℕ → ℕ) (n : ℕ) → 0 < n → First c (least c 0 (from 0 n)) (from 0 n)
unfolding from
range_first c zero h = absurd (omega arith)
range_first c (suc n) h = least_first c 0 0 (from 1 n)

from_earlier : (c : ℕ → ℕ) (k n : ℕ) {b : ℕ} → First c b (from k n) → (j : ℕ) → k ≤ j → j < b → c b < c j
unfolding from
from_earlier c k zero h j g l = absurd (Memᴰ.not-nil (first_mem c h))
from_earlier c k (suc n) (here e h) j g l = absurd (omega arith)
from_earlier c k (suc n) (there i h) j g l =
    ⊎_elim (λ e. omega (arith, ap c e)) (λ s. from_earlier c (suc k) n h j s l) (eq-or-lt_of_le g)

pub least_below : (c : ℕ → ℕ) (n : ℕ) → 0 < n → FirstBelow c n (least c 0 (from 0 n))
least_below c n h =
    let b = range_first c n h in
    record {
      below = omega (arith, mem_from 0 n (first_mem c b));
      low = λ k i. first_le c b k (from_mem 0 n k zero-le (omega arith));
      first = λ k i. from_earlier c 0 n b k zero-le i;
    }

-- costs that differ by a constant below n have the same first least
pub first_shift : (f g : ℕ → ℕ) (a b n m : ℕ) → ((k : ℕ) → k < n → f k + a ≡ g k + b) → FirstBelow g n m → FirstBelow f n m
first_shift f g a b n m e h = record {
  below = h.below;
  low = λ k i. omega (arith, e k i, e m h.below, h.low k i);
  first = λ k i. omega (arith, e k (omega (arith, h.below)), e m h.below, h.first k i);
}

-- by the first move
module _ (f : List ℕ → ℕ) (n : ℕ) (ns : List ℕ) (ok : Fits ns (zeros ns)) where
  abbrev pub cost_of : ℕ → ℕ
  cost_of m = f (m ∷ best (λ l. f (m ∷ l)) ns)

  pub best_cons : (m : ℕ) → FirstBelow cost_of n m → best f (n ∷ ns) ≡ m ∷ best (λ l. f (m ∷ l)) ns
  best_cons m h = sym (unique f (n ∷ ns) (m ∷ rest m) (record {
    fits = (h.below, (is m).fits);
    none_less = none_less;
    earlier_more = earlier_more;
  }))
    where
      rest : ℕ → List ℕ
      rest k = best (λ l. f (k ∷ l)) ns

      is : (k : ℕ) → Best (λ l. f (k ∷ l)) ns (rest k)
      is k = best_is (λ l. f (k ∷ l)) ns (zeros ns) ok

      none_less : (l : List ℕ) → Fits (n ∷ ns) l → f (m ∷ rest m) ≤ f l
      none_less [] g = absurd g
      none_less (k ∷ l) g = omega (arith, h.low k g.0, (is k).none_less l g.1)

      earlier_more : (l : List ℕ) → Fits (n ∷ ns) l → l ≺ (m ∷ rest m) → f (m ∷ rest m) < f l
      earlier_more [] g e = absurd g
      earlier_more (k ∷ l) g (inl e) = omega (arith, h.first k e, (is k).none_less l g.1)
      earlier_more (k ∷ l) g (inr e) = rw e.0 ((is m).earlier_more l g.1 e.1)
