-- Decimal text by its last digit, how long it is, and runs of stores by their last and one after the other. Assumes nothing.
use Rattle.std.proofs.Common.{◌≡◌, ℕ, zero, suc, ◌+◌, ◌-◌, ◌*◌, ◌/◌, ◌%◌, ◌<◌, ◌≤◌, List, [], ◌∷◌, ◌++◌, length, set, sym, refl, ap, ◌∙◌, ⊎_elim, not-suc-le-zero, arith, length-append, length-set}
use native.Mathlib.Decide.{le_ind}
use lib.Seq.{sets, set_comm}
use Rattle.graph.specs.Finite.{decimal_in, decimal}
use Rattle.graph.proofs.Cases.{lt_or_le}
use Rattle.graph.proofs.Tests.{less, no_less}

-- more places than digits are needed change nothing
in_small : (f n : ℕ) → n < 10 → decimal_in (suc f) n ≡ (48 + n) ∷ []
unfolding decimal_in
in_small f n h = sym (less n 10 _ _ h refl)

in_more : (f n : ℕ) → 10 ≤ n → decimal_in (suc f) n ≡ decimal_in f (n / 10) ++ ((48 + n % 10) ∷ [])
unfolding decimal_in
in_more f n h = sym (no_less n 10 _ _ h refl)

one_more_lem : (f n : ℕ) → n < f → decimal_in (suc f) n ≡ decimal_in f n
one_more_lem zero n h = absurd (not-suc-le-zero h)
one_more_lem (suc f) n h =
    ⊎_elim
    (λ (k : n < 10). in_small (suc f) n k ∙ sym (in_small f n k))
    (λ (k : 10 ≤ n). in_more (suc f) n k ∙ ap (λ (l : List ℕ). l ++ ((48 + n % 10) ∷ [])) (one_more_lem f (n / 10) (omega arith)) ∙ sym (in_more f n k))
    (lt_or_le n 10)

enough : (f n : ℕ) → n < f → decimal_in f n ≡ decimal n
unfolding decimal
enough f n h = le_ind (λ (m : ℕ). decimal_in m n ≡ decimal_in (suc n) n) refl (λ m k s. one_more_lem m n k ∙ s) f h

pub decimal_small : (n : ℕ) → n < 10 → decimal n ≡ (48 + n) ∷ []
unfolding decimal
decimal_small n h = in_small n n h

pub decimal_more : (n : ℕ) → 10 ≤ n → decimal n ≡ decimal (n / 10) ++ ((48 + n % 10) ∷ [])
decimal_more n h =
    sym (enough (suc n) n (omega arith)) ∙ in_more n n h ∙ ap (λ (l : List ℕ). l ++ ((48 + n % 10) ∷ [])) (enough n (n / 10) (omega arith))

pub length_small : (n : ℕ) → n < 10 → length (decimal n) ≡ 1
length_small n h = ap length (decimal_small n h)

pub length_more : (n : ℕ) → 10 ≤ n → length (decimal n) ≡ length (decimal (n / 10)) + 1
length_more n h = ap length (decimal_more n h) ∙ length-append (decimal (n / 10)) ((48 + n % 10) ∷ [])

-- a number has a digit, and one below p × 10 at most one more than p allows
pub length_some : (n : ℕ) → 1 ≤ length (decimal n)
length_some n = ⊎_elim (λ (k : n < 10). omega (arith, length_small n k)) (λ (k : 10 ≤ n). omega (arith, length_more n k)) (lt_or_le n 10)

length_ten : (p k : ℕ) → 1 ≤ k → ((n : ℕ) → n < p → length (decimal n) ≤ k) → (n : ℕ) → n < 10 * p → length (decimal n) ≤ suc k
length_ten p k l h n m =
    ⊎_elim (λ (s : n < 10). omega (arith, length_small n s)) (λ (s : 10 ≤ n). omega (arith, length_more n s, h (n / 10) (omega arith))) (lt_or_le n 10)

pub length_at_most : (n : ℕ) → n < 10000000000 → length (decimal n) ≤ 10
length_at_most =
    length_ten 1000000000 9 (omega arith)
    (length_ten 100000000 8 (omega arith)
    (length_ten 10000000 7 (omega arith)
    (length_ten 1000000 6 (omega arith)
    (length_ten 100000 5 (omega arith)
    (length_ten 10000 4 (omega arith)
    (length_ten 1000 3 (omega arith) (length_ten 100 2 (omega arith) (length_ten 10 1 (omega arith) (λ n h. omega (arith, length_small n h))))))))))

-- a run of stores whose last is made first
pub sets_last : (l vs : List ℕ) (i a : ℕ) → sets l i (vs ++ (a ∷ [])) ≡ sets (set l (i + length vs) a) i vs
sets_last l [] i a = let e : i + 0 ≡ i = omega arith in rw e
sets_last l (v ∷ vs) i a =
    let e : suc i + length vs ≡ i + suc (length vs) = omega arith in
    sets_last (set l i v) vs (suc i) a
    ∙ ap (λ (k : ℕ). sets (set (set l i v) k a) (suc i) vs) e
    ∙ ap (λ (m : List ℕ). sets m (suc i) vs) (set_comm l i (i + suc (length vs)) v a (λ z. omega arith))

-- one text after another is the two as one
pub sets_append : (l xs ys : List ℕ) (i : ℕ) → sets (sets l i xs) (i + length xs) ys ≡ sets l i (xs ++ ys)
sets_append l [] ys i = let e : i + 0 ≡ i = omega arith in rw e
sets_append l (x ∷ xs) ys i =
    let e : i + suc (length xs) ≡ suc i + length xs = omega arith in
    ap (λ (k : ℕ). sets (sets (set l i x) (suc i) xs) k ys) e ∙ sets_append (set l i x) xs ys (suc i)

-- a number n half written at place i into b₀: the digits of what is left are to stand before place k
pub record Left (b₀ : List ℕ) (i n : ℕ) (b : List ℕ) (k left : ℕ) : Type 0 where
  pub same : length b ≡ length b₀
  pub room : k ≤ length b
  pub place : k ≡ i + length (decimal left)
  pub text : sets b i (decimal left) ≡ sets b₀ i (decimal n)

module _ (b₀ : List ℕ) (i n : ℕ) (b : List ℕ) (k left : ℕ) (h : Left b₀ i n b k left) where
  pub left_more : 10 ≤ left → (d : ℕ) → d ≡ 48 + left % 10 → Left b₀ i n (set b (k - 1) d) (k - 1) (left / 10)
  left_more t d e =
      let m = length_more left t in
      let p : k - 1 ≡ i + length (decimal (left / 10)) = omega (arith, h.place) in
      record {
        same = length-set b (k - 1) d ∙ h.same;
        room = rw (length-set b (k - 1) d) (omega (arith, h.room));
        place = p;
        text = rw (p, e) (sym (sets_last b (decimal (left / 10)) i (48 + left % 10)) ∙ ap (sets b i) (sym (decimal_more left t)) ∙ h.text);
      }

  pub left_last : left < 10 → (d : ℕ) → d ≡ 48 + left → set b i d ≡ sets b₀ i (decimal n)
  left_last t d e = rw e (ap (sets b i) (sym (decimal_small left t)) ∙ h.text)
