-- Finite sums and tables: lengths, entries, and sums that agree but at one or two places. Assumes nothing.
use Rattle.std.proofs.Common.{◌≡◌, ℕ, zero, suc, ◌+◌, ◌*◌, ◌<◌, ◌≤◌, true, false, cond, eqb, List, [], ◌∷◌, ◌++◌, length, get_or, sym, refl, ap, ◌∙◌, ⊎_elim, le_of_suc-le-suc, not-suc-le-zero, eq-or-lt_of_le, arith, ext_get_or, eq-eqb, ne_eqb}
use borrow.Author.Tests.{eqb-false}
use Rattle.graph.specs.Finite.{sum, tab}
use Rattle.graph.proofs.Cases.{true_or_false}

pub length_tab : (n : ℕ) (f : ℕ → ℕ) → length (tab n f) ≡ n
unfolding tab
length_tab zero f = refl
length_tab (suc n) f = ap suc (length_tab n (λ j. f (suc j)))

pub get_d_tab : (n : ℕ) (f : ℕ → ℕ) (i : ℕ) → i < n → get_or (tab n f) i 0 ≡ f i
unfolding tab
get_d_tab zero f i h = absurd (not-suc-le-zero h)
get_d_tab (suc n) f zero h = refl
get_d_tab (suc n) f (suc i) h = get_d_tab n (λ j. f (suc j)) i (le_of_suc-le-suc h)

pub sum_same : (n : ℕ) (f g : ℕ → ℕ) → ((j : ℕ) → j < n → f j ≡ g j) → sum n f ≡ sum n g
unfolding sum
sum_same zero f g h = refl
sum_same (suc n) f g h = omega (arith, sum_same n f g (λ j k. h j (omega arith)), h n (omega arith))

-- two sums that agree but at the place p
pub sum_but_one : (n : ℕ) (f g : ℕ → ℕ) (p : ℕ) → p < n → ((j : ℕ) → j < n → (j ≡ p → ⊥) → f j ≡ g j) → sum n f + g p ≡ sum n g + f p
unfolding sum
sum_but_one zero f g p h e = absurd (not-suc-le-zero h)
sum_but_one (suc n) f g p h e =
    ⊎_elim
    (λ (q : p ≡ n). rw q (omega (arith, sum_same n f g (λ j k. e j (omega arith) (omega arith)))))
    (λ (k : p < n). omega (arith, sum_but_one n f g p k (λ j l d. e j (omega arith) d), e n (omega arith) (omega arith)))
    (eq-or-lt_of_le (le_of_suc-le-suc h))

-- two sums that agree but at the places p and q
pub sum_but_two : (n : ℕ) (f g : ℕ → ℕ) (p q : ℕ) → p < n → q < n → (p ≡ q → ⊥) → ((j : ℕ) → j < n → (j ≡ p → ⊥) → (j ≡ q → ⊥) → f j ≡ g j) → sum n f + g p + g q ≡ sum n g + f p + f q
sum_but_two n f g p q hp hq d e =
    let k : ℕ → ℕ = λ j. cond (eqb j p) (g j) (f j) in
    let kp : k p ≡ g p = rw (eq-eqb p p refl) in
    let kq : k q ≡ f q = rw (ne_eqb q p (λ z. d (sym z))) in
    let s₁ = sum_but_one n f k p hp (λ j h z. sym (rw (ne_eqb j p z))) in
    let s₂ = sum_but_one n k g q hq (λ j h z. ⊎_elim (λ (t : eqb j p ≡ true). rw t) (λ (t : eqb j p ≡ false). rw t (e j h (eqb-false j p t) z)) (true_or_false (eqb j p))) in
    omega arith

pub sum_le : (f : ℕ → ℕ) → ((j : ℕ) → f j ≤ 1) → (n : ℕ) → sum n f ≤ n
unfolding sum
sum_le f h zero = omega arith
sum_le f h (suc n) = omega (arith, sum_le f h n, h n)

-- one entry more
pub tab_last : (n : ℕ) (f : ℕ → ℕ) → tab (suc n) f ≡ tab n f ++ (f n ∷ [])
unfolding tab
tab_last zero f = refl
tab_last (suc n) f = ap (λ (l : List ℕ). f 0 ∷ l) (tab_last n (λ j. f (suc j)))

pub tab_same : (n : ℕ) (f g : ℕ → ℕ) → ((i : ℕ) → i < n → f i ≡ g i) → tab n f ≡ tab n g
tab_same n f g h = ext_get_or 0 _ _ (length_tab n f ∙ sym (length_tab n g)) (λ i k. let l : i < n = rw length_tab at k in get_d_tab n f i l ∙ h i l ∙ sym (get_d_tab n g i l))

-- three terms more
pub sum_three : (v : ℕ) (f : ℕ → ℕ) → sum (3 * (v + 1)) f ≡ sum (3 * v) f + f (3 * v) + f (3 * v + 1) + f (3 * v + 2)
unfolding sum
sum_three v f =
    let e : 3 * (v + 1) ≡ suc (suc (suc (3 * v))) = omega arith in
    let a : suc (3 * v) ≡ 3 * v + 1 = omega arith in
    let b : suc (suc (3 * v)) ≡ 3 * v + 2 = omega arith in
    rw (e, ← a, ← b)
