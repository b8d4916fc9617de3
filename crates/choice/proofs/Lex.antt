-- The choices are those lists that fit, and stand in lexicographic order. Assumes nothing.
use Prim.Native.Nat.{ℕ, zero, suc, ◌+◌, ◌≤◌, ◌<◌, zero-le}
use mathlib.Core.List.Memᴰ
use mathlib.Core.List.{List, [], ◌∷◌, ◌++◌, map, flat_map, Memᴰ}
use mathlib.Core.Logic.{◌⊎◌, inl, inr, ⊎_elim}
use mathlib.Core.Path.{◌≡◌, refl, ap, sym, subst}
use native.Mathlib.Omega.{arith}
use native.Mathlib.Nat.{eq-or-lt_of_le}
use lib.ListN.{length, get_or}
use Rattle.choice.specs.Choice.{from, choices, Fits}
use Rattle.choice.specs.Inner.{◌≺◌, zeros}

-- no later list is lexicographically earlier
pub data Ordered : List (List ℕ) → Type 0 where
  none : Ordered []
  one : {x : List ℕ} {xs : List (List ℕ)} → ((y : List ℕ) → Memᴰ y xs → y ≺ x → ⊥) → Ordered xs → Ordered (x ∷ xs)

lt_or_eq_or_gt : (x y : ℕ) → (x < y) ⊎ ((x ≡ y) ⊎ (y < x))
lt_or_eq_or_gt zero zero = inr (inl refl)
lt_or_eq_or_gt zero (suc y) = inl (omega arith)
lt_or_eq_or_gt (suc x) zero = inr (inr (omega arith))
lt_or_eq_or_gt (suc x) (suc y) =
    ⊎_elim (λ l. inl (omega arith)) (⊎_elim (λ e. inr (inl (omega arith))) (λ l. inr (inr (omega arith)))) (lt_or_eq_or_gt x y)

pub ≺_irrefl : (x : List ℕ) → x ≺ x → ⊥
≺_irrefl [] h = h
≺_irrefl (x ∷ xs) (inl l) = omega arith
≺_irrefl (x ∷ xs) (inr h) = ≺_irrefl xs h.1

≺_tail : (k : ℕ) (x y : List ℕ) → (k ∷ x) ≺ (k ∷ y) → x ≺ y
≺_tail k x y (inl l) = absurd (omega arith)
≺_tail k x y (inr h) = h.1

≺_heads : (j k : ℕ) (x y : List ℕ) → (j ∷ x) ≺ (k ∷ y) → j ≤ k
≺_heads j k x y (inl l) = omega arith
≺_heads j k x y (inr h) = omega arith

-- members of a map, of a flat_map, of a range
mem_map : {A B : Type 0} (g : A → B) (xs : List A) {y : B} → Memᴰ y (map g xs) → (x : A) × Memᴰ x xs × (y ≡ g x)
mem_map g [] m = absurd (Memᴰ.not-nil m)
mem_map g (x ∷ xs) (Memᴰ.head e) = (x, Memᴰ.head refl, e)
mem_map g (x ∷ xs) (Memᴰ.tail m) = let r = mem_map g xs m in (r.0, Memᴰ.tail r.1, r.2)

map_mem : {A B : Type 0} (g : A → B) {x : A} {xs : List A} → Memᴰ x xs → Memᴰ (g x) (map g xs)
map_mem g (Memᴰ.head e) = Memᴰ.head (ap g e)
map_mem g (Memᴰ.tail m) = Memᴰ.tail (map_mem g m)

flat_map_mem : {A B : Type 0} (g : A → List B) {x : A} {xs : List A} {y : B} → Memᴰ x xs → Memᴰ y (g x) → Memᴰ y (flat_map g xs)
unfolding flat_map
flat_map_mem g {xs = []} m n = absurd (Memᴰ.not-nil m)
flat_map_mem g {xs = z ∷ zs} {y} (Memᴰ.head e) m = Memᴰ.append_left (flat_map g zs) (subst (λ (l : List _). Memᴰ y l) (ap g e) m)
flat_map_mem g {xs = z ∷ zs} (Memᴰ.tail h) m = Memᴰ.append_right (g z) (flat_map_mem g h m)

mem_flat_map : {A B : Type 0} (g : A → List B) (xs : List A) {y : B} → Memᴰ y (flat_map g xs) → (x : A) × Memᴰ x xs × Memᴰ y (g x)
unfolding flat_map
mem_flat_map g [] m = absurd (Memᴰ.not-nil m)
mem_flat_map {A} {B} g (x ∷ xs) {y} m =
    ⊎_elim (λ h. (x, Memᴰ.head refl, h)) (λ h. let r = mem_flat_map g xs h in (r.0, Memᴰ.tail r.1, r.2))
    (Memᴰ.append_cases (g x) m)

pub mem_from : (k n : ℕ) {m : ℕ} → Memᴰ m (from k n) → (k ≤ m) × (m < k + n)
unfolding from
mem_from k zero h = absurd (Memᴰ.not-nil h)
mem_from k (suc n) (Memᴰ.head e) = omega arith
mem_from k (suc n) (Memᴰ.tail h) = omega (arith, mem_from (suc k) n h)

pub from_mem : (k n m : ℕ) → k ≤ m → m < k + n → Memᴰ m (from k n)
unfolding from
from_mem k zero m h l = absurd (omega arith)
from_mem k (suc n) m h l =
    ⊎_elim (λ e. Memᴰ.head (sym e)) (λ g. Memᴰ.tail (from_mem (suc k) n m g (omega arith))) (eq-or-lt_of_le h)

-- the choices are the lists that fit
pub fits_mem : (ns l : List ℕ) → Fits ns l → Memᴰ l (choices ns)
unfolding choices
fits_mem [] [] h = Memᴰ.head refl
fits_mem [] (m ∷ l) h = absurd h
fits_mem (n ∷ ns) [] h = absurd h
fits_mem (n ∷ ns) (m ∷ l) h =
    flat_map_mem (λ k. map (λ r. k ∷ r) (choices ns)) (from_mem 0 n m zero-le (omega arith)) (map_mem (λ r. m ∷ r) (fits_mem ns l h.1))

pub mem_fits : (ns l : List ℕ) → Memᴰ l (choices ns) → Fits ns l
unfolding choices
mem_fits [] l h = subst (Fits []) (sym (Memᴰ.eq_of_singleton h)) tt
mem_fits (n ∷ ns) l h =
    let r = mem_flat_map (λ k. map (λ t. k ∷ t) (choices ns)) (from 0 n) h in
    let s = mem_map (λ t. r.0 ∷ t) (choices ns) r.2 in
    subst (Fits (n ∷ ns)) (sym s.2) (omega (arith, mem_from 0 n r.1), mem_fits ns s.0 s.1)

-- the choices are in order
ordered_append : {xs ys : List (List ℕ)} → Ordered xs → Ordered ys → ((x y : List ℕ) → Memᴰ x xs → Memᴰ y ys → y ≺ x → ⊥) → Ordered (xs ++ ys)
ordered_append none q h = q
ordered_append {ys} (one {x = x} {xs = xs} g p) q h =
    one (λ y m. ⊎_elim (λ i. g y i) (λ i. h x y (Memᴰ.head refl) i) (Memᴰ.append_cases xs m))
    (ordered_append p q (λ a b i j. h a b (Memᴰ.tail i) j))

ordered_map : (k : ℕ) {xs : List (List ℕ)} → Ordered xs → Ordered (map (λ l. k ∷ l) xs)
ordered_map k none = none
ordered_map k (one {x = x} {xs = xs} g p) =
    one {x = k ∷ x} {xs = map (λ l. k ∷ l) xs} (λ y m l. let r = mem_map (λ t. k ∷ t) xs m in g r.0 r.1 (≺_tail k r.0 x (rw r.2 at l))) (ordered_map k p)

ordered_from : (k n : ℕ) {cs : List (List ℕ)} → Ordered cs → Ordered (flat_map (λ m. map (λ l. m ∷ l) cs) (from k n))
unfolding from flat_map
ordered_from k zero h = none
ordered_from k (suc n) {cs} h = ordered_append (ordered_map k h) (ordered_from (suc k) n h) late
  where
    late : (x y : List ℕ) → Memᴰ x (map (λ l. k ∷ l) cs) → Memᴰ y (flat_map (λ m. map (λ l. m ∷ l) cs) (from (suc k) n)) → y ≺ x → ⊥
    late x y i j l =
        let p = mem_map (λ t. k ∷ t) cs i in
        let q = mem_flat_map (λ m. map (λ t. m ∷ t) cs) (from (suc k) n) j in
        let r = mem_map (λ t. q.0 ∷ t) cs q.2 in
        omega (arith, mem_from (suc k) n q.1, ≺_heads q.0 k r.0 p.0 (rw (p.2, r.2) at l))

pub choices_ordered : (ns : List ℕ) → Ordered (choices ns)
unfolding choices
choices_ordered [] = one (λ y m l. Memᴰ.not-nil m) none
choices_ordered (n ∷ ns) = ordered_from 0 n (choices_ordered ns)

-- of two lists that fit, one is earlier, or they are equal
pub ≺_cases : (ns x y : List ℕ) → Fits ns x → Fits ns y → (x ≺ y) ⊎ ((x ≡ y) ⊎ (y ≺ x))
≺_cases [] [] [] g h = inr (inl refl)
≺_cases [] [] (y ∷ ys) g h = absurd h
≺_cases [] (x ∷ xs) y g h = absurd g
≺_cases (n ∷ ns) [] y g h = absurd g
≺_cases (n ∷ ns) (x ∷ xs) [] g h = absurd h
≺_cases (n ∷ ns) (x ∷ xs) (y ∷ ys) g h = go (lt_or_eq_or_gt x y) (≺_cases ns xs ys g.1 h.1)
  where
    go : (x < y) ⊎ ((x ≡ y) ⊎ (y < x)) → (xs ≺ ys) ⊎ ((xs ≡ ys) ⊎ (ys ≺ xs)) → ((x ∷ xs) ≺ (y ∷ ys)) ⊎ ((x ∷ xs ≡ y ∷ ys) ⊎ ((y ∷ ys) ≺ (x ∷ xs)))
    go (inl l) r = inl (inl l)
    go (inr (inr l)) r = inr (inr (inl l))
    go (inr (inl e)) (inl r) = inl (inr (e, r))
    go (inr (inl e)) (inr (inl r)) = inr (inl (cc))
    go (inr (inl e)) (inr (inr r)) = inr (inr (inr (sym e, r)))

-- nothing is earlier than all zeros
pub ≺_zeros : (ns l : List ℕ) → l ≺ zeros ns → ⊥
≺_zeros [] [] h = h
≺_zeros [] (m ∷ l) h = h
≺_zeros (n ∷ ns) [] h = h
≺_zeros (n ∷ ns) (m ∷ l) (inl h) = omega arith
≺_zeros (n ∷ ns) (m ∷ l) (inr h) = ≺_zeros ns l h.1

pub fits_length : (ns l : List ℕ) → Fits ns l → length l ≡ length ns
fits_length [] [] h = refl
fits_length [] (m ∷ l) h = absurd h
fits_length (n ∷ ns) [] h = absurd h
fits_length (n ∷ ns) (m ∷ l) h = ap suc (fits_length ns l h.1)

-- the same, place by place
pub fits_places : (ns l : List ℕ) → length l ≡ length ns → ((i : ℕ) → i < length ns → get_or l i 0 < get_or ns i 0) → Fits ns l
fits_places [] [] e h = tt
fits_places [] (m ∷ l) e h = absurd (omega arith)
fits_places (n ∷ ns) [] e h = absurd (omega arith)
fits_places (n ∷ ns) (m ∷ l) e h = (h 0 (omega arith), fits_places ns l (omega arith) (λ i g. h (suc i) (omega arith)))

pub zeros_fit : (ns : List ℕ) → ((i : ℕ) → i < length ns → 0 < get_or ns i 0) → Fits ns (zeros ns)
zeros_fit [] h = tt
zeros_fit (n ∷ ns) h = (h 0 (omega arith), zeros_fit ns (λ i g. h (suc i) (omega arith)))
