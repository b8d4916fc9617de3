-- An index put into a rising list, and a list grown by what a node reaches. From the definitions.
use mathlib.Core.Path.{◌≡◌, refl, sym, ap, ap₂, ◌∙◌}
use mathlib.Core.Bool.{Bool, true, false, ◌||◌, or-false}
use mathlib.Core.Logic.{⊎_elim, ◌≢◌}
use mathlib.Core.List.{List, [], ◌∷◌, ◌++◌}
use Prim.Native.Nat.{ℕ, zero, suc, ◌+◌, ◌-◌, ◌*◌, ◌/◌, ◌%◌, ◌≤◌, ◌<◌}
use native.Mathlib.Omega.{arith}
use native.Mathlib.Nat.{eq-or-lt_of_le}
use borrow.Author.Tests.{eq-eqb, ne_eqb, lt-ltb, le-ltb}
use lib.Dec.{eqb}
use lib.ListN.{length, get_or, set, take, drop, take-append-drop}
use lib.Seq.{slice, slice-cons, slice_empty, take-suc, take-suc-set, take-set-lt, drop-set-lt, append_snoc, take-take}
use Rattle.graph.specs.Graph.{Graph, word, index, mark, is_edge}
use Rattle.graph.proofs.Cases.{lt_or_le, eq_or_ne}
use Rattle.graph.proofs.Tests.{less, no_less, equal, unequal}
use Rattle.hidden.specs.Find.{reaches}
use Rattle.hidden.specs.Inner.{Between, has}
use Rattle.hidden.proofs.Pass.{between_down}
use Rattle.finder.specs.Nearness.{insert_to, Stays, Swaps, Carried, Inserted, Grown, through, reach_room}

insert_equal : (x y : ℕ) (ys : List ℕ) → y ≡ x → insert_to x (y ∷ ys) ≡ y ∷ ys
unfolding insert_to
insert_equal x y ys e = sym (equal y x _ _ e refl)

insert_lower : (x y : ℕ) (ys : List ℕ) → y < x → insert_to x (y ∷ ys) ≡ y ∷ insert_to x ys
unfolding insert_to
insert_lower x y ys h = sym (unequal y x _ _ (λ e. omega arith) (less y x _ _ h refl))

insert_higher : (x y : ℕ) (ys : List ℕ) → x < y → insert_to x (y ∷ ys) ≡ x ∷ insert_to y ys
unfolding insert_to
insert_higher x y ys h = sym (unequal y x _ _ (λ e. omega arith) (no_less y x _ _ (omega arith) refl))

insert_nil : (x : ℕ) → insert_to x [] ≡ x ∷ []
unfolding insert_to
insert_nil x = refl

-- what is carried past place k
module _ (k n c : ℕ) (xs : List ℕ) (h : k < n) (long : n ≤ length xs) where
  here : slice k n xs ≡ get_or xs k 0 ∷ slice (suc k) n xs
  here = slice-cons k n xs 0 h long

  stays_on : get_or xs k 0 < c → take (suc k) xs ++ insert_to c (slice (suc k) n xs) ≡ take k xs ++ insert_to c (slice k n xs)
  stays_on l =
      ap (λ (r : List ℕ). r ++ insert_to c (slice (suc k) n xs)) (take-suc xs k 0 (omega arith))
      ∙ append_snoc (take k xs) (get_or xs k 0) (insert_to c (slice (suc k) n xs))
      ∙ ap (λ (r : List ℕ). take k xs ++ r) (sym (insert_lower c (get_or xs k 0) (slice (suc k) n xs) l) ∙ ap (insert_to c) (sym here))

  same_rest : slice (suc k) n (set xs k c) ≡ slice (suc k) n xs
  same_rest = ap (drop (suc k)) (take-set-lt n xs k c h) ∙ drop-set-lt (suc k) (take n xs) k c (omega arith)

  swaps_on : c < get_or xs k 0 → take (suc k) (set xs k c) ++ insert_to (get_or xs k 0) (slice (suc k) n (set xs k c)) ≡ take k xs ++ insert_to c (slice k n xs)
  swaps_on l =
      ap₂ (λ (r s : List ℕ). r ++ insert_to (get_or xs k 0) s) (take-suc-set xs k c (omega arith)) same_rest
      ∙ append_snoc (take k xs) c (insert_to (get_or xs k 0) (slice (suc k) n xs))
      ∙ ap (λ (r : List ℕ). take k xs ++ r) (sym (insert_higher c (get_or xs k 0) (slice (suc k) n xs) l) ∙ ap (insert_to c) (sym here))

  pub carried_on : (r : ℕ) (xs' : List ℕ) → get_or xs k 0 ≢ c → Carried k c r xs xs' → take (k + 1) xs' ++ insert_to r (slice (k + 1) n xs') ≡ take k xs ++ insert_to c (slice k n xs)
  carried_on r xs' d s =
      let q : k + 1 ≡ suc k = omega arith in
      ⊎_elim
      (λ (z : Stays k c r xs xs'). rw (q, z.list, z.carried) (stays_on z.lower))
      (λ (z : Swaps k c r xs xs').
      let p : c < get_or xs k 0 = ⊎_elim (λ (e : c ≡ get_or xs k 0). absurd (d (sym e))) (λ (l : c < get_or xs k 0). l) (eq-or-lt_of_le z.lower) in
      rw (q, z.list, z.carried) (swaps_on p))
      s

  pub found_on : get_or xs k 0 ≡ c → take n xs ≡ take k xs ++ insert_to c (slice k n xs)
  found_on e =
      sym (take-append-drop k (take n xs)) ∙ ap₂ (λ (r s : List ℕ). r ++ s) (take-take k n xs (omega arith)) (here ∙ sym (insert_equal c (get_or xs k 0) (slice (suc k) n xs) e) ∙ ap (insert_to c) (sym here))

pub end_on : (k n c : ℕ) (xs : List ℕ) → k ≡ n → n < length xs → take (n + 1) (set xs n c) ≡ take k xs ++ insert_to c (slice k n xs)
end_on k n c xs e h =
    let q : n + 1 ≡ suc n = omega arith in
    rw (q, e) (take-suc-set xs n c h ∙ ap (λ (r : List ℕ). take n xs ++ r) (sym (insert_nil c) ∙ ap (insert_to c) (sym (slice_empty n xs))))

-- the list with x rises, and has x
insert_between : (x lo hi : ℕ) (l : List ℕ) → lo < x → x < hi → Between lo hi l → Between lo hi (insert_to x l)
insert_between x lo hi [] a b f = rw (insert_nil x) (a, b, tt)
insert_between x lo hi (y ∷ ys) a b f =
    ⊎_elim
    (λ (h : x < y). rw (insert_higher x y ys h) (a, b, insert_between y x hi ys h f.1 (between_down x y hi ys (omega arith) f.2)))
    (λ (h : y ≤ x).
    ⊎_elim
    (λ (e : y ≡ x). rw (insert_equal x y ys e) f)
    (λ (k : y < x). rw (insert_lower x y ys k) (f.0, f.1, insert_between x y hi ys k b f.2))
    (eq-or-lt_of_le h))
    (lt_or_le x y)

or_twice : (a b : Bool) → (a || b) ≡ (a || (a || b))
or_twice true b = refl
or_twice false b = refl

or_swap : (a b c : Bool) → (a || (b || c)) ≡ (b || (a || c))
or_swap true true c = refl
or_swap true false c = refl
or_swap false true c = refl
or_swap false false c = refl

or_last : (a b : Bool) → (a || b) ≡ (b || a)
or_last true true = refl
or_last true false = refl
or_last false true = refl
or_last false false = refl

or_assoc : (a b c : Bool) → ((a || b) || c) ≡ (a || (b || c))
or_assoc true b c = refl
or_assoc false b c = refl

insert_has : (x i : ℕ) (l : List ℕ) → has i (insert_to x l) ≡ (eqb i x || has i l)
insert_has x i [] = rw (insert_nil x)
insert_has x i (y ∷ ys) =
    ⊎_elim
    (λ (h : x < y). rw (insert_higher x y ys h) (ap (λ (b : Bool). eqb i x || b) (insert_has y i ys)))
    (λ (h : y ≤ x).
    ⊎_elim
    (λ (e : y ≡ x). rw (insert_equal x y ys e, e) (or_twice (eqb i x) (has i ys)))
    (λ (k : y < x). rw (insert_lower x y ys k) (ap (λ (b : Bool). eqb i y || b) (insert_has x i ys) ∙ or_swap (eqb i y) (eqb i x) (has i ys)))
    (eq-or-lt_of_le h))
    (lt_or_le x y)

eqb_turned : (a b : ℕ) → eqb a b ≡ eqb b a
eqb_turned a b =
    ⊎_elim (λ (e : a ≡ b). eq-eqb a b e ∙ sym (eq-eqb b a (sym e))) (λ (d : a ≢ b). ne_eqb a b d ∙ sym (ne_eqb b a (λ e. d (sym e)))) (eq_or_ne a b)

-- a list grown
pub grown_nought : (x n : ℕ) (xs : List ℕ) → x ≡ 0 → Grown 1 (x + 1) (eqb x) n n xs xs
grown_nought x n xs e =
    record {
      same = refl;
      few = omega arith;
      rising = λ hi h b. b;
      members = λ i p. rw (ne_eqb x i (λ q. omega arith)) (sym (or-false (has i (take n xs))));
    }

pub grown_insert : (x n r : ℕ) (xs xs' : List ℕ) → x ≢ 0 → Inserted x n r xs xs' → Grown 1 (x + 1) (eqb x) n r xs xs'
grown_insert x n r xs xs' d s =
    record {
      same = s.same;
      few = s.few;
      rising = λ hi h b. rw s.list (insert_between x 0 hi (take n xs) (omega arith) (omega arith) b);
      members = λ i p. rw s.list (insert_has x i (take n xs) ∙ ap (λ (b : Bool). b || has i (take n xs)) (eqb_turned i x) ∙ or_last (eqb x i) (has i (take n xs)));
    }

pub grown_both : (c d e u w top : ℕ) (t s z : ℕ → Bool) (n r q : ℕ) (xs xs' xs'' : List ℕ) → Grown c u t n r xs xs' → Grown d w s r q xs' xs''
    → c + d ≤ e → u ≤ top → w ≤ top → ((i : ℕ) → 0 < i → z i ≡ (t i || s i)) → Grown e top z n q xs xs''
grown_both c d e u w top t s z n r q xs xs' xs'' a b f k l m =
    record {
      same = b.same ∙ a.same;
      few = omega (arith, a.few, b.few);
      rising = λ hi h v. b.rising hi (omega arith) (a.rising hi (omega arith) v);
      members = λ i p.
          b.members i p ∙ ap (λ (x : Bool). x || s i) (a.members i p) ∙ or_assoc (has i (take n xs)) (t i) (s i) ∙ ap (λ (x : Bool). has i (take n xs) || x) (sym (m i p));
    }

pub grown_as : (c e u top : ℕ) (t z : ℕ → Bool) (n r : ℕ) (xs xs' : List ℕ) → Grown c u t n r xs xs' → c ≤ e → u ≤ top → ((i : ℕ) → 0 < i → z i ≡ t i) → Grown e top z n r xs xs'
grown_as c e u top t z n r xs xs' a f k m =
    record {
      same = a.same;
      few = omega (arith, a.few);
      rising = λ hi h v. a.rising hi (omega arith) v;
      members = λ i p. a.members i p ∙ ap (λ (x : Bool). has i (take n xs) || x) (sym (m i p));
    }

pub grown_none : (e top : ℕ) (z : ℕ → Bool) (n : ℕ) (xs : List ℕ) → ((i : ℕ) → 0 < i → z i ≡ false) → Grown e top z n n xs xs
grown_none e top z n xs m =
    record { same = refl; few = omega arith; rising = λ hi h b. b; members = λ i p. rw (m i p) (sym (or-false (has i (take n xs)))) }

-- what a word leads to, and a node
module _ (g : Graph) (k : ℕ) where
  pub edge_low : (j : ℕ) → j % 3 ≢ 2 → is_edge g j ≡ true
  unfolding is_edge
  edge_low j d = rw (ne_eqb (j % 3) 2 d)

  pub edge_third : (w : ℕ) → eqb (word g (3 * w + 2)) mark ≡ false → is_edge g (3 * w + 2) ≡ true
  unfolding is_edge
  edge_third w e = let q : (3 * w + 2) % 3 ≡ 2 = omega arith in rw (q, e)

  third_mark : (w i : ℕ) → eqb (word g (3 * w + 2)) mark ≡ true → through g k (3 * w + 2) i ≡ false
  unfolding is_edge through
  third_mark w i e = let q : (3 * w + 2) % 3 ≡ 2 = omega arith in rw (q, e)

  through_edge : (j i : ℕ) → is_edge g j ≡ true → through g k j i ≡ (eqb (index (word g j)) i || reaches g k (index (word g j)) i)
  unfolding through
  through_edge j i e = rw e

  reaches_input : (u i : ℕ) → u ≤ g.I → reaches g (suc k) u i ≡ false
  unfolding reaches
  reaches_input u i h = rw (le-ltb g.I u h)

  reaches_node : (u w i : ℕ) → g.I < u → w ≡ u - g.I - 1 → reaches g (suc k) u i ≡ ((through g k (3 * w) i || through g k (3 * w + 1) i) || through g k (3 * w + 2) i)
  unfolding reaches through
  reaches_node u w i h e = let q : u - (g.I + 1) ≡ w = omega arith in rw (lt-ltb g.I u h, q)

  pub reach_input : (c u n : ℕ) (xs : List ℕ) → u ≤ g.I → Grown c u (reaches g (suc k) u) n n xs xs
  reach_input c u n xs h = grown_none c u (reaches g (suc k) u) n xs (λ i p. reaches_input u i h)

  module _ (c e u w : ℕ) (f : 3 * c ≤ e) (lo : g.I < u) (q : w ≡ u - g.I - 1) (n a b : ℕ) (xs xs₁ xs₂ : List ℕ)
      (x : Grown c (g.I + 1 + 3 * w / 3) (through g k (3 * w)) n a xs xs₁) (y : Grown c (g.I + 1 + (3 * w + 1) / 3) (through g k (3 * w + 1)) a b xs₁ xs₂) where
    two : Grown (c + c) u (λ i. through g k (3 * w) i || through g k (3 * w + 1) i) n b xs xs₂
    two = grown_both c c (c + c) _ _ u _ _ _ n a b xs xs₁ xs₂ x y (omega arith) (omega arith) (omega arith) (λ i p. refl)

    pub reach_mark : eqb (word g (3 * w + 2)) mark ≡ true → Grown e u (reaches g (suc k) u) n b xs xs₂
    reach_mark m =
        grown_as (c + c) e u u _ (reaches g (suc k) u) n b xs xs₂ two (omega arith) (omega arith)
        (λ i p. reaches_node u w i lo q ∙ ap (λ (t : Bool). (through g k (3 * w) i || through g k (3 * w + 1) i) || t) (third_mark w i m) ∙ or-false _)

    pub reach_three : (r : ℕ) (xs₃ : List ℕ) → Grown c (g.I + 1 + (3 * w + 2) / 3) (through g k (3 * w + 2)) b r xs₂ xs₃ → Grown e u (reaches g (suc k) u) n r xs xs₃
    reach_three r xs₃ z =
        grown_both (c + c) c e u _ u _ _ (reaches g (suc k) u) n b r xs xs₂ xs₃ two z (omega arith) (omega arith) (omega arith) (λ i p. reaches_node u w i lo q)

-- by one word
pub through_more : (g : Graph) (k c j x n m r : ℕ) (xs xs' xs'' : List ℕ) → is_edge g j ≡ true → x ≡ index (word g j) → x < g.I + 1 + j / 3 → Grown 1 (x + 1) (eqb x) n m xs xs'
    → Grown c x (reaches g k x) m r xs' xs'' → Grown (c + 1) (g.I + 1 + j / 3) (through g k j) n r xs xs''
through_more g k c j x n m r xs xs' xs'' e q h a b =
    grown_both 1 c (c + 1) (x + 1) x (g.I + 1 + j / 3) (eqb x) (reaches g k x) (through g k j) n m r xs xs' xs'' a b (omega arith) (omega arith) (omega arith)
    (λ i p. through_edge g k j i e ∙ ap (λ (y : ℕ). eqb y i || reaches g k y i) (sym q))

-- the places of the words of index u, which is node w
pub places : (i n u w : ℕ) → u < i + 1 + n → i < u → w ≡ u - i - 1 → (3 * w < 3 * n) × (3 * w + 1 < 3 * n) × (3 * w + 2 < 3 * n) × (3 * w % 3 ≢ 2) × ((3 * w + 1) % 3 ≢ 2)
places i n u w h b e = (omega arith, omega arith, omega arith, λ q. omega arith, λ q. omega arith)

-- room in a list of l places for what three words lead to, at most c indices each
module _ (c e n l : ℕ) (f : 3 * c ≤ e) (h : n + e ≤ l) where
  pub room_first : n + c ≤ l
  room_first = omega arith

  module _ (k : l ≤ 1000) (a l₁ : ℕ) (d : l₁ ≡ l) (p : a ≤ n + c) where
    pub room_second : (a + c ≤ l₁) × (l₁ ≤ 1000)
    room_second = (omega arith, omega arith)

    pub room_third : (b l₂ : ℕ) → l₂ ≡ l₁ → b ≤ a + c → (b + c ≤ l₂) × (l₂ ≤ 1000)
    room_third b l₂ q r = (omega arith, omega arith)

-- within no words nothing is reached; and within some, what three words lead to that reach one less
pub reach_nothing : (g : Graph) (f u n : ℕ) (xs : List ℕ) → f ≡ 0 → Grown (reach_room f) u (reaches g f u) n n xs xs
unfolding reaches
reach_nothing g zero u n xs e = grown_none (reach_room 0) u (reaches g 0 u) n xs (λ i p. refl)
reach_nothing g (suc f) u n xs e = absurd (omega arith)

pub reach_rooms : (f : ℕ) → (f ≡ 0 → ⊥) → 3 * (reach_room (f - 1) + 1) ≡ reach_room f
reach_rooms zero n = absurd (n refl)
reach_rooms (suc f) n = let e : suc f - 1 ≡ f = omega arith in rw e refl

pub reach_less : (g : Graph) (c f u n r : ℕ) (xs xs' : List ℕ) → (f ≡ 0 → ⊥) → Grown c u (reaches g (suc (f - 1)) u) n r xs xs' → Grown c u (reaches g f u) n r xs xs'
reach_less g c f u n r xs xs' z a = let e : suc (f - 1) ≡ f = omega (arith, z) in rw e at a
