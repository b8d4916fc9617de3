-- A family worked out from the numbers of a node's words: what it costs that each ends with the bit 0, or 1. From minima, and from
-- that no turn changes what a node adds by more than 304,100.
use mathlib.Core.Path.{◌≡◌, refl, sym, ap, ◌∙◌}
use mathlib.Core.Bool.{Bool, true, false}
use mathlib.Core.List.{List}
use mathlib.Core.Logic.{◌⊎◌, ⊎_elim, ◌≢◌}
use Prim.Native.Nat.{ℕ, zero, suc, ◌+◌, ◌-◌, ◌*◌, ◌/◌, ◌%◌, ◌≤◌, ◌<◌, min}
use native.Mathlib.Omega.{arith}
use lib.ListN.{get_or}
use Rattle.graph.specs.Finite.{if_equal, if_less}
use Rattle.graph.specs.Graph.{Graph, is_edge, is_xor, word}
use Rattle.graph.proofs.Cases.{true_or_false, eq_or_ne, lt_or_le}
use Rattle.graph.proofs.Edge.{edge_early, third_majority}
use Rattle.graph.proofs.Tests.{less, no_less, equal, unequal}
use Rattle.moves.specs.Cost.{pick}
use Rattle.moves.specs.Rows.{rows, first_row, arity, flag}
use Rattle.moves.proofs.Count.{clash}
use Rattle.moves.proofs.Flags.{flag_bit}
use Rattle.resistive.specs.Family.{lowest, edge_bit, weight, local_key, turned, family, turn_of, bit_key, last_by, middle_by, family_by, packed, stored}
use Rattle.resistive.proofs.Costs.{edge_few, weight_few}
use Rattle.resistive.proofs.Lowest.{picked, lowest_low, lowest_met, turned_free, turned_fixed, turned_mark}

pub lowest_two : (f : ℕ → ℕ) → lowest 2 f ≡ min (f 0) (f 1)
lowest_two f =
    let p : ℕ = pick f 2 in
    let b = picked 2 f (omega arith) in
    let a : lowest 2 f ≤ f 0 = lowest_low 2 f (omega arith) 0 (omega arith) in
    let d : lowest 2 f ≤ f 1 = lowest_low 2 f (omega arith) 1 (omega arith) in
    ⊎_elim
    (λ (e : p ≡ 0). omega (arith, lowest_met 2 f, ap f e))
    (λ (e : p ≢ 0). let e₁ : p ≡ 1 = omega (arith, b.below) in omega (arith, lowest_met 2 f, ap f e₁))
    (eq_or_ne p 0)

pub lowest_one : (f : ℕ → ℕ) → lowest 1 f ≡ f 0
lowest_one f =
    let e : pick f 1 ≡ 0 = omega (arith, (picked 1 f (omega arith)).below) in
    lowest_met 1 f ∙ ap f e

-- h differs by at most 304,100 between the two bits
abbrev pub Near : (ℕ → ℕ) → Type 0
Near h = (h 0 ≤ h 1 + 304100) × (h 1 ≤ h 0 + 304100)

module _ (q : ℕ → Bool) (s : ℕ → ℕ) (c : ℕ → ℕ → ℕ) (n : ℕ → ℕ) where
  -- what index u has of turns, as it can be
  pub record Fine (u : ℕ) : Type 0 where
    pub turns : q u ≡ true → ((n u ≡ 1) × (c u 0 ≡ 0)) ⊎ (n u ≡ 2)
    pub bit : q u ≡ false → s u ≤ 1

  module _ (u : ℕ) where
    turn_free : (t : ℕ) → q u ≡ true → t < n u → turn_of q s c n u t ≡ c u t
    unfolding turn_of
    turn_free t e l = rw e (sym (less t (n u) (c u t) 304100 l refl))

    turn_none : (t : ℕ) → q u ≡ true → n u ≤ t → turn_of q s c n u t ≡ 304100
    unfolding turn_of
    turn_none t e l = rw e (sym (no_less t (n u) (c u t) 304100 l refl))

    turn_set : (t : ℕ) → q u ≡ false → t ≡ s u → turn_of q s c n u t ≡ 0
    unfolding turn_of
    turn_set t e l = rw e (sym (equal t (s u) 0 304100 l refl))

    turn_unset : (t : ℕ) → q u ≡ false → t ≢ s u → turn_of q s c n u t ≡ 304100
    unfolding turn_of
    turn_unset t e l = rw e (sym (unequal t (s u) 0 304100 l refl))

  module _ (g : Graph) where
    abbrev T : ℕ → (ℕ → ℕ) → ℕ
    T = turned g q s c n

    turned_edge : (j : ℕ) (h : ℕ → ℕ) → is_edge g j ≡ true → Fine (word g j / 2) → Near h
        → T j h ≡ min (turn_of q s c n (word g j / 2) 0 + h 0) (turn_of q s c n (word g j / 2) 1 + h 1)
    turned_edge j h e fine near =
        let u : ℕ = word g j / 2 in
        ⊎_elim
        (λ (y : q u ≡ true).
        ⊎_elim
        (λ (z : (n u ≡ 1) × (c u 0 ≡ 0)).
        omega (
          arith,
          turned_free g q s c n j h e y ∙ ap (λ m. lowest m (λ t. c u t + h t)) z.0 ∙ lowest_one (λ t. c u t + h t),
          turn_free u 0 y (omega arith),
          turn_none u 1 y (omega arith),
        ))
        (λ (z : n u ≡ 2).
        omega (
          arith,
          turned_free g q s c n j h e y ∙ ap (λ m. lowest m (λ t. c u t + h t)) z ∙ lowest_two (λ t. c u t + h t),
          turn_free u 0 y (omega arith),
          turn_free u 1 y (omega arith),
        ))
        (fine.turns y))
        (λ (y : q u ≡ false).
        ⊎_elim
        (λ (z : s u ≡ 0).
        omega (
          arith,
          turned_fixed g q s c n j h e y ∙ ap h z,
          turn_set u 0 y (omega arith),
          turn_unset u 1 y (λ w. omega arith),
        ))
        (λ (z : s u ≢ 0).
        let z₁ : s u ≡ 1 = omega (arith, fine.bit y) in
        omega (
          arith,
          turned_fixed g q s c n j h e y ∙ ap h z₁,
          turn_set u 1 y (omega arith),
          turn_unset u 0 y (λ w. omega arith),
        ))
        (eq_or_ne (s u) 0))
        (true_or_false (q u))

    bit_edge : (j b : ℕ) → is_edge g j ≡ true → bit_key g q s c n j b ≡ turn_of q s c n (word g j / 2) ((word g j + b) % 2)
    unfolding bit_key
    bit_edge j b e = rw e

    bit_mark : (j : ℕ) → is_edge g j ≡ false → (bit_key g q s c n j 0 ≡ 0) × (bit_key g q s c n j 1 ≡ 304100)
    unfolding bit_key if_equal
    bit_mark j e = rw e (refl, refl)

    edge_bit_lem : (j t : ℕ) → is_edge g j ≡ true → edge_bit g j t ≡ (word g j + t) % 2
    unfolding edge_bit
    edge_bit_lem j t e = rw e

    no_bit : (j t : ℕ) → is_edge g j ≡ false → edge_bit g j t ≡ 0
    unfolding edge_bit
    no_bit j t e = rw e

    -- the word at place j, its own node turning it f times: least over its bit
    pub turned_bits : (j f : ℕ) (h h' : ℕ → ℕ) → f ≤ 1 → (is_edge g j ≡ false → f ≡ 0) → (is_edge g j ≡ true → Fine (word g j / 2))
        → ((t : ℕ) → h t ≡ h' (edge_bit g j (f + t))) → Near h' → T j h ≡ min (bit_key g q s c n j f + h' 0) (bit_key g q s c n j (1 - f) + h' 1)
    turned_bits j f h h' l m fine same near =
        ⊎_elim
        (λ (e : is_edge g j ≡ true).
        let w : ℕ = word g j in
        let K : ℕ → ℕ = turn_of q s c n (w / 2) in
        ⊎_elim
        (λ (a : (w + f) % 2 ≡ 0).
        let b₀ : edge_bit g j (f + 0) ≡ 0 = edge_bit_lem j (f + 0) e ∙ omega arith in
        let b₁ : edge_bit g j (f + 1) ≡ 1 = edge_bit_lem j (f + 1) e ∙ omega arith in
        let p₁ : (w + (1 - f)) % 2 ≡ 1 = omega arith in
        let h₀ : h 0 ≡ h' 0 = same 0 ∙ ap h' b₀ in
        let h₁ : h 1 ≡ h' 1 = same 1 ∙ ap h' b₁ in
        omega (
          arith,
          turned_edge j h e (fine e) (omega (arith, near), omega (arith, near)),
          bit_edge j f e ∙ ap K a,
          bit_edge j (1 - f) e ∙ ap K p₁,
        ))
        (λ (a : (w + f) % 2 ≢ 0).
        let a₁ : (w + f) % 2 ≡ 1 = omega arith in
        let b₀ : edge_bit g j (f + 0) ≡ 1 = edge_bit_lem j (f + 0) e ∙ omega arith in
        let b₁ : edge_bit g j (f + 1) ≡ 0 = edge_bit_lem j (f + 1) e ∙ omega arith in
        let p₁ : (w + (1 - f)) % 2 ≡ 0 = omega arith in
        let h₀ : h 0 ≡ h' 1 = same 0 ∙ ap h' b₀ in
        let h₁ : h 1 ≡ h' 0 = same 1 ∙ ap h' b₁ in
        omega (
          arith,
          turned_edge j h e (fine e) (omega (arith, near), omega (arith, near)),
          bit_edge j f e ∙ ap K a₁,
          bit_edge j (1 - f) e ∙ ap K p₁,
        ))
        (eq_or_ne ((w + f) % 2) 0))
        (λ (e : is_edge g j ≡ false).
        let z : f ≡ 0 = m e in
        let b = bit_mark j e in
        let k₀ : bit_key g q s c n j f ≡ 0 = ap (bit_key g q s c n j) z ∙ b.0 in
        let k₁ : bit_key g q s c n j (1 - f) ≡ 304100 = ap (λ x. bit_key g q s c n j (1 - x)) z ∙ b.1 in
        let h₀ : h 0 ≡ h' 0 = same 0 ∙ ap h' (no_bit j (f + 0) e) in
        omega (arith, turned_mark g q s c n j h e, k₀, k₁, h₀, near))
        (true_or_false (is_edge g j))

-- no move of an XOR turns a third word
xor_third : (k : ℕ) → k < 4 → flag true k 2 ≡ 0
unfolding flag rows first_row arity if_less
xor_third zero l = refl
xor_third (suc zero) l = refl
xor_third (suc (suc zero)) l = refl
xor_third (suc (suc (suc zero))) l = refl
xor_third (suc (suc (suc (suc k)))) l = absurd (omega arith)

xor_few : {k : ℕ} → k < arity true → k < 4
unfolding arity
xor_few h = h

module _ (x : Bool) (z : List ℕ) (k : ℕ) where
  weight_near : (m m' : ℕ) → m ≤ 3 → weight true x m ≤ weight true x m' + 304100
  weight_near m m' l = omega (arith, weight_few true x m)

  last_near : (m m' : ℕ) → m ≤ 2 → m' ≤ 2 → last_by x z k m ≤ last_by x z k m' + 304100
  unfolding last_by
  last_near m m' l l' = omega (arith, weight_near m m' (omega arith), weight_near (m + 1) (m' + 1) (omega arith))

  middle_near : (m m' : ℕ) → m ≤ 1 → m' ≤ 1 → middle_by x z k m ≤ middle_by x z k m' + 304100
  unfolding middle_by
  middle_near m m' l l' = omega (arith, last_near m m' (omega arith) (omega arith), last_near (m + 1) (m' + 1) (omega arith) (omega arith))

-- node v of the tree under its move k, from the numbers z of its words
module _ (g : Graph) (q : ℕ → Bool) (s : ℕ → ℕ) (c : ℕ → ℕ → ℕ) (n : ℕ → ℕ) (v k : ℕ) (z : List ℕ) (l : k < arity (is_xor g v))
    (fine : (i : ℕ) → i < 3 → is_edge g (3 * v + i) ≡ true → Fine q s c n (word g (3 * v + i) / 2))
    (num : (i b : ℕ) → i < 3 → b < 2 → get_or z (2 * i + b) 0 ≡ bit_key g q s c n (3 * v + i) b) where
  abbrev X : Bool
  X = is_xor g v

  f≤ : (i : ℕ) → i < 3 → flag X k i ≤ 1
  f≤ i h = flag_bit X k i (omega arith)

  num_is : (i b e : ℕ) → i < 3 → b < 2 → e ≡ 2 * i + b → bit_key g q s c n (3 * v + i) b ≡ get_or z e 0
  num_is i b e h o p = sym (num i b h o) ∙ rw p

  third_flag : is_edge g (3 * v + 2) ≡ false → flag X k 2 ≡ 0
  third_flag e =
      ⊎_elim
      (λ (y : X ≡ true). ap (λ w. flag w k 2) y ∙ xor_third k (xor_few (rw y at l)))
      (λ (y : X ≡ false). absurd (clash (third_majority g v y) e))
      (true_or_false X)

  early : (i : ℕ) → i < 2 → is_edge g (3 * v + i) ≡ false → flag X k i ≡ 0
  early i h e = absurd (clash (edge_early g (3 * v + i) (λ y. omega arith)) e)

  third_is : (m : ℕ) → m ≤ 2 → (h : ℕ → ℕ) → ((t : ℕ) → h t ≡ weight true X (m + edge_bit g (3 * v + 2) (flag X k 2 + t)))
      → turned g q s c n (3 * v + 2) h ≡ last_by X z k m
  unfolding last_by
  third_is m o h same =
      let e₀ : weight true X (m + 0) ≡ weight true X m = ap (weight true X) (omega arith) in
      omega (
        arith,
        turned_bits q s c n g (3 * v + 2) (flag X k 2) h (λ b. weight true X (m + b)) (f≤ 2 (omega arith)) third_flag (fine 2 (omega arith)) same
            (weight_near X z k (m + 0) (m + 1) (omega arith), weight_near X z k (m + 1) (m + 0) (omega arith)),
        num_is 2 (flag X k 2) (4 + flag X k 2) (omega arith) (omega (arith, f≤ 2 (omega arith))) (omega arith),
        num_is 2 (1 - flag X k 2) (5 - flag X k 2) (omega arith) (omega arith) (omega (arith, f≤ 2 (omega arith))),
        e₀,
      )

  second_is : (m : ℕ) → m ≤ 1 → (h : ℕ → ℕ) → ((t : ℕ) → h t ≡ last_by X z k (m + edge_bit g (3 * v + 1) (flag X k 1 + t)))
      → turned g q s c n (3 * v + 1) h ≡ middle_by X z k m
  unfolding middle_by
  second_is m o h same =
      let e₀ : last_by X z k (m + 0) ≡ last_by X z k m = ap (last_by X z k) (omega arith) in
      omega (
        arith,
        turned_bits q s c n g (3 * v + 1) (flag X k 1) h (λ b. last_by X z k (m + b)) (f≤ 1 (omega arith)) (early 1 (omega arith)) (fine 1 (omega arith)) same
            (last_near X z k (m + 0) (m + 1) (omega arith) (omega arith), last_near X z k (m + 1) (m + 0) (omega arith) (omega arith)),
        num_is 1 (flag X k 1) (2 + flag X k 1) (omega arith) (omega (arith, f≤ 1 (omega arith))) (omega arith),
        num_is 1 (1 - flag X k 1) (3 - flag X k 1) (omega arith) (omega arith) (omega (arith, f≤ 1 (omega arith))),
        e₀,
      )

  first_is : (h : ℕ → ℕ) → ((t : ℕ) → h t ≡ middle_by X z k (edge_bit g (3 * v + 0) (flag X k 0 + t))) → turned g q s c n (3 * v + 0) h ≡ family_by X z k
  unfolding family_by
  first_is h same =
      omega (
        arith,
        turned_bits q s c n g (3 * v + 0) (flag X k 0) h (middle_by X z k) (f≤ 0 (omega arith)) (early 0 (omega arith)) (fine 0 (omega arith)) same
            (middle_near X z k 0 1 (omega arith) (omega arith), middle_near X z k 1 0 (omega arith) (omega arith)),
        num_is 0 (flag X k 0) (flag X k 0) (omega arith) (omega (arith, f≤ 0 (omega arith))) (omega arith),
        num_is 0 (1 - flag X k 0) (1 - flag X k 0) (omega arith) (omega arith) (omega arith),
      )

  pub family_is : family g true q s c n v k ≡ family_by X z k
  unfolding family local_key
  family_is =
      first_is _
      (λ x.
      second_is (edge_bit g (3 * v + 0) (flag X k 0 + x)) (edge_few g (3 * v + 0) (flag X k 0 + x)) _
      (λ y.
      third_is (edge_bit g (3 * v + 0) (flag X k 0 + x) + edge_bit g (3 * v + 1) (flag X k 1 + y))
      (omega (arith, edge_few g (3 * v + 0) (flag X k 0 + x), edge_few g (3 * v + 1) (flag X k 1 + y))) _
      (λ t. refl)))

-- both costs from one word
pub packed_zero : (a b : ℕ) → stored (packed a b) 0 ≡ a - min a b
unfolding packed stored
packed_zero a b =
    ⊎_elim
    (λ (l : b < a).
    let e : if_less b a (2 * (a - b) + 1) (2 * (b - a)) ≡ 2 * (a - b) + 1 = sym (less b a _ _ l refl) in
    rw e (sym (unequal ((2 * (a - b) + 1) % 2) 0 0 ((2 * (a - b) + 1) / 2) (λ y. omega arith) (omega arith))))
    (λ (l : a ≤ b).
    let e : if_less b a (2 * (a - b) + 1) (2 * (b - a)) ≡ 2 * (b - a) = sym (no_less b a _ _ l refl) in
    rw e (sym (equal (2 * (b - a) % 2) 0 0 (2 * (b - a) / 2) (omega arith) (omega arith))))
    (lt_or_le b a)

pub packed_one : (a b : ℕ) → stored (packed a b) 1 ≡ b - min a b
unfolding packed stored
packed_one a b =
    ⊎_elim
    (λ (l : b < a).
    let e : if_less b a (2 * (a - b) + 1) (2 * (b - a)) ≡ 2 * (a - b) + 1 = sym (less b a _ _ l refl) in
    rw e (sym (equal ((2 * (a - b) + 1) % 2) 1 0 ((2 * (a - b) + 1) / 2) (omega arith) (omega arith))))
    (λ (l : a ≤ b).
    let e : if_less b a (2 * (a - b) + 1) (2 * (b - a)) ≡ 2 * (b - a) = sym (no_less b a _ _ l refl) in
    rw e (sym (unequal (2 * (b - a) % 2) 1 0 (2 * (b - a) / 2) (λ y. omega arith) (omega arith))))
    (lt_or_le b a)
