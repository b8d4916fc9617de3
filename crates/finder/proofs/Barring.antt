-- A node with a constant first word that names an input is a majority over no triple: where the input is in the triple by the test over all bytes, else since it
-- leaks. So no list of triples changes it. From the laws on ways.
use mathlib.Core.Path.{◌≡◌, refl, sym, ap, ◌∙◌}
use mathlib.Core.Bool.{true, false}
use mathlib.Core.Logic.{⊎_elim, ◌≢◌, ◌⊎◌}
use mathlib.Core.List.{List, [], ◌∷◌, ◌++◌, map, append_assoc}
use Prim.Native.Nat.{ℕ, zero, suc, ◌+◌, ◌-◌, ◌*◌, ◌/◌, ◌≤◌, ◌<◌}
use native.Mathlib.Omega.{arith}
use borrow.Author.Tests.{eq-eqb, ne_eqb, eqb-false}
use lib.Dec.{eqb}
use Rattle.graph.specs.Admission.{Admitted}
use Rattle.graph.specs.Finite.{if_equal}
use Rattle.graph.specs.Graph.{Graph, mark, node, word, is_edge, is_xor}
use Rattle.graph.specs.Inner.{Names}
use Rattle.graph.proofs.Cases.{eq_or_ne, lt_or_le}
use Rattle.graph.proofs.Edge.{edge_early, third_majority}
use Rattle.hidden.specs.Truth.{Triple, triple, leak, free, node_byte, over, truth}
use Rattle.hidden.specs.Majority.{is_majority}
use Rattle.hidden.specs.Find.{near, pairs, triples, first_made}
use Rattle.hidden.specs.Inner.{Rising, Between}
use Rattle.hidden.proofs.Over.{truth_input, truth_node}
use Rattle.hidden.proofs.Order.{passed_over, none_left}
use Rattle.hidden.proofs.Pass.{between_down, near_between}
use Rattle.hidden.proofs.Ways.{variable, way_passed, second_passed, third_passed}
use Rattle.hidden.specs.Ways.{Misses}
use Rattle.majority_call.specs.Valuing.{Facts}
use Rattle.finder.specs.Barred.{NoMajority}
use Rattle.finder.specs.Trying.{Sought}
use Rattle.finder.proofs.Named.{first_named, second_named, third_named}

-- an input is one of the triple's variables, or misses it
module _ (t : Triple) (i x : ℕ) where
  pub free_one : i ≡ t.one → free t i x ≡ variable 0
  unfolding free variable if_equal
  free_one e = rw (eq-eqb i t.one e)

  pub free_two : i ≢ t.one → i ≡ t.two → free t i x ≡ variable 1
  unfolding free variable if_equal
  free_two n e = rw (ne_eqb i t.one n, eq-eqb i t.two e)

  pub free_three : i ≢ t.one → i ≢ t.two → i ≡ t.three → free t i x ≡ variable 2
  unfolding free variable if_equal
  free_three n m e = rw (ne_eqb i t.one n, ne_eqb i t.two m, eq-eqb i t.three e)

at_input : (g : Graph) (t : Triple) (i : ℕ) → 0 < i → i ≤ g.I → truth g t i ≡ free t i leak
at_input g t zero h k = absurd (omega arith)
at_input g t (suc j) h k = truth_input g t j (omega arith)

module _ (g : Graph) (adm : Admitted g) (v : ℕ) (within : v < g.N) (maj : is_xor g v ≡ false) (first : word g (3 * v + 0) / 2 ≡ 0) (t : Triple) (r : Rising t (node g v)) where
  misses : Misses t (node g v)
  misses =
      record {
        one = λ e. omega (arith, r.second, r.third, r.below);
        two = λ e. omega (arith, r.third, r.below);
        three = λ e. omega (arith, r.below);
      }

  named_passed : (k i : ℕ) → k < 3 → is_edge g (3 * v + k) ≡ true → word g (3 * v + k) / 2 ≡ i → 0 < i → i ≤ g.I
      → ((m : ℕ) → m < 3 → truth g t i ≡ variable m → is_majority (truth g t (node g v)) ≡ false) → is_majority (truth g t (node g v)) ≡ false
  named_passed k i h e w p q f =
      let z = at_input g t i p q in
      ⊎_elim (λ (a : i ≡ t.one). f 0 (omega arith) (z ∙ free_one t i leak a))
      (λ (a : i ≢ t.one).
      ⊎_elim (λ (b : i ≡ t.two). f 1 (omega arith) (z ∙ free_two t i leak a b))
      (λ (b : i ≢ t.two).
      ⊎_elim (λ (d : i ≡ t.three). f 2 (omega arith) (z ∙ free_three t i leak a b d))
      (λ (d : i ≢ t.three).
      way_passed g adm t (node g v) (i ∷ []) (record { v = v; within = within; is = refl; k = k; word_of = h; edge = e; names = w }, (p, q))
      (misses, record { one = a; two = b; three = d }))
      (eq_or_ne i t.three))
      (eq_or_ne i t.two))
      (eq_or_ne i t.one)

-- an input named by the second word, or by the third
module _ (g : Graph) (adm : Admitted g) (v : ℕ) (within : v < g.N) (maj : is_xor g v ≡ false) (first : word g (3 * v + 0) / 2 ≡ 0) where
  pub second_barred : 0 < word g (3 * v + 1) / 2 → word g (3 * v + 1) / 2 ≤ g.I → NoMajority g v
  second_barred p q t r =
      named_passed g adm v within maj first t r 1 (word g (3 * v + 1) / 2) (omega arith) (edge_early g (3 * v + 1) (λ e. omega arith)) refl p q
      (second_passed g adm t v within (misses g adm v within maj first t r) maj first)

  pub third_barred : 0 < word g (3 * v + 2) / 2 → word g (3 * v + 2) / 2 ≤ g.I → NoMajority g v
  third_barred p q t r =
      named_passed g adm v within maj first t r 2 (word g (3 * v + 2) / 2) (omega arith) (third_majority g v maj) refl p q
      (third_passed g adm t v within (misses g adm v within maj first t r) maj first)

-- by what is read of its words
module _ (g : Graph) (adm : Admitted g) (v : ℕ) (within : v < g.N) (plain : eqb (word g (3 * v + 2)) mark ≡ false) (x : ℕ) (nx : Names (word g (3 * v)) x) (zero_first : x ≡ 0) where
  kind : is_xor g v ≡ false
  unfolding is_xor
  kind = plain

  first_zero : word g (3 * v + 0) / 2 ≡ 0
  first_zero = let e : 3 * v + 0 ≡ 3 * v = omega arith in rw e (sym (first_named g adm v x within nx).0 ∙ zero_first)

  pub second_input : (y : ℕ) → Names (word g (3 * v + 1)) y → (0 < y) × (y ≤ g.I) → NoMajority g v
  second_input y n h =
      let e = (second_named g adm v y within n).0 in
      second_barred g adm v within kind first_zero (omega (arith, e, h.0)) (omega (arith, e, h.1))

  pub third_input : (z : ℕ) → Names (word g (3 * v + 2)) z → (0 < z) × (z ≤ g.I) → NoMajority g v
  third_input z n h =
      let e = (third_named g adm v z within (eqb-false (word g (3 * v + 2)) mark plain) n).0 in
      third_barred g adm v within kind first_zero (omega (arith, e, h.0)) (omega (arith, e, h.1))

-- an index of the triple is one of its variables
abbrev pub In : Triple → ℕ → Type 0
In t i = (i ≡ t.one) ⊎ ((i ≡ t.two) ⊎ (i ≡ t.three))

pub at_index : (g : Graph) (t : Triple) (i : ℕ) → 0 < i → i < node g g.N → (x : ℕ) × (truth g t i ≡ free t i x)
at_index g t i p h =
    ⊎_elim
    (λ (q : g.I < i).
    let w : ℕ = i - (g.I + 1) in
    let e : node g w ≡ i = omega arith in
    (node_byte g (over g t w) w, rw e at (truth_node g t w (omega arith))))
    (λ (q : i ≤ g.I). (leak, at_input g t i p q))
    (lt_or_le g.I i)

in_passed : (g : Graph) (t : Triple) (i : ℕ) → 0 < i → i < node g g.N → {P : Type 0} → ((m : ℕ) → m < 3 → truth g t i ≡ variable m → P) → In t i → P
in_passed g t i p h f s =
    let z = at_index g t i p h in
    ⊎_elim (λ (a : i ≡ t.one). f 0 (omega arith) (z.1 ∙ free_one t i z.0 a))
    (λ (n : i ≢ t.one).
    ⊎_elim (λ (a : i ≡ t.two). f 1 (omega arith) (z.1 ∙ free_two t i z.0 n a))
    (λ (k : i ≢ t.two). f 2 (omega arith) (z.1 ∙ free_three t i z.0 n k (⊎_elim (λ (a : i ≡ t.one). absurd (n a)) (λ (b : (i ≡ t.two) ⊎ (i ≡ t.three)). ⊎_elim (λ (a : i ≡ t.two). absurd (k a)) (λ (a : i ≡ t.three). a) b) s)))
    (eq_or_ne i t.two))
    (eq_or_ne i t.one)

-- what an AND names is in no triple that gives a majority
module _ (g : Graph) (adm : Admitted g) (v : ℕ) (within : v < g.N) (maj : is_xor g v ≡ false) (first : word g (3 * v + 0) / 2 ≡ 0) (t : Triple) (r : Rising t (node g v)) where
  low : (i : ℕ) → In t i → (0 < i) × (i < node g g.N)
  low i s =
      ⊎_elim (λ (a : i ≡ t.one). (omega (arith, a, r.positive), omega (arith, a, r.second, r.third, r.below)))
      (λ (b : (i ≡ t.two) ⊎ (i ≡ t.three)).
      ⊎_elim (λ (a : i ≡ t.two). (omega (arith, a, r.positive, r.second), omega (arith, a, r.third, r.below)))
      (λ (a : i ≡ t.three). (omega (arith, a, r.positive, r.second, r.third), omega (arith, a, r.below)))
      b)
      s

  pub second_in : In t (word g (3 * v + 1) / 2) → is_majority (truth g t (node g v)) ≡ false
  second_in s =
      let i : ℕ = word g (3 * v + 1) / 2 in
      in_passed g t i (low i s).0 (low i s).1 (second_passed g adm t v within (misses g adm v within maj first t r) maj first) s

  pub third_in : In t (word g (3 * v + 2) / 2) → is_majority (truth g t (node g v)) ≡ false
  third_in s =
      let i : ℕ = word g (3 * v + 2) / 2 in
      in_passed g t i (low i s).0 (low i s).1 (third_passed g adm t v within (misses g adm v within maj first t r) maj first) s

-- by what is read of its words
module _ (g : Graph) (adm : Admitted g) (v : ℕ) (within : v < g.N) (plain : eqb (word g (3 * v + 2)) mark ≡ false) (x : ℕ) (nx : Names (word g (3 * v)) x) (zero_first : x ≡ 0) where
  pub second_named_in : (y : ℕ) → Names (word g (3 * v + 1)) y → (t : Triple) → Rising t (node g v) → In t y → is_majority (truth g t (node g v)) ≡ false
  second_named_in y n t r s =
      second_in g adm v within (kind g adm v within plain x nx zero_first) (first_zero g adm v within plain x nx zero_first) t r (rw (← (second_named g adm v y within n).0) s)

  pub third_named_in : (z : ℕ) → Names (word g (3 * v + 2)) z → (t : Triple) → Rising t (node g v) → In t z → is_majority (truth g t (node g v)) ≡ false
  third_named_in z n t r s =
      third_in g adm v within (kind g adm v within plain x nx zero_first) (first_zero g adm v within plain x nx zero_first) t r
      (rw (← (third_named g adm v z within (eqb-false (word g (3 * v + 2)) mark plain) n).0) s)

-- nothing is made with the triples of a rising list
module _ (g : Graph) (v : ℕ) (none : NoMajority g v) where
  thirds_none : (x y : ℕ) → 0 < x → x < y → (zs : List ℕ) → Between y (node g v) zs → (rest : List Triple)
      → first_made g (node g v) (map (λ z. triple x y z) zs ++ rest) ≡ first_made g (node g v) rest
  thirds_none x y p q [] b rest = refl
  thirds_none x y p q (z ∷ zs) b rest =
      passed_over g (node g v) (triple x y z) (map (λ z. triple x y z) zs ++ rest) (none (triple x y z) (record { positive = p; second = q; third = b.0; below = b.1 }))
      ∙ thirds_none x y p q zs (between_down y z (node g v) zs (omega (arith, b.0)) b.2) rest

  pairs_none : (x : ℕ) → 0 < x → (ys : List ℕ) → Between x (node g v) ys → (rest : List Triple) → first_made g (node g v) (pairs x ys ++ rest) ≡ first_made g (node g v) rest
  unfolding pairs
  pairs_none x p [] b rest = refl
  pairs_none x p (y ∷ ys) b rest =
      ap (first_made g (node g v)) (append_assoc (map (λ z. triple x y z) ys) (pairs x ys) rest)
      ∙ thirds_none x y p b.0 ys b.2 (pairs x ys ++ rest)
      ∙ pairs_none x p ys (between_down x y (node g v) ys (omega (arith, b.0)) b.2) rest

  pub nothing_made : (l : List ℕ) → Between 0 (node g v) l → first_made g (node g v) (triples l) ≡ g
  unfolding triples
  nothing_made [] b = none_left g (node g v)
  nothing_made (x ∷ xs) b = pairs_none x b.0 xs b.2 (triples xs) ∙ nothing_made xs (between_down 0 x (node g v) xs (omega arith) b.2)

  near_rises : Between 0 (node g v) (near g (node g v))
  unfolding near
  near_rises = let e : suc (node g v - 1) ≡ node g v = omega arith in rw e at (near_between g (node g v) (node g v - 1))

  pub barred_sought : (sc : List ℕ) → Facts g sc → (t : Triple) → Sought g v (triples (near g (node g v))) [] 256 t sc sc
  barred_sought sc facts t =
      record {
        gives = λ z. absurd (omega arith);
        found = λ z. absurd (omega arith);
        left = λ z. none_left g (node g v) ∙ sym (nothing_made (near g (node g v)) near_rises);
        framed = record { same = refl; above = λ j h. refl; first = λ w. refl; last = λ w f h k. refl };
        facts = facts;
      }
