-- Looking at a node: of what is known of its words' indices comes its truth value, or an index to be valued before it. From the laws on
-- bytes and on what is known.
use mathlib.Core.Path.{◌≡◌, refl, sym, ap, ◌∙◌}
use mathlib.Core.Bool.{true, false}
use mathlib.Core.Logic.{⊎_elim, ◌≢◌}
use mathlib.Core.List.{List}
use Prim.Native.Nat.{ℕ, zero, suc, ◌+◌, ◌-◌, ◌*◌, ◌/◌, ◌%◌, ◌≤◌, ◌<◌}
use native.Mathlib.Omega.{arith}
use borrow.Author.Tests.{eq-eqb, ne_eqb}
use lib.Bits.{bit_and, bit_or, bit_xor, and_lt, or_lt, xor_lt}
use lib.ListN.{get_or}
use Rattle.graph.specs.Finite.{if_equal}
use Rattle.graph.specs.Graph.{Graph, mark, node, word, is_edge, is_xor}
use Rattle.graph.specs.Admission.{Admitted}
use Rattle.graph.proofs.Cases.{eq_or_ne}
use Rattle.graph.proofs.Edge.{edge_early, edge_third, third_majority}
use Rattle.hidden.specs.Truth.{Triple, leak, node_byte, over, truth}
use Rattle.hidden.proofs.Bytes.{turned_lt, byte_of, majority_byte_lem, xor_byte, leak_byte, free_apart, truth_le}
use Rattle.hidden.proofs.Over.{truth_at, truth_node}
use Rattle.hidden.specs.Ways.{Misses}
use Rattle.majority_call.specs.Valuing.{Asked, unknown, known_at, Looked, exclusive_of, voted_of}
use Rattle.majority_call.proofs.Known.{known_is, known_next}

xor_is : (g : Graph) (v : ℕ) → word g (3 * v + 2) ≡ mark → is_xor g v ≡ true
unfolding is_xor
xor_is g v e = eq-eqb (word g (3 * v + 2)) mark e

xor_not : (g : Graph) (v : ℕ) → word g (3 * v + 2) ≢ mark → is_xor g v ≡ false
unfolding is_xor
xor_not g v n = ne_eqb (word g (3 * v + 2)) mark n

module _ (g : Graph) (adm : Admitted g) (sc : List ℕ) (t : Triple) (ask : Asked g sc t) (v : ℕ) (within : v < g.N) (apart : Misses t (node g v)) where
  -- the node's truth value is its byte
  byte : truth g t (node g v) ≡ node_byte g (over g t v) v
  byte = truth_node g t v within ∙ free_apart t (node g v) (node_byte g (over g t v) v) apart.one apart.two apart.three

  -- the index of its word k
  named : ℕ → ℕ
  named k = word g (3 * v + k) / 2

  below : (k : ℕ) → k < 3 → is_edge g (3 * v + k) ≡ true → word g (3 * v + k) / 2 < node g v
  below k h e = omega (arith, adm.below (3 * v + k) (omega arith) e)

  -- where it leaks
  word_leak : (k a : ℕ) → k < 3 → is_edge g (3 * v + k) ≡ true → a ≡ known_at g.I sc t (word g (3 * v + k) / 2) → a ≡ leak → truth g t (node g v) ≡ leak
  word_leak k a h e q z =
      let i : ℕ = word g (3 * v + k) / 2 in
      let b : i < node g v = below k h e in
      let x : truth g t i ≡ leak = sym (known_is g sc t ask i (omega arith) (λ y. omega (arith, y, q, z))) ∙ sym q ∙ z in
      byte ∙ leak_byte g (over g t v) v k h e (sym (truth_at g t v (omega arith) i b) ∙ x)

  -- where it is not known
  word_next : (k a : ℕ) → k < 3 → is_edge g (3 * v + k) ≡ true → a ≡ known_at g.I sc t (word g (3 * v + k) / 2) → a ≡ unknown → Looked g sc t v (unknown + word g (3 * v + k) / 2)
  word_next k a h e q z =
      let i : ℕ = word g (3 * v + k) / 2 in
      let b : i < node g v = below k h e in
      let n = known_next g sc t ask i (omega arith) (sym q ∙ z) in
      let p : unknown + i - (g.I + 513) ≡ i - (g.I + 1) = omega (arith, n.is_node_lem) in
      let r : unknown + i - unknown ≡ i = omega arith in
      record {
        value = λ l. absurd (omega arith);
        next = λ l. (omega (arith, n.is_node_lem), omega arith, rw p n.free, rw r n.apart);
      }

  -- where it is a byte
  word_byte : (k a : ℕ) → k < 3 → is_edge g (3 * v + k) ≡ true → a ≡ known_at g.I sc t (word g (3 * v + k) / 2) → a ≢ leak → a ≢ unknown
      → (get_or (over g t v) (word g (3 * v + k) / 2) 0 ≡ a) × (a < 256)
  word_byte k a h e q n m =
      let i : ℕ = word g (3 * v + k) / 2 in
      let b : i < node g v = below k h e in
      let x : a ≡ truth g t i = q ∙ known_is g sc t ask i (omega arith) (λ y. m (q ∙ y)) in
      (sym (truth_at g t v (omega arith) i b) ∙ sym x, omega (arith, x, truth_le g t i (omega arith)))

  leaked : (r : ℕ) → r ≡ leak → truth g t (node g v) ≡ leak → Looked g sc t v r
  leaked r e z = record { value = λ l. e ∙ sym z; next = λ l. absurd (omega arith) }

  valued : (r : ℕ) → r < 256 → r ≡ truth g t (node g v) → Looked g sc t v r
  valued r l e = record { value = λ k. e; next = λ k. absurd (omega arith) }

  e₀ : is_edge g (3 * v + 0) ≡ true
  e₀ = edge_early g (3 * v + 0) (omega arith)

  e₁ : is_edge g (3 * v + 1) ≡ true
  e₁ = edge_early g (3 * v + 1) (omega arith)

  looked_as : (r s : ℕ) → r ≡ s → Looked g sc t v s → Looked g sc t v r
  looked_as r s e l = rw e l

  abbrev X : ℕ
  X = word g (3 * v + 0)

  abbrev Y : ℕ
  Y = word g (3 * v + 1)

  abbrev Z : ℕ
  Z = word g (3 * v + 2)

  turned₀ : (a : ℕ) → get_or (over g t v) (X / 2) 0 ≡ a → byte_of g (over g t v) v 0 ≡ bit_xor a (X % 2 * 255)
  unfolding byte_of
  turned₀ a e = rw e

  turned₁ : (a : ℕ) → get_or (over g t v) (Y / 2) 0 ≡ a → byte_of g (over g t v) v 1 ≡ bit_xor a (Y % 2 * 255)
  unfolding byte_of
  turned₁ a e = rw e

  turned₂ : (a : ℕ) → get_or (over g t v) (Z / 2) 0 ≡ a → byte_of g (over g t v) v 2 ≡ bit_xor a (Z % 2 * 255)
  unfolding byte_of
  turned₂ a e = rw e

  -- an XOR
  module _ (xor : is_xor g v ≡ true) (a b : ℕ) (qa : a ≡ known_at g.I sc t (X / 2)) (qb : b ≡ known_at g.I sc t (Y / 2)) where
    xor_bytes : a ≢ leak → b ≢ leak → a ≢ unknown → b ≢ unknown → Looked g sc t v (bit_xor (bit_xor a (X % 2 * 255)) (bit_xor b (Y % 2 * 255)))
    xor_bytes la lb ua ub =
        let wa = word_byte 0 a (omega arith) e₀ qa la ua in
        let wb = word_byte 1 b (omega arith) e₁ qb lb ub in
        valued _ (xor_lt 8 _ _ (turned_lt a (X % 2) wa.1 (omega arith)) (turned_lt b (Y % 2) wb.1 (omega arith)))
        (sym (byte ∙ xor_byte g (over g t v) v xor (λ k h. two k h (rw wa.0 wa.1) (rw wb.0 wb.1)) ∙ rw (turned₀ a wa.0, turned₁ b wb.0)))
      where
        two : (k : ℕ) → k < 2 → get_or (over g t v) (X / 2) 0 < 256 → get_or (over g t v) (Y / 2) 0 < 256 → get_or (over g t v) (word g (3 * v + k) / 2) 0 < 256
        two zero h x y = x
        two (suc zero) h x y = y
        two (suc (suc k)) h x y = absurd (omega arith)

    pub look_xor : Looked g sc t v (exclusive_of a b X Y)
    unfolding exclusive_of if_equal
    look_xor =
        ⊎_elim
        (λ (la : a ≡ leak). rw (eq-eqb a leak la) (leaked leak refl (word_leak 0 a (omega arith) e₀ qa la)))
        (λ (la : a ≢ leak).
        ⊎_elim
        (λ (lb : b ≡ leak). rw (ne_eqb a leak la, eq-eqb b leak lb) (leaked leak refl (word_leak 1 b (omega arith) e₁ qb lb)))
        (λ (lb : b ≢ leak).
        ⊎_elim
        (λ (ua : a ≡ unknown). rw (ne_eqb a leak la, ne_eqb b leak lb, eq-eqb a unknown ua) (word_next 0 a (omega arith) e₀ qa ua))
        (λ (ua : a ≢ unknown).
        ⊎_elim
        (λ (ub : b ≡ unknown). rw (ne_eqb a leak la, ne_eqb b leak lb, ne_eqb a unknown ua, eq-eqb b unknown ub) (word_next 1 b (omega arith) e₁ qb ub))
        (λ (ub : b ≢ unknown). rw (ne_eqb a leak la, ne_eqb b leak lb, ne_eqb a unknown ua, ne_eqb b unknown ub) (xor_bytes la lb ua ub))
        (eq_or_ne b unknown))
        (eq_or_ne a unknown))
        (eq_or_ne b leak))
        (eq_or_ne a leak)

  -- a majority
  module _ (maj : is_xor g v ≡ false) (a b d : ℕ) (qa : a ≡ known_at g.I sc t (X / 2)) (qb : b ≡ known_at g.I sc t (Y / 2)) (qd : d ≡ known_at g.I sc t (Z / 2)) where
    e₂ : is_edge g (3 * v + 2) ≡ true
    e₂ = third_majority g v maj

    p : ℕ
    p = bit_xor a (X % 2 * 255)

    q : ℕ
    q = bit_xor b (Y % 2 * 255)

    s : ℕ
    s = bit_xor d (Z % 2 * 255)

    maj_bytes : a ≢ leak → b ≢ leak → d ≢ leak → a ≢ unknown → b ≢ unknown → d ≢ unknown → Looked g sc t v (bit_or (bit_or (bit_and p q) (bit_and p s)) (bit_and q s))
    unfolding p q s
    maj_bytes la lb ld ua ub ud =
        let wa = word_byte 0 a (omega arith) e₀ qa la ua in
        let wb = word_byte 1 b (omega arith) e₁ qb lb ub in
        let wd = word_byte 2 d (omega arith) e₂ qd ld ud in
        let ta = turned_lt a (X % 2) wa.1 (omega arith) in
        let tb = turned_lt b (Y % 2) wb.1 (omega arith) in
        let td = turned_lt d (Z % 2) wd.1 (omega arith) in
        valued _ (or_lt 8 _ _ (or_lt 8 _ _ (and_lt 8 _ _ ta tb) (and_lt 8 _ _ ta td)) (and_lt 8 _ _ tb td))
        (sym (byte ∙ majority_byte_lem g (over g t v) v maj (λ k h. three k h (rw wa.0 wa.1) (rw wb.0 wb.1) (rw wd.0 wd.1))
        ∙ rw (turned₀ a wa.0, turned₁ b wb.0, turned₂ d wd.0)))
      where
        three : (k : ℕ) → k < 3 → get_or (over g t v) (X / 2) 0 < 256 → get_or (over g t v) (Y / 2) 0 < 256 → get_or (over g t v) (Z / 2) 0 < 256 → get_or (over g t v) (word g (3 * v + k) / 2) 0 < 256
        three zero h x y z = x
        three (suc zero) h x y z = y
        three (suc (suc zero)) h x y z = z
        three (suc (suc (suc k))) h x y z = absurd (omega arith)

    pub look_majority : Looked g sc t v (voted_of a b d X Y Z)
    unfolding voted_of if_equal p q s
    look_majority =
        ⊎_elim
        (λ (la : a ≡ leak). rw (eq-eqb a leak la) (leaked leak refl (word_leak 0 a (omega arith) e₀ qa la)))
        (λ (la : a ≢ leak).
        ⊎_elim
        (λ (lb : b ≡ leak). rw (ne_eqb a leak la, eq-eqb b leak lb) (leaked leak refl (word_leak 1 b (omega arith) e₁ qb lb)))
        (λ (lb : b ≢ leak).
        ⊎_elim
        (λ (ld : d ≡ leak). rw (ne_eqb a leak la, ne_eqb b leak lb, eq-eqb d leak ld) (leaked leak refl (word_leak 2 d (omega arith) e₂ qd ld)))
        (λ (ld : d ≢ leak).
        ⊎_elim
        (λ (ua : a ≡ unknown). rw (ne_eqb a leak la, ne_eqb b leak lb, ne_eqb d leak ld, eq-eqb a unknown ua) (word_next 0 a (omega arith) e₀ qa ua))
        (λ (ua : a ≢ unknown).
        ⊎_elim
        (λ (ub : b ≡ unknown). rw (ne_eqb a leak la, ne_eqb b leak lb, ne_eqb d leak ld, ne_eqb a unknown ua, eq-eqb b unknown ub) (word_next 1 b (omega arith) e₁ qb ub))
        (λ (ub : b ≢ unknown).
        ⊎_elim
        (λ (ud : d ≡ unknown). rw (ne_eqb a leak la, ne_eqb b leak lb, ne_eqb d leak ld, ne_eqb a unknown ua, ne_eqb b unknown ub, eq-eqb d unknown ud) (word_next 2 d (omega arith) e₂ qd ud))
        (λ (ud : d ≢ unknown). rw (ne_eqb a leak la, ne_eqb b leak lb, ne_eqb d leak ld, ne_eqb a unknown ua, ne_eqb b unknown ub, ne_eqb d unknown ud) (maj_bytes la lb ld ua ub ud))
        (eq_or_ne d unknown))
        (eq_or_ne b unknown))
        (eq_or_ne a unknown))
        (eq_or_ne d leak))
        (eq_or_ne b leak))
        (eq_or_ne a leak)

-- as code reads it
module _ (g : Graph) (adm : Admitted g) (sc : List ℕ) (t : Triple) (ask : Asked g sc t) (v : ℕ) (within : v < g.N) (apart : Misses t (node g v)) where
  pub looked_xor : (x y z i j a b r : ℕ) → x ≡ word g (3 * v) → y ≡ word g (3 * v + 1) → z ≡ word g (3 * v + 2) → z ≡ mark → i ≡ x / 2 → j ≡ y / 2
      → a ≡ known_at g.I sc t i → b ≡ known_at g.I sc t j → r ≡ exclusive_of a b x y → Looked g sc t v r
  looked_xor x y z i j a b r ex eY ez m ei ej qa qb e =
      let o : 3 * v ≡ 3 * v + 0 = omega arith in
      let p : x ≡ word g (3 * v + 0) = ex ∙ ap (word g) o in
      let xor : is_xor g v ≡ true = is_xor_lem (ez) m in
      rw (e, p, eY) (look_xor g adm sc t ask v within apart xor a b (rw (ei, p) at qa) (rw (ej, eY) at qb))
    where
      is_xor_lem : z ≡ word g (3 * v + 2) → z ≡ mark → is_xor g v ≡ true
      is_xor_lem p q = xor_is g v (sym p ∙ q)

  pub looked_majority : (x y z i j k a b d r : ℕ) → x ≡ word g (3 * v) → y ≡ word g (3 * v + 1) → z ≡ word g (3 * v + 2) → z ≢ mark → i ≡ x / 2 → j ≡ y / 2 → k ≡ z / 2
      → a ≡ known_at g.I sc t i → b ≡ known_at g.I sc t j → d ≡ known_at g.I sc t k → r ≡ voted_of a b d x y z → Looked g sc t v r
  looked_majority x y z i j k a b d r ex eY ez m ei ej ek qa qb qd e =
      let o : 3 * v ≡ 3 * v + 0 = omega arith in
      let p : x ≡ word g (3 * v + 0) = ex ∙ ap (word g) o in
      let maj : is_xor g v ≡ false = xor_not g v (λ q. m (ez ∙ q)) in
      rw (e, p, eY, ez) (look_majority g adm sc t ask v within apart maj a b d (rw (ei, p) at qa) (rw (ej, eY) at qb) (rw (ek, ez) at qd))

-- where its words name indices
module _ (g : Graph) (adm : Admitted g) (v : ℕ) (within : v < g.N) where
  pub first_below : word g (3 * v) / 2 < node g v
  first_below = omega (arith, adm.below (3 * v) (omega arith) (edge_early g (3 * v) (omega arith)))

  pub second_below : word g (3 * v + 1) / 2 < node g v
  second_below = omega (arith, adm.below (3 * v + 1) (omega arith) (edge_early g (3 * v + 1) (omega arith)))

  pub third_below : word g (3 * v + 2) ≢ mark → word g (3 * v + 2) / 2 < node g v
  third_below n = omega (arith, adm.below (3 * v + 2) (omega arith) (edge_third g (3 * v + 2) (omega arith) n))

-- so that it can be looked up
pub index_room : (i n v w x k l : ℕ) → k ≡ x / 2 → x ≡ w → w / 2 < i + 1 + v → v < n → n ≤ 100000 → 8 * n ≤ l → (k ≤ i + 100000) × (8 * (k - i) ≤ l)
index_room i n v w x k l e q b h f s = (omega arith, omega arith)
