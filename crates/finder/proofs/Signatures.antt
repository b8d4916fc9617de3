-- Signatures are values under the assignments of their places, of every index; a node that is made a majority keeps them, and so does a trial.
-- From the values as a fixed point and the laws on bits.
use mathlib.Core.Path.{◌≡◌, refl, sym, ap, ap₂, ◌∙◌}
use mathlib.Core.Bool.{true, false}
use mathlib.Core.Logic.{⊎_elim, ◌≢◌}
use mathlib.Core.List.{List}
use Prim.Native.Nat.{ℕ, zero, suc, ◌+◌, ◌-◌, ◌*◌, ◌/◌, ◌%◌, ◌≤◌, ◌<◌}
use native.Mathlib.Omega.{arith}
use lib.Bits.{bit_xor}
use lib.Dec.{T, eqb, eqb→eq}
use borrow.Author.Tests.{eq-eqb, ne_eqb}
use Rattle.graph.specs.Admission.{Admitted}
use Rattle.graph.specs.Graph.{Graph, mark, node, word, is_edge, is_xor}
use Rattle.graph.specs.Literals.{bit}
use Rattle.graph.specs.Value.{majority, exclusive, literal_value, node_value, values, value}
use Rattle.graph.proofs.Bits.{bit_xor_lem, bit_le}
use Rattle.graph.proofs.Cases.{eq_or_ne, lt_or_le}
use Rattle.graph.proofs.Edge.{edge_early, edge_third}
use Rattle.graph.proofs.Fixed.{value_zero, value_input, value_node}
use Rattle.graph.proofs.Tests.{less, no_less, equal, unequal}
use Rattle.evaluation.proofs.Bits.{bit_zero}
use Rattle.moves.proofs.Flags.{all, all_at}
use Rattle.state.specs.State.{field}
use Rattle.trees.specs.Filling.{Stored}
use Rattle.hidden.specs.Truth.{Triple, truth}
use Rattle.hidden.specs.Majority.{is_majority, made}
use Rattle.hidden.specs.Inner.{Rising}
use Rattle.hidden.specs.Keeps.{Same}
use Rattle.hidden.proofs.Made.{made_keeps}
use Rattle.majority_call.specs.Valuing.{Framed}
use Rattle.finder.specs.Signs.{input_sign, signing, Signed, sign_of, TurnedWord, NodeSign, SignSet}

-- a word of 32 bits against a mask that is b in every place
ones : T (all 32 (λ j. eqb (bit j 4294967295) 1))
unfolding bit
ones = tt

pub turned_is : (x b : ℕ) → b ≤ 1 → TurnedWord x b (bit_xor x (b * 4294967295))
turned_is x zero h j k = bit_xor_lem j x 0 ∙ ap (λ (n : ℕ). (bit j x + n) % 2) (bit_zero j)
turned_is x (suc zero) h j k = bit_xor_lem j x 4294967295 ∙ ap (λ (n : ℕ). (bit j x + n) % 2) (eqb→eq _ _ (all_at 32 (λ j. eqb (bit j 4294967295) 1) ones j k))
turned_is x (suc (suc b)) h j k = absurd (omega arith)

-- the signature of each kind of index
module _ (i : ℕ) (sc : List ℕ) where
  pub sign_zero : 0 ≡ sign_of i sc 0
  unfolding sign_of
  sign_zero = equal 0 0 _ _ refl refl

  pub sign_input : (u : ℕ) → u ≢ 0 → u ≤ i → input_sign u ≡ sign_of i sc u
  unfolding sign_of
  sign_input u n h = unequal u 0 _ _ n (no_less i u _ _ h refl)

  pub sign_node : (u : ℕ) → i < u → field sc (u - (i + 1)) 7 ≡ sign_of i sc u
  unfolding sign_of
  sign_node u h = unequal u 0 _ _ (λ e. omega arith) (less i u _ _ h refl)

-- bit j of an index's signature is its value under the assignment of place j
module _ (g : Graph) (n : ℕ) (sc : List ℕ) (s : Signed g n sc) (j : ℕ) (low : j < 32) where
  input_is : (u : ℕ) → u ≢ 0 → u ≤ g.I → bit j (input_sign u) ≡ value g (signing j) u
  unfolding signing
  input_is zero z h = absurd (z refl)
  input_is (suc k) z h = omega (arith, bit_le j (input_sign (suc k)), value_input g (signing j) k (omega arith))

  node_is : (u : ℕ) → g.I < u → u < node g n → bit j (field sc (u - (g.I + 1)) 7) ≡ value g (signing j) u
  node_is u h l = let e : g.I + 1 + (u - (g.I + 1)) ≡ u = omega arith in rw e at (s (u - (g.I + 1)) j (omega arith) low)

  pub sign_is : (u : ℕ) → u < node g n → bit j (sign_of g.I sc u) ≡ value g (signing j) u
  sign_is u l =
      ⊎_elim
      (λ (z : u ≡ 0). rw z (ap (bit j) (sym (sign_zero g.I sc)) ∙ bit_zero j ∙ sym (value_zero g (signing j))))
      (λ (z : u ≢ 0).
      ⊎_elim
      (λ (h : g.I < u). ap (bit j) (sym (sign_node g.I sc u h)) ∙ node_is u h l)
      (λ (h : u ≤ g.I). ap (bit j) (sym (sign_input g.I sc u z h)) ∙ input_is u z h)
      (lt_or_le g.I u))
      (eq_or_ne u 0)

-- a node's signature from those of its words
module _ (g : Graph) (adm : Admitted g) (v : ℕ) (within : v < g.N) (sc : List ℕ) where
  below : (k : ℕ) → k < 3 → is_edge g (3 * v + k) ≡ true → word g (3 * v + k) / 2 < node g v
  below k h e = omega (arith, adm.below (3 * v + k) (omega arith) e)

  module _ (s : Signed g v sc) (j : ℕ) (low : j < 32) where
    vs : List ℕ
    vs = values g (signing j) g.N

    literal_is : (k w : ℕ) → k < 3 → is_edge g (3 * v + k) ≡ true → TurnedWord (sign_of g.I sc (word g (3 * v + k) / 2)) (word g (3 * v + k) % 2) w
        → bit j w ≡ literal_value vs (word g (3 * v + k))
    unfolding literal_value value vs
    literal_is k w h e t = t j low ∙ ap (λ (n : ℕ). (n + word g (3 * v + k) % 2) % 2) (sign_is g v sc s j low (word g (3 * v + k) / 2) (below k h e))

    first_edge : is_edge g (3 * v + 0) ≡ true
    first_edge = edge_early g (3 * v + 0) (λ e. omega arith)

    second_edge : is_edge g (3 * v + 1) ≡ true
    second_edge = edge_early g (3 * v + 1) (λ e. omega arith)

    node_xor : is_xor g v ≡ true → node_value g vs v ≡ exclusive (literal_value vs (word g (3 * v + 0))) (literal_value vs (word g (3 * v + 1)))
    unfolding node_value
    node_xor e = rw e

    node_majority : is_xor g v ≡ false
        → node_value g vs v ≡ majority (literal_value vs (word g (3 * v + 0))) (literal_value vs (word g (3 * v + 1))) (literal_value vs (word g (3 * v + 2)))
    unfolding node_value
    node_majority e = rw e

    is_node_lem : value g (signing j) (node g v) ≡ node_value g vs v
    unfolding vs
    is_node_lem = value_node g (signing j) adm v within

  xor_is : word g (3 * v + 2) ≡ mark → is_xor g v ≡ true
  unfolding is_xor
  xor_is e = eq-eqb (word g (3 * v + 2)) mark e

  xor_not : word g (3 * v + 2) ≢ mark → is_xor g v ≡ false
  unfolding is_xor
  xor_not n = ne_eqb (word g (3 * v + 2)) mark n

  -- x, y and z are its words, p, q and r their signatures
  module _ (x y z p q : ℕ) (ex : x ≡ word g (3 * v)) (ey : y ≡ word g (3 * v + 1)) (ez : z ≡ word g (3 * v + 2))
      (tp : TurnedWord (sign_of g.I sc (x / 2)) (x % 2) p) (tq : TurnedWord (sign_of g.I sc (y / 2)) (y % 2) q) where
    first : TurnedWord (sign_of g.I sc (word g (3 * v + 0) / 2)) (word g (3 * v + 0) % 2) p
    first = let e : 3 * v + 0 ≡ 3 * v = omega arith in rw (e, ← ex) tp

    second : TurnedWord (sign_of g.I sc (word g (3 * v + 1) / 2)) (word g (3 * v + 1) % 2) q
    second = rw (← ey) tq

    pub signed_xor : z ≡ mark → NodeSign g v sc (bit_xor p q)
    unfolding exclusive
    signed_xor m s j low =
        bit_xor_lem j p q
        ∙ ap₂ exclusive (literal_is s j low 0 p (omega arith) (first_edge s j low) first) (literal_is s j low 1 q (omega arith) (second_edge s j low) second)
        ∙ sym (is_node_lem s j low ∙ node_xor s j low (xor_is (sym ez ∙ m)))

    pub signed_majority : z ≢ mark → (r w : ℕ) → TurnedWord (sign_of g.I sc (z / 2)) (z % 2) r
        → ((j : ℕ) → bit j w ≡ majority (bit j p) (bit j q) (bit j r)) → NodeSign g v sc w
    signed_majority m r w tr e s j low =
        let n : word g (3 * v + 2) ≢ mark = λ h. m (ez ∙ h) in
        let third : TurnedWord (sign_of g.I sc (word g (3 * v + 2) / 2)) (word g (3 * v + 2) % 2) r = rw (← ez) tr in
        let a = literal_is s j low 0 p (omega arith) (first_edge s j low) first in
        let b = literal_is s j low 1 q (omega arith) (second_edge s j low) second in
        let d = literal_is s j low 2 r (omega arith) (edge_third g (3 * v + 2) (omega arith) n) third in
        e j ∙ rw (a, b, d) (sym (is_node_lem s j low ∙ node_majority s j low (xor_not n)))

  -- stored
  pub sign_set : (w : ℕ) (sc' : List ℕ) → NodeSign g v sc w → Stored v 7 w sc sc' → SignSet g v sc sc'
  sign_set w sc' is st =
      record {
        signed = λ s u j h low.
            ⊎_elim
            (λ (e : u ≡ v). rw e (ap (bit j) st.new ∙ is s j low))
            (λ (n : u ≢ v). ap (bit j) (st.old (8 * u + 7) (λ e. n (omega arith))) ∙ s u j (below_next u v h n) low)
            (eq_or_ne u v);
        kept = st.old;
        same = st.same;
      }
    where
      below_next : (u v : ℕ) → u < v + 1 → u ≢ v → u < v
      below_next u v h n = ⊎_elim (λ (q : u < v). q) (λ (q : v ≤ u). absurd (n (omega arith))) (lt_or_le u v)

-- an index up to a node's has a signature, and so has that of a word
pub sign_room : (g : Graph) → Admitted g → (v : ℕ) → v < g.N → (u l : ℕ) → 8 * g.N ≤ l → u ≤ node g v
    → (g.I ≤ 4096) × (u ≤ g.I + 100000) × (8 * (u - g.I) ≤ l)
sign_room g adm v h u l k b = (adm.few_inputs, omega (arith, adm.few_nodes), omega arith)

pub literal_room : (g : Graph) → Admitted g → (v : ℕ) → v < g.N → (x y l : ℕ) → 8 * g.N ≤ l → x ≡ y → y / 2 < node g v
    → (g.I ≤ 4096) × (x / 2 ≤ g.I + 100000) × (8 * (x / 2 - g.I) ≤ l)
literal_room g adm v h x y l k e b = sign_room g adm v h (x / 2) l k (rw e (omega arith))

-- that of a node is its field 7, and a trial changes none
pub sign_here : (g : Graph) (v : ℕ) (sc : List ℕ) → field sc v 7 ≡ sign_of g.I sc (node g v)
sign_here g v sc = let e : g.I + 1 + v - (g.I + 1) ≡ v = omega arith in rw e at (sign_node g.I sc (g.I + 1 + v) (omega arith))

pub sign_framed : (i v : ℕ) (sc sc' : List ℕ) → Framed v sc sc' → (u : ℕ) → sign_of i sc u ≡ sign_of i sc' u
unfolding sign_of
sign_framed i v sc sc' f u = rw (f.last (u - (i + 1)) 7 (omega arith) (omega arith))

-- kept where no value differs, and where no field 7 does
pub signed_same : (g h : Graph) → Same g h → (n : ℕ) → n ≤ g.N → (sc : List ℕ) → Signed g n sc → Signed h n sc
signed_same g h k n l sc s v j b low =
    s v j b low ∙ sym (k.all (signing j) (g.I + 1 + v) (omega arith)) ∙ ap (λ (i : ℕ). value h (signing j) (i + 1 + v)) (sym k.keeps.inputs)

pub signed_made : (g : Graph) → Admitted g → (t : Triple) (v : ℕ) → v < g.N → Rising t (node g v) → is_majority (truth g t (node g v)) ≡ true
    → (n : ℕ) → n ≤ g.N → (sc : List ℕ) → Signed g n sc → Signed (made g t (node g v)) n sc
signed_made g adm t v h r is n l sc s =
    let k = made_keeps g adm t v h r is in
    signed_same g (made g t (node g v)) (record { keeps = k.0; nodes = k.1; all = k.2 }) n l sc s

pub signed_framed : (g : Graph) (n v : ℕ) (sc sc' : List ℕ) → Framed v sc sc' → Signed g n sc → Signed g n sc'
signed_framed g n v sc sc' f s u j b low = ap (bit j) (f.last u 7 (omega arith) (omega arith)) ∙ s u j b low

pub signed_kept : (g : Graph) (n v f x : ℕ) (sc sc' : List ℕ) → f < 7 → Stored v f x sc sc' → Signed g n sc → Signed g n sc'
signed_kept g n v f x sc sc' k st s u j b low = ap (bit j) (st.old (8 * u + 7) (λ e. omega arith)) ∙ s u j b low

pub signed_none : (g : Graph) (sc : List ℕ) → Signed g 0 sc
signed_none g sc v j h low = absurd (omega arith)
