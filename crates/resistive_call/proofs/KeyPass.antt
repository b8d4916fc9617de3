-- The costs of a tree by rising index: what is stored for a node, from what is stored below it, are its costs by recursion. From the laws
-- of the pass and on a node's numbers.
use mathlib.Core.Path.{◌≡◌, refl, sym, ap, ◌∙◌}
use mathlib.Core.Bool.{Bool, true, false, ◌&&◌}
use mathlib.Core.List.{List}
use mathlib.Core.Logic.{⊎_elim, ◌≢◌}
use Prim.Native.Nat.{ℕ, zero, suc, ◌+◌, ◌-◌, ◌*◌, ◌/◌, ◌<◌, min}
use native.Mathlib.Omega.{arith}
use borrow.Author.Tests.{lt-ltb}
use Rattle.graph.specs.Finite.{if_equal, if_less}
use Rattle.graph.specs.Graph.{Graph, node, word, is_edge, is_xor}
use Rattle.graph.proofs.Cases.{eq_or_ne}
use Rattle.graph.proofs.Tests.{less, equal, unequal}
use Rattle.moves.specs.Cost.{inner}
use Rattle.moves.specs.Rows.{arity, moves_at}
use Rattle.moves.specs.Tree.{is_root}
use Rattle.moves.proofs.Moves.{moves_of, moves_all}
use Rattle.resistive.specs.Family.{below, family_by, packed, stored, turns_of, turn_least, earlier, key_cost, key_turns, key_stored}
use Rattle.resistive.proofs.Costs.{base_key, costs_are, key_one, turns_all, turns_one}
use Rattle.resistive.proofs.Numbers.{packed_zero, packed_one}
use Rattle.resistive.proofs.Step.{family_same}
use Rattle.state.specs.State.{field}
use Rattle.trees.specs.Filling.{Stored}
use Rattle.trees.proofs.Passes.{RisenTo, risen_inside, risen_ready, risen_step}
use Rattle.trees.proofs.Ready.{Ready, named_below, named_in}
use Rattle.resistive_call.specs.Keys.{word_keys, Low, turn_by, key_by}
use Rattle.resistive_call.proofs.Words.{earlier_is, words_low, family_now}

-- the least by turn of a free node
pub turn_by_lem : (x : Bool) (B : ℕ → ℕ) (z : List ℕ) → ((k : ℕ) → k < arity x → B k ≡ family_by x z k) → (t : ℕ) → t < 2 → turn_least x (arity x) B t ≡ turn_by x z t
unfolding turn_least turn_by if_less arity
turn_by_lem true B z same t l = omega (arith, same (2 * t) (omega arith), same (2 * t + 1) (omega arith))
turn_by_lem false B z same t l = same t l

one_word : (t : ℕ) → t < 2 → (c : ℕ) → c ≡ 0 → stored 608200 t ≡ if_less t 1 c 304100
unfolding stored if_less if_equal
one_word zero l c e = rw e
one_word (suc zero) l c e = refl
one_word (suc (suc t)) l c e = absurd (omega arith)

two_words : (t a b : ℕ) → t < 2 → (f : ℕ → ℕ) → f 0 ≡ a → f 1 ≡ b → stored (packed a b) t ≡ f t - min a b
two_words zero a b l f p q = rw p (packed_zero a b)
two_words (suc zero) a b l f p q = rw q (packed_one a b)
two_words (suc (suc t)) a b l f p q = absurd (omega arith)

-- what is stored for node v are its costs
abbrev pub KeyRight : Graph → List ℕ → ℕ → ℕ → Type 0
KeyRight h ls v x = (t : ℕ) → t < 2 → stored x t ≡ key_stored h ls (node h v) t

-- a node v whose named non-roots are stored
module _ (h : Graph) (ls sc : List ℕ) (rd : Ready h sc) (v : ℕ) (vn : v < h.N)
    (costed : (i t : ℕ) → i < 3 → t < 2 → is_edge h (3 * v + i) ≡ true → inner h (word h (3 * v + i) / 2) ≡ true → word h (3 * v + i) / 2 < node h v
    → stored (field sc (word h (3 * v + i) / 2 - (h.I + 1)) 4) t ≡ key_stored h ls (word h (3 * v + i) / 2) t) where
  pub below_is : (k : ℕ) → k < arity (is_xor h v) → below h (key_cost h ls) (key_turns h ls) v k ≡ family_by (is_xor h v) (word_keys h sc v 0 v) k
  unfolding below
  below_is k l =
      family_same h true (inner h) (earlier h v) (λ u. 0) (λ u. 0) (key_cost h ls) (key_turns h ls) v k
      (λ i j e.
      let u : ℕ = word h (3 * v + i) / 2 in
      sym (earlier_is h v u ∙ rw (lt-ltb u (node h v) (named_below h rd.admitted v i vn j e)) (and_true (inner h u))))
      (λ i j e y. refl) ∙
      family_now h ls sc rd v v vn costed 0 (λ u. 0) (λ i j e y. refl) (λ i j e y a. absurd (omega (arith, named_below h rd.admitted v i vn j e))) k l
    where
      and_true : (b : Bool) → b && true ≡ b
      and_true true = refl
      and_true false = refl

  pub own_low : (s : ℕ) → Low (word_keys h sc v s v)
  own_low = words_low h ls sc rd v v vn costed

  abbrev turn_key : ℕ → ℕ
  turn_key = turn_least (is_xor h v) (moves_at h ls (node h v)) (below h (key_cost h ls) (key_turns h ls) v)

  one_cost : (t : ℕ) → moves_at h ls (node h v) ≡ 1 → key_cost h ls (node h v) t ≡ 0
  unfolding key_cost
  one_cost t e = key_one h (moves_at h ls) rd.admitted v t vn e

  turn_is : moves_at h ls (node h v) ≡ arity (is_xor h v) → (s : ℕ) → s < 2 → turn_key s ≡ turn_by (is_xor h v) (word_keys h sc v 0 v) s
  turn_is e s k =
      ap (λ m. turn_least (is_xor h v) m (below h (key_cost h ls) (key_turns h ls) v) s) e ∙
      turn_by_lem (is_xor h v) (below h (key_cost h ls) (key_turns h ls) v) (word_keys h sc v 0 v) below_is s k

  cost_is : (s : ℕ) → turn_key s - min (turn_key 0) (turn_key 1) ≡ key_cost h ls (node h v) s
  unfolding key_cost key_turns base_key
  cost_is s = sym (costs_are h (moves_at h ls) rd.admitted v s vn)

  free_cost : moves_at h ls (node h v) ≡ arity (is_xor h v) → (s : ℕ) → turn_key s - min (turn_by (is_xor h v) (word_keys h sc v 0 v) 0) (turn_by (is_xor h v) (word_keys h sc v 0 v) 1) ≡ key_cost h ls (node h v) s
  free_cost e s = omega (arith, cost_is s, turn_is e 0 (omega arith), turn_is e 1 (omega arith))

  pub key_stored_lem : (t : ℕ) → t < 2 → stored (key_by (is_xor h v) (moves_at h ls (node h v)) (word_keys h sc v 0 v)) t ≡ key_stored h ls (node h v) t
  unfolding key_by key_stored key_turns
  key_stored_lem t l =
      let n : ℕ = moves_at h ls (node h v) in
      let z : List ℕ = word_keys h sc v 0 v in
      let X : Bool = is_xor h v in
      ⊎_elim
      (λ (e : n ≡ 1).
      let q : if_equal n 1 608200 (packed (turn_by X z 0) (turn_by X z 1)) ≡ 608200 = sym (equal n 1 608200 (packed (turn_by X z 0) (turn_by X z 1)) e refl) in
      let one : turns_of n ≡ 1 = ap turns_of e ∙ turns_one in
      rw (q, one) (one_word t l (key_cost h ls (node h v) t) (one_cost t e)))
      (λ (d : n ≢ 1).
      let e : n ≡ arity X = moves_all X n (moves_of h ls v) d in
      let q : if_equal n 1 608200 (packed (turn_by X z 0) (turn_by X z 1)) ≡ packed (turn_by X z 0) (turn_by X z 1) = sym (unequal n 1 608200 (packed (turn_by X z 0) (turn_by X z 1)) d refl) in
      let two : turns_of n ≡ 2 = ap turns_of e ∙ turns_all X in
      rw (q, two)
      (two_words t (turn_by X z 0) (turn_by X z 1) l turn_key (turn_is e 0 (omega arith)) (turn_is e 1 (omega arith)) ∙
      free_cost e t ∙ less t 2 (key_cost h ls (node h v) t) 304100 l refl))
      (eq_or_ne n 1)

module _ (h : Graph) (ls sc₀ : List ℕ) (rd : Ready h sc₀) (r : ℕ) (rn : r < h.N) (rt : is_root h (node h r) ≡ true) where
  module _ (sc : List ℕ) (v : ℕ) (ct : RisenTo h (KeyRight h ls) sc₀ sc r v) (vr : v ≢ r) where
    inside : v < h.N
    inside = risen_inside h (KeyRight h ls) sc₀ rd r rn rt sc v ct vr

    ready : Ready h sc
    ready = risen_ready h (KeyRight h ls) sc₀ rd r rn rt sc v ct vr

    costed : (i t : ℕ) → i < 3 → t < 2 → is_edge h (3 * v + i) ≡ true → inner h (word h (3 * v + i) / 2) ≡ true → word h (3 * v + i) / 2 < node h v
        → stored (field sc (word h (3 * v + i) / 2 - (h.I + 1)) 4) t ≡ key_stored h ls (word h (3 * v + i) / 2) t
    costed i t l k e y a =
        let u : ℕ = word h (3 * v + i) / 2 in
        let b = named_in h rd.admitted v i inside l e y in
        let q : node h (u - (h.I + 1)) ≡ u = omega arith in
        (rw q at (ct.done (u - (h.I + 1)) (omega arith) (rw q (b.1 ∙ ct.here)) t k))

    pub pass_low : (s : ℕ) → Low (word_keys h sc v s v)
    pass_low = own_low h ls sc ready v inside costed

    pub keys_step : (sc' : List ℕ) (x : ℕ) → Stored v 4 x sc sc' → x ≡ key_by (is_xor h v) (moves_at h ls (node h v)) (word_keys h sc v 0 v) → (w : ℕ) → w ≡ field sc' v 6
        → RisenTo h (KeyRight h ls) sc₀ sc' r w × (v < w)
    keys_step sc' x st e = risen_step h (KeyRight h ls) sc₀ rd r rn rt sc v ct vr sc' x st (λ t l. rw e (key_stored_lem h ls sc ready v inside costed t l))
