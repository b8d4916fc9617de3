-- The numbers of a node's words as scratch gives them are those that its family is worked out from. From the laws on links and
-- places, and on families by numbers.
use mathlib.Core.Path.{◌≡◌, refl, sym, ap, ◌∙◌}
use mathlib.Core.Bool.{Bool, true, false, not, cond, ◌&&◌}
use mathlib.Core.List.{List}
use mathlib.Core.Logic.{◌⊎◌, inl, inr, ⊎_elim, ◌≢◌}
use Prim.Native.Nat.{ℕ, zero, suc, ◌+◌, ◌-◌, ◌*◌, ◌/◌, ◌%◌, ◌≤◌, ◌<◌}
use native.Mathlib.Omega.{arith}
use borrow.Author.Tests.{lt-ltb, le-ltb, ltb-true}
use lib.Dec.{ltb, eqb}
use lib.ListN.{get_or}
use Rattle.graph.specs.Admission.{Admitted}
use Rattle.graph.specs.Finite.{if_equal, if_less}
use Rattle.graph.specs.Graph.{Graph, node, word, is_edge, is_xor}
use Rattle.graph.proofs.Cases.{true_or_false, lt_or_le, cond_le}
use Rattle.graph.proofs.Tests.{less, no_less, equal, unequal}
use Rattle.moves.specs.Cost.{inner}
use Rattle.moves.specs.Rows.{arity, flag, moves_at}
use Rattle.moves.specs.Tree.{is_root}
use Rattle.moves.proofs.Count.{clash}
use Rattle.moves.proofs.Moves.{moves_of}
use Rattle.moves.proofs.Readers.{both_true}
use Rattle.resistive.specs.Family.{earlier, family, family_by, turn_of, bit_key, stored, turns_of, key_cost, key_turns, key_stored}
use Rattle.resistive.proofs.Costs.{key_few, key_one, turns_all, turns_one}
use Rattle.resistive.proofs.Numbers.{Fine, family_is}
use Rattle.state.specs.State.{field}
use Rattle.trees.specs.Costing.{inner_at}
use Rattle.trees.proofs.Ready.{Ready, inner_same, named_below}
use Rattle.resistive_call.specs.Keys.{turn_at, turn_cost, word_key, word_at, word_keys, Low}

pub inner_high : (h : Graph) (u : ℕ) → inner h u ≡ true → h.I < u
unfolding inner
inner_high h u e = ltb-true _ _ (both_true (ltb h.I u) (not (is_root h u)) e).0

pub earlier_is : (h : Graph) (v u : ℕ) → earlier h v u ≡ inner h u && ltb u (node h v)
unfolding earlier
earlier_is h v u = refl

set_few : (b : Bool) → ◌≤◌ (cond b 0 304100) 304100
set_few true = omega arith
set_few false = omega arith

as_stored : (h : Graph) (ls : List ℕ) (u t : ℕ) → key_stored h ls u t ≡ if_less t (key_turns h ls u) (key_cost h ls u t) 304100
unfolding key_stored
as_stored h ls u t = refl

-- the costs of nodes by recursion, at most 304,100
module _ (h : Graph) (ls : List ℕ) (adm : Admitted h) where
  pub stored_few : (v t : ℕ) → v < h.N → t < 2 → key_stored h ls (node h v) t ≤ 304100
  unfolding key_stored key_cost if_less
  stored_few v t l k = cond_le (ltb t (key_turns h ls (node h v))) _ 304100 304100 (key_few h (moves_at h ls) adm v t l k) (omega arith)

  -- a node has one turn, which costs nothing, or both
  pub turns_fine : (v : ℕ) → v < h.N → ((key_turns h ls (node h v) ≡ 1) × (key_cost h ls (node h v) 0 ≡ 0)) ⊎ (key_turns h ls (node h v) ≡ 2)
  unfolding key_turns key_cost
  turns_fine v l =
      ⊎_elim
      (λ (e : moves_at h ls (node h v) ≡ 1). inl (ap turns_of e ∙ turns_one, key_one h (moves_at h ls) adm v 0 l e))
      (λ (e : moves_at h ls (node h v) ≡ arity (is_xor h v)). inr (ap turns_of e ∙ turns_all (is_xor h v)))
      (moves_of h ls v)

-- how u is turned, as scratch has it
module _ (h : Graph) (sc : List ℕ) (v s u : ℕ) where
  pub turn_own : u ≡ node h v → turn_at h sc v s u ≡ s
  unfolding turn_at
  turn_own e = sym (equal u (node h v) s _ e refl)

  pub turn_other : u ≢ node h v → turn_at h sc v s u ≡ flag (is_xor h (u - (h.I + 1))) (field sc (u - (h.I + 1)) 4) 3
  unfolding turn_at
  turn_other e = sym (unequal u (node h v) s _ e refl)

-- and what its turn costs
module _ (h : Graph) (sc : List ℕ) (v s u t : ℕ) where
  pub cost_out : inner_at h.I sc u ≡ false → turn_cost h sc v s u t ≡ if_equal t 0 0 304100
  unfolding turn_cost
  cost_out e = rw e

  pub cost_below : inner_at h.I sc u ≡ true → u < node h v → turn_cost h sc v s u t ≡ stored (field sc (u - (h.I + 1)) 4) t
  unfolding turn_cost
  cost_below e l = rw e (sym (less u (node h v) (stored (field sc (u - (h.I + 1)) 4) t) (if_equal t (turn_at h sc v s u) 0 304100) l refl))

  pub cost_above : inner_at h.I sc u ≡ true → node h v ≤ u → turn_cost h sc v s u t ≡ if_equal t (turn_at h sc v s u) 0 304100
  unfolding turn_cost
  cost_above e l = rw e (sym (no_less u (node h v) (stored (field sc (u - (h.I + 1)) 4) t) (if_equal t (turn_at h sc v s u) 0 304100) l refl))

-- the words of node w, while node v of a ready state is decided; what is below v and named is stored
module _ (h : Graph) (ls sc : List ℕ) (rd : Ready h sc) (v w : ℕ) (wn : w < h.N)
    (costed : (i t : ℕ) → i < 3 → t < 2 → is_edge h (3 * w + i) ≡ true → inner h (word h (3 * w + i) / 2) ≡ true → word h (3 * w + i) / 2 < node h v
    → stored (field sc (word h (3 * w + i) / 2 - (h.I + 1)) 4) t ≡ key_stored h ls (word h (3 * w + i) / 2) t) where
  abbrev un : ℕ → ℕ
  un i = word h (3 * w + i) / 2

  named_low : (i : ℕ) → i < 3 → is_edge h (3 * w + i) ≡ true → un i < node h w
  named_low i l e = named_below h rd.admitted w i wn l e

  inner_now : (i : ℕ) → i < 3 → is_edge h (3 * w + i) ≡ true → inner_at h.I sc (un i) ≡ inner h (un i)
  inner_now i l e = inner_same h sc rd (un i) (omega (arith, named_low i l e))

  is_node_lem : (i : ℕ) → i < 3 → is_edge h (3 * w + i) ≡ true → inner h (un i) ≡ true → (un i ≡ node h (un i - (h.I + 1))) × (un i - (h.I + 1) < h.N)
  is_node_lem i l e y = let a = inner_high h (un i) y in let b = named_low i l e in (omega arith, omega arith)

  cost_few : (i s t : ℕ) → i < 3 → t < 2 → is_edge h (3 * w + i) ≡ true → turn_cost h sc v s (un i) t ≤ 304100
  unfolding if_equal
  cost_few i s t l k e =
      ⊎_elim
      (λ (y : inner h (un i) ≡ true).
      ⊎_elim
      (λ (a : un i < node h v).
      let n = is_node_lem i l e y in
      let q : key_stored h ls (un i) t ≤ 304100 = rw n.0 (stored_few h ls rd.admitted (un i - (h.I + 1)) t n.1 k) in
      omega (arith, cost_below h sc v s (un i) t (inner_now i l e ∙ y) a, costed i t l k e y a, q))
      (λ (a : node h v ≤ un i). omega (arith, cost_above h sc v s (un i) t (inner_now i l e ∙ y) a, set_few (eqb t (turn_at h sc v s (un i)))))
      (lt_or_le (un i) (node h v)))
      (λ (y : inner h (un i) ≡ false). omega (arith, cost_out h sc v s (un i) t (inner_now i l e ∙ y), set_few (eqb t 0)))
      (true_or_false (inner h (un i)))

  word_few : (i s b : ℕ) → i < 3 → word_at h sc v s (3 * w + i) b ≤ 304100
  unfolding word_key if_equal
  word_few i s b l =
      ⊎_elim
      (λ (e : is_edge h (3 * w + i) ≡ true). rw e (cost_few i s ((word h (3 * w + i) + b) % 2) l (omega arith) e))
      (λ (e : is_edge h (3 * w + i) ≡ false). rw e (set_few (eqb b 0)))
      (true_or_false (is_edge h (3 * w + i)))

  pub words_low : (s : ℕ) → Low (word_keys h sc v s w)
  unfolding word_keys
  words_low s zero = word_few 0 s 0 (omega arith)
  words_low s (suc zero) = word_few 0 s 1 (omega arith)
  words_low s (suc (suc zero)) = word_few 1 s 0 (omega arith)
  words_low s (suc (suc (suc zero))) = word_few 1 s 1 (omega arith)
  words_low s (suc (suc (suc (suc zero)))) = word_few 2 s 0 (omega arith)
  words_low s (suc (suc (suc (suc (suc zero))))) = word_few 2 s 1 (omega arith)
  words_low s (suc (suc (suc (suc (suc (suc i)))))) = omega arith

  -- turns σ as scratch has them
  module _ (s : ℕ) (σ : ℕ → ℕ) (still : (i : ℕ) → i < 3 → is_edge h (3 * w + i) ≡ true → inner h (un i) ≡ false → σ (un i) ≡ 0)
      (set : (i : ℕ) → i < 3 → is_edge h (3 * w + i) ≡ true → inner h (un i) ≡ true → node h v ≤ un i → (σ (un i) ≡ turn_at h sc v s (un i)) × (σ (un i) ≤ 1)) where
    abbrev q : ℕ → Bool
    q = earlier h v

    abbrev K : ℕ → ℕ → ℕ
    K = turn_of q σ (key_cost h ls) (key_turns h ls)

    turn_is : (i t : ℕ) → i < 3 → t < 2 → is_edge h (3 * w + i) ≡ true → turn_cost h sc v s (un i) t ≡ K (un i) t
    unfolding turn_of
    turn_is i t l k e =
        ⊎_elim
        (λ (y : inner h (un i) ≡ true).
        ⊎_elim
        (λ (a : un i < node h v).
        let z : earlier h v (un i) ≡ true = earlier_is h v (un i) ∙ rw (y, lt-ltb (un i) (node h v) a) in
        rw z (cost_below h sc v s (un i) t (inner_now i l e ∙ y) a ∙ costed i t l k e y a ∙ as_stored h ls (un i) t))
        (λ (a : node h v ≤ un i).
        let z : earlier h v (un i) ≡ false = earlier_is h v (un i) ∙ rw (y, le-ltb (un i) (node h v) a) in
        rw (z, (set i l e y a).0) (cost_above h sc v s (un i) t (inner_now i l e ∙ y) a))
        (lt_or_le (un i) (node h v)))
        (λ (y : inner h (un i) ≡ false).
        let z : earlier h v (un i) ≡ false = earlier_is h v (un i) ∙ rw y in
        rw (z, still i l e y) (cost_out h sc v s (un i) t (inner_now i l e ∙ y)))
        (true_or_false (inner h (un i)))

    word_is : (i b : ℕ) → i < 3 → word_at h sc v s (3 * w + i) b ≡ bit_key h q σ (key_cost h ls) (key_turns h ls) (3 * w + i) b
    unfolding word_key bit_key
    word_is i b l =
        ⊎_elim
        (λ (e : is_edge h (3 * w + i) ≡ true). rw e (turn_is i ((word h (3 * w + i) + b) % 2) l (omega arith) e))
        (λ (e : is_edge h (3 * w + i) ≡ false). rw e)
        (true_or_false (is_edge h (3 * w + i)))

    fine : (i : ℕ) → i < 3 → is_edge h (3 * w + i) ≡ true → Fine q σ (key_cost h ls) (key_turns h ls) (un i)
    fine i l e =
        record {
          turns = λ z.
              let b = both_true (inner h (un i)) (ltb (un i) (node h v)) (sym (earlier_is h v (un i)) ∙ z) in
              let n = is_node_lem i l e b.0 in
              rw n.0 (turns_fine h ls rd.admitted (un i - (h.I + 1)) n.1);
          bit = λ z.
              ⊎_elim
              (λ (y : inner h (un i) ≡ true).
              ⊎_elim
              (λ (a : un i < node h v). absurd (clash (earlier_is h v (un i) ∙ rw (y, lt-ltb (un i) (node h v) a)) z))
              (λ (a : node h v ≤ un i). (set i l e y a).1)
              (lt_or_le (un i) (node h v)))
              (λ (y : inner h (un i) ≡ false). omega (arith, still i l e y))
              (true_or_false (inner h (un i)));
        }

    numbers : (i b : ℕ) → i < 3 → b < 2 → get_or (word_keys h sc v s w) (2 * i + b) 0 ≡ bit_key h q σ (key_cost h ls) (key_turns h ls) (3 * w + i) b
    unfolding word_keys
    numbers zero zero l k = word_is 0 0 l
    numbers zero (suc zero) l k = word_is 0 1 l
    numbers (suc zero) zero l k = word_is 1 0 l
    numbers (suc zero) (suc zero) l k = word_is 1 1 l
    numbers (suc (suc zero)) zero l k = word_is 2 0 l
    numbers (suc (suc zero)) (suc zero) l k = word_is 2 1 l
    numbers zero (suc (suc b)) l k = absurd (omega arith)
    numbers (suc zero) (suc (suc b)) l k = absurd (omega arith)
    numbers (suc (suc zero)) (suc (suc b)) l k = absurd (omega arith)
    numbers (suc (suc (suc i))) b l k = absurd (omega arith)

    pub family_now : (k : ℕ) → k < arity (is_xor h w) → family h true q σ (key_cost h ls) (key_turns h ls) w k ≡ family_by (is_xor h w) (word_keys h sc v s w) k
    family_now k l = family_is h q σ (key_cost h ls) (key_turns h ls) w k (word_keys h sc v s w) l fine numbers
