-- The list of ANDs: where those of a node stand, and what they name. From the laws on sums and lists.
use Prim.Native.Nat.{ℕ, zero, suc, ◌+◌, ◌-◌, ◌*◌, ◌/◌, ◌%◌, ◌<◌, ◌≤◌}
use mathlib.Core.Path.{◌≡◌, refl, sym, ◌∙◌}
use mathlib.Core.Logic.{⊎_elim}
use mathlib.Core.Bool.{true, false}
use mathlib.Core.List.{List}
use native.Mathlib.Omega.{arith}
use native.Mathlib.Decide.{le_ind}
use native.Mathlib.Nat.{not-suc-le-zero, eq-or-lt_of_le, le_of_suc-le-suc}
use lib.ListN.{length, get_or, length-append, get_or-append}
use lib.Seq.{get_or-append-add}
use Rattle.graph.specs.Finite.{sum}
use Rattle.graph.specs.Graph.{Graph, word, is_xor, mark}
use Rattle.graph.specs.Admission.{Admitted}
use Rattle.graph.proofs.Cases.{lt_or_le, true_or_false, cond_le}
use Rattle.graph.proofs.Edge.{edge_early, edge_third}
use Rattle.graph.proofs.Tests.{less, no_less}
use Rattle.graph.proofs.Turn.{turn_half}
use borrow.Author.Tests.{eqb-false}
use Rattle.aiger.specs.Export.{gates_of, gates_before, exported, xor_gates, majority_gates, node_gates, gates}

-- AND d of a list whose first has index b: its own literal, and two that name lower indices
pub record Fine (l : List ℕ) (b d : ℕ) : Type 0 where
  pub own : get_or l (3 * d) 0 ≡ 2 * (b + d)
  pub left : get_or l (3 * d + 1) 0 / 2 < b + d
  pub right : get_or l (3 * d + 2) 0 / 2 < b + d

xor_fine : (b x y : ℕ) → x / 2 < b → y / 2 < b → (d : ℕ) → d < 3 → Fine (xor_gates b x y) b d
unfolding xor_gates
xor_fine b x y hx hy zero h = record { own = omega arith; left = omega arith; right = omega (arith, turn_half 1 y) }
xor_fine b x y hx hy (suc zero) h = record { own = omega arith; left = omega (arith, turn_half 1 x); right = omega arith }
xor_fine b x y hx hy (suc (suc zero)) h = record { own = omega arith; left = omega arith; right = omega arith }
xor_fine b x y hx hy (suc (suc (suc d))) h = absurd (omega arith)

majority_fine : (b x y z : ℕ) → x / 2 < b → y / 2 < b → z / 2 < b → (d : ℕ) → d < 4 → Fine (majority_gates b x y z) b d
unfolding majority_gates
majority_fine b x y z hx hy hz zero h = record { own = omega arith; left = omega (arith, turn_half 1 y); right = omega (arith, turn_half 1 z) }
majority_fine b x y z hx hy hz (suc zero) h = record { own = omega arith; left = omega arith; right = omega arith }
majority_fine b x y z hx hy hz (suc (suc zero)) h = record { own = omega arith; left = omega arith; right = omega arith }
majority_fine b x y z hx hy hz (suc (suc (suc zero))) h = record { own = omega arith; left = omega arith; right = omega arith }
majority_fine b x y z hx hy hz (suc (suc (suc (suc d)))) h = absurd (omega arith)

length_xor : (b x y : ℕ) → length (xor_gates b x y) ≡ 9
unfolding xor_gates
length_xor b x y = refl

length_majority : (b x y z : ℕ) → length (majority_gates b x y z) ≡ 12
unfolding majority_gates
length_majority b x y z = refl

module _ (g : Graph) where
  pub before_suc : (v : ℕ) → gates_before g (suc v) ≡ gates_before g v + gates_of g v
  unfolding gates_before sum
  before_suc v = refl

  pub before_zero : gates_before g 0 ≡ 0
  unfolding gates_before sum
  before_zero = refl

  pub of_xor : (v : ℕ) → is_xor g v ≡ true → gates_of g v ≡ 3
  unfolding gates_of
  of_xor v e = rw e

  pub of_majority : (v : ℕ) → is_xor g v ≡ false → gates_of g v ≡ 4
  unfolding gates_of
  of_majority v e = rw e

  of_most : (v : ℕ) → gates_of g v ≤ 4
  unfolding gates_of
  of_most v = cond_le (is_xor g v) 3 4 4 (omega arith) (omega arith)

  pub before_most : (v : ℕ) → gates_before g v ≤ 4 * v
  before_most zero = omega (arith, before_zero)
  before_most (suc v) = omega (arith, before_suc v, of_most v, before_most v)

  pub before_mono : (v w : ℕ) → v ≤ w → gates_before g v ≤ gates_before g w
  before_mono v w h = le_ind (λ (i : ℕ). gates_before g v ≤ gates_before g i) (omega arith) (λ i k s. omega (arith, before_suc i)) w h

  -- a literal in the export
  pub exported_input : (x : ℕ) → x / 2 ≤ g.I → exported g x ≡ x
  unfolding exported
  exported_input x h = sym (no_less g.I (x / 2) _ _ h refl)

  pub exported_node : (x v : ℕ) → x / 2 ≡ g.I + 1 + v → exported g x ≡ 2 * (g.I + gates_before g (suc v)) + (x + 1) % 2
  unfolding exported
  exported_node x v h =
      let e : x / 2 - g.I ≡ suc v = omega arith in
      sym (less g.I (x / 2) _ _ (omega arith) (rw e))

  pub exported_below : (x v : ℕ) → x / 2 < g.I + 1 + v → exported g x / 2 < g.I + 1 + gates_before g v
  exported_below x v h =
      ⊎_elim
      (λ (k : g.I < x / 2).
      let e = exported_node x (x / 2 - g.I - 1) (omega arith) in
      let m = before_mono (suc (x / 2 - g.I - 1)) v (omega arith) in
      omega arith)
      (λ (k : x / 2 ≤ g.I). rw (exported_input x k) (omega arith))
      (lt_or_le g.I (x / 2))

  -- the ANDs of a node
  abbrev pub base : ℕ → ℕ
  base v = g.I + 1 + gates_before g v

  abbrev pub said : ℕ → ℕ → ℕ
  said v k = exported g (word g (3 * v + k))

  pub gates_xor : (v : ℕ) → is_xor g v ≡ true → node_gates g v ≡ xor_gates (base v) (said v 0) (said v 1)
  unfolding node_gates
  gates_xor v e = rw e

  pub gates_majority : (v : ℕ) → is_xor g v ≡ false → node_gates g v ≡ majority_gates (base v) (said v 0) (said v 1) (said v 2)
  unfolding node_gates
  gates_majority v e = rw e

  length_node : (v : ℕ) → length (node_gates g v) ≡ 3 * gates_of g v
  length_node v =
      ⊎_elim
      (λ (e : is_xor g v ≡ true). rw (gates_xor v e, of_xor v e) (length_xor _ _ _))
      (λ (e : is_xor g v ≡ false). rw (gates_majority v e, of_majority v e) (length_majority _ _ _ _))
      (true_or_false (is_xor g v))

  pub length_gates : (v : ℕ) → length (gates g v) ≡ 3 * gates_before g v
  unfolding gates
  length_gates zero = omega (arith, before_zero)
  length_gates (suc v) = omega (arith, before_suc v, length-append (gates g v) (node_gates g v), length_gates v, length_node v)

  pub gates_at : (n v k : ℕ) → v < n → k < 3 * gates_of g v → get_or (gates g n) (3 * gates_before g v + k) 0 ≡ get_or (node_gates g v) k 0
  unfolding gates
  gates_at zero v k h l = absurd (not-suc-le-zero h)
  gates_at (suc n) v k h l =
      let p = length_gates n in
      ⊎_elim
      (λ (q : v ≡ n).
      let e : 3 * gates_before g v + k ≡ length (gates g n) + k = rw q (omega arith) in
      rw (e, q) (get_or-append-add (gates g n) (node_gates g n) k 0))
      (λ (q : v < n).
      get_or-append (gates g n) (node_gates g n) 0 (3 * gates_before g v + k)
      (omega (arith, before_suc v, before_mono (suc v) n q))
      ∙ gates_at n v k q l)
      (eq-or-lt_of_le (le_of_suc-le-suc h))

-- the words of a node of an admitted graph
module _ (g : Graph) (adm : Admitted g) (v : ℕ) (h : v < g.N) where
  pub word_early : (k : ℕ) → k < 2 → word g (3 * v + k) / 2 < g.I + 1 + v
  word_early k l = omega (arith, adm.below (3 * v + k) (omega arith) (edge_early g (3 * v + k) (λ q. omega arith)))

  not_mark : is_xor g v ≡ false → word g (3 * v + 2) ≡ mark → ⊥
  unfolding is_xor
  not_mark e = eqb-false _ _ e

  pub word_third : is_xor g v ≡ false → word g (3 * v + 2) / 2 < g.I + 1 + v
  word_third e = omega (arith, adm.below (3 * v + 2) (omega arith) (edge_third g (3 * v + 2) (omega arith) (not_mark e)))

  pub said_below : (k : ℕ) → k < 2 → said g v k / 2 < base g v
  said_below k l = exported_below g (word g (3 * v + k)) v (word_early k l)

  node_fine : (d : ℕ) → d < gates_of g v → Fine (node_gates g v) (base g v) d
  node_fine d l =
      ⊎_elim
      (λ (e : is_xor g v ≡ true).
      rw (gates_xor g v e) (xor_fine (base g v) (said g v 0) (said g v 1) (said_below 0 (omega arith)) (said_below 1 (omega arith)) d (omega (arith, of_xor g v e))))
      (λ (e : is_xor g v ≡ false).
      rw (gates_majority g v e)
      (majority_fine (base g v) (said g v 0) (said g v 1) (said g v 2) (said_below 0 (omega arith)) (said_below 1 (omega arith))
      (exported_below g (word g (3 * v + 2)) v (word_third e)) d (omega (arith, of_majority g v e))))
      (true_or_false (is_xor g v))

  -- in the list of all
  pub all_at : (d : ℕ) → d < gates_of g v → Fine (gates g g.N) (g.I + 1) (gates_before g v + d)
  all_at d l =
      let f = node_fine d l in
      let e : (j k : ℕ) → k < 3 * gates_of g v → j ≡ 3 * gates_before g v + k → get_or (gates g g.N) j 0 ≡ get_or (node_gates g v) k 0 =
      λ j k m q. rw q (gates_at g g.N v k h m) in
      let e₀ = e (3 * (gates_before g v + d)) (3 * d) (omega arith) (omega arith) in
      let e₁ = e (3 * (gates_before g v + d) + 1) (3 * d + 1) (omega arith) (omega arith) in
      let e₂ = e (3 * (gates_before g v + d) + 2) (3 * d + 2) (omega arith) (omega arith) in
      record { own = omega (arith, f.own); left = omega (arith, f.left); right = omega (arith, f.right) }

-- every AND
pub gates_fine : (g : Graph) → Admitted g → (n : ℕ) → n ≤ g.N → (q : ℕ) → q < gates_before g n → Fine (gates g g.N) (g.I + 1) q
gates_fine g adm zero l q h = absurd (omega (arith, before_zero g))
gates_fine g adm (suc n) l q h =
    ⊎_elim
    (λ (k : q < gates_before g n). gates_fine g adm n (omega arith) q k)
    (λ (k : gates_before g n ≤ q).
    let e : gates_before g n + (q - gates_before g n) ≡ q = omega arith in
    rw e at (all_at g adm n l (q - gates_before g n) (omega (arith, before_suc g n))))
    (lt_or_le q (gates_before g n))
