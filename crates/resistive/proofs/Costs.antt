-- M-109, what the sweeps ask: costs stay near each other, a cost looks only at lower non-roots, and the least by turn.
use mathlib.Core.Path.{◌≡◌, refl, sym, ap, ◌∙◌, fun_ext}
use mathlib.Core.Bool.{Bool, true, false, not, cond, ◌&&◌}
use mathlib.Core.Logic.{◌⊎◌, ⊎_elim}
use Prim.Native.Nat.{ℕ, zero, suc, ◌+◌, ◌-◌, ◌*◌, ◌/◌, ◌≤◌, ◌<◌, min}
use native.Mathlib.Omega.{arith}
use borrow.Author.Tests.{ltb-true}
use lib.Dec.{eqb, ltb}
use Rattle.graph.specs.Admission.{Admitted}
use Rattle.graph.specs.Finite.{if_equal, if_less}
use Rattle.graph.specs.Graph.{Graph, is_edge, is_xor, node, word}
use Rattle.moves.specs.Cost.{inner, pick}
use Rattle.resistive.specs.Family.{lowest, edge_bit, weight, local_key, turned, family, below, KeyCosts, turns_of, turn_least, cost_in}
use Rattle.moves.specs.Rows.{flag, rows, first_row, arity}
use Rattle.moves.specs.Tree.{is_root}
use Rattle.graph.proofs.Cases.{true_or_false, cond_le, lt_or_le}
use Rattle.moves.proofs.Changed.{flag_zero}
use Rattle.moves.proofs.Readers.{both_true}
use Rattle.resistive.proofs.Lowest.{picked, lowest_low, lowest_met, turned_free, turned_fixed, turned_mark}

pub edge_few : (g : Graph) (j t : ℕ) → edge_bit g j t ≤ 1
unfolding edge_bit
edge_few g j t = cond_le (is_edge g j) _ 0 1 (omega arith) (omega arith)

pub weight_few : (z x : Bool) (n : ℕ) → weight z x n ≤ n + 304097
unfolding weight if_equal
weight_few z x n = omega (arith, cond_le (z && not x) (cond (eqb n 1) 0 304097) 0 304097 (cond_le (eqb n 1) 0 304097 304097 (omega arith) (omega arith)) (omega arith))

-- a node adds at most 304,100
pub local_few : (g : Graph) (z : Bool) (v x y t : ℕ) → local_key g z v x y t ≤ 304100
unfolding local_key
local_few g z v x y t =
    omega (
      arith,
      weight_few z (is_xor g v) (edge_bit g (3 * v + 0) x + edge_bit g (3 * v + 1) y + edge_bit g (3 * v + 2) t),
      edge_few g (3 * v + 0) x,
      edge_few g (3 * v + 1) y,
      edge_few g (3 * v + 2) t,
    )

module _ (g : Graph) (q : ℕ → Bool) (s : ℕ → ℕ) (c : ℕ → ℕ → ℕ) (n : ℕ → ℕ) (pos : (u : ℕ) → 0 < n u) where
  pub turned_near : (j b : ℕ) (h e : ℕ → ℕ) → ((t : ℕ) → h t ≤ e t + b) → turned g q s c n j h ≤ turned g q s c n j e + b
  turned_near j b h e a =
      ⊎_elim
      (λ (x : is_edge g j ≡ true).
      ⊎_elim
      (λ (y : q (word g j / 2) ≡ true).
      let u : ℕ = word g j / 2 in
      let E : ℕ → ℕ = λ t. c u t + e t in
      let t : ℕ = pick E (n u) in
      omega (
        arith,
        turned_free g q s c n j h x y,
        turned_free g q s c n j e x y,
        lowest_met (n u) E,
        lowest_low (n u) (λ t. c u t + h t) (pos u) t (picked (n u) E (pos u)).below,
        a t,
      ))
      (λ (y : q (word g j / 2) ≡ false). omega (arith, turned_fixed g q s c n j h x y, turned_fixed g q s c n j e x y, a (s (word g j / 2))))
      (true_or_false (q (word g j / 2))))
      (λ (x : is_edge g j ≡ false). omega (arith, turned_mark g q s c n j h x, turned_mark g q s c n j e x, a 0))
      (true_or_false (is_edge g j))

  -- another move changes a family by at most 304,100
  pub family_near : (z : Bool) (v k l : ℕ) → family g z q s c n v k ≤ family g z q s c n v l + 304100
  unfolding family
  family_near z v k l =
      turned_near (3 * v + 0) 304100 _ _
      (λ x. turned_near (3 * v + 1) 304100 _ _
      (λ y. turned_near (3 * v + 2) 304100 _ _
      (λ t. omega (
        arith,
        local_few g z v (flag (is_xor g v) k 0 + x) (flag (is_xor g v) k 1 + y) (flag (is_xor g v) k 2 + t),
      ))))

-- a cost looks only at the non-roots that its node names
pub turned_local : (g : Graph) (q : ℕ → Bool) (s : ℕ → ℕ) (c c' : ℕ → ℕ → ℕ) (n : ℕ → ℕ) (j : ℕ)
    → (is_edge g j ≡ true → q (word g j / 2) ≡ true → c (word g j / 2) ≡ c' (word g j / 2))
    → turned g q s c n j ≡ turned g q s c' n j
turned_local g q s c c' n j a =
    fun_ext
    (λ h.
    ⊎_elim
    (λ (e : is_edge g j ≡ true).
    ⊎_elim
    (λ (i : q (word g j / 2) ≡ true).
    turned_free g q s c n j h e i ∙ ap (λ (w : ℕ → ℕ). lowest (n (word g j / 2)) (λ t. w t + h t)) (a e i) ∙ sym (turned_free g q s c' n j h e i))
    (λ (i : q (word g j / 2) ≡ false). turned_fixed g q s c n j h e i ∙ sym (turned_fixed g q s c' n j h e i))
    (true_or_false (q (word g j / 2))))
    (λ (e : is_edge g j ≡ false). turned_mark g q s c n j h e ∙ sym (turned_mark g q s c' n j h e))
    (true_or_false (is_edge g j)))

pub family_local : (g : Graph) (z : Bool) (q : ℕ → Bool) (s : ℕ → ℕ) (c c' : ℕ → ℕ → ℕ) (n : ℕ → ℕ) (v k : ℕ)
    → ((i : ℕ) → i < 3 → is_edge g (3 * v + i) ≡ true → q (word g (3 * v + i) / 2) ≡ true → c (word g (3 * v + i) / 2) ≡ c' (word g (3 * v + i) / 2))
    → family g z q s c n v k ≡ family g z q s c' n v k
unfolding family
family_local g z q s c c' n v k a =
    rw (
      turned_local g q s c c' n (3 * v + 0) (a 0 (omega arith)),
      turned_local g q s c c' n (3 * v + 1) (a 1 (omega arith)),
      turned_local g q s c c' n (3 * v + 2) (a 2 (omega arith)),
    )

-- the least by turn
module _ (f : ℕ → ℕ) where
  flag_turn : (x : Bool) (k : ℕ) → k < arity x → flag x k 3 < 2
  unfolding flag rows first_row arity if_less
  flag_turn true zero h = omega arith
  flag_turn true (suc zero) h = omega arith
  flag_turn true (suc (suc zero)) h = omega arith
  flag_turn true (suc (suc (suc zero))) h = omega arith
  flag_turn true (suc (suc (suc (suc k)))) h = absurd (omega arith)
  flag_turn false zero h = omega arith
  flag_turn false (suc zero) h = omega arith
  flag_turn false (suc (suc k)) h = absurd (omega arith)

  turn_low : (x : Bool) (k : ℕ) → k < arity x → turn_least x (arity x) f (flag x k 3) ≤ f k
  unfolding turn_least flag rows first_row arity if_less
  turn_low true zero h = omega arith
  turn_low true (suc zero) h = omega arith
  turn_low true (suc (suc zero)) h = omega arith
  turn_low true (suc (suc (suc zero))) h = omega arith
  turn_low true (suc (suc (suc (suc k)))) h = absurd (omega arith)
  turn_low false zero h = omega arith
  turn_low false (suc zero) h = omega arith
  turn_low false (suc (suc k)) h = absurd (omega arith)

  abbrev Met : Bool → ℕ → ℕ → Type 0
  Met x n t = (k : ℕ) × (k < n) × (flag x k 3 ≡ t) × (turn_least x n f t ≡ f k)

  turn_met : (x : Bool) (t : ℕ) → t < 2 → Met x (arity x) t
  unfolding turn_least flag rows first_row arity if_less
  turn_met true zero h = ⊎_elim (λ (l : f 0 < f 1). (0, omega arith, refl, omega arith)) (λ (l : f 1 ≤ f 0). (1, omega arith, refl, omega arith)) (lt_or_le (f 0) (f 1))
  turn_met true (suc zero) h = ⊎_elim (λ (l : f 2 < f 3). (2, omega arith, refl, omega arith)) (λ (l : f 3 ≤ f 2). (3, omega arith, refl, omega arith)) (lt_or_le (f 2) (f 3))
  turn_met true (suc (suc t)) h = absurd (omega arith)
  turn_met false zero h = (0, omega arith, refl, refl)
  turn_met false (suc zero) h = (1, omega arith, refl, refl)
  turn_met false (suc (suc t)) h = absurd (omega arith)

  turn_one : (x : Bool) (t : ℕ) → turn_least x 1 f t ≡ f 0
  unfolding turn_least if_less
  turn_one x t = refl

pub turns_all : (x : Bool) → turns_of (arity x) ≡ 2
unfolding turns_of arity if_less
turns_all true = refl
turns_all false = refl

pub turns_one : turns_of 1 ≡ 1
unfolding turns_of if_less
turns_one = refl

pub turns_pos : (n : ℕ) → 0 < turns_of n
unfolding turns_of if_less
turns_pos n = ⊎_elim (λ (e : ltb 1 n ≡ true). rw e (omega arith)) (λ (e : ltb 1 n ≡ false). rw e (omega arith)) (true_or_false (ltb 1 n))

-- costs that are the least by turn are the costs: each node is locked, with one move, or has all moves of its kind
module _ (g : Graph) (mv : ℕ → ℕ) (c : ℕ → ℕ → ℕ) (o : ℕ → ℕ)
    (locks : (v : ℕ) → v < g.N → is_root g (node g v) ≡ false → (mv (node g v) ≡ 1) ⊎ (mv (node g v) ≡ arity (is_xor g v)))
    (cs : (v t : ℕ) → v < g.N → is_root g (node g v) ≡ false → t < turns_of (mv (node g v))
    → c (node g v) t + o v ≡ turn_least (is_xor g v) (mv (node g v)) (below g c (λ u. turns_of (mv u)) v) t) where
  abbrev tn : ℕ → ℕ
  tn u = turns_of (mv u)

  has_turn : (v k : ℕ) → v < g.N → is_root g (node g v) ≡ false → k < mv (node g v) → flag (is_xor g v) k 3 < turns_of (mv (node g v))
  has_turn v k h i l =
      ⊎_elim
      (λ (e : mv (node g v) ≡ 1). let z : k ≡ 0 = omega arith in rw (e, z, turns_one, flag_zero (is_xor g v) 3) (omega arith))
      (λ (e : mv (node g v) ≡ arity (is_xor g v)). rw (e, turns_all (is_xor g v)) (flag_turn c₀ (is_xor g v) k (omega arith)))
      (locks v h i)
    where
      c₀ : ℕ → ℕ
      c₀ t = 0

  pub by_turns : KeyCosts g mv c tn o
  by_turns = record {
    has = has_turn;
    low = λ v k h i l.
        let B : ℕ → ℕ = below g c tn v in
        let q = cs v (flag (is_xor g v) k 3) h i (has_turn v k h i l) in
        ⊎_elim
        (λ (e : mv (node g v) ≡ 1).
        let z : k ≡ 0 = omega arith in
        let q' : c (node g v) (flag (is_xor g v) k 3) + o v ≡ turn_least (is_xor g v) 1 B (flag (is_xor g v) k 3) = q ∙ ap (λ n. turn_least (is_xor g v) n B (flag (is_xor g v) k 3)) e in
        omega (arith, q', turn_one B (is_xor g v) (flag (is_xor g v) k 3), ap B z))
        (λ (e : mv (node g v) ≡ arity (is_xor g v)).
        let q' : c (node g v) (flag (is_xor g v) k 3) + o v ≡ turn_least (is_xor g v) (arity (is_xor g v)) B (flag (is_xor g v) k 3) = q ∙ ap (λ n. turn_least (is_xor g v) n B (flag (is_xor g v) k 3)) e in
        omega (arith, q', turn_low B (is_xor g v) k (omega arith)))
        (locks v h i);
    met = λ v t h i l.
        let B : ℕ → ℕ = below g c tn v in
        let q = cs v t h i l in
        ⊎_elim
        (λ (e : mv (node g v) ≡ 1).
        let z : t ≡ 0 = omega (arith, ap turns_of e, turns_one) in
        (0, omega arith, flag_zero (is_xor g v) 3 ∙ sym z, q ∙ ap (λ n. turn_least (is_xor g v) n B t) e ∙ turn_one B (is_xor g v) t))
        (λ (e : mv (node g v) ≡ arity (is_xor g v)).
        let w = turn_met B (is_xor g v) t (omega (arith, ap turns_of e, turns_all (is_xor g v))) in
        (w.0, omega (arith, w.1), w.2, q ∙ ap (λ n. turn_least (is_xor g v) n B t) e ∙ w.3))
        (locks v h i);
  }

-- the costs by recursion are such
module _ (g : Graph) (mv : ℕ → ℕ) (adm : Admitted g) where
  -- node v's by turn, with the costs c of what is below it, and the lesser of both
  abbrev turn_key : (ℕ → ℕ → ℕ) → ℕ → ℕ → ℕ
  turn_key c v = turn_least (is_xor g v) (mv (node g v)) (below g c (λ w. turns_of (mv w)) v)

  unfoldable pub base_key : (ℕ → ℕ → ℕ) → ℕ → ℕ
  base_key c v = min (turn_key c v 0) (turn_key c v 1)

  cost_at_lem : (f v t : ℕ) → cost_in g mv (suc f) (node g v) t ≡ turn_key (cost_in g mv f) v t - base_key (cost_in g mv f) v
  unfolding cost_in base_key
  cost_at_lem f v t = let e : node g v - (g.I + 1) ≡ v = omega arith in rw e

  inner_high : (u : ℕ) → inner g u ≡ true → g.I < u
  unfolding inner
  inner_high u e = ltb-true _ _ (both_true (ltb g.I u) (not (is_root g u)) e).0

  below_same : (c c' : ℕ → ℕ → ℕ) (v : ℕ) → v < g.N → ((w : ℕ) → w < v → c (node g w) ≡ c' (node g w))
      → below g c (λ w. turns_of (mv w)) v ≡ below g c' (λ w. turns_of (mv w)) v
  unfolding below
  below_same c c' v h a =
      fun_ext
      (λ k.
      family_local g true (inner g) (λ u. 0) c c' (λ w. turns_of (mv w)) v k
      (λ i l e y.
      let u : ℕ = word g (3 * v + i) / 2 in
      let lo : u < node g v = omega (arith, adm.below (3 * v + i) (omega arith) e) in
      let hi : g.I < u = inner_high u y in
      let z : g.I + 1 + (u - (g.I + 1)) ≡ u = omega arith in
      rw z at (a (u - (g.I + 1)) (omega arith))))

  -- more steps than nodes below change nothing
  cost_same : (b v f : ℕ) → v < b → v < g.N → v < f → cost_in g mv (suc f) (node g v) ≡ cost_in g mv f (node g v)
  unfolding base_key
  cost_same zero v f l h i = absurd (omega arith)
  cost_same (suc b) v zero l h i = absurd (omega arith)
  cost_same (suc b) v (suc f) l h i =
      fun_ext
      (λ t.
      cost_at_lem (suc f) v t ∙
      ap (λ (B : ℕ → ℕ). turn_least (is_xor g v) (mv (node g v)) B t - min (turn_least (is_xor g v) (mv (node g v)) B 0) (turn_least (is_xor g v) (mv (node g v)) B 1))
      (below_same (cost_in g mv (suc f)) (cost_in g mv f) v h (λ w q. cost_same b w f (omega arith) (omega arith) (omega arith))) ∙
      sym (cost_at_lem f v t))

  pub costs_are : (v t : ℕ) → v < g.N → cost_in g mv g.N (node g v) t ≡ turn_key (cost_in g mv g.N) v t - base_key (cost_in g mv g.N) v
  costs_are v t h = sym (ap (λ (w : ℕ → ℕ). w t) (cost_same (suc v) v g.N (omega arith) h h)) ∙ cost_at_lem g.N v t

  base_low : (c : ℕ → ℕ → ℕ) (v t : ℕ) → t < 2 → base_key c v ≤ turn_key c v t
  unfolding base_key
  base_low c v zero l = omega arith
  base_low c v (suc zero) l = omega arith
  base_low c v (suc (suc t)) l = absurd (omega arith)

  turns_few : (n : ℕ) → turns_of n ≤ 2
  unfolding turns_of if_less
  turns_few n = ⊎_elim (λ (e : ltb 1 n ≡ true). rw e (omega arith)) (λ (e : ltb 1 n ≡ false). rw e (omega arith)) (true_or_false (ltb 1 n))

  -- for any moves mw that each node but the roots has of mv's
  pub costs_hold : (mw : ℕ → ℕ) → ((v : ℕ) → v < g.N → is_root g (node g v) ≡ false → mw (node g v) ≡ mv (node g v))
      → ((v : ℕ) → v < g.N → is_root g (node g v) ≡ false → (mv (node g v) ≡ 1) ⊎ (mv (node g v) ≡ arity (is_xor g v)))
      → KeyCosts g mw (cost_in g mv g.N) (λ u. turns_of (mv u)) (base_key (cost_in g mv g.N))
  costs_hold mw same kinds =
      let cs = by_turns g mv (cost_in g mv g.N) (base_key (cost_in g mv g.N)) kinds
      (λ v t h i l. omega (arith, costs_are v t h, base_low (cost_in g mv g.N) v t (omega (arith, turns_few (mv (node g v)))))) in
      record {
        has = λ v k h i l. cs.has v k h i (rw (← same v h i) l);
        low = λ v k h i l. cs.low v k h i (rw (← same v h i) l);
        met = λ v t h i l. let w = cs.met v t h i l in (w.0, rw (same v h i) w.1, w.2, w.3);
      }

  -- what no move changes by more is changed by no turn by more
  turn_near : (x : Bool) (n : ℕ) (B : ℕ → ℕ) → ((k l : ℕ) → B k ≤ B l + 304100) → (s t : ℕ) → turn_least x n B s ≤ turn_least x n B t + 304100
  unfolding turn_least if_less
  turn_near x n B near s t =
      ⊎_elim
      (λ (e : ltb 1 n ≡ true). rw e (kinds x))
      (λ (e : ltb 1 n ≡ false). rw e (omega arith))
      (true_or_false (ltb 1 n))
    where
      kinds : (y : Bool) → cond y (min (B (2 * s)) (B (2 * s + 1))) (B s) ≤ cond y (min (B (2 * t)) (B (2 * t + 1))) (B t) + 304100
      kinds true = omega (arith, near (2 * s) (2 * t), near (2 * s + 1) (2 * t + 1))
      kinds false = near s t

  key_near : (c : ℕ → ℕ → ℕ) (v s t : ℕ) → turn_key c v s ≤ turn_key c v t + 304100
  unfolding below
  key_near c v s t =
      turn_near (is_xor g v) (mv (node g v)) (below g c (λ w. turns_of (mv w)) v)
      (λ k l. family_near g (inner g) (λ u. 0) c (λ w. turns_of (mv w)) (λ u. turns_pos (mv u)) true v k l) s t

  -- a node's costs are at most 304,100, and where it has one move they are 0
  pub key_few : (v t : ℕ) → v < g.N → t < 2 → cost_in g mv g.N (node g v) t ≤ 304100
  unfolding base_key
  key_few v t h l =
      omega (arith, costs_are v t h, key_near (cost_in g mv g.N) v t 0, key_near (cost_in g mv g.N) v t 1)

  pub key_one : (v t : ℕ) → v < g.N → mv (node g v) ≡ 1 → cost_in g mv g.N (node g v) t ≡ 0
  unfolding base_key
  key_one v t h e =
      let B : ℕ → ℕ = below g (cost_in g mv g.N) (λ w. turns_of (mv w)) v in
      let one : (s : ℕ) → turn_key (cost_in g mv g.N) v s ≡ B 0 = λ s. ap (λ n. turn_least (is_xor g v) n B s) e ∙ turn_one B (is_xor g v) s in
      omega (arith, costs_are v t h, one t, one 0, one 1)
