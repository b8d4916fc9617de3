-- The value of an index after a choice of moves: turned where its own move turns its readers; so every output keeps its value.
-- From the rows (majority is self-dual, an XOR's turned words cancel), by rising index.
use Rattle.std.proofs.Common.{◌≡◌, ℕ, zero, suc, ◌+◌, ◌*◌, ◌/◌, ◌%◌, ◌<◌, ◌≤◌, Bool, true, false, eqb, List, get_or, refl, ap, ◌∙◌, ⊎_elim, le_of_suc-le-suc, eq-or-lt_of_le, arith, eqb→eq}
use mathlib.Core.Bool.{and-false}
use native.Mathlib.Nat.{mod-add-mod, add-mod-mod}
use lib.ListN.{get_or-eq_default}
use Rattle.graph.specs.Admission.{Admitted}
use Rattle.graph.specs.Graph.{Graph, turn, is_edge, is_xor}
use Rattle.graph.specs.Turned.{turned_by}
use Rattle.graph.specs.Value.{exclusive, majority, literal_value, node_value, values, value, output_value}
use Rattle.moves.specs.Apply.{Choice, apply, seen}
use Rattle.graph.proofs.Values.{literal_bit, length_values, values_old, values_new, input_bit}
use Rattle.moves.specs.Rows.{flag}
use Rattle.graph.proofs.Cases.{lt_or_le, true_or_false}
use Rattle.graph.proofs.Edge.{edge_early}
use Rattle.graph.proofs.Turn.{turn_half, turn_bit}
use Rattle.moves.proofs.Apply.{node_at_lem, out_at, same_xor, turns_edge, output_turns_at}
use Rattle.moves.proofs.Changed.{own_at}
use Rattle.moves.proofs.Compose.{seen_node, seen_low, seen_high}
use Rattle.moves.proofs.Flags.{flag_maj, flag_xor, all3_at}

-- the bits
maj_right : ℕ → ℕ → ℕ → ℕ → Bool
maj_right f a b c = eqb (majority ((a + f) % 2) ((b + f) % 2) ((c + f) % 2)) ((majority a b c + f) % 2)

pub maj_turn : (a b c f : ℕ) → a < 2 → b < 2 → c < 2 → f ≤ 1 → majority ((a + f) % 2) ((b + f) % 2) ((c + f) % 2) ≡ (majority a b c + f) % 2
unfolding majority maj_right
maj_turn a b c zero ha hb hc hf = eqb→eq _ _ (all3_at 2 2 2 (maj_right 0) tt a b c ha hb hc)
maj_turn a b c (suc zero) ha hb hc hf = eqb→eq _ _ (all3_at 2 2 2 (maj_right 1) tt a b c ha hb hc)
maj_turn a b c (suc (suc f)) ha hb hc hf = absurd (omega arith)

pub xor_turn : (a b f k r : ℕ) → (f + k) % 2 ≡ r → ((a + f) % 2 + (b + k) % 2) % 2 ≡ ((a + b) % 2 + r) % 2
xor_turn a b f k r e = rw (← e) (simp (mod-add-mod, add-mod-mod) (omega arith))

-- a literal turned, over values turned where it looks
pub lit_turn : (vs ws : List ℕ) (x t s o : ℕ) → get_or ws (x / 2) 0 ≡ (get_or vs (x / 2) 0 + s) % 2 → t ≡ o + s → literal_value ws (turn t x) ≡ (literal_value vs x + o) % 2
unfolding literal_value
lit_turn vs ws x t s o e q = rw (turn_half t x, e, q) (simp (mod-add-mod, add-mod-mod, turn_bit) (omega arith))

edge_third : (g : Graph) (v : ℕ) → is_xor g v ≡ false → is_edge g (3 * v + 2) ≡ true
unfolding is_edge is_xor
edge_third g v e = rw (e, and-false)

module _ (g : Graph) (m : Choice) (adm : Admitted g) where
  module _ (vs ws : List ℕ) (v : ℕ) (h : v < g.N) (ih : (i : ℕ) → i < g.I + 1 + v → get_or ws i 0 ≡ (get_or vs i 0 + seen g m i) % 2) where
    lit_at : (k : ℕ) → k < 3 → is_edge g (3 * v + k) ≡ true →
        literal_value ws (get_or (apply g m).nodes (3 * v + k) 0) ≡ (literal_value vs (get_or g.nodes (3 * v + k) 0) + flag (is_xor g v) (m (g.I + 1 + v)) k) % 2
    lit_at k l e =
        let x : ℕ = get_or g.nodes (3 * v + k) 0 in
        let b : x / 2 < g.I + 1 + v = omega (arith, adm.below (3 * v + k) (omega arith) e) in
        rw (node_at_lem g m adm (3 * v + k))
        (lit_turn vs ws x _ (seen g m (x / 2)) _ (ih (x / 2) b) (turns_edge g m (3 * v + k) (omega arith) e ∙ ap (λ z. z + seen g m (x / 2)) (own_at g m v k l)))

    node_turn : node_value (apply g m) ws v ≡ (node_value g vs v + seen g m (g.I + 1 + v)) % 2
    unfolding node_value exclusive
    node_turn =
        let e₀ : is_edge g (3 * v + 0) ≡ true = edge_early g (3 * v + 0) (λ z. omega arith) in
        let e₁ : is_edge g (3 * v + 1) ≡ true = edge_early g (3 * v + 1) (λ z. omega arith) in
        let r = flag_maj (m (g.I + 1 + v)) in
        ⊎_elim
        (λ (e : is_xor g v ≡ true). rw (lit_at 0 (omega arith) e₀, lit_at 1 (omega arith) e₁, same_xor g m adm v, seen_node g m v h, e) (xor_turn _ _ _ _ _ (flag_xor _)))
        (λ (e : is_xor g v ≡ false).
        rw (lit_at 0 (omega arith) e₀, lit_at 1 (omega arith) e₁, lit_at 2 (omega arith) (edge_third g v e), same_xor g m adm v, seen_node g m v h, e, r.0, r.1, r.2)
        (maj_turn _ _ _ _ (literal_bit _ _) (literal_bit _ _) (literal_bit _ _) r.3))
        (true_or_false (is_xor g v))

  module _ (a : ℕ → ℕ) where
    same_inputs : values (apply g m) a 0 ≡ values g a 0
    unfolding values apply turned_by
    same_inputs = refl

    pub values_turn : (n : ℕ) → n ≤ g.N → (i : ℕ) → i < g.I + 1 + n → get_or (values (apply g m) a n) i 0 ≡ (get_or (values g a n) i 0 + seen g m i) % 2
    unfolding apply turned_by
    values_turn zero l i h = rw (seen_low g m i (omega arith), same_inputs) (omega (arith, input_bit g a i (omega arith)))
    values_turn (suc n) l i h =
        let ih = values_turn n (omega arith) in
        let h' : suc i ≤ suc (g.I + 1 + n) = omega arith in
        ⊎_elim
        (λ (q : i ≡ g.I + 1 + n). rw (q, values_new g a n, values_new (apply g m) a n) (node_turn (values g a n) (values (apply g m) a n) n (omega arith) ih))
        (λ (k : i < g.I + 1 + n). rw (values_old g a n i k, values_old (apply g m) a n i k) (ih i k))
        (eq-or-lt_of_le (le_of_suc-le-suc h'))

    pub value_turn : (i : ℕ) → i < g.I + 1 + g.N → value (apply g m) a i ≡ (value g a i + seen g m i) % 2
    unfolding value apply turned_by
    value_turn i h = values_turn g.N (omega arith) i h

    -- past the last node both are 0
    pub value_turn_all : (i : ℕ) → value (apply g m) a i ≡ (value g a i + seen g m i) % 2
    unfolding value apply turned_by
    value_turn_all i =
        ⊎_elim
        (λ (h : i < g.I + 1 + g.N). values_turn g.N (omega arith) i h)
        (λ (h : g.I + 1 + g.N ≤ i).
        rw (seen_high g m i h, get_or-eq_default (values g a g.N) 0 {n = i} (rw length_values h), get_or-eq_default (values (apply g m) a g.N) 0 {n = i} (rw length_values h)))
        (lt_or_le i (g.I + 1 + g.N))

    pub out_kept : (j : ℕ) → j < g.O → output_value (apply g m) a j ≡ output_value g a j
    unfolding output_value apply turned_by
    out_kept j h =
        let x : ℕ = get_or g.outputs j 0 in
        rw (out_at g m adm j)
        (lit_turn (values g a g.N) _ x _ (seen g m (x / 2)) 0
        (values_turn g.N (omega arith) (x / 2) (adm.output_below j h))
        (omega (arith, output_turns_at g m j h)) ∙ omega (arith, literal_bit (values g a g.N) x))
