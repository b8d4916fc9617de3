-- What one changed move changes, and what a word adds after all moves.
use Rattle.std.proofs.Common.{◌≡◌, ℕ, zero, suc, ◌+◌, ◌-◌, ◌*◌, ◌/◌, ◌%◌, ◌<◌, Bool, true, false, cond, not, ◌&&◌, eqb, ◌≢◌, [], ◌∷◌, get_or, refl, ap, ◌∙◌, arith, eq-eqb, ne_eqb}
use Rattle.graph.specs.Admission.{Admitted}
use Rattle.graph.specs.Count.{adds, word_adds, node_adds, output_adds}
use Rattle.graph.specs.Finite.{if_less}
use Rattle.graph.specs.Graph.{Graph, mark, is_edge, is_xor, turn, node, word, output}
use Rattle.moves.specs.Apply.{Choice, own, seen, apply, at}
use Rattle.moves.specs.Rows.{first_row, arity, flag, rows}
use Rattle.graph.proofs.Cases.{cond_same}
use Rattle.graph.proofs.Turn.{turn_bit}
use Rattle.moves.proofs.Apply.{node_at_lem, out_at, same_mark, turns_edge, output_turns_at}
use Rattle.moves.proofs.Compose.{seen_node}

zeros : (i : ℕ) → ◌≡◌ {A = ℕ} (get_or (0 ∷ 0 ∷ 0 ∷ 0 ∷ []) i 0) 0
zeros zero = refl
zeros (suc zero) = refl
zeros (suc (suc zero)) = refl
zeros (suc (suc (suc zero))) = refl
zeros (suc (suc (suc (suc i)))) = refl

module _ (d : Choice) (u k : ℕ) where
  pub at_same : at d u k u ≡ k
  unfolding at
  at_same = rw (eq-eqb u u refl)

  pub at_other : (w : ℕ) → w ≢ u → at d u k w ≡ d w
  unfolding at
  at_other w h = rw (ne_eqb w u h)

  module _ (g : Graph) where
    pub seen_other : (w : ℕ) → w ≢ u → seen g (at d u k) w ≡ seen g d w
    unfolding seen
    seen_other w h = rw (at_other w h)

    pub own_other : (j : ℕ) → node g (j / 3) ≢ u → own g (at d u k) j ≡ own g d j
    unfolding own
    own_other j h = rw (at_other (node g (j / 3)) h)

module _ (g : Graph) (d : Choice) where
  pub own_at : (v i : ℕ) → i < 3 → own g d (3 * v + i) ≡ flag (is_xor g v) (d (node g v)) i
  unfolding own
  own_at v i h =
      let q : (3 * v + i) / 3 ≡ v = omega arith in
      let r : (3 * v + i) % 3 ≡ i = omega arith in
      rw (q, r)

-- what a choice turns, by the move and the kind that were read
module _ (g : Graph) (d : Choice) (v k : ℕ) (x : Bool) (q : x ≡ is_xor g v) where
  pub seen_by_move : (u f : ℕ) → g.I < u → u < node g g.N → v ≡ u - (g.I + 1) → k ≡ d u → f ≡ flag x k 3 → f ≡ seen g d u
  seen_by_move u f a b e p r =
      let w : u ≡ node g v = omega arith in
      rw (w, seen_node g d v (omega arith), ← q, ← w, ← p) r

  pub own_by_move : (i j f : ℕ) → i < 3 → j ≡ 3 * v + i → k ≡ d (node g v) → f ≡ flag x k i → f ≡ own g d j
  own_by_move i j f h e p r = r ∙ rw (e, own_at g d v i h, ← q, ← p)

-- move 0 turns nothing
pub flag_zero : (x : Bool) (i : ℕ) → flag x 0 i ≡ 0
unfolding flag rows first_row arity if_less
flag_zero true i = zeros i
flag_zero false i = zeros i

module _ (g : Graph) (d : Choice) where
  pub seen_none : (u : ℕ) → d u ≡ 0 → seen g d u ≡ 0
  unfolding seen
  seen_none u e = rw (e, flag_zero _ 3, cond_same)

  pub own_none : (j : ℕ) → d (node g (j / 3)) ≡ 0 → own g d j ≡ 0
  unfolding own
  own_none j e = rw (e, flag_zero _ (j % 3))

  -- what an edge adds that names u, its bit being b after its own node's move
  abbrev pub plain : ℕ → ℕ → ℕ
  plain u b = (b + seen g d u) % 2

  pub plain_node : (v b : ℕ) → v < g.N → plain (node g v) b ≡ (b + flag (is_xor g v) (d (node g v)) 3) % 2
  plain_node v b h = ap (λ x. (b + x) % 2) (seen_node g d v h)

  adds_turn : (x t b : ℕ) → x + t ≡ b + seen g d (x / 2) → adds (turn t x) ≡ plain (x / 2) b
  unfolding adds
  adds_turn x t b e = rw (turn_bit t x, e)

  module _ (adm : Admitted g) where
    pub node_adds_lem : (j : ℕ) → j < 3 * g.N → node_adds (apply g d) j ≡ cond (is_edge g j) (plain (word g j / 2) (word g j + own g d j)) 0
    unfolding node_adds word_adds is_edge
    node_adds_lem j h = rw (same_mark g d adm j) (go (eqb (j % 3) 2 && eqb (word g j) mark) refl)
      where
        y : ℕ
        y = get_or (apply g d).nodes j 0

        go : (b : Bool) → eqb (j % 3) 2 && eqb (word g j) mark ≡ b → cond b 0 (adds y) ≡ cond (not b) (plain (word g j / 2) (word g j + own g d j)) 0
        go true e = refl
        go false e = rw (node_at_lem g d adm j, turns_edge g d j h (ap not e)) (adds_turn (word g j) _ (word g j + own g d j) (omega arith))

    pub out_adds : (j : ℕ) → j < g.O → output_adds (apply g d) j ≡ plain (output g j / 2) (output g j)
    unfolding output_adds
    out_adds j h = rw (out_at g d adm j, output_turns_at g d j h) (adds_turn (output g j) _ (output g j) refl)
