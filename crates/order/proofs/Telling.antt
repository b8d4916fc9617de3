-- Different choices of moves give different graphs: words 1 and 2 of a node tell its move, once the moves of lower nodes are known. By
-- rising index.
use mathlib.Core.Path.{◌≡◌, sym, ap, ◌∙◌}
use mathlib.Core.Bool.{Bool, true, false}
use mathlib.Core.Logic.{⊎_elim}
use Prim.Native.Nat.{ℕ, zero, suc, ◌+◌, ◌-◌, ◌*◌, ◌/◌, ◌%◌, ◌≤◌, ◌<◌}
use native.Mathlib.Omega.{arith}
use native.Mathlib.Nat.{eq-or-lt_of_le, le_of_suc-le-suc, not-suc-le-zero}
use lib.Dec.{T, eqb, eqb→eq}
use lib.ListN.{get_or}
use Rattle.graph.specs.Admission.{Admitted}
use Rattle.graph.specs.Finite.{if_less}
use Rattle.graph.specs.Graph.{Graph, node, word, is_xor, is_edge, turn}
use Rattle.graph.proofs.Cases.{lt_or_le}
use Rattle.graph.proofs.Edge.{edge_early}
use Rattle.graph.proofs.Turn.{turn_bit}
use Rattle.moves.specs.Apply.{Choice, apply, seen, turns}
use Rattle.moves.specs.Compose.{Permitted}
use Rattle.moves.specs.Rows.{rows, first_row, arity, flag}
use Rattle.moves.proofs.Apply.{node_at_lem, turns_edge}
use Rattle.moves.proofs.Changed.{own_at}
use Rattle.moves.proofs.Compose.{seen_node, seen_low}
use Rattle.moves.proofs.Flags.{all, all_at, flag_bit}
use Rattle.moves.proofs.Moves.{node_row}
use Rattle.order.specs.Inner.{tells}

-- words 1 and 2 tell the move of a kind
right : Bool → ℕ → Bool
right x m = eqb m (tells x (flag x m 0) (flag x m 1))

all_right : (x : Bool) → T (all (arity x) (right x))
unfolding first_row if_less flag rows arity tells right
all_right false = tt
all_right true = tt

pub move_told : (x : Bool) (m : ℕ) → m < arity x → m ≡ tells x (flag x m 0) (flag x m 1)
unfolding right
move_told x m h = eqb→eq _ _ (all_at (arity x) (right x) (all_right x) m h)

pub flags_tell : (x : Bool) (m n : ℕ) → m < arity x → n < arity x → flag x m 0 ≡ flag x n 0 → flag x m 1 ≡ flag x n 1 → m ≡ n
flags_tell x m n hm hn p q = move_told x m hm ∙ rw (p, q) (sym (move_told x n hn))

-- how often a word was turned, by twos, is told by the word
turn_told : (t s x : ℕ) → turn t x ≡ turn s x → t % 2 ≡ s % 2
turn_told t s x e = omega (arith, turn_bit t x, turn_bit s x, ap (λ (y : ℕ). y % 2) e)

-- two choices that have the same moves below node v
module _ (g : Graph) (m n : Choice) (v : ℕ) (h : v ≤ g.N) (b : (w : ℕ) → w < v → m (node g w) ≡ n (node g w)) where
  -- turn the readers of lower indices alike
  pub seen_same : (u : ℕ) → u < node g v → seen g m u ≡ seen g n u
  seen_same u l =
      ⊎_elim
      (λ (k : g.I < u).
      let w : ℕ = u - (g.I + 1) in
      let q : u ≡ node g w = omega arith in
      rw (q, seen_node g m w (omega arith), seen_node g n w (omega arith), b w (omega arith)))
      (λ (k : u ≤ g.I). rw (seen_low g m u k, seen_low g n u k))
      (lt_or_le g.I u)

module _ (g : Graph) (adm : Admitted g) (m n : Choice) (pm : Permitted g m) (pn : Permitted g n) (e : apply g m ≡ apply g n) where
  -- below node v the moves are the same
  abbrev Below : ℕ → Type 0
  Below v = (w : ℕ) → w < v → m (node g w) ≡ n (node g w)

  word_same : (j : ℕ) → turns g m j % 2 ≡ turns g n j % 2
  word_same j =
      turn_told (turns g m j) (turns g n j) (word g j)
      (sym (node_at_lem g m adm j) ∙ ap (λ (x : Graph). get_or x.nodes j 0) e ∙ node_at_lem g n adm j)

  flag_same : (v : ℕ) → v < g.N → Below v → (k : ℕ) → k < 2 → flag (is_xor g v) (m (node g v)) k ≡ flag (is_xor g v) (n (node g v)) k
  flag_same v h b k l =
      let j : ℕ = 3 * v + k in
      let c : j < 3 * g.N = omega arith in
      let t : is_edge g j ≡ true = edge_early g j (λ z. omega arith) in
      let q : j / 3 ≡ v = omega arith in
      let d : word g j / 2 < node g v = omega (arith, adm.below j c t) in
      omega (
        arith,
        word_same j,
        turns_edge g m j c t,
        turns_edge g n j c t,
        own_at g m v k (omega arith),
        own_at g n v k (omega arith),
        seen_same g m n v (omega arith) b (word g j / 2) d,
        flag_bit (is_xor g v) (m (node g v)) k (omega arith),
        flag_bit (is_xor g v) (n (node g v)) k (omega arith),
      )

  below_same : (v : ℕ) → v ≤ g.N → Below v
  below_same zero h w l = absurd (not-suc-le-zero l)
  below_same (suc v) h w l =
      ⊎_elim
      (λ (q : w ≡ v).
      let b = below_same v (omega arith) in
      let k : v < g.N = omega arith in
      rw q (flags_tell (is_xor g v) _ _ (node_row g v _ (pm v k)) (node_row g v _ (pn v k)) (flag_same v k b 0 (omega arith)) (flag_same v k b 1 (omega arith))))
      (λ (k : w < v). below_same v (omega arith) w k)
      (eq-or-lt_of_le (le_of_suc-le-suc l))

  -- the same graph, so the same moves
  pub choice_told : (v : ℕ) → v < g.N → m (node g v) ≡ n (node g v)
  choice_told v h = below_same (suc v) h v (omega arith)
