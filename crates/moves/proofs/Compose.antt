-- Two choices one after the other.
use Rattle.std.proofs.Common.{◌≡◌, ℕ, ◌+◌, ◌-◌, ◌*◌, ◌/◌, ◌%◌, ◌<◌, ◌≤◌, true, false, get_or, sym, ap, ◌∙◌, ⊎_elim, arith, le-ltb, lt-ltb}
use Rattle.graph.specs.Admission.{Admitted}
use Rattle.graph.specs.Graph.{Graph, is_edge, is_xor}
use Rattle.moves.specs.Apply.{Choice, apply, turns, output_turns, own, seen}
use Rattle.moves.specs.Rows.{flag}
use Rattle.moves.specs.Compose.{combined, compose, Permitted}
use Rattle.moves.proofs.Moves.{node_row}
use Rattle.graph.proofs.Alike.{Alike, alike_edge, alike_xor}
use Rattle.graph.proofs.Cases.{lt_or_le, true_or_false}
use Rattle.graph.proofs.Turned.{by_by, by_same}
use Rattle.moves.proofs.Apply.{apply_alike, turns_past, turns_mark, turns_edge, output_turns_past, output_turns_at}
use Rattle.moves.proofs.Flags.{flag_both}

module _ (g : Graph) (m : Choice) where
  pub seen_low : (u : ℕ) → u ≤ g.I → seen g m u ≡ 0
  unfolding seen
  seen_low u h = rw (le-ltb g.I u h)

  pub seen_high : (u : ℕ) → g.I + 1 + g.N ≤ u → seen g m u ≡ 0
  unfolding seen
  seen_high u h = rw (lt-ltb g.I u (omega arith), le-ltb u (g.I + 1 + g.N) h)

  pub seen_node : (v : ℕ) → v < g.N → seen g m (g.I + 1 + v) ≡ flag (is_xor g v) (m (g.I + 1 + v)) 3
  unfolding seen
  seen_node v h =
      let e : g.I + 1 + v - (g.I + 1) ≡ v = omega arith in
      rw (lt-ltb g.I (g.I + 1 + v) (omega arith), lt-ltb (g.I + 1 + v) (g.I + 1 + g.N) (omega arith), e)

-- a fact of every index: of those that are no node, and of each node
pub by_index_lem : (g : Graph) (P : ℕ → Type 0) → ((u : ℕ) → ((m : Choice) → seen g m u ≡ 0) → P u) → ((v : ℕ) → v < g.N → P (g.I + 1 + v)) → (u : ℕ) → P u
by_index_lem g P other node u =
    ⊎_elim
    (λ (h : g.I < u).
    ⊎_elim
    (λ (l : u < g.I + 1 + g.N).
    let e : g.I + 1 + (u - (g.I + 1)) ≡ u = omega arith in
    rw e at (node (u - (g.I + 1)) (omega arith)))
    (λ (l : g.I + 1 + g.N ≤ u). other u (λ m. seen_high g m u l))
    (lt_or_le u (g.I + 1 + g.N)))
    (λ (h : u ≤ g.I). other u (λ m. seen_low g m u h))
    (lt_or_le g.I u)

-- the same kinds and wiring, so the same turns
module _ (g h : Graph) (a : Alike g h) (n : Choice) where
  alike_seen : (u : ℕ) → seen h n u ≡ seen g n u
  unfolding seen
  alike_seen u = rw (alike_xor g h a, a.same_I, a.same_N)

  alike_own : (j : ℕ) → own h n j ≡ own g n j
  unfolding own
  alike_own j = rw (alike_xor g h a, a.same_I)

  pub alike_turns : (j : ℕ) → turns h n j ≡ turns g n j
  unfolding turns
  alike_turns j = rw (alike_edge g h a j, a.wired j, alike_own j, alike_seen, a.same_N)

  pub alike_output_turns : (j : ℕ) → output_turns h n j ≡ output_turns g n j
  unfolding output_turns
  alike_output_turns j = rw (a.out_wired j, alike_seen, a.same_O)

parity : (a b c d : ℕ) → ((a + b) % 2 + (c + d) % 2) % 2 ≡ (a + c + (b + d)) % 2
parity a b c d = omega arith

module _ (g : Graph) (m n : Choice) where
  join_at : (v : ℕ) → compose g m n (g.I + 1 + v) ≡ combined (is_xor g v) (m (g.I + 1 + v)) (n (g.I + 1 + v))
  unfolding compose
  join_at v = let e : g.I + 1 + v - (g.I + 1) ≡ v = omega arith in rw e

module _ (g : Graph) (m n : Choice) (vm : Permitted g m) (vn : Permitted g n) where
  flag_join : (v k : ℕ) → v < g.N → k < 4 → flag (is_xor g v) (compose g m n (g.I + 1 + v)) k ≡ (flag (is_xor g v) (m (g.I + 1 + v)) k + flag (is_xor g v) (n (g.I + 1 + v)) k) % 2
  flag_join v k h l = rw (join_at g m n v) (flag_both (is_xor g v) _ _ k (node_row g v _ (vm v h)) (node_row g v _ (vn v h)) l)

  pub seen_join : (u : ℕ) → seen g (compose g m n) u ≡ (seen g m u + seen g n u) % 2
  seen_join =
      by_index_lem g (λ u. seen g (compose g m n) u ≡ (seen g m u + seen g n u) % 2)
      (λ u z. rw (z m, z n, z (compose g m n)))
      (λ v h. rw (seen_node g m v h, seen_node g n v h, seen_node g (compose g m n) v h) (flag_join v 3 h (omega arith)))

  pub own_join : (j : ℕ) → j < 3 * g.N → own g (compose g m n) j ≡ (own g m j + own g n j) % 2
  unfolding own
  own_join j h = flag_join (j / 3) (j % 3) (omega arith) (omega arith)

  pub turns_join : (j : ℕ) → turns g (compose g m n) j % 2 ≡ (turns g m j + turns g n j) % 2
  turns_join j =
      ⊎_elim
      (λ (h : j < 3 * g.N).
      ⊎_elim
      (λ (e : is_edge g j ≡ true). rw (turns_edge g m j h e, turns_edge g n j h e, turns_edge g (compose g m n) j h e, own_join j h, seen_join) (parity _ _ _ _))
      (λ (e : is_edge g j ≡ false). rw (turns_mark g m j e, turns_mark g n j e, turns_mark g (compose g m n) j e))
      (true_or_false (is_edge g j)))
      (λ (h : 3 * g.N ≤ j). rw (turns_past g m j h, turns_past g n j h, turns_past g (compose g m n) j h))
      (lt_or_le j (3 * g.N))

  pub output_turns_join : (j : ℕ) → output_turns g (compose g m n) j % 2 ≡ (output_turns g m j + output_turns g n j) % 2
  output_turns_join j =
      ⊎_elim
      (λ (h : j < g.O). omega (arith, output_turns_at g m j h, output_turns_at g n j h, output_turns_at g (compose g m n) j h, seen_join (get_or g.outputs j 0 / 2)))
      (λ (h : g.O ≤ j). rw (output_turns_past g m j h, output_turns_past g n j h, output_turns_past g (compose g m n) j h))
      (lt_or_le j g.O)

  pub apply_apply : Admitted g → apply (apply g m) n ≡ apply g (compose g m n)
  unfolding apply
  apply_apply adm =
      by_same (apply g m) (turns (apply g m) n) (output_turns (apply g m) n) (turns g n) (output_turns g n)
      (λ j. ap (λ x. x % 2) (alike_turns g (apply g m) (apply_alike g m adm) n j))
      (λ j. ap (λ x. x % 2) (alike_output_turns g (apply g m) (apply_alike g m adm) n j))
      ∙ by_by g (turns g m) (output_turns g m) (turns g n) (output_turns g n)
      ∙ by_same g _ _ _ _ (λ j. sym (turns_join j)) (λ j. sym (output_turns_join j))
