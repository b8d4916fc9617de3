-- What `apply` turns, and what it keeps. From the laws of a turned graph.
use Rattle.std.proofs.Common.{◌≡◌, ℕ, ◌+◌, ◌*◌, ◌/◌, ◌<◌, ◌≤◌, true, false, eqb, get_or, refl, le-ltb, lt-ltb}
use Rattle.graph.specs.Admission.{Admitted}
use Rattle.graph.specs.Graph.{Graph, mark, turn, is_edge, is_xor}
use Rattle.graph.specs.Turned.{turned_by}
use Rattle.graph.proofs.Alike.{Alike, alike_xor, alike_edge, alike_admitted}
use Rattle.graph.proofs.Cases.{cond_same}
use Rattle.graph.proofs.Turned.{Sparing, by_word, by_out, by_alike}
use Rattle.moves.specs.Apply.{Choice, apply, turns, output_turns, own, seen}

module _ (g : Graph) (m : Choice) where
  pub turns_past : (j : ℕ) → 3 * g.N ≤ j → turns g m j ≡ 0
  unfolding turns
  turns_past j h = rw (le-ltb j (3 * g.N) h)

  pub turns_mark : (j : ℕ) → is_edge g j ≡ false → turns g m j ≡ 0
  unfolding turns
  turns_mark j e = rw (e, cond_same)

  pub turns_edge : (j : ℕ) → j < 3 * g.N → is_edge g j ≡ true → turns g m j ≡ own g m j + seen g m (get_or g.nodes j 0 / 2)
  unfolding turns
  turns_edge j h e = rw (lt-ltb j (3 * g.N) h, e)

  pub output_turns_past : (j : ℕ) → g.O ≤ j → output_turns g m j ≡ 0
  unfolding output_turns
  output_turns_past j h = rw (le-ltb j g.O h)

  pub output_turns_at : (j : ℕ) → j < g.O → output_turns g m j ≡ seen g m (get_or g.outputs j 0 / 2)
  unfolding output_turns
  output_turns_at j h = rw (lt-ltb j g.O h)

  pub apply_by : apply g m ≡ turned_by g (turns g m) (output_turns g m)
  unfolding apply
  apply_by = refl

  sparing : Sparing g (turns g m) (output_turns g m)
  sparing = record { past = turns_past; at_mark = turns_mark; out_past = output_turns_past }

module _ (g : Graph) (m : Choice) (adm : Admitted g) where
  pub node_at_lem : (j : ℕ) → get_or (apply g m).nodes j 0 ≡ turn (turns g m j) (get_or g.nodes j 0)
  unfolding apply
  node_at_lem = by_word g (turns g m) (output_turns g m) adm (sparing g m)

  pub out_at : (j : ℕ) → get_or (apply g m).outputs j 0 ≡ turn (output_turns g m j) (get_or g.outputs j 0)
  unfolding apply
  out_at = by_out g (turns g m) (output_turns g m) adm (sparing g m)

  pub apply_alike : Alike g (apply g m)
  unfolding apply
  apply_alike = by_alike g (turns g m) (output_turns g m) adm (sparing g m)

  pub same_mark : (j : ℕ) → eqb (get_or (apply g m).nodes j 0) mark ≡ eqb (get_or g.nodes j 0) mark
  same_mark = apply_alike.marked

  pub same_xor : (v : ℕ) → is_xor (apply g m) v ≡ is_xor g v
  same_xor = alike_xor g (apply g m) apply_alike

  pub same_edge : (j : ℕ) → is_edge (apply g m) j ≡ is_edge g j
  same_edge = alike_edge g (apply g m) apply_alike

  pub admitted : Admitted (apply g m)
  admitted = alike_admitted g (apply g m) apply_alike adm
