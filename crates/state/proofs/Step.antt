-- The step law: a node's own words turned by the flags of its move, and then all its readers, are the move applied. From the
-- laws of turns, by the place of each word.
use mathlib.Core.Path.{◌≡◌, refl, sym, ap, ◌∙◌}
use mathlib.Core.Bool.{true, false, cond}
use mathlib.Core.Logic.{⊎_elim, ◌≢◌}
use Prim.Native.Nat.{ℕ, zero, suc, ◌+◌, ◌*◌, ◌/◌, ◌%◌, ◌≤◌, ◌<◌}
use native.Mathlib.Omega.{arith}
use borrow.Author.Tests.{le-ltb, eq-eqb, ne_eqb}
use lib.Dec.{eqb}
use Rattle.graph.specs.Admission.{Admitted}
use Rattle.graph.specs.Count.{named, output_named}
use Rattle.graph.specs.Finite.{if_less}
use Rattle.graph.specs.Graph.{Graph, node, word, output, is_edge, is_xor}
use Rattle.graph.specs.Turned.{turned_by, only, never}
use Rattle.graph.proofs.Alike.{Alike, alike_then, alike_edge, alike_admitted}
use Rattle.graph.proofs.Cases.{lt_or_le, eq_or_ne, true_or_false}
use Rattle.graph.proofs.Edge.{edge_none}
use Rattle.graph.proofs.Turned.{by_by, by_same, only_at, only_off}
use Rattle.moves.specs.Rows.{rows, first_row, arity, flag}
use Rattle.moves.specs.Apply.{Choice, none, at, own, seen, turns, output_turns, apply}
use Rattle.moves.proofs.Apply.{apply_by, turns_edge, turns_mark, turns_past, output_turns_at, output_turns_past}
use Rattle.moves.proofs.Compose.{seen_node}
use Rattle.moves.proofs.Changed.{at_same, seen_other, seen_none, own_other, own_none, own_at}
use Rattle.state.specs.Step.{word_turned, read_turns, output_read_turns, readers_turned}
use Rattle.state.proofs.Turned.{read_turns_at, output_read_turns_at, read_turns_alike, output_read_turns_alike, readers_sparing}
use Rattle.state.proofs.Stands.{word_alike}

-- an XOR's moves leave its third word
flag_third : (m : ℕ) → flag true m 2 ≡ 0
unfolding flag rows first_row arity if_less
flag_third zero = refl
flag_third (suc zero) = refl
flag_third (suc (suc zero)) = refl
flag_third (suc (suc (suc zero))) = refl
flag_third (suc (suc (suc (suc m)))) = rw (le-ltb (suc (suc (suc (suc m)))) 4 (omega arith))

-- a word that is no edge is the third of an XOR
mark_xor : (g : Graph) (v k : ℕ) → k < 3 → is_edge g (3 * v + k) ≡ false → (k ≡ 2) × (is_xor g v ≡ true)
unfolding is_xor
mark_xor g v k h e =
    let b = edge_none g (3 * v + k) e in
    let q : k ≡ 2 = omega (arith, b.0) in
    (q, eq-eqb _ _ (ap (λ i. word g (3 * v + i)) (sym q) ∙ b.1))

-- which no move turns
pub mark_still : (g : Graph) (v k m : ℕ) → k < 3 → is_edge g (3 * v + k) ≡ false → flag (is_xor g v) m k ≡ 0
mark_still g v k m h e = let q = mark_xor g v k h e in rw (q.0, q.1) (flag_third m)

module _ (h : Graph) (adm : Admitted h) (v m : ℕ) (l : v < h.N) where
  abbrev choice : Choice
  choice = at none (node h v) m

  abbrev f : ℕ → ℕ
  f k = flag (is_xor h v) m k

  -- how often v's own words are turned
  abbrev mine : ℕ → ℕ
  mine i = only (3 * v + 0) (f 0) i + only (3 * v + 1) (f 1) i + only (3 * v + 2) (f 2) i

  elsewhere : (i : ℕ) → i / 3 ≢ v → mine i ≡ 0
  elsewhere i d =
      omega (
        arith,
        only_off (3 * v + 0) (f 0) i (λ z. d (omega arith)),
        only_off (3 * v + 1) (f 1) i (λ z. d (omega arith)),
        only_off (3 * v + 2) (f 2) i (λ z. d (omega arith)),
      )

  here : (k i : ℕ) → k < 3 → i ≡ 3 * v + k → mine i ≡ f k
  here zero i p e =
      rw e (omega (arith, only_at (3 * v + 0) (f 0), only_off (3 * v + 1) (f 1) (3 * v + 0) (omega arith), only_off (3 * v + 2) (f 2) (3 * v + 0) (omega arith)))
  here (suc zero) i p e = rw e (omega (arith, only_at (3 * v + 1) (f 1), only_off (3 * v + 0) (f 0) (3 * v + 1) (omega arith), only_off (3 * v + 2) (f 2) (3 * v + 1) (omega arith)))
  here (suc (suc zero)) i p e = rw e (omega (arith, only_at (3 * v + 2) (f 2), only_off (3 * v + 0) (f 0) (3 * v + 2) (omega arith), only_off (3 * v + 1) (f 1) (3 * v + 2) (omega arith)))
  here (suc (suc (suc k))) i p e = absurd (omega arith)

  own_is : (i : ℕ) → own h choice i ≡ mine i
  own_is i =
      ⊎_elim
      (λ (e : i / 3 ≡ v).
      let q : i ≡ 3 * v + i % 3 = omega arith in
      ap (own h choice) q ∙ own_at h choice v (i % 3) (omega arith) ∙ ap (λ x. flag (is_xor h v) x (i % 3)) (at_same none (node h v) m) ∙ sym (here (i % 3) i (omega arith) q))
      (λ (e : i / 3 ≢ v). own_other none (node h v) m h i (λ z. e (omega arith)) ∙ own_none h none i refl ∙ sym (elsewhere i e))
      (eq_or_ne (i / 3) v)

  mine_mark : (i : ℕ) → is_edge h i ≡ false → mine i ≡ 0
  mine_mark i n =
      ⊎_elim
      (λ (e : i / 3 ≡ v).
      let q : i ≡ 3 * v + i % 3 = omega arith in
      here (i % 3) i (omega arith) q ∙ mark_still h v (i % 3) m (omega arith) (ap (is_edge h) (sym q) ∙ n))
      (λ (e : i / 3 ≢ v). elsewhere i e)
      (eq_or_ne (i / 3) v)

  seen_is : (u : ℕ) → seen h choice u ≡ cond (eqb u (node h v)) (f 3) 0
  seen_is u =
      ⊎_elim
      (λ (e : u ≡ node h v). rw (e, eq-eqb (node h v) (node h v) refl, seen_node h choice v l, at_same none (node h v) m))
      (λ (e : u ≢ node h v). rw (ne_eqb u (node h v) e, seen_other none (node h v) m h u e) (seen_none h none u refl))
      (eq_or_ne u (node h v))

  turns_are : (i : ℕ) → mine i + read_turns h (node h v) (f 3) i ≡ turns h choice i
  unfolding named
  turns_are i =
      ⊎_elim
      (λ (p : i < 3 * h.N).
      ⊎_elim
      (λ (e : is_edge h i ≡ true). rw (read_turns_at h (node h v) (f 3) i p, e, turns_edge h choice i p e, own_is i, seen_is (word h i / 2)))
      (λ (e : is_edge h i ≡ false). omega (arith, mine_mark i e, (readers_sparing h (node h v) (f 3)).at_mark i e, turns_mark h choice i e))
      (true_or_false (is_edge h i)))
      (λ (p : 3 * h.N ≤ i). omega (arith, elsewhere i (omega arith), (readers_sparing h (node h v) (f 3)).past i p, turns_past h choice i p))
      (lt_or_le i (3 * h.N))

  output_turns_are : (i : ℕ) → output_read_turns h (node h v) (f 3) i ≡ output_turns h choice i
  unfolding output_named
  output_turns_are i =
      ⊎_elim
      (λ (p : i < h.O). rw (output_read_turns_at h (node h v) (f 3) i p, output_turns_at h choice i p, seen_is (output h i / 2)))
      (λ (p : h.O ≤ i). (readers_sparing h (node h v) (f 3)).out_past i p ∙ sym (output_turns_past h choice i p))
      (lt_or_le i h.O)

  abbrev one : Graph
  one = word_turned h (3 * v + 0) (f 0)

  abbrev two : Graph
  two = word_turned one (3 * v + 1) (f 1)

  abbrev three : Graph
  three = word_turned two (3 * v + 2) (f 2)

  one_alike : Alike h one
  one_alike = word_alike h adm (3 * v + 0) (f 0) (omega arith) (mark_still h v 0 m (omega arith))

  two_alike : Alike h two
  two_alike =
      alike_then h one two one_alike
      (word_alike one (alike_admitted h one one_alike adm) (3 * v + 1) (f 1) (rw one_alike.same_N (omega arith))
      (λ e. mark_still h v 1 m (omega arith) (sym (alike_edge h one one_alike (3 * v + 1)) ∙ e)))

  three_alike : Alike h three
  three_alike =
      alike_then h two three two_alike
      (word_alike two (alike_admitted h two two_alike adm) (3 * v + 2) (f 2) (rw two_alike.same_N (omega arith))
      (λ e. mark_still h v 2 m (omega arith) (sym (alike_edge h two two_alike (3 * v + 2)) ∙ e)))

  three_by : three ≡ turned_by h mine (λ i. 0 + 0 + 0)
  three_by =
      ap (λ x. turned_by x (only (3 * v + 2) (f 2)) never) (by_by h (only (3 * v + 0) (f 0)) never (only (3 * v + 1) (f 1)) never) ∙
      by_by h (λ i. only (3 * v + 0) (f 0) i + only (3 * v + 1) (f 1) i) (λ i. 0 + 0) (only (3 * v + 2) (f 2)) never

  pub step : readers_turned three (node h v) (f 3) ≡ apply h choice
  step =
      let u : ℕ = node h v in
      ap (λ x. turned_by x (read_turns three u (f 3)) (output_read_turns three u (f 3))) three_by ∙
      by_by h mine (λ i. 0 + 0 + 0) (read_turns three u (f 3)) (output_read_turns three u (f 3)) ∙
      by_same h _ _ (turns h choice) (output_turns h choice)
      (λ i. rw (read_turns_alike h three three_alike u (f 3) i) (ap (λ x. x % 2) (turns_are i)))
      (λ i. rw (output_read_turns_alike h three three_alike u (f 3) i) (omega (arith, output_turns_are i))) ∙
      sym (apply_by h choice)
