-- What rewriting keeps: an admitted graph stays one, with its wiring and the value of every output, and C falls by the saving.
-- The best list of moves is least; where it saves nothing, nothing changes. From the laws of `apply`, of values and of `best`.
use Rattle.std.proofs.Common.{◌≡◌, ℕ, ◌+◌, ◌-◌, ◌/◌, ◌<◌, ◌≤◌, ◌≢◌, List, [], ◌∷◌, map, refl, ap, ◌∙◌, ⊎_elim, arith}
use Rattle.graph.specs.Graph.{Graph, node, word, output, wiring}
use Rattle.graph.specs.Value.{Assignment, output_value}
use Rattle.graph.specs.Count.{C}
use Rattle.graph.specs.Admission.{Admitted}
use Rattle.graph.proofs.Cases.{eq_or_ne, cond_same}
use Rattle.graph.proofs.Alike.{alike_wiring}
use Rattle.graph.proofs.Turned.{by_never}
use Rattle.choice.specs.Choice.{best, Fits}
use Rattle.choice.specs.Inner.{zeros}
use Rattle.choice.proofs.Best.{best_is, best_zeros}
use Rattle.moves.specs.Rows.{moves_at}
use Rattle.moves.specs.Apply.{Choice, none, at, put, turns, output_turns, apply}
use Rattle.moves.specs.Call.{moved, moved_c, best_at, rewrite}
use Rattle.moves.proofs.Apply as applied
use Rattle.moves.proofs.Changed.{at_same, at_other, seen_none, own_none}
use Rattle.moves.proofs.Values.{out_kept}
use Rattle.moves.proofs.Moves.{moves_at_fit}

-- h comes from g by moves
pub record Stays (g h : Graph) : Type 0 where
  pub admitted : Admitted h
  pub same_I : h.I ≡ g.I
  pub same_N : h.N ≡ g.N
  pub same_O : h.O ≡ g.O
  pub wired : wiring h ≡ wiring g
  pub outputs : (a : Assignment) (j : ℕ) → j < g.O → output_value h a j ≡ output_value g a j

pub stays_none : (g : Graph) → Admitted g → Stays g g
stays_none g adm = record { admitted = adm; same_I = refl; same_N = refl; same_O = refl; wired = refl; outputs = λ a j h. refl }

pub stays_then : (g h k : Graph) → Stays g h → Stays h k → Stays g k
stays_then g h k p q =
    record {
      admitted = q.admitted;
      same_I = q.same_I ∙ p.same_I;
      same_N = q.same_N ∙ p.same_N;
      same_O = q.same_O ∙ p.same_O;
      wired = q.wired ∙ p.wired;
      outputs = λ a j h. q.outputs a j (omega (arith, p.same_O)) ∙ p.outputs a j h;
    }

-- and they save so much
pub record Kept (g h : Graph) (saved : ℕ) : Type 0 where
  pub stays : Stays g h
  pub count : C h + saved ≡ C g

pub kept_none : (g : Graph) → Admitted g → Kept g g 0
kept_none g adm = record { stays = stays_none g adm; count = omega arith }

pub kept_then : (g h k : Graph) (s t : ℕ) → Kept g h s → Kept h k t → Kept g k (s + t)
kept_then g h k s t p q = record { stays = stays_then g h k p.stays q.stays; count = omega (arith, p.count, q.count) }

module _ (g : Graph) (m : Choice) (adm : Admitted g) where
  pub apply_stays : Stays g (apply g m)
  apply_stays =
      let a = applied.apply_alike g m adm in
      record {
        admitted = applied.admitted g m adm;
        same_I = a.same_I;
        same_N = a.same_N;
        same_O = a.same_O;
        wired = alike_wiring g (apply g m) a;
        outputs = λ a j l. out_kept g m adm a j l;
      }

  pub apply_kept : C (apply g m) ≤ C g → Kept g (apply g m) (C g - C (apply g m))
  apply_kept h = record { stays = apply_stays; count = omega arith }

-- a choice that moves nothing changes nothing
module _ (g : Graph) (m : Choice) (adm : Admitted g) (idle : (u : ℕ) → m u ≡ 0) where
  turns_idle : (j : ℕ) → turns g m j ≡ 0
  unfolding turns
  turns_idle j = rw (own_none g m j (idle (node g (j / 3))), seen_none g m (word g j / 2) (idle (word g j / 2)), cond_same, cond_same)

  output_turns_idle : (j : ℕ) → output_turns g m j ≡ 0
  unfolding output_turns
  output_turns_idle j = rw (seen_none g m (output g j / 2) (idle (output g j / 2)), cond_same)

  pub apply_idle : apply g m ≡ g
  unfolding apply
  apply_idle = by_never g (turns g m) (output_turns g m) turns_idle output_turns_idle

put_zeros : (ns us : List ℕ) (d : Choice) → ((u : ℕ) → d u ≡ 0) → (u : ℕ) → put d us (zeros ns) u ≡ 0
unfolding put
put_zeros ns [] d h u = h u
put_zeros [] (w ∷ us) d h u = h u
put_zeros (n ∷ ns) (w ∷ us) d h u =
    put_zeros ns us (at d w 0)
    (λ x. ⊎_elim (λ (e : x ≡ w). rw e (at_same d w 0)) (λ (e : x ≢ w). at_other d w 0 x e ∙ h x) (eq_or_ne x w)) u

-- the best list of moves at some nodes, with the locks ls
module _ (g : Graph) (ls : List ℕ) (adm : Admitted g) (us : List ℕ) where
  abbrev counts : List ℕ
  counts = map (moves_at g ls) us

  zeros_nothing : moved g us (zeros counts) ≡ g
  unfolding moved
  zeros_nothing = apply_idle g (put none us (zeros counts)) adm (put_zeros counts us none (λ u. refl))

  -- no choice of moves there has less C
  pub best_lowest : (ms : List ℕ) → Fits counts ms → C (moved g us (best_at g ls us)) ≤ C (moved g us ms)
  unfolding best_at moved_c
  best_lowest ms h = (best_is (moved_c g us) counts (zeros counts) (moves_at_fit g ls us)).none_less ms h

  pub best_no_more : C (moved g us (best_at g ls us)) ≤ C g
  best_no_more = omega (arith, best_lowest (zeros counts) (moves_at_fit g ls us), ap C zeros_nothing)

  -- a call that saves nothing changes nothing, and then no choice of moves there lowers C
  pub best_idle : C g ≤ C (moved g us (best_at g ls us)) → moved g us (best_at g ls us) ≡ g
  unfolding best_at moved_c
  best_idle h =
      let z : best (moved_c g us) counts ≡ zeros counts =
      best_zeros (moved_c g us) counts (moves_at_fit g ls us) (omega (arith, ap C zeros_nothing)) in
      ap (moved g us) z ∙ zeros_nothing

  pub rewrite_graph : (rewrite g ls us).graph ≡ moved g us (best_at g ls us)
  unfolding rewrite
  rewrite_graph = refl

  pub rewrite_kept : Kept g (moved g us (best_at g ls us)) (C g - C (moved g us (best_at g ls us)))
  unfolding moved
  rewrite_kept = apply_kept g (put none us (best_at g ls us)) adm best_no_more
