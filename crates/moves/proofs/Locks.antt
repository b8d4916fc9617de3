-- What locks mean for the best choice of moves: it leaves locked nodes alone, their readers unturned and their values as they were, and
-- is least among all choices of the kinds' moves that do so; where no node is locked, it is document 01's best. From the
-- laws of `best`, of moves and of values.
use Rattle.std.proofs.Common.{◌≡◌, ℕ, ◌/◌, ◌<◌, true, ◌≢◌, List, [], ◌∷◌, map, get_or, refl, ap, ◌∙◌, ⊎_elim, arith}
use Rattle.graph.specs.Graph.{Graph, node, word, is_edge}
use Rattle.graph.specs.Value.{Assignment, value}
use Rattle.graph.specs.Admission.{Admitted}
use Rattle.graph.proofs.Cases.{eq_or_ne}
use Rattle.choice.specs.Choice.{best, Fits}
use Rattle.choice.specs.Inner.{zeros}
use Rattle.choice.proofs.Best.{best_is}
use Rattle.moves.specs.Rows.{kind_moves, lock_at, moves_at}
use Rattle.moves.specs.Apply.{Choice, none, at, put, own, seen, turns, apply}
use Rattle.moves.specs.Call.{moved, moved_c, best_at, rewrite}
use Rattle.moves.specs.Promises.{LockedNode, Alone, LowestAlone, NoneLocked}
use Rattle.moves.proofs.Apply.{turns_edge}
use Rattle.moves.proofs.Changed.{at_same, at_other, seen_none, own_none}
use Rattle.moves.proofs.Kept.{apply_idle, best_lowest}
use Rattle.moves.proofs.Moves.{lock_of, moves_locked, moves_free, moves_at_fit, all_free}
use Rattle.moves.proofs.Values.{value_turn, value_turn_all}

-- a value is a bit, since to move nothing turns it 0 times
value_bit : (g : Graph) → Admitted g → (a : Assignment) (i : ℕ) → value g a i < 2
value_bit g adm a i =
    let e : value (apply g none) a i ≡ value g a i = ap (λ (x : Graph). value x a i) (apply_idle g none adm (λ u. refl)) in
    omega (arith, e, value_turn_all g none adm a i)

module _ (g : Graph) (ls : List ℕ) where
  -- the choices are those of the kinds' moves that do
  fits_alone : (us ms : List ℕ) → Fits (map (moves_at g ls) us) ms → Alone g ls us ms
  fits_alone [] [] h = tt
  fits_alone [] (k ∷ ms) h = absurd h
  fits_alone (u ∷ us) [] h = absurd h
  fits_alone (u ∷ us) (k ∷ ms) h = ((λ e. omega (arith, h.0, moves_locked g ls u e)), fits_alone us ms h.1)

  alone_fits : (us ms : List ℕ) → Fits (map (kind_moves g) us) ms → Alone g ls us ms → Fits (map (moves_at g ls) us) ms
  alone_fits [] [] h a = tt
  alone_fits [] (k ∷ ms) h a = absurd h
  alone_fits (u ∷ us) [] h a = absurd h
  alone_fits (u ∷ us) (k ∷ ms) h a = (
    ⊎_elim
        (λ (e : lock_at g ls u ≡ 1). omega (arith, moves_locked g ls u e, a.0 e))
        (λ (n : lock_at g ls u ≢ 1). omega (arith, h.0, moves_free g ls u n))
        (eq_or_ne (lock_at g ls u) 1),
    alone_fits us ms h.1 a.1,
  )

  put_locked : (us ms : List ℕ) (d : Choice) (u : ℕ) → Alone g ls us ms → lock_at g ls u ≡ 1 → d u ≡ 0 → put d us ms u ≡ 0
  unfolding put
  put_locked [] ms d u a e z = z
  put_locked (w ∷ us) [] d u a e z = z
  put_locked (w ∷ us) (k ∷ ms) d u a e z =
      put_locked us ms (at d w k) u a.1 e
      (⊎_elim (λ (q : u ≡ w). rw q (at_same d w k ∙ a.0 (rw (← q) e))) (λ (n : u ≢ w). at_other d w k u n ∙ z) (eq_or_ne u w))

  module _ (us : List ℕ) where
    pub best_fits : Fits (map (moves_at g ls) us) (best_at g ls us)
    unfolding best_at
    best_fits = (best_is (moved_c g us) (map (moves_at g ls) us) (zeros (map (moves_at g ls) us)) (moves_at_fit g ls us)).fits

    -- M-105: a locked node has only move 0
    pub locked_move : (v : ℕ) → v < g.N → get_or ls v 0 ≡ 1 → put none us (best_at g ls us) (node g v) ≡ 0
    locked_move v h e = put_locked us (best_at g ls us) none (node g v) (fits_alone us (best_at g ls us) best_fits) (lock_of g ls v h ∙ e) refl

    -- it turns none of its words and no reader; an edge of its own turns only by the move of the node that it names
    locked_readers : (v : ℕ) → v < g.N → get_or ls v 0 ≡ 1 → seen g (put none us (best_at g ls us)) (node g v) ≡ 0
    locked_readers v h e = seen_none g (put none us (best_at g ls us)) (node g v) (locked_move v h e)

    locked_turns : (v j : ℕ) → v < g.N → get_or ls v 0 ≡ 1 → j / 3 ≡ v → is_edge g j ≡ true
        → turns g (put none us (best_at g ls us)) j ≡ seen g (put none us (best_at g ls us)) (word g j / 2)
    locked_turns v j h e q t =
        let m : Choice = put none us (best_at g ls us) in
        let z : own g m j ≡ 0 = own_none g m j (ap (λ (x : ℕ). m (node g x)) q ∙ locked_move v h e) in
        turns_edge g m j (omega arith) t ∙ omega (arith, z)

    -- so its value is what it was
    locked_value : Admitted g → (v : ℕ) → v < g.N → get_or ls v 0 ≡ 1 → (a : Assignment) → value (moved g us (best_at g ls us)) a (node g v) ≡ value g a (node g v)
    unfolding moved
    locked_value adm v h e a =
        value_turn g (put none us (best_at g ls us)) adm a (node g v) (omega arith) ∙ omega (arith, locked_readers v h e, value_bit g adm a (node g v))

    pub locked_node : (v : ℕ) → v < g.N → get_or ls v 0 ≡ 1 → LockedNode g ls us v
    locked_node v h e =
        record {
          locked_move = locked_move v h e;
          locked_readers = locked_readers v h e;
          locked_turns = λ j. locked_turns v j h e;
          locked_value = λ adm. locked_value adm v h e;
        }

    -- the best is least among the choices that leave locked nodes alone
    pub lowest_alone : LowestAlone g ls us
    lowest_alone adm ms f a = best_lowest g ls adm us ms (alone_fits us ms f a)

-- and with no node locked it is the best of all, as before there were locks
best_free : (g : Graph) (ls us : List ℕ) → ((v : ℕ) → v < g.N → get_or ls v 0 ≡ 0) → best_at g ls us ≡ best (moved_c g us) (map (kind_moves g) us)
unfolding best_at
best_free g ls us free = rw (all_free g ls free)

pub rewrite_free : (g : Graph) (ls us : List ℕ) → ((v : ℕ) → v < g.N → get_or ls v 0 ≡ 0) → rewrite g ls us ≡ rewrite g [] us
unfolding rewrite
rewrite_free g ls us free = rw (best_free g ls us free, best_free g [] us (λ v h. refl))

pub none_locked : (g : Graph) (ls us : List ℕ) → ((v : ℕ) → v < g.N → get_or ls v 0 ≡ 0) → NoneLocked g ls us
none_locked g ls us free = record { best_free = best_free g ls us free; rewrite_free = rewrite_free g ls us free }
