-- A rising list: where an index stands in it, and the move that the list gives it. From the laws of a changed move.
use mathlib.Core.Path.{◌≡◌, refl, sym, ◌∙◌}
use mathlib.Core.List.{List, [], ◌∷◌}
use mathlib.Core.Logic.{⊎_elim, ◌≢◌}
use Prim.Native.Nat.{ℕ, zero, suc, ◌+◌, ◌≤◌, ◌<◌}
use native.Mathlib.Omega.{arith}
use native.Mathlib.Nat.{eq-or-lt_of_le, le_of_suc-le-suc}
use lib.ListN.{length, get_or}
use Rattle.graph.proofs.Cases.{lt_or_le}
use Rattle.moves.specs.Apply.{Choice, none, at, put}
use Rattle.moves.proofs.Changed.{at_same, at_other}
use Rattle.many.specs.Making.{Rises, Stands, chosen}

-- a list rises where each entry is above the one before
pub rises_by : (us : List ℕ) → ((j : ℕ) → suc j < length us → get_or us j 0 < get_or us (suc j) 0) → Rises us
rises_by us h i zero l k = absurd (omega arith)
rises_by us h i (suc j) l k =
    ⊎_elim
    (λ (e : i ≡ j). rw e (h j k))
    (λ (q : i < j). omega (arith, rises_by us h i j q (omega arith), h j k))
    (eq-or-lt_of_le (le_of_suc-le-suc l))

pub rises_rest : (x : ℕ) (us : List ℕ) → Rises (x ∷ us) → Rises us
rises_rest x us r i j l h = r (suc i) (suc j) (omega arith) (omega arith)

-- the first index that the list can have stands at its front
pub stands_first : (us : List ℕ) (i : ℕ) → ((j : ℕ) → j < length us → i < get_or us j 0) → Stands us (i + 1) 0
stands_first us i h = record { within = omega arith; before = λ j l. absurd (omega arith); after = λ j l k. omega (arith, h j k) }

-- the place of the next index
module _ (us : List ℕ) (u k : ℕ) (s : Stands us u k) where
  pub stands_next : Rises us → k < length us → get_or us k 0 ≡ u → Stands us (u + 1) (k + 1)
  stands_next r h e =
      record {
        within = omega arith;
        before = λ i l.
            ⊎_elim
            (λ (q : i < k). omega (arith, s.before i q))
            (λ (q : k ≤ i). let z : i ≡ k = omega arith in rw z (omega (arith, e)))
            (lt_or_le i k);
        after = λ i l q. omega (arith, r k i (omega arith) q, e);
      }

  pub stands_still : Rises us → (k < length us → get_or us k 0 ≢ u) → Stands us (u + 1) k
  stands_still r n =
      record {
        within = s.within;
        before = λ i l. omega (arith, s.before i l);
        after = λ i l q.
            ⊎_elim
            (λ (e : k ≡ i). let z : get_or us k 0 ≢ u = n (omega arith) in rw (← e) (omega (arith, s.after k (omega arith) (omega arith))))
            (λ (p : k < i). omega (arith, r k i p q, s.after k (omega arith) (omega arith)))
            (eq-or-lt_of_le l);
      }

-- the move that a list gives
pub put_out : (us ms : List ℕ) (d : Choice) (u : ℕ) → ((j : ℕ) → j < length us → get_or us j 0 ≢ u) → put d us ms u ≡ d u
unfolding put
put_out [] ms d u h = refl
put_out (w ∷ us) [] d u h = refl
put_out (w ∷ us) (k ∷ ms) d u h = put_out us ms (at d w k) u (λ j l. h (suc j) (omega arith)) ∙ at_other d w k u (λ e. h 0 (omega arith) (sym e))

put_here : (us ms : List ℕ) (d : Choice) (u j : ℕ) → Rises us → length us ≤ length ms → j < length us → get_or us j 0 ≡ u → put d us ms u ≡ get_or ms j 0
unfolding put
put_here [] ms d u j r b h e = absurd (omega arith)
put_here (w ∷ us) [] d u j r b h e = absurd (omega arith)
put_here (w ∷ us) (k ∷ ms) d u zero r b h e =
    put_out us ms (at d w k) u (λ i l q. omega (arith, r 0 (suc i) (omega arith) (omega arith), q, e)) ∙ rw (← e) (at_same d w k)
put_here (w ∷ us) (k ∷ ms) d u (suc j) r b h e = put_here us ms (at d w k) u j (rises_rest w us r) (omega arith) (omega arith) e

module _ (us ms : List ℕ) (u k : ℕ) (r : Rises us) where
  pub move_here : length us ≤ length ms → k < length us → get_or us k 0 ≡ u → get_or ms k 0 ≡ chosen us ms u
  move_here b h e = sym (put_here us ms none u k r b h e)

  pub move_none : Stands us u k → (k < length us → get_or us k 0 ≢ u) → 0 ≡ chosen us ms u
  move_none s n =
      sym (put_out us ms none u
      (λ j h q.
      ⊎_elim
      (λ (l : j < k). omega (arith, s.before j l, q))
      (λ (l : k ≤ j).
      ⊎_elim
      (λ (e : k ≡ j). n (omega arith) (rw e q))
      (λ (p : k < j). omega (arith, r k j p h, s.after k (omega arith) (omega arith), q))
      (eq-or-lt_of_le l))
      (lt_or_le j k)))
