-- How many moves a node has in the call for resistive memory, and that the root's leave its readers unturned.
use mathlib.Core.Path.{◌≡◌, refl}
use mathlib.Core.Bool.{Bool, true, false}
use mathlib.Core.List.{List, [], ◌∷◌, map}
use mathlib.Core.Logic.{⊎_elim, ◌≢◌}
use Prim.Native.Nat.{ℕ, zero, suc, ◌+◌, ◌-◌, ◌≤◌, ◌<◌, min}
use native.Mathlib.Omega.{arith}
use borrow.Author.Tests.{eq-eqb, ne_eqb}
use Rattle.graph.specs.Finite.{if_equal, if_less}
use Rattle.graph.specs.Graph.{Graph, is_xor, node}
use Rattle.graph.proofs.Cases.{eq_or_ne}
use Rattle.choice.specs.Choice.{Fits}
use Rattle.moves.specs.Apply.{Choice, at, put}
use Rattle.moves.specs.Rows.{flag, rows, first_row, arity, moves_at}
use Rattle.moves.proofs.Changed.{at_same, at_other}
use Rattle.moves.proofs.Moves.{moves_pos}
use Rattle.resistive.specs.Resistive.{still_moves, still_at}
use Rattle.resistive.specs.Promises.{StillFirst}

-- the moves of a kind that leave its readers unturned
still_flag : (x : Bool) (k : ℕ) → k < still_moves x → flag x k 3 ≡ 0
unfolding still_moves flag rows first_row arity if_less
still_flag true zero h = refl
still_flag true (suc zero) h = refl
still_flag true (suc (suc k)) h = absurd (omega arith)
still_flag false zero h = refl
still_flag false (suc k) h = absurd (omega arith)

still_pos : (x : Bool) → 0 < still_moves x
unfolding still_moves
still_pos true = omega arith
still_pos false = omega arith

module _ (g : Graph) (ls : List ℕ) (r : ℕ) where
  pub still_root : still_at g ls r r ≡ min (moves_at g ls r) (still_moves (is_xor g (r - (g.I + 1))))
  unfolding still_at if_equal
  still_root = rw (eq-eqb r r refl)

  pub still_other : (u : ℕ) → u ≢ r → still_at g ls r u ≡ moves_at g ls u
  unfolding still_at if_equal
  still_other u q = rw (ne_eqb u r q)

  pub still_at_pos : (u : ℕ) → 0 < still_at g ls r u
  still_at_pos u =
      ⊎_elim
      (λ (e : u ≡ r). rw e (omega (arith, still_root, moves_pos g ls r, still_pos (is_xor g (r - (g.I + 1))))))
      (λ (e : u ≢ r). omega (arith, still_other u e, moves_pos g ls u))
      (eq_or_ne u r)

  pub still_at_few : (u : ℕ) → still_at g ls r u ≤ moves_at g ls u
  still_at_few u =
      ⊎_elim (λ (e : u ≡ r). rw e (omega (arith, still_root))) (λ (e : u ≢ r). omega (arith, still_other u e)) (eq_or_ne u r)

  pub still_at_root : (t k : ℕ) → node g t ≡ r → k < still_at g ls r r → flag (is_xor g t) k 3 ≡ 0
  still_at_root t k e l =
      let q : r - (g.I + 1) ≡ t = omega arith in
      let s : k < still_moves (is_xor g (r - (g.I + 1))) = omega (arith, still_root) in
      still_flag (is_xor g t) k (rw q at s)

-- the first moves of a kind are just those that leave its readers
only_still : (x : Bool) (k : ℕ) → k < arity x → flag x k 3 ≡ 0 → k < still_moves x
unfolding still_moves flag rows first_row arity if_less
only_still true zero h e = omega arith
only_still true (suc zero) h e = omega arith
only_still true (suc (suc zero)) h e = absurd (omega (arith, e))
only_still true (suc (suc (suc zero))) h e = absurd (omega (arith, e))
only_still true (suc (suc (suc (suc k)))) h e = absurd (omega arith)
only_still false zero h e = omega arith
only_still false (suc zero) h e = absurd (omega (arith, e))
only_still false (suc (suc k)) h e = absurd (omega arith)

pub still_first : (x : Bool) (k : ℕ) → StillFirst x k
still_first x k = record { still = still_flag x k; only = only_still x k }

-- a list that fits gives each index one of its moves
pub put_below : (mv : ℕ → ℕ) (us ms : List ℕ) (d : Choice) (u : ℕ) → Fits (map mv us) ms → d u < mv u → put d us ms u < mv u
unfolding put
put_below mv [] ms d u f h = h
put_below mv (w ∷ us) [] d u f h = h
put_below mv (w ∷ us) (k ∷ ms) d u f h =
    put_below mv us ms (at d w k) u f.1
    (⊎_elim (λ (q : u ≡ w). rw (q, at_same d w k) f.0) (λ (q : u ≢ w). rw (at_other d w k u q) h) (eq_or_ne u w))
