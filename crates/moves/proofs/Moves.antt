-- How many moves a node has: as many as its kind has rows, and one where it is locked, so that each of them has a row. What a list of
-- moves that fits leaves alone. From the definitions.
use Rattle.std.proofs.Common.{◌≡◌, ℕ, ◌+◌, ◌-◌, ◌<◌, ◌≤◌, Bool, true, false, ◌≢◌, ◌⊎◌, List, [], ◌∷◌, map, get_or, sym, refl, ap, ◌∙◌, inl, inr, ⊎_elim, arith}
use mathlib.Core.Path.{fun_ext}
use Rattle.graph.specs.Graph.{Graph, node, is_xor}
use Rattle.graph.proofs.Cases.{eq_or_ne, lt_or_le}
use Rattle.graph.proofs.Tests.{less, no_less, equal, unequal}
use Rattle.choice.specs.Choice.{Fits}
use Rattle.choice.specs.Inner.{zeros}
use Rattle.moves.specs.Decide.{MovesOf}
use Rattle.moves.specs.Rows.{arity, kind_moves, lock_at, moves_at}

pub arity_pos : (x : Bool) → 0 < arity x
unfolding arity
arity_pos true = omega arith
arity_pos false = omega arith

-- where every node has a move, no move anywhere is a choice
pub some_fit : (mv : ℕ → ℕ) → ((u : ℕ) → 0 < mv u) → (us : List ℕ) → Fits (map mv us) (zeros (map mv us))
some_fit mv pos [] = tt
some_fit mv pos (u ∷ us) = (pos u, some_fit mv pos us)

pub moves_some : (x : Bool) (n : ℕ) → MovesOf x n → 0 < n
moves_some x n h = ⊎_elim (λ (e : n ≡ 1). omega arith) (λ (e : n ≡ arity x). omega (arith, arity_pos x)) h

pub moves_all : (x : Bool) (n : ℕ) → MovesOf x n → n ≢ 1 → n ≡ arity x
moves_all x n h d = ⊎_elim (λ (e : n ≡ 1). absurd (d e)) (λ (e : n ≡ arity x). e) h

pub moves_row : (x : Bool) (n m : ℕ) → MovesOf x n → m < n → m < arity x
moves_row x n m h l = ⊎_elim (λ (e : n ≡ 1). omega (arith, arity_pos x)) (λ (e : n ≡ arity x). omega arith) h

module _ (g : Graph) where
  -- the moves of a kind are its rows
  pub kind_moves_lem : (v : ℕ) → kind_moves g (node g v) ≡ arity (is_xor g v)
  unfolding kind_moves
  kind_moves_lem v = let e : node g v - (g.I + 1) ≡ v = omega arith in rw e

  pub kind_pos : (u : ℕ) → 0 < kind_moves g u
  unfolding kind_moves
  kind_pos u = arity_pos _

  pub has_row : (u m : ℕ) → m < kind_moves g u → m < arity (is_xor g (u - (g.I + 1)))
  unfolding kind_moves
  has_row u m h = h

  pub node_row : (v m : ℕ) → m < kind_moves g (node g v) → m < arity (is_xor g v)
  node_row v m h = rw (← kind_moves_lem v) h

  -- with the locks ls
  module _ (ls : List ℕ) where
    pub lock_of : (v : ℕ) → v < g.N → lock_at g ls (node g v) ≡ get_or ls v 0
    unfolding lock_at
    lock_of v h =
        let e : node g v - (g.I + 1) ≡ v = omega arith in
        sym (less g.I (node g v) _ 0 (omega arith) (less (node g v) (node g g.N) _ 0 (omega arith) (rw e refl)))

    pub moves_locked : (u : ℕ) → lock_at g ls u ≡ 1 → moves_at g ls u ≡ 1
    unfolding moves_at
    moves_locked u e = sym (equal _ _ _ _ e refl)

    pub moves_free : (u : ℕ) → lock_at g ls u ≢ 1 → moves_at g ls u ≡ kind_moves g u
    unfolding moves_at
    moves_free u n = sym (unequal _ _ _ _ n refl)

    -- either is so
    moves_either : (u : ℕ) → (moves_at g ls u ≡ 1) ⊎ (moves_at g ls u ≡ kind_moves g u)
    moves_either u = ⊎_elim (λ (e : lock_at g ls u ≡ 1). inl (moves_locked u e)) (λ (n : lock_at g ls u ≢ 1). inr (moves_free u n)) (eq_or_ne (lock_at g ls u) 1)

    pub moves_of : (v : ℕ) → MovesOf (is_xor g v) (moves_at g ls (node g v))
    moves_of v = rw (← kind_moves_lem v) (moves_either (node g v))

    pub moves_pos : (u : ℕ) → 0 < moves_at g ls u
    moves_pos u =
        ⊎_elim (λ (e : moves_at g ls u ≡ 1). omega arith) (λ (e : moves_at g ls u ≡ kind_moves g u). omega (arith, kind_pos u)) (moves_either u)

    pub moves_no_more : (u : ℕ) → moves_at g ls u ≤ kind_moves g u
    moves_no_more u =
        ⊎_elim (λ (e : moves_at g ls u ≡ 1). omega (arith, kind_pos u)) (λ (e : moves_at g ls u ≡ kind_moves g u). omega arith) (moves_either u)

    pub moves_at_fit : (us : List ℕ) → Fits (map (moves_at g ls) us) (zeros (map (moves_at g ls) us))
    moves_at_fit = some_fit (moves_at g ls) moves_pos

    -- by the byte and the kind that were read
    pub moves_read_locked : (v : ℕ) → v < g.N → get_or ls v 0 ≡ 1 → 1 ≡ moves_at g ls (node g v)
    moves_read_locked v h e = sym (moves_locked (node g v) (lock_of v h ∙ e))

    pub moves_read_free : (v : ℕ) (x y : Bool) → v < g.N → get_or ls v 0 ≢ 1 → x ≡ is_xor g v → x ≡ y → arity y ≡ moves_at g ls (node g v)
    moves_read_free v x y h n e q = sym (moves_free (node g v) (λ z. n (sym (lock_of v h) ∙ z)) ∙ kind_moves_lem v ∙ ap arity (sym e ∙ q))

    -- where no node is locked, the moves are those of the kinds
    pub all_free : ((v : ℕ) → v < g.N → get_or ls v 0 ≡ 0) → moves_at g ls ≡ kind_moves g
    unfolding lock_at
    all_free free = fun_ext (λ u. moves_free u (λ z. omega (arith, unlocked u)))
      where
        unlocked : (u : ℕ) → lock_at g ls u ≡ 0
        unlocked u =
            ⊎_elim
            (λ (a : g.I < u).
            sym (less g.I u _ 0 a
            (⊎_elim
            (λ (b : u < node g g.N). less u (node g g.N) _ 0 b (sym (free (u - (g.I + 1)) (omega arith))))
            (λ (b : node g g.N ≤ u). no_less u (node g g.N) _ 0 b refl)
            (lt_or_le u (node g g.N)))))
            (λ (a : u ≤ g.I). sym (no_less g.I u _ 0 a refl))
            (lt_or_le g.I u)
