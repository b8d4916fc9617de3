-- A decision looks only at what is above; and moves decided by the costs of the recursion are the choice of the call.
use mathlib.Core.Path.{◌≡◌, refl, sym, ap, ◌∙◌}
use mathlib.Core.Bool.{true, false}
use mathlib.Core.List.{List, map}
use mathlib.Core.Logic.{◌⊎◌, ⊎_elim, ◌≢◌}
use Prim.Native.Nat.{ℕ, ◌+◌, ◌*◌, ◌/◌, ◌≤◌, ◌<◌}
use native.Mathlib.Omega.{arith}
use native.Mathlib.Nat.{eq-or-lt_of_le}
use borrow.Author.Tests.{ne_eqb, lt-ltb}
use Rattle.graph.specs.Admission.{Admitted}
use Rattle.graph.specs.Graph.{Graph, node, word}
use Rattle.moves.specs.Apply.{Choice, at}
use Rattle.moves.specs.Cost.{inner}
use Rattle.resistive.specs.Resistive.{still_at, best_still}
use Rattle.resistive.specs.Family.{KeyCosts, earlier, seen_in, reader_family, KeyDecided, key_cost, key_turns}
use Rattle.moves.specs.Rows.{moves_at}
use Rattle.moves.specs.Tree.{is_root, place, root_of, tree}
use Rattle.graph.proofs.Cases.{true_or_false, eq_or_ne, lt_or_le}
use Rattle.moves.proofs.Changed.{at_same, at_other}
use Rattle.moves.proofs.Compose.{seen_low}
use Rattle.moves.proofs.Count.{clash}
use Rattle.resistive.proofs.Best.{seen_same, still_best}
use Rattle.resistive.proofs.Still.{still_other}
use Rattle.resistive.proofs.Costs.{base_key, costs_hold, turns_pos}
use Rattle.resistive.proofs.Step.{family_same}
use Rattle.moves.proofs.Readers.{root_of_root, root_of_inner, root_of_above}
use Rattle.moves.proofs.TreeBest.{reader_node}
use Rattle.moves.proofs.Moves.{moves_of}
use Rattle.moves.specs.Compose.{IsRoot}

earlier_yes : (g : Graph) (n u : ℕ) → g.I < u → u < node g n → is_root g u ≡ false → earlier g n u ≡ true
unfolding earlier inner
earlier_yes g n u h l e = rw (lt-ltb _ _ h, lt-ltb _ _ l, e)

module _ (g : Graph) (adm : Admitted g) (c : ℕ → ℕ → ℕ) (tn : ℕ → ℕ) (r n : ℕ) (h : n < g.N) (i : root_of g (node g n) ≡ r) (s : is_root g (node g n) ≡ false)
    (m m' : Choice) (same : (u : ℕ) → node g n < u → m u ≡ m' u) where
  seen_above : (u : ℕ) → u < r → u ≢ node g n → earlier g n u ≡ false → seen_in g r m u ≡ seen_in g r m' u
  unfolding seen_in
  seen_above u lo q y =
      ⊎_elim
      (λ (w : node g n < u). rw (seen_same g m m' u (same u w)))
      (λ (w : u ≤ node g n).
      ⊎_elim
      (λ (x : g.I < u).
      ⊎_elim
      (λ (z : is_root g u ≡ true). rw (ne_eqb (root_of g u) r (λ e. omega (arith, root_of_root g adm u z))))
      (λ (z : is_root g u ≡ false). absurd (clash (earlier_yes g n u x (⊎_elim (λ (e : u ≡ node g n). absurd (q e)) (λ (l : u < node g n). l) (eq-or-lt_of_le w)) z) y))
      (true_or_false (is_root g u)))
      (λ (x : u ≤ g.I). rw (seen_low g m u x, seen_low g m' u x))
      (lt_or_le g.I u))
      (lt_or_le' (node g n) u)
    where
      lt_or_le' : (a b : ℕ) → (a < b) ⊎ (b ≤ a)
      lt_or_le' a b = lt_or_le a b

  -- what the falling sweep asks: moves stored below leave a decision as it is
  pub reader_local : (t : ℕ) → reader_family g c tn r m n t ≡ reader_family g c tn r m' n t
  unfolding reader_family
  reader_local t =
      let p : ℕ = place g (node g n) / 3 in
      let a = reader_node g adm (node g n) s in
      let up : node g p ≤ r = omega (arith, root_of_above g adm (node g p), ap (root_of g) (sym a.0) ∙ sym (root_of_inner g adm (node g n) (omega arith) (omega arith) s) ∙ i) in
      rw (same (node g p) a.1)
      (family_same g true (earlier g n) (earlier g n) (at (seen_in g r m) (node g n) t) (at (seen_in g r m') (node g n) t) c tn p (m' (node g p))
      (λ j k e. refl)
      (λ j k e y.
      ⊎_elim
      (λ (q : word g (3 * p + j) / 2 ≡ node g n). rw q (at_same (seen_in g r m) (node g n) t ∙ sym (at_same (seen_in g r m') (node g n) t)))
      (λ (q : word g (3 * p + j) / 2 ≢ node g n).
      at_other (seen_in g r m) (node g n) t (word g (3 * p + j) / 2) q ∙
      seen_above (word g (3 * p + j) / 2) (omega (arith, adm.below (3 * p + j) (omega arith) e)) q y ∙
      sym (at_other (seen_in g r m') (node g n) t (word g (3 * p + j) / 2) q))
      (eq_or_ne (word g (3 * p + j) / 2) (node g n))))

module _ (g : Graph) (ls : List ℕ) (r : ℕ) (adm : Admitted g) (i : IsRoot g r) where
  pub keys_hold : KeyCosts g (still_at g ls r) (key_cost g ls) (key_turns g ls) (base_key g (moves_at g ls) adm (key_cost g ls))
  unfolding key_cost key_turns
  keys_hold =
      costs_hold g (moves_at g ls) adm (still_at g ls r) (λ v h s. still_other g ls r (node g v) (λ q. clash i.root (rw q at s)))
      (λ v h s. moves_of g ls v)

  turns_some : (u : ℕ) → 0 < key_turns g ls u
  unfolding key_turns
  turns_some u = turns_pos (moves_at g ls u)

  -- moves decided by these costs are M-109's choice
  pub keys_best : (m : Choice) → KeyDecided g (still_at g ls r) (key_cost g ls) (key_turns g ls) r m → map m (tree g r) ≡ best_still g ls r
  keys_best m dec = still_best g ls r (key_cost g ls) (key_turns g ls) (base_key g (moves_at g ls) adm (key_cost g ls)) m adm i turns_some keys_hold dec
