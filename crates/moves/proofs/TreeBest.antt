-- The moves of a tree decided from its root down, by what its nodes cost, are the best of the tree. From the programme, whose
-- potential is what is decided as it stands and what is not at its cost.
use Rattle.std.proofs.Common.{◌≡◌, ℕ, suc, ◌+◌, ◌-◌, ◌/◌, ◌<◌, true, false, List, map, sym, refl, ap, ◌∙◌, arith}
use Rattle.graph.specs.Admission.{Admitted}
use Rattle.graph.specs.Count.{C}
use Rattle.graph.specs.Graph.{Graph, node}
use Rattle.moves.specs.Apply.{Choice, own, apply, at, none}
use Rattle.moves.specs.Call.{moved, moved_c, best_at}
use Rattle.moves.specs.Cost.{inner, move_cost, node_cost, pick, root_cost, shows, Costs, Decided}
use Rattle.moves.specs.Rows.{moves_at}
use Rattle.moves.specs.Tree.{is_root, place, reader, root_of, tree}
use Rattle.moves.specs.Compose.{IsRoot}
use Rattle.choice.specs.Inner.{FirstBelow}
use Rattle.choice.proofs.Best.{least_below}
use Rattle.moves.proofs.Changed.{at_other}
use Rattle.moves.proofs.Moves.{moves_pos}
use Rattle.moves.proofs.Potential.{Φ, Φ_zero, Φ_other, Φ_step, Off}
use Rattle.moves.proofs.Programme.{Programme, Decides, Agree, best_of, programme_best}
use Rattle.moves.proofs.Readers.{reader_above, root_of_root, root_of_inner, not_root}
use Rattle.moves.proofs.Root.{Φ_root, all_fixed}

pub reader_node : (g : Graph) → Admitted g → (u : ℕ) → is_root g u ≡ false → (reader g u ≡ node g (place g u / 3)) × (u < node g (place g u / 3)) × (place g u / 3 < g.N)
unfolding reader
reader_node g adm u s = let a = reader_above g adm u s in (refl, a.0, omega arith)

pub least_moves : (g : Graph) (ls : List ℕ) (f : ℕ → ℕ) (u : ℕ) → FirstBelow f (moves_at g ls u) (pick f (moves_at g ls u))
unfolding pick
least_moves g ls f u = least_below f (moves_at g ls u) (moves_pos g ls u)

module _ (g : Graph) (ls : List ℕ) (adm : Admitted g) (c : ℕ → ℕ → ℕ) (o : ℕ → ℕ) (cs : Costs g ls c o) (t : ℕ) (h : t < g.N) (isr : is_root g (node g t) ≡ true) where
  abbrev cost : Choice → ℕ
  cost d = C (apply g d)

  abbrev move : ℕ → Choice → ℕ → ℕ
  move n d = move_cost g (inner g) c n (shows g d (node g n))

  abbrev least_move : ℕ → Choice → ℕ
  least_move n d = c (node g n) (shows g d (node g n))

  bit : (d : Choice) (u : ℕ) → shows g d u < 2
  unfolding shows
  bit d u = omega arith

  inside : (n : ℕ) → n < t → root_of g (node g n) ≡ node g t → is_root g (node g n) ≡ false
  inside n l i = not_root g adm (node g t) (node g n) i (λ z. omega arith)

  tight_move : (n m : ℕ) (d : Choice) → n < t → root_of g (node g n) ≡ node g t → FirstBelow (move n d) (moves_at g ls (node g n)) m → least_move n d + o n ≡ move n d m
  unfolding node_cost
  tight_move n m d l i b =
      let q = least_moves g ls (move n d) (node g n) in
      omega (arith, cs n (shows g d (node g n)) (omega arith) (bit d (node g n)) (inside n l i), q.low m b.below, b.low _ q.below)

  off_at : (d : Choice) (n k : ℕ) → root_of g (node g n) ≡ node g t → Off g (node g t) d → Off g (node g t) (at d (node g n) k)
  off_at d n k i off u q = at_other d (node g n) k u (λ z. q (rw z i)) ∙ off u q

  programme : Programme cost (moves_at g ls) (moves_pos g ls) g (node g t) t (Off g (node g t)) (Φ g c (node g t)) least_move move o
  programme = record {
    ends = λ d q. Φ_zero g c (node g t) adm d;
    kept = λ n k d l i j off. off_at d n k i off;
    passes = λ n d l i off. Φ_other g c (node g t) adm n d i;
    steps = λ n k d l i j off. Φ_step g c (node g t) adm n (omega arith) i d off k (inside n l i);
    tight = λ n m d l i off b. tight_move n m d l i b;
  }

  module _ (m : Choice) (dec : Decided g ls c (node g t) m) where
    same_shows : (n : ℕ) → n < t → root_of g (node g n) ≡ node g t → (d : Choice) → Agree cost (moves_at g ls) (moves_pos g ls) g (node g t) m (suc n) d → shows g d (node g n) ≡ shows g m (node g n)
    unfolding shows own
    same_shows n l i d ag =
        let s = inside n l i in
        let a = reader_node g adm (node g n) s in
        rw (ag (place g (node g n) / 3) (omega arith) (omega arith)
        (ap (root_of g) (sym a.0) ∙ sym (root_of_inner g adm (node g n) (omega arith) (omega arith) s) ∙ i))

    decides : Decides cost (moves_at g ls) (moves_pos g ls) g (node g t) t (Off g (node g t)) (Φ g c (node g t)) move m (root_cost g (inner g) c t) 0 (all_fixed g c t)
    decides = record {
      good = λ k l u q. at_other none (node g t) k u (λ z. q (rw z (root_of_root g adm (node g t) isr)));
      root = λ k l. omega (arith, Φ_root g c adm t h isr k);
      top = dec.top t refl;
      rest = λ n d l i off ag. rw (same_shows n l i d ag) (dec.rest n (omega arith) i (λ z. omega arith));
    }

    by_programme : map m (tree g (node g t)) ≡ best_of cost (moves_at g ls) (tree g (node g t)) none
    by_programme = programme_best cost (moves_at g ls) (moves_pos g ls) g (node g t) t (Off g (node g t)) (Φ g c (node g t)) least_move move o programme m (root_cost g (inner g) c t) 0 (all_fixed g c t) decides adm h refl isr

-- the decided moves, by falling index, are the best of the tree, with the locks ls
pub tree_best : (g : Graph) (ls : List ℕ) (r : ℕ) (c : ℕ → ℕ → ℕ) (o : ℕ → ℕ) (m : Choice) → Admitted g → IsRoot g r → Costs g ls c o → Decided g ls c r m → map m (tree g r) ≡ best_at g ls (tree g r)
unfolding best_at moved_c moved
tree_best g ls r c o m adm i cs dec = go (r - (g.I + 1)) (omega (arith, i.after_inputs))
  where
    go : (t : ℕ) → node g t ≡ r → map m (tree g r) ≡ best_at g ls (tree g r)
    go t e = rw (← e) (by_programme g ls adm c o cs t (omega (arith, i.within)) (rw e i.root) m (rw e dec))
