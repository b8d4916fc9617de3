-- What is known of a node and of a move that no fault refuses, and the range of these faults. From the laws on tests and on kinds.
use Rattle.std.proofs.Common.{◌≡◌, ℕ, ◌<◌, ◌≤◌, Bool, true, false, ltb, ◌≢◌, List, get_or, refl, ◌∙◌, ⊎_elim, arith, ltb-true}
use Rattle.graph.specs.Finite.{if_less, if_equal, first}
use Rattle.graph.specs.Graph.{Graph, node, is_xor}
use Rattle.graph.proofs.Cases.{cond_le, eq_or_ne}
use Rattle.graph.proofs.Tests.{less, no_less, equal, on, is, both, passes}
use Rattle.graph.proofs.Answers.{if_less_le, if_equal_le, first_le}
use Rattle.moves.specs.Rows.{arity, kind_moves, lock_at, moves_at}
use Rattle.moves.specs.Call.{is_node, node_fault, move_fault, locked_fault, move_number}
use Rattle.moves.proofs.Moves.{kind_moves_lem, lock_of, moves_locked, moves_free}
use Rattle.moves.proofs.Readers.{both_true}

pub node_known : (g : Graph) (u : ℕ) → node_fault g u ≡ 0 → (g.I < u) × (u < node g g.N)
unfolding node_fault is_node
node_known g u e = let b = both_true (ltb g.I u) (ltb u (node g g.N)) (passes _ 6 e) in (ltb-true _ _ b.0, ltb-true _ _ b.1)

pub node_fault_le : (g : Graph) (u : ℕ) → node_fault g u ≤ 9
unfolding node_fault
node_fault_le g u = cond_le (is_node g u) 0 7 9 (omega arith) (omega arith)

-- a kind has two moves or four
pub some_moves : (x : Bool) (m : ℕ) → m < 2 → ◌≡◌ {A = ℕ} 0 (if_less m (arity x) 0 15)
unfolding arity
some_moves true m h = less m 4 0 15 (omega arith) refl
some_moves false m h = less m 2 0 15 h refl

pub no_moves : (x : Bool) (m : ℕ) → 4 ≤ m → ◌≡◌ {A = ℕ} 15 (if_less m (arity x) 0 15)
unfolding arity
no_moves true m h = no_less m 4 0 15 h refl
no_moves false m h = no_less m 2 0 15 (omega arith) refl

pub moves_of_kind : (x : Bool) (m : ℕ) → m < 4 → 2 ≤ m → (x ≡ true → ◌≡◌ {A = ℕ} 0 (if_less m (arity x) 0 15)) × (x ≡ false → ◌≡◌ {A = ℕ} 15 (if_less m (arity x) 0 15))
unfolding arity
moves_of_kind x m h l = ((λ e. rw e (less m 4 0 15 h refl)), (λ e. rw e (no_less m 2 0 15 l refl)))

module _ (g : Graph) (ls : List ℕ) where
  -- the tests of a move, by the kind and the lock byte that were read
  pub move_read : (v m x y k : ℕ) (b : Bool) → v < g.N → b ≡ is_xor g v → x ≡ if_less m (arity b) 0 15 → y ≡ if_equal (get_or ls v 0) 1 (if_equal m 0 0 16) 0 → k ≡ first x y
      → k ≡ move_number g ls (node g v) m
  unfolding move_number move_fault locked_fault
  move_read v m x y k b h f p q z = rw (kind_moves_lem g v, ← f, lock_of g ls v h, ← p, ← q) z

  module _ (u m : ℕ) where
    pub move_number_le : move_number g ls u m ≤ 16
    unfolding move_number move_fault locked_fault
    move_number_le = first_le _ _ 16 (if_less_le _ _ 0 15 16 (omega arith) (omega arith)) (if_equal_le _ 1 _ 0 16 (if_equal_le _ 0 0 16 16 (omega arith) (omega arith)) (omega arith))

    -- an accepted move is one that the kind has, and one that the node has
    pub kind_has : move_number g ls u m ≡ 0 → m < kind_moves g u
    unfolding move_number move_fault
    kind_has e = (on _ _ 14 0 (both _ _ e).0).0

    pub node_has : move_number g ls u m ≡ 0 → m < moves_at g ls u
    unfolding move_number locked_fault
    node_has e =
        ⊎_elim
        (λ (q : lock_at g ls u ≡ 1). omega (arith, moves_locked g ls u q, (is m 0 15 0 (equal _ 1 _ 0 q refl ∙ (both _ _ e).1)).0))
        (λ (n : lock_at g ls u ≢ 1). omega (arith, moves_free g ls u n, kind_has e))
        (eq_or_ne (lock_at g ls u) 1)
