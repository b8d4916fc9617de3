-- What a node costs in its tree, from six numbers of its words: a move's cost, the cost of the first least move, and that the
-- numbers are bits. From the rows and the readers of a root.
use Rattle.std.proofs.Common.{◌≡◌, ℕ, zero, suc, ◌+◌, ◌-◌, ◌*◌, ◌/◌, ◌%◌, ◌<◌, ◌≤◌, Bool, true, false, cond, List, get_or, sym, refl, ap, ◌∙◌, arith}
use mathlib.Core.Path.{fun_ext}
use Rattle.graph.specs.Finite.{if_equal}
use Rattle.graph.specs.Graph.{Graph, node, word, is_edge, is_xor}
use Rattle.graph.specs.Count.{readers}
use Rattle.choice.specs.Inner.{FirstBelow}
use Rattle.moves.specs.Rows.{flag, moves_at}
use Rattle.moves.specs.Cost.{edge_cost, turned_cost, word_costs, word_cost, own_cost, move_cost, node_cost, pick, root_cost, shown}
use Rattle.moves.specs.Decide.{cost_by, cost_with, Numbers}
use Rattle.graph.proofs.Cases.{cond_le}
use Rattle.moves.proofs.Flags.{flag_bit}
use Rattle.moves.proofs.Shown.{all_readers, one_reader}
use Rattle.moves.proofs.TreeBest.{least_moves}

module _ (g : Graph) (t : ℕ → Bool) (c : ℕ → ℕ → ℕ) (v : ℕ) where
  at_word : (f : ℕ) → f ≤ 1
      → (get_or (word_costs g t c v) f 0 ≡ turned_cost g t c v 0 f) × (get_or (word_costs g t c v) (2 + f) 0 ≡ turned_cost g t c v 1 f) × (get_or (word_costs g t c v) (4 + f) 0 ≡ turned_cost g t c v 2 f)
  unfolding word_costs
  at_word zero h = (refl, refl, refl)
  at_word (suc zero) h = (refl, refl, refl)
  at_word (suc (suc f)) h = absurd (omega arith)

  own_is : (r d m : ℕ) → cost_with (is_xor g v) (word_costs g t c v) r d m ≡ own_cost g t c v m + if_equal (flag (is_xor g v) m 3) 0 d (r - d)
  unfolding cost_with cost_by own_cost word_cost
  own_is r d m =
      let x : Bool = is_xor g v in
      rw ((at_word (flag x m 0) (flag_bit x m 0 (omega arith))).0, (at_word (flag x m 1) (flag_bit x m 1 (omega arith))).1, (at_word (flag x m 2) (flag_bit x m 2 (omega arith))).2)

  -- a non-root that is shown s has one reader, s of it complemented
  pub move_is : (s : ℕ) → s < 2 → cost_with (is_xor g v) (word_costs g t c v) 1 s ≡ move_cost g t c v s
  unfolding move_cost
  move_is s h = fun_ext (λ m. omega (arith, own_is 1 s m, one_reader (flag (is_xor g v) m 3) s (flag_bit (is_xor g v) m 3 (omega arith)) h))

  -- a root has its readers
  pub root_is : cost_with (is_xor g v) (word_costs g t c v) (readers g (node g v)) (shown g (node g v) 0) ≡ root_cost g t c v
  unfolding root_cost
  root_is = fun_ext (λ m. omega (arith, own_is (readers g (node g v)) (shown g (node g v) 0) m, all_readers g (node g v) (flag (is_xor g v) m 3) (flag_bit (is_xor g v) m 3 (omega arith))))

  -- what a move costs at either bit differs by 1 at most
  near : (m : ℕ) → (move_cost g t c v 0 m ≤ move_cost g t c v 1 m + 1) × (move_cost g t c v 1 m ≤ move_cost g t c v 0 m + 1)
  unfolding move_cost
  near m = omega arith

  -- with the locks ls
  module _ (ls : List ℕ) where
    -- the cost of a node is that of any first least move
    node_is : (s m : ℕ) → FirstBelow (move_cost g t c v s) (moves_at g ls (node g v)) m → node_cost g ls t c v s ≡ move_cost g t c v s m
    unfolding node_cost
    node_is s m h =
        let b = least_moves g ls (move_cost g t c v s) (node g v) in
        omega (arith, h.low _ b.below, b.low m h.below)

    pub node_found : (s m r : ℕ) → s < 2 → FirstBelow (cost_with (is_xor g v) (word_costs g t c v) 1 s) (moves_at g ls (node g v)) m → r ≡ cost_with (is_xor g v) (word_costs g t c v) 1 s m → r ≡ node_cost g ls t c v s
    node_found s m r h f e = e ∙ ap (λ k. k m) (move_is s h) ∙ sym (node_is s m (rw (move_is s h) at f))

    -- the two costs of a node differ by 1 at most
    pub nodes_near : (node_cost g ls t c v 0 ≤ node_cost g ls t c v 1 + 1) × (node_cost g ls t c v 1 ≤ node_cost g ls t c v 0 + 1)
    unfolding node_cost
    nodes_near =
        let a = least_moves g ls (move_cost g t c v 0) (node g v) in
        let b = least_moves g ls (move_cost g t c v 1) (node g v) in
        omega (arith, a.low _ b.below, b.low _ a.below, near (pick (move_cost g t c v 0) (moves_at g ls (node g v))), near (pick (move_cost g t c v 1) (moves_at g ls (node g v))))

-- where costs are bits, so are the numbers
module _ (g : Graph) (t : ℕ → Bool) (c : ℕ → ℕ → ℕ) (v : ℕ) (low : (u s : ℕ) → c u s ≤ 1) where
  edge_le : (u b : ℕ) → b ≤ 1 → edge_cost t c u b ≤ 1
  unfolding edge_cost
  edge_le u b l = cond_le (t u) (c u b) b 1 (low u b) l

  turned_le : (i f : ℕ) → turned_cost g t c v i f ≤ 1
  unfolding turned_cost
  turned_le i f = go (is_edge g (3 * v + i))
    where
      go : (x : Bool) → cond x (edge_cost t c (word g (3 * v + i) / 2) ((word g (3 * v + i) + f) % 2)) 0 ≤ 1
      go true = edge_le _ _ (omega arith)
      go false = omega arith

  costs_le : (i : ℕ) → get_or (word_costs g t c v) i 0 ≤ 1
  unfolding word_costs
  costs_le zero = turned_le 0 0
  costs_le (suc zero) = turned_le 0 1
  costs_le (suc (suc zero)) = turned_le 1 0
  costs_le (suc (suc (suc zero))) = turned_le 1 1
  costs_le (suc (suc (suc (suc zero)))) = turned_le 2 0
  costs_le (suc (suc (suc (suc (suc zero))))) = turned_le 2 1
  costs_le (suc (suc (suc (suc (suc (suc i)))))) = omega arith

  pub numbers_low : (z : List ℕ) (r d : ℕ) → z ≡ word_costs g t c v → d ≤ r → r ≤ 304096 → Numbers z r d
  numbers_low z r d e l f = record { bits = λ i. rw e (costs_le i); some = l; few = f }
