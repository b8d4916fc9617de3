-- What a node is shown once the nodes above it are decided, and the numbers that it is decided by. From the laws on a node's
-- numbers and on places.
use mathlib.Core.Path.{◌≡◌, refl, sym, ◌∙◌}
use mathlib.Core.Bool.{Bool, true, false}
use mathlib.Core.List.{List}
use mathlib.Core.Logic.{⊎_elim, ◌≢◌}
use Prim.Native.Nat.{ℕ, ◌+◌, ◌*◌, ◌/◌, ◌%◌, ◌≤◌, ◌<◌}
use native.Mathlib.Omega.{arith}
use borrow.Author.Tests.{eqb-true, not-false}
use lib.Dec.{eqb}
use Rattle.graph.specs.Graph.{Graph, mark, node, word, is_edge, is_xor}
use Rattle.graph.specs.Count.{node_readers, readers}
use Rattle.graph.proofs.Cases.{eq_or_ne}
use Rattle.graph.proofs.Tests.{equal, unequal}
use Rattle.moves.specs.Rows.{arity, flag, kind_moves}
use Rattle.moves.specs.Tree.{is_root, place}
use Rattle.moves.specs.Cost.{word_costs}
use Rattle.moves.specs.Decide.{Numbers}
use Rattle.moves.proofs.Moves.{node_row}
use Rattle.moves.proofs.NodeCosts.{numbers_low}
use Rattle.moves.proofs.Readers.{both_true, names, single}
use Rattle.state.specs.State.{field, stands, Ordered}
use Rattle.trees.specs.Costing.{inner_at, cost_at}
use Rattle.trees.specs.Deciding.{shows_at, odd_at, ReaderDecided}
use Rattle.trees.proofs.EdgeCosts.{costs_low, numbers_now}
use Rattle.trees.proofs.LinkSteps.{placed_other, other_if}

pub one_reader : (h : Graph) (u : ℕ) → is_root h u ≡ false → readers h u ≡ 1
unfolding is_root
one_reader h u e = eqb-true (readers h u) 1 (both_true (eqb (readers h u) 1) (eqb (node_readers h u) 1) (not-false _ e)).0

pub fits_kind : (g : Graph) (v : ℕ) (x : Bool) (m k : ℕ) → x ≡ is_xor g v → m ≡ k → k < kind_moves g (node g v) → m < arity x
fits_kind g v x m k p q l = rw (p, q) (node_row g v k l)

module _ (g : Graph) (sc : List ℕ) where
  pub shown_is : (p x f m : ℕ) (b : Bool) → x ≡ word (stands g sc) p % 2 → b ≡ is_xor g (p / 3) → m ≡ field sc (p / 3) 4 → f ≡ flag b m (p % 3) → (x + f) % 2 ≡ shows_at g sc p
  unfolding shows_at
  shown_is p x f m b ex eb em ef = rw (← eb, ← em, ← ef) (omega arith)

  pub odd_mark_lem : (v p r : ℕ) → p ≡ field sc v 3 → p ≡ mark → r ≡ field sc v 1 → r ≡ odd_at g sc v
  unfolding odd_at
  odd_mark_lem v p r e m q = equal (field sc v 3) mark (field sc v 1) (shows_at g sc (field sc v 3)) (sym e ∙ m) q

  pub odd_place : (v p r : ℕ) → p ≡ field sc v 3 → p ≢ mark → r ≡ shows_at g sc p → r ≡ odd_at g sc v
  unfolding odd_at
  odd_place v p r e m q = unequal (field sc v 3) mark (field sc v 1) (shows_at g sc (field sc v 3)) (λ z. m (e ∙ z)) (rw (← e) q)

  shows_at_bit : (p : ℕ) → shows_at g sc p ≤ 1
  unfolding shows_at
  shows_at_bit p = omega arith

  module _ (o : Ordered g sc) (v : ℕ) (l : v < g.N) where
    -- where a node's only reading word stands
    pub place_fits : (p : ℕ) → p ≡ field sc v 3 → p ≢ mark → ReaderDecided g sc v → (p < 3 * g.N) × (is_edge g p ≡ true) × (field sc (p / 3) 4 < kind_moves g (node g (p / 3)))
    place_fits p e d rd =
        let d' : field sc v 3 ≢ mark = λ z. d (e ∙ z) in
        let s = other_if g o.admitted sc o.placed v l d' in
        let q : p ≡ place g (node g v) = e ∙ placed_other g o.admitted sc o.placed v l s in
        (omega (arith, q, (single g (node g v) s).at.below), rw q (names g (node g v) (place g (node g v)) (single g (node g v) s).at.passes).0, rw e (rd d'))

    pub numbers_decided : (z : List ℕ) (a b : ℕ) → z ≡ word_costs (stands g sc) (inner_at g.I sc) (cost_at g.I sc) v → a ≡ field sc v 0 → b ≡ odd_at g sc v → Numbers z a b
    unfolding odd_at
    numbers_decided z a b e ea eb =
        ⊎_elim
        (λ (m : field sc v 3 ≡ mark).
        numbers_now g sc o v l z a b e ea (eb ∙ sym (equal (field sc v 3) mark (field sc v 1) (shows_at g sc (field sc v 3)) m refl)))
        (λ (m : field sc v 3 ≢ mark).
        let s = other_if g o.admitted sc o.placed v l m in
        let q : b ≡ shows_at g sc (field sc v 3) = eb ∙ sym (unequal (field sc v 3) mark (field sc v 1) (shows_at g sc (field sc v 3)) m refl) in
        let n : a ≡ 1 = ea ∙ o.reads v l ∙ one_reader g (node g v) s in
        numbers_low (stands g sc) (inner_at g.I sc) (cost_at g.I sc) v (costs_low g.I sc) z a b e (omega (arith, shows_at_bit (field sc v 3))) (omega arith))
        (eq_or_ne (field sc v 3) mark)
