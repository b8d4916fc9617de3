-- `fill_moves` meets its contract: the nodes of the tree passed are decided. From the laws on the pass.
use mathlib.Core.Path.{◌≡◌, refl, ◌∙◌}
use mathlib.Core.Bool.{true}
use mathlib.Core.List.{List}
use mathlib.Core.Logic.{◌≢◌}
use Prim.Native.Nat.{ℕ, suc, ◌≤◌, ◌<◌}
use Rattle.graph.specs.Graph.{Graph, mark, node, is_xor}
use Rattle.graph.specs.Turned.{turned_by}
use Rattle.choice.specs.Inner.{FirstBelow}
use Rattle.moves.specs.Rows.{moves_at}
use Rattle.moves.specs.Tree.{is_root, root_of}
use Rattle.moves.specs.Cost.{word_costs}
use Rattle.moves.specs.Decide.{cost_with}
use Rattle.state.specs.State.{field, stands, Ordered}
use Rattle.state.proofs.Alike.{alike_is_root}
use Rattle.state.proofs.Stands.{stands_alike}
use Rattle.trees.specs.Filling.{Stored}
use Rattle.trees.specs.Costing.{inner_at, cost_at, CostedBelow, CostsOnly}
use Rattle.trees.specs.Deciding.{odd_at, ReaderDecided, TreeDecided}
use Rattle.trees.proofs.Ready.{Ready, ordered_ready, ordered_costs}
use Rattle.trees.proofs.Falling.{bound_of}
use Rattle.trees.proofs.DecidePass.{MoveRight, moves_look, moves_all, move_right, reader_decided}
use Rattle.trees.proofs.Passes.{FallenFrom, fallen_begin, fallen_low, fallen_here, fallen_passed, fallen_step, fallen_all}
use native.Mathlib.Omega.{arith}
use Rattle.trees.proofs.deciding.fill_moves.Goals as goal
use Rattle.trees.proofs.deciding.fill_moves.Invariants.{Inv}

module _ (g : Graph) (ls sc₁ : List ℕ) (o : Ordered g sc₁) (r : ℕ) (h : r < g.N) (t : is_root g (node g r) ≡ true) where
  abbrev k : Graph
  k = stands g sc₁

  ready : Ready k sc₁
  ready = ordered_ready g sc₁ o

  root-now : is_root k (node k r) ≡ true
  unfolding stands turned_by
  root-now = alike_is_root g (stands g sc₁) (stands_alike g sc₁ o.admitted) (node g r) ∙ t

  within : r < k.N
  unfolding stands turned_by
  within = h

  begin : (v : ℕ) → v ≡ r → Inv g ls sc₁ r sc₁ v
  begin = fallen_begin k (MoveRight k ls r) sc₁ ready r within root-now

  module _ (cd : CostedBelow k ls sc₁ (node g r) r) (sc : List ℕ) (v : ℕ) (iv : Inv g ls sc₁ r sc v) (d : v ≢ mark) (w : ℕ) (e : w ≡ v) where
    low : w ≤ r
    low = fallen_low k (MoveRight k ls r) sc₁ ready r within root-now sc v iv d w e

    in_tree : root_of k (node k w) ≡ node k r
    in_tree = fallen_here k (MoveRight k ls r) sc₁ ready r within root-now sc v iv d w e

    passed : FallenFrom k (MoveRight k ls r) sc₁ r (suc w) sc
    passed = fallen_passed k (MoveRight k ls r) sc₁ ready r within root-now sc v iv d w e

    decided-above : ReaderDecided g sc w
    unfolding stands turned_by
    decided-above = reader_decided k ls sc₁ ready r within root-now g o refl cd w low in_tree sc passed

    again : (m x : ℕ) (sc' : List ℕ) → FirstBelow (cost_with (is_xor g w) (word_costs (stands g sc) (inner_at g.I sc) (cost_at g.I sc) w) (field sc w 0) (odd_at g sc w)) (moves_at g ls (node g w)) m
        → Stored w 4 m sc sc' → x ≡ field sc' w 5 → Inv g ls sc₁ r sc' x × (bound_of x < bound_of v)
    unfolding stands turned_by
    again m x sc' fb st =
        fallen_step k (MoveRight k ls r) sc₁ ready r within root-now sc v iv d w e (moves_look k ls sc₁ ready r within root-now) m sc' st
        (move_right k ls sc₁ ready r within root-now g o refl cd w low in_tree sc passed m g.I (is_xor g w) (moves_at g ls (node g w)) refl refl refl fb) x

  last : (sc : List ℕ) (v : ℕ) → Inv g ls sc₁ r sc v → v ≡ mark → TreeDecided k ls (node g r) sc × CostsOnly sc₁ sc
  unfolding stands turned_by
  last sc v iv e =
      let mf = fallen_all k (MoveRight k ls r) sc₁ ready r within root-now sc v iv e in
      (moves_all k ls sc₁ ready r within root-now sc mf, mf.only)

pub overflow_cast-v : goal.overflow_cast-v
overflow_cast-v c = omega (arith, c.requires.0.admitted.few_nodes, c.requires.1)

pub loop-v-init : goal.loop-v-init
loop-v-init c = let p = c.requires in begin _ _ _ p.0 _ p.1 p.2 _ refl

pub decide_at-m-requires : goal.decide_at-m-requires
decide_at-m-requires c =
    let p = c.requires in
    let iv = c.loop-v.invariant in
    (ordered_costs _ _ _ iv.from.only p.0, omega (arith, (iv.here (λ e. omega arith)).0, p.1), decided-above _ _ _ p.0 _ p.1 p.2 p.3 _ _ iv (λ e. omega arith) _ refl, p.4)

pub store-requires : goal.store-requires
store-requires c = omega (arith, (c.loop-v.invariant.here (λ e. omega arith)).0, c.loop-v.invariant.from.only.same, c.requires.1, c.requires.0.long, c.requires.0.admitted.few_nodes)

pub read-v-requires : goal.read-v-requires
read-v-requires c = omega (arith, (c.loop-v.invariant.here (λ e. omega arith)).0, c.loop-v.invariant.from.only.same, c.store.ensures.same, c.requires.1, c.requires.0.long, c.requires.0.admitted.few_nodes)

pub loop-v-smaller : goal.loop-v-smaller
loop-v-smaller c =
    let p = c.requires in
    (again _ _ _ p.0 _ p.1 p.2 p.3 _ _ c.loop-v.invariant (λ e. omega arith) _ refl _ _ _ c.decide_at-m.ensures c.store.ensures c.read-v.ensures).1

pub loop-v-preserved : goal.loop-v-preserved
loop-v-preserved c =
    let p = c.requires in
    (again _ _ _ p.0 _ p.1 p.2 p.3 _ _ c.loop-v.invariant (λ e. omega arith) _ refl _ _ _ c.decide_at-m.ensures c.store.ensures c.read-v.ensures).0

pub shape_of-scratch : goal.shape_of-scratch
shape_of-scratch c = c.loop-v.invariant.from.only.same

pub returns : goal.returns
returns c = let p = c.requires in last _ _ _ p.0 _ p.1 p.2 _ _ c.loop-v.invariant (omega arith)
