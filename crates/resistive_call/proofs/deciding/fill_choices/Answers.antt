-- `fill_choices` meets its contract: the nodes of the tree passed are decided. From the laws on the pass.
use mathlib.Core.Path.{◌≡◌, refl}
use mathlib.Core.Bool.{true}
use mathlib.Core.List.{List}
use mathlib.Core.Logic.{◌≢◌}
use Prim.Native.Nat.{ℕ, suc, ◌≤◌, ◌<◌}
use Rattle.graph.specs.Graph.{Graph, mark, node, is_xor}
use Rattle.choice.specs.Inner.{FirstBelow}
use Rattle.moves.specs.Tree.{is_root, root_of}
use Rattle.state.specs.State.{field, Ordered}
use Rattle.trees.specs.Filling.{Stored}
use Rattle.trees.specs.Costing.{CostsOnly}
use Rattle.trees.specs.Deciding.{ReaderDecided}
use Rattle.trees.proofs.Ready.{Ready, ordered_itself, ordered_costs}
use Rattle.trees.proofs.Falling.{bound_of}
use Rattle.resistive_call.specs.Keys.{word_keys, score_by, beside_at, moves_here, KeyedBelow, FamiliesLow, StillDecided}
use Rattle.resistive_call.proofs.ChoicePass.{ChoiceRight, choices_look, choices_all, choice_right, reader_decided, families_low}
use Rattle.trees.proofs.Passes.{FallenFrom, fallen_begin, fallen_low, fallen_here, fallen_passed, fallen_step, fallen_all}
use native.Mathlib.Omega.{arith}
use Rattle.resistive_call.proofs.deciding.fill_choices.Goals as goal
use Rattle.resistive_call.proofs.deciding.fill_choices.Invariants.{Inv}

-- what is found at node w

abbrev Found : Graph → List ℕ → List ℕ → ℕ → ℕ → Type 0
Found g ls sc w m = FirstBelow (score_by (is_xor g w) (word_keys g sc w 0 w) (beside_at g sc w 0) (beside_at g sc w 1)) (moves_here g ls sc w) m

module _ (g : Graph) (ls sc₁ : List ℕ) (o : Ordered g sc₁) (r : ℕ) (h : r < g.N) (t : is_root g (node g r) ≡ true) where
  ready : Ready g sc₁
  ready = ordered_itself g sc₁ o

  begin : (v : ℕ) → v ≡ r → Inv g ls sc₁ r sc₁ v
  begin = fallen_begin g (ChoiceRight g ls r) sc₁ ready r h t

  module _ (kd : KeyedBelow g ls sc₁ (node g r) r) (sc : List ℕ) (v : ℕ) (iv : Inv g ls sc₁ r sc v) (d : v ≢ mark) (w : ℕ) (e : w ≡ v) where
    low : w ≤ r
    low = fallen_low g (ChoiceRight g ls r) sc₁ ready r h t sc v iv d w e

    in_tree : root_of g (node g w) ≡ node g r
    in_tree = fallen_here g (ChoiceRight g ls r) sc₁ ready r h t sc v iv d w e

    passed : FallenFrom g (ChoiceRight g ls r) sc₁ r (suc w) sc
    passed = fallen_passed g (ChoiceRight g ls r) sc₁ ready r h t sc v iv d w e

    decided-above : ReaderDecided g sc w
    decided-above = reader_decided g ls sc₁ ready r h t kd w low in_tree sc passed

    low-above : FamiliesLow g sc w
    low-above = families_low g ls sc₁ ready r h t kd w low in_tree sc passed

    again : (m x : ℕ) (sc' : List ℕ) → Found g ls sc w m → Stored w 4 m sc sc' → x ≡ field sc' w 5 → Inv g ls sc₁ r sc' x × (bound_of x < bound_of v)
    again m x sc' fb st =
        fallen_step g (ChoiceRight g ls r) sc₁ ready r h t sc v iv d w e (choices_look g ls sc₁ ready r h t) m sc' st (choice_right g ls sc₁ ready r h t kd w low in_tree sc passed m fb) x

  last : (sc : List ℕ) (v : ℕ) → Inv g ls sc₁ r sc v → v ≡ mark → StillDecided g ls (node g r) sc × CostsOnly sc₁ sc
  last sc v iv e =
      let mf = fallen_all g (ChoiceRight g ls r) sc₁ ready r h t sc v iv e in
      (choices_all g ls sc₁ ready r h t sc mf, mf.only)

pub overflow_cast-v : goal.overflow_cast-v
overflow_cast-v c = omega (arith, c.requires.0.admitted.few_nodes, c.requires.1)

pub loop-v-init : goal.loop-v-init
loop-v-init c = let p = c.requires in begin _ _ _ p.0 _ p.1 p.2 _ refl

pub decide_key-m-requires : goal.decide_key-m-requires
decide_key-m-requires c =
    let p = c.requires in
    let iv = c.loop-v.invariant in
    (ordered_costs _ _ _ iv.from.only p.0, omega (arith, (iv.here (λ e. omega arith)).0, p.1), decided-above _ _ _ p.0 _ p.1 p.2 p.3 _ _ iv (λ e. omega arith) _ refl, p.4, low-above _ _ _ p.0 _ p.1 p.2 p.3 _ _ iv (λ e. omega arith) _ refl)

pub store-requires : goal.store-requires
store-requires c = omega (arith, (c.loop-v.invariant.here (λ e. omega arith)).0, c.loop-v.invariant.from.only.same, c.requires.1, c.requires.0.long, c.requires.0.admitted.few_nodes)

pub read-v-requires : goal.read-v-requires
read-v-requires c = omega (arith, (c.loop-v.invariant.here (λ e. omega arith)).0, c.loop-v.invariant.from.only.same, c.store.ensures.same, c.requires.1, c.requires.0.long, c.requires.0.admitted.few_nodes)

pub loop-v-smaller : goal.loop-v-smaller
loop-v-smaller c =
    let p = c.requires in
    (again _ _ _ p.0 _ p.1 p.2 p.3 _ _ c.loop-v.invariant (λ e. omega arith) _ refl _ _ _ c.decide_key-m.ensures c.store.ensures c.read-v.ensures).1

pub loop-v-preserved : goal.loop-v-preserved
loop-v-preserved c =
    let p = c.requires in
    (again _ _ _ p.0 _ p.1 p.2 p.3 _ _ c.loop-v.invariant (λ e. omega arith) _ refl _ _ _ c.decide_key-m.ensures c.store.ensures c.read-v.ensures).0

pub shape_of-scratch : goal.shape_of-scratch
shape_of-scratch c = c.loop-v.invariant.from.only.same

pub returns : goal.returns
returns c = let p = c.requires in last _ _ _ p.0 _ p.1 p.2 _ _ c.loop-v.invariant (omega arith)
