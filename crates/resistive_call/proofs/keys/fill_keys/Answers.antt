-- `fill_keys` meets its contract: the nodes of the tree passed have their costs. From the laws on the pass.
use mathlib.Core.Path.{◌≡◌}
use mathlib.Core.Bool.{true}
use mathlib.Core.List.{List}
use mathlib.Core.Logic.{◌≢◌}
use Prim.Native.Nat.{ℕ, ◌<◌}
use Rattle.graph.specs.Graph.{Graph, node, is_xor}
use Rattle.moves.specs.Rows.{moves_at}
use Rattle.moves.specs.Tree.{is_root}
use Rattle.state.specs.State.{field, Ordered}
use Rattle.trees.specs.Filling.{Stored}
use Rattle.trees.proofs.Passes.{RisenTo, risen_begin}
use Rattle.trees.proofs.Ready.{ordered_itself, ordered_costs}
use Rattle.resistive_call.specs.Keys.{word_keys, key_by, KeyedBelow, CostsLow}
use Rattle.resistive_call.proofs.KeyPass.{KeyRight, keys_step, pass_low}
use native.Mathlib.Omega.{arith}
use Rattle.resistive_call.proofs.keys.fill_keys.Goals as goal

module _ (g : Graph) (ls sc₀ : List ℕ) (o : Ordered g sc₀) (r : ℕ) (h : r < g.N) (t : is_root g (node g r) ≡ true) where
  begin : (v : ℕ) → v ≡ field sc₀ r 7 → RisenTo g (KeyRight g ls) sc₀ sc₀ r v
  begin = risen_begin g (KeyRight g ls) sc₀ (ordered_itself g sc₀ o) r h t

  low : (sc : List ℕ) (v : ℕ) → RisenTo g (KeyRight g ls) sc₀ sc r v → v ≢ r → CostsLow g sc v v
  low = pass_low g ls sc₀ (ordered_itself g sc₀ o) r h t

  again : (sc : List ℕ) (v : ℕ) → RisenTo g (KeyRight g ls) sc₀ sc r v → v ≢ r → (sc' : List ℕ) (x : ℕ) → Stored v 4 x sc sc' → x ≡ key_by (is_xor g v) (moves_at g ls (node g v)) (word_keys g sc v 0 v)
      → (w : ℕ) → w ≡ field sc' v 6 → RisenTo g (KeyRight g ls) sc₀ sc' r w × (v < w)
  again = keys_step g ls sc₀ (ordered_itself g sc₀ o) r h t

  last : (sc : List ℕ) (v : ℕ) → RisenTo g (KeyRight g ls) sc₀ sc r v → v ≡ r → KeyedBelow g ls sc (node g r) r
  last sc v iv e w s l k t = iv.done w (rw e l) t s k

pub read-v-requires : goal.read-v-requires
read-v-requires c = omega (arith, c.requires.0.long, c.requires.0.admitted.few_nodes, c.requires.1)

pub loop-v-init : goal.loop-v-init
loop-v-init c = let p = c.requires in begin _ _ _ p.0 _ p.1 p.2 _ c.read-v.ensures

pub node_key-key-requires : goal.node_key-key-requires
node_key-key-requires c =
    let p = c.requires in
    let iv = c.loop-v.invariant in
    (ordered_costs _ _ _ iv.only p.0, omega (arith, iv.within, p.1), p.3, low _ _ _ p.0 _ p.1 p.2 _ _ iv (λ e. omega arith))

pub store-requires : goal.store-requires
store-requires c = omega (arith, c.loop-v.invariant.within, c.loop-v.invariant.only.same, c.requires.0.long, c.requires.0.admitted.few_nodes, c.requires.1)

pub read-v-requires-in-loop-v : goal.read-v-requires-in-loop-v
read-v-requires-in-loop-v c = omega (arith, c.loop-v.invariant.within, c.loop-v.invariant.only.same, c.requires.0.long, c.requires.0.admitted.few_nodes, c.requires.1)

pub loop-v-smaller : goal.loop-v-smaller
loop-v-smaller c =
    let p = c.requires in
    let a = again _ _ _ p.0 _ p.1 p.2 _ _ c.loop-v.invariant (λ e. omega arith) _ _ c.store.ensures c.node_key-key.ensures _ c.read-v-in-loop-v.ensures in
    omega (arith, a.1, c.loop-v.invariant.within)

pub loop-v-preserved : goal.loop-v-preserved
loop-v-preserved c =
    let p = c.requires in
    (again _ _ _ p.0 _ p.1 p.2 _ _ c.loop-v.invariant (λ e. omega arith) _ _ c.store.ensures c.node_key-key.ensures _ c.read-v-in-loop-v.ensures).0

pub shape_of-scratch : goal.shape_of-scratch
shape_of-scratch c = c.loop-v.invariant.only.same

pub returns : goal.returns
returns c = let p = c.requires in (last _ _ _ p.0 _ p.1 p.2 _ _ c.loop-v.invariant (omega arith), c.loop-v.invariant.only)
