-- `value_one` meets its contract. The invariant: links lead up from the node reached, which has been looked at. From the laws on the stack.
use mathlib.Core.Path.{◌≡◌, ◌∙◌}
use Prim.Native.Nat.{ℕ, ◌+◌, ◌-◌, ◌*◌, ◌≤◌, ◌<◌}
use native.Mathlib.Omega.{arith}
use Rattle.graph.specs.Graph.{Graph}
use Rattle.evaluation.specs.Inner.{nodes_of}
use Rattle.hidden.specs.Truth.{Triple, triple}
use Rattle.majority_call.proofs.Stacked.{lower, asked_going, going_first, linked_down, valued_now}
use Rattle.majority_call.proofs.valuing.value_one.Goals as goal
use Rattle.majority_call.proofs.valuing.value_one.Goals.{Start}
use Rattle.graph.specs.Tables.{lent_table}

abbrev graph : Start → Graph
graph s = nodes_of s.args.inputs s.args.nodes (lent_table s.args.node_table.now)

abbrev three : Start → Triple
three s = triple s.args.one s.args.two s.args.three

pub look-seen-requires : goal.look-seen-requires
look-seen-requires c =
    (c.requires.0, c.requires.1, c.requires.2, c.requires.3, c.requires.4)

pub loop-seen-init : goal.loop-seen-init
loop-seen-init c =
    let a = c.args in
    going_first (graph (goal.at.loop-seen-init c).Start) (three (goal.at.loop-seen-init c).Start) a.start a.scratch.now c.look-seen.result c.requires.3.facts c.requires.5 c.requires.4 c.look-seen.ensures

pub overflow_sub-next-in-loop-seen : goal.overflow_sub-next-in-loop-seen
overflow_sub-next-in-loop-seen c = let l = c.loop-seen in omega (arith, (l.invariant.looked.next c.loop-seen-test.true).0)

pub overflow_sub-next-in-loop-seen-2 : goal.overflow_sub-next-in-loop-seen-2
overflow_sub-next-in-loop-seen-2 c = let l = c.loop-seen in omega (arith, (l.invariant.looked.next c.loop-seen-test.true).0)

pub overflow_cast-next : goal.overflow_cast-next
overflow_cast-next c =
    record { fits = small _ _ _ _ (c.loop-seen.invariant.looked.next c.loop-seen-test.true).1 c.loop-seen.invariant.down.within c.requires.2 c.requires.0.few_nodes }
  where
    small : (x i v z : ℕ) {n : ℕ} → x < i + 513 + v → v ≤ z → z < n → n ≤ 100000 → x - 512 - i - 1 < 18446744073709551616
    small x i v z a b d e = omega arith

pub narrow-requires : goal.narrow-requires
narrow-requires c =
    omega (arith, c.loop-seen.invariant.down.within, c.requires.2, c.requires.0.few_nodes)

pub store-requires : goal.store-requires
store-requires c =
    let a = c.args in
    let w = lower (graph (goal.at.store-requires c).Start) (three (goal.at.store-requires c).Start) a.start c.loop-seen.v a.scratch.now c.loop-seen.scratch c.loop-seen.seen c.loop-seen.invariant c.loop-seen-test.true in
    let b = w.below in
    let e = c.loop-seen.invariant.down.within in
    let f = c.loop-seen.invariant.down.framed.same in
    (fits-1 _ _ _ _ b e c.requires.2 c.requires.0.few_nodes, omega arith, fits-2 _ _ _ _ _ _ b e c.requires.2 c.requires.1 f)
  where
    fits-1 : (x v z n : ℕ) → x < v → v ≤ z → z < n → n ≤ 100000 → x < 100000
    fits-1 x v z n b e h k = omega arith

    fits-2 : (x v z n l l₀ : ℕ) → x < v → v ≤ z → z < n → 8 * n ≤ l₀ → l ≡ l₀ → 8 * x + 1 < l
    fits-2 x v z n l l₀ b e h k q = omega arith

pub look-seen-requires-in-loop-seen : goal.look-seen-requires-in-loop-seen
look-seen-requires-in-loop-seen c =
    let a = c.args in
    let w = lower (graph (goal.at.look-seen-requires-in-loop-seen c).Start) (three (goal.at.look-seen-requires-in-loop-seen c).Start) a.start c.loop-seen.v a.scratch.now c.loop-seen.scratch c.loop-seen.seen c.loop-seen.invariant c.loop-seen-test.true in
    let d = linked_down (graph (goal.at.look-seen-requires-in-loop-seen c).Start) (three (goal.at.look-seen-requires-in-loop-seen c).Start) a.start c.loop-seen.v _ _ a.scratch.now c.loop-seen.scratch _ c.loop-seen.seen c.loop-seen.invariant w c.narrow.ensures c.store.ensures c.requires.3.facts in
    (c.requires.0, long _ _ _ c.requires.1 d.0.framed.same, within _ _ _ d.0.within c.requires.2, asked_going (graph (goal.at.look-seen-requires-in-loop-seen c).Start) (three (goal.at.look-seen-requires-in-loop-seen c).Start) a.scratch.now _ c.requires.3 d.1, w.apart)
  where
    long : (n l l₀ : ℕ) → 8 * n ≤ l₀ → l ≡ l₀ → 8 * n ≤ l
    long n l l₀ h e = omega arith

    within : (x z n : ℕ) → x ≤ z → z < n → x < n
    within x z n h k = omega arith

pub loop-seen-smaller : goal.loop-seen-smaller
loop-seen-smaller c =
    let a = c.args in
    (lower (graph (goal.at.loop-seen-smaller c).Start) (three (goal.at.loop-seen-smaller c).Start) a.start c.loop-seen.v a.scratch.now c.loop-seen.scratch c.loop-seen.seen c.loop-seen.invariant c.loop-seen-test.true).below

pub loop-seen-preserved : goal.loop-seen-preserved
loop-seen-preserved c =
    let a = c.args in
    let w = lower (graph (goal.at.loop-seen-preserved c).Start) (three (goal.at.loop-seen-preserved c).Start) a.start c.loop-seen.v a.scratch.now c.loop-seen.scratch c.loop-seen.seen c.loop-seen.invariant c.loop-seen-test.true in
    let d = linked_down (graph (goal.at.loop-seen-preserved c).Start) (three (goal.at.loop-seen-preserved c).Start) a.start c.loop-seen.v _ _ a.scratch.now c.loop-seen.scratch _ c.loop-seen.seen c.loop-seen.invariant w c.narrow.ensures c.store.ensures c.requires.3.facts in
    record { down = d.0; facts = d.1; looked = c.look-seen-in-loop-seen.ensures }

pub keep-requires : goal.keep-requires
keep-requires c =
    (within _ _ _ c.loop-seen.invariant.down.within c.requires.2 c.requires.0.few_nodes, long _ _ _ _ _ c.loop-seen.invariant.down.within c.requires.2 c.requires.1 c.loop-seen.invariant.down.framed.same)
  where
    within : (x z n : ℕ) → x ≤ z → z < n → n ≤ 100000 → x < 100000
    within x z n h k f = omega arith

    long : (x z n l l₀ : ℕ) → x ≤ z → z < n → 8 * n ≤ l₀ → l ≡ l₀ → 8 * x + 8 ≤ l
    long x z n l l₀ h k f e = omega arith

pub shape_of-scratch : goal.shape_of-scratch
shape_of-scratch c =
    c.keep.ensures.same ∙ c.loop-seen.invariant.down.framed.same

pub returns : goal.returns
returns c =
    let a = c.args in
    valued_now (graph (goal.at.returns c).Start) (three (goal.at.returns c).Start) a.start c.loop-seen.v c.loop-seen.seen a.scratch.now c.loop-seen.scratch _ c.loop-seen.invariant.down c.loop-seen.invariant.facts (c.loop-seen.invariant.looked.value (omega (arith, c.loop-seen-test.false))) c.keep.ensures
