-- `truth` meets its contract. The invariant: what scratch has is true, the last node valued has its value, and links lead from it up to the
-- node asked for. From the laws on the stack.
use mathlib.Core.Path.{◌≡◌, refl, sym, ◌∙◌}
use Prim.Native.Nat.{ℕ, ◌+◌, ◌*◌, ◌≤◌, ◌<◌}
use native.Mathlib.Omega.{arith}
use Rattle.graph.specs.Graph.{Graph}
use Rattle.evaluation.specs.Inner.{nodes_of}
use Rattle.hidden.specs.Truth.{Triple, triple}
use Rattle.majority_call.proofs.Stacked.{stack_le, asked_going, apart_above, waiting_at, rising_begin, rising_whole, rising_next, rising_less, truth_was, truth_now}
use Rattle.majority_call.proofs.valuing.truth.Goals as goal
use Rattle.majority_call.proofs.valuing.truth.Goals.{Start}
use Rattle.graph.specs.Tables.{lent_table}

abbrev graph : Start → Graph
graph s = nodes_of s.args.inputs s.args.nodes (lent_table s.args.node_table.now)

abbrev three : Start → Triple
three s = triple s.args.one s.args.two s.args.three

-- nodes up to z have their eight words

low : (x z n : ℕ) → x ≤ z → z < n → n ≤ 100000 → x < 100000
low x z n h k f = omega arith

long : (x z n l l₀ : ℕ) → x ≤ z → z < n → 8 * n ≤ l₀ → l ≡ l₀ → 8 * x + 8 ≤ l
long x z n l l₀ h k f e = omega arith

fits : (x f z n l l₀ : ℕ) → f < 8 → x ≤ z → z < n → 8 * n ≤ l₀ → l ≡ l₀ → 8 * x + f < l
fits x f z n l l₀ g h k s e = omega arith

self : (x : ℕ) → x ≤ x
self x = omega arith

pub is_valued-requires : goal.is_valued-requires
is_valued-requires c =
    (low _ _ _ (self c.args.u) c.requires.2 c.requires.0.few_nodes, long _ _ _ _ _ (self c.args.u) c.requires.2 c.requires.1 refl)

pub read-requires : goal.read-requires
read-requires c =
    (low _ _ _ (self c.args.u) c.requires.2 c.requires.0.few_nodes, omega arith, fits _ 5 _ _ _ _ (omega arith) (self c.args.u) c.requires.2 c.requires.1 refl)

pub shape_of-scratch-then-is_valued : goal.shape_of-scratch-then-is_valued
shape_of-scratch-then-is_valued c = refl

pub returns-then-is_valued : goal.returns-then-is_valued
returns-then-is_valued c =
    let a = c.args in
    truth_was (graph (goal.at.returns-then-is_valued c).Start) (three (goal.at.returns-then-is_valued c).Start) a.u c.read.result a.scratch.now
    c.requires.3.facts c.requires.2 c.requires.3.positive (sym c.if-is_valued.true ∙ c.is_valued.ensures) c.read.ensures

pub value_one-v-requires : goal.value_one-v-requires
value_one-v-requires c =
    let a = c.args in
    (c.requires.0, c.requires.1, c.requires.2, c.requires.3, apart_above (three (goal.at.value_one-v-requires c).Start) _ c.requires.3.second c.requires.3.third c.requires.4, sym c.is_valued.ensures ∙ c.if-is_valued.false)

pub loop-v-init : goal.loop-v-init
loop-v-init c =
    let a = c.args in
    rising_begin (graph (goal.at.loop-v-init c).Start) (three (goal.at.loop-v-init c).Start) a.u c.value_one-v.result a.scratch.now _ c.value_one-v.ensures

pub read-requires-in-loop-v : goal.read-requires-in-loop-v
read-requires-in-loop-v c =
    let a = c.args in
    let h = stack_le a.inputs c.loop-v.scratch (three (goal.at.read-requires-in-loop-v c).Start) a.u c.loop-v.v c.loop-v.invariant.stack in
    (low _ _ _ h c.requires.2 c.requires.0.few_nodes, omega arith, fits _ 1 _ _ _ _ (omega arith) h c.requires.2 c.requires.1 (c.loop-v.invariant.framed.same ∙ c.value_one-v.ensures.framed.same))

pub value_one-v-requires-in-loop-v : goal.value_one-v-requires-in-loop-v
value_one-v-requires-in-loop-v c =
    let a = c.args in
    let p = waiting_at (graph (goal.at.value_one-v-requires-in-loop-v c).Start) (three (goal.at.value_one-v-requires-in-loop-v c).Start) a.u c.loop-v.v _ c.wide-p.result _ c.loop-v.scratch c.loop-v.invariant c.loop-v-test.true c.read-in-loop-v.ensures c.wide-p.ensures in
    let h = stack_le a.inputs c.loop-v.scratch (three (goal.at.value_one-v-requires-in-loop-v c).Start) a.u c.wide-p.result p.stack in
    (c.requires.0, room _ _ _ c.requires.1 (c.loop-v.invariant.framed.same ∙ c.value_one-v.ensures.framed.same), within _ _ _ h c.requires.2, asked_going (graph (goal.at.value_one-v-requires-in-loop-v c).Start) (three (goal.at.value_one-v-requires-in-loop-v c).Start) a.scratch.now c.loop-v.scratch c.requires.3 c.loop-v.invariant.facts, p.apart, p.free)
  where
    room : (n l l₀ : ℕ) → 8 * n ≤ l₀ → l ≡ l₀ → 8 * n ≤ l
    room n l l₀ h e = omega arith

    within : (x z n : ℕ) → x ≤ z → z < n → x < n
    within x z n h k = omega arith

pub loop-v-smaller : goal.loop-v-smaller
loop-v-smaller c =
    let a = c.args in
    let p = waiting_at (graph (goal.at.loop-v-smaller c).Start) (three (goal.at.loop-v-smaller c).Start) a.u c.loop-v.v _ c.wide-p.result _ c.loop-v.scratch c.loop-v.invariant c.loop-v-test.true c.read-in-loop-v.ensures c.wide-p.ensures in
    rising_less (graph (goal.at.loop-v-smaller c).Start) (three (goal.at.loop-v-smaller c).Start) a.u c.wide-p.result c.value_one-v-in-loop-v.result c.loop-v.scratch _ p.stack c.value_one-v-in-loop-v.ensures

pub loop-v-preserved : goal.loop-v-preserved
loop-v-preserved c =
    let a = c.args in
    let p = waiting_at (graph (goal.at.loop-v-preserved c).Start) (three (goal.at.loop-v-preserved c).Start) a.u c.loop-v.v _ c.wide-p.result _ c.loop-v.scratch c.loop-v.invariant c.loop-v-test.true c.read-in-loop-v.ensures c.wide-p.ensures in
    rising_next (graph (goal.at.loop-v-preserved c).Start) (three (goal.at.loop-v-preserved c).Start) a.u c.loop-v.v c.wide-p.result c.value_one-v-in-loop-v.result _ c.loop-v.scratch _ c.loop-v.invariant p.stack c.value_one-v-in-loop-v.ensures

pub read-requires-2 : goal.read-requires-2
read-requires-2 c =
    (low _ _ _ (self c.args.u) c.requires.2 c.requires.0.few_nodes, omega arith, fits _ 5 _ _ _ _ (omega arith) (self c.args.u) c.requires.2 c.requires.1 (c.loop-v.invariant.framed.same ∙ c.value_one-v.ensures.framed.same))

pub shape_of-scratch : goal.shape_of-scratch
shape_of-scratch c = c.loop-v.invariant.framed.same ∙ c.value_one-v.ensures.framed.same

pub returns : goal.returns
returns c =
    let a = c.args in
    truth_now (graph (goal.at.returns c).Start) (three (goal.at.returns c).Start) a.u c.loop-v.v c.read-2.result a.scratch.now c.loop-v.scratch
    (rising_whole (graph (goal.at.returns c).Start) (three (goal.at.returns c).Start) a.u c.loop-v.v _ a.scratch.now _ c.loop-v.scratch c.value_one-v.ensures c.loop-v.invariant) c.loop-v-test.false c.requires.2 c.requires.3.positive c.read-2.ensures
