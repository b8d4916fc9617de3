-- `tried` meets its contract. From the laws on trials.
use mathlib.Core.Path.{◌≡◌, sym, ◌∙◌}
use Prim.Native.Nat.{ℕ, ◌≤◌, ◌<◌}
use native.Mathlib.Omega.{arith}
use Rattle.graph.specs.Graph.{Graph}
use Rattle.hidden.specs.Truth.{Triple, triple}
use Rattle.hidden.proofs.Bytes.{truth_le}
use Rattle.finder.proofs.Trials.{tried_leak, tried_other, tried_majority}
use Rattle.finder.proofs.trying.tried.Goals as goal
use Rattle.finder.proofs.trying.tried.Goals.{Start}
use Rattle.finder.specs.Nodes.{nodes_in}

abbrev graph : Start → Graph
graph s = nodes_in s.args.graph.now

abbrev three : Start → Triple
three s = triple s.args.one s.args.two s.args.three

byte : (f t : ℕ) → f ≡ t → t ≤ 256 → (f ≡ 256 → ⊥) → f < 256
byte f t e l n = omega arith

pub truth-byte-requires : goal.truth-byte-requires
truth-byte-requires c =
    let r = c.requires.4 in
    (c.requires.0, c.requires.1, c.requires.2, record { facts = c.requires.3; positive = r.positive; second = r.second; third = r.third }, r.below)

pub returns-then-byte-eq-LEAK : goal.returns-then-byte-eq-LEAK
returns-then-byte-eq-LEAK c =
    let t = c.truth-byte in
    tried_leak (graph (goal.at.returns-then-byte-eq-LEAK c).Start) (three (goal.at.returns-then-byte-eq-LEAK c).Start) c.args.v t.result c.args.scratch.now _ t.ensures.value t.ensures.framed t.ensures.facts c.if-byte-eq-LEAK.true

pub is_majority-requires : goal.is_majority-requires
is_majority-requires c =
    byte _ _ c.truth-byte.ensures.value (truth_le (graph (goal.at.is_majority-requires c).Start) (three (goal.at.is_majority-requires c).Start) _ (omega (arith, c.requires.2))) c.if-byte-eq-LEAK.false

pub overflow_cast-result : goal.overflow_cast-result
overflow_cast-result c =
    let l = byte _ _ c.truth-byte.ensures.value (truth_le (graph (goal.at.overflow_cast-result c).Start) (three (goal.at.overflow_cast-result c).Start) _ (omega (arith, c.requires.2))) c.if-byte-eq-LEAK.false in
    omega (arith, l)

pub returns-then-is_majority : goal.returns-then-is_majority
returns-then-is_majority c =
    let t = c.truth-byte in
    tried_majority (graph (goal.at.returns-then-is_majority c).Start) (three (goal.at.returns-then-is_majority c).Start) c.args.v t.result c.args.scratch.now _ t.ensures.value t.ensures.framed t.ensures.facts
    (byte _ _ t.ensures.value (truth_le (graph (goal.at.returns-then-is_majority c).Start) (three (goal.at.returns-then-is_majority c).Start) _ (omega (arith, c.requires.2))) c.if-byte-eq-LEAK.false)
    (sym c.is_majority.ensures ∙ c.if-is_majority.true)

pub returns : goal.returns
returns c =
    let t = c.truth-byte in
    tried_other (graph (goal.at.returns c).Start) (three (goal.at.returns c).Start) c.args.v t.result c.args.scratch.now _ t.ensures.value t.ensures.framed t.ensures.facts (sym c.is_majority.ensures ∙ c.if-is_majority.false)
