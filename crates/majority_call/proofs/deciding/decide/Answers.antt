-- `decide` meets its contract: the three answers. From the laws on what the call comes to.
use mathlib.Core.Path.{◌≡◌, sym, ap, ◌∙◌}
use mathlib.Core.List.{[], ◌∷◌}
use mathlib.Core.Logic.{◌≢◌}
use Prim.Native.Nat.{ℕ, ◌+◌, ◌-◌, ◌*◌, ◌≤◌, ◌<◌}
use native.Mathlib.Omega.{arith}
use Rattle.graph.specs.Graph.{Graph, node}
use Rattle.graph.specs.Answer.{accepted, outcome}
use Rattle.graph.specs.Literals.{literals}
use Rattle.evaluation.specs.Inner.{nodes_of}
use Rattle.hidden.specs.Truth.{Triple, triple, leak, truth}
use Rattle.hidden.proofs.Bytes.{truth_le}
use Rattle.majority_call.proofs.Decided.{asked, decided_leak, decided_other, decided_made, made_table}
use Rattle.majority_call.proofs.deciding.decide.Goals as goal
use Rattle.majority_call.proofs.deciding.decide.Goals.{After-truth-byte, After-wide-v, Start}

abbrev graph : Start → Graph
graph s = nodes_of s.args.inputs s.args.nodes (literals s.args.node_table.now s.args.node_bits.now)

abbrev three : Start → Triple
three s = triple s.args.one s.args.two s.args.three

-- the node's number

place : (i n u v : ℕ) → i < u → u < i + 1 + n → v ≡ u - i - 1 → (v < n) × (i + 1 + v ≡ u)
place i n u v h k e = (omega arith, omega arith)

placed : (w : After-wide-v) → (w.wide-v.result < w.args.nodes) × (node (graph (goal.at.After-wide-v w).Start) w.wide-v.result ≡ w.args.node)
placed w = place w.args.inputs w.args.nodes w.args.node w.wide-v.result w.requires.1 w.requires.2 w.wide-v.ensures

-- its truth value

value : (t : After-truth-byte) → t.truth-byte.result ≡ truth (graph (goal.at.After-truth-byte t).Start) (three (goal.at.After-truth-byte t).Start) t.args.node
value t = t.truth-byte.ensures.value ∙ ap (truth (graph (goal.at.After-truth-byte t).Start) (three (goal.at.After-truth-byte t).Start)) (placed (goal.at.After-truth-byte t).After-wide-v).1

byte : (t : After-truth-byte) → t.truth-byte.result ≢ leak → t.truth-byte.result < 256
byte t n = below _ _ (value t) (truth_le (graph (goal.at.After-truth-byte t).Start) (three (goal.at.After-truth-byte t).Start) t.args.node t.requires.2) n
  where
    below : (f x : ℕ) → f ≡ x → x ≤ 256 → f ≢ 256 → f < 256
    below f x e l n = omega arith

pub truth-byte-requires : goal.truth-byte-requires
truth-byte-requires c =
    let p = placed (goal.at.truth-byte-requires c).After-wide-v in
    (c.requires.0, long c.args.nodes c.wide.result _ _ c.wide.ensures c.requires.4 c.clear.auto.scratch, p.0, asked (graph (goal.at.truth-byte-requires c).Start) _ c.wide.result c.args.node (three (goal.at.truth-byte-requires c).Start) c.wide.ensures c.clear.ensures c.requires.3, rw p.1 c.requires.3.below)
  where
    long : (n k l l₀ : ℕ) → k ≡ n → 8 * n ≤ l₀ → l ≡ l₀ → 8 * n ≤ l
    long n k l l₀ e h q = omega arith

pub returns-then-byte-eq-LEAK : goal.returns-then-byte-eq-LEAK
returns-then-byte-eq-LEAK c =
    decided_leak (graph (goal.at.returns-then-byte-eq-LEAK c).Start) (three (goal.at.returns-then-byte-eq-LEAK c).Start) c.args.node c.truth-byte.result (value (goal.at.returns-then-byte-eq-LEAK c).After-truth-byte) c.if-byte-eq-LEAK.true

pub is_majority-requires : goal.is_majority-requires
is_majority-requires c = byte (goal.at.is_majority-requires c).After-truth-byte c.if-byte-eq-LEAK.false

pub complements_of-c-requires : goal.complements_of-c-requires
complements_of-c-requires c = (byte (goal.at.complements_of-c-requires c).After-truth-byte c.if-byte-eq-LEAK.false, sym c.is_majority.ensures ∙ c.if-is_majority.true)

pub make-requires : goal.make-requires
make-requires c =
    let r = c.requires.3 in
    room c.args.inputs c.args.nodes c.args.node c.wide-v.result c.args.one c.args.two c.args.three _ _ (placed (goal.at.make-requires c).After-wide-v).0 c.requires.2 c.requires.0.few_inputs c.requires.0.few_nodes c.requires.0.held_nodes r.second r.third r.below c.complements_of-c.ensures.1
  where
    room : (i n u v x y z c l : ℕ) → v < n → u < i + 1 + n → i ≤ 4096 → n ≤ 100000 → 3 * n ≤ l → x < y → y < z → z < u → c < 8
        → (v < 100000) × (3 * v + 3 ≤ l) × (x < 200000) × (y < 200000) × (z < 200000) × (c < 8)
    room i n u v x y z c l h k f m r p q e d = (omega arith, omega arith, omega arith, omega arith, omega arith, d)

pub returns-then-is_majority : goal.returns-then-is_majority
returns-then-is_majority c =
    let q = made_table c.args.inputs c.args.nodes (graph (goal.at.returns-then-is_majority c).Start).nodes _ (three (goal.at.returns-then-is_majority c).Start) c.args.node c.wide-v.result c.truth-byte.result c.complements_of-c.result c.wide-v.ensures (value (goal.at.returns-then-is_majority c).After-truth-byte) c.complements_of-c.ensures.0 c.make.ensures in
    ap (outcome (accepted (0 ∷ []))) q ∙ decided_made (graph (goal.at.returns-then-is_majority c).Start) (three (goal.at.returns-then-is_majority c).Start) c.args.node c.truth-byte.result (value (goal.at.returns-then-is_majority c).After-truth-byte) c.if-byte-eq-LEAK.false (sym c.is_majority.ensures ∙ c.if-is_majority.true)

pub returns : goal.returns
returns c =
    decided_other (graph (goal.at.returns c).Start) (three (goal.at.returns c).Start) c.args.node c.truth-byte.result (value (goal.at.returns c).After-truth-byte) c.if-byte-eq-LEAK.false (sym c.is_majority.ensures ∙ c.if-is_majority.false)
