-- `edge_numbers` meets its contract: the word as the graph has it that the state stands for. From what an edge costs.
use mathlib.Core.Path.{◌≡◌, ◌∙◌}
use Prim.Native.Nat.{ℕ, ◌+◌, ◌-◌, ◌*◌, ◌/◌, ◌%◌, ◌≤◌}
use native.Mathlib.Omega.{arith}
use Rattle.graph.specs.Graph.{Graph, word}
use Rattle.graph.proofs.Literals.{names_index}
use Rattle.graph.proofs.Words.{edge_low}
use Rattle.trees.specs.Costing.{inner_at, cost_at}
use Rattle.trees.proofs.EdgeCosts.{edge_fits, edge_is}
use Rattle.trees.proofs.costs.edge_numbers.Goals as goal
use Rattle.trees.proofs.costs.edge_numbers.Goals.{After-index_at-u, Start}
use Rattle.graph.specs.Tables.{lent_graph}

abbrev graph-of : Start → Graph
graph-of s = lent_graph s.args.lent.now

zero-sum : (x : ℕ) → x ≤ 1 → (x + 0) % 2 ≡ x
zero-sum x h = omega arith

one-sum : (x : ℕ) → x ≤ 1 → (x + 1) % 2 ≡ 1 - x
one-sum x h = omega arith

names : (c : After-index_at-u) → c.index_at-u.result ≡ word (graph-of (goal.at.After-index_at-u c).Start) (3 * c.args.v + c.args.k) / 2
names c =
    names_index c.index_at-u.ensures (edge_low (graph-of (goal.at.After-index_at-u c).Start) c.requires.0.admitted (3 * c.args.v + c.args.k) (omega (arith, c.requires.1, c.requires.2)) c.requires.3)

pub overflow_mul-v : goal.overflow_mul-v
overflow_mul-v c = omega (arith, c.requires.0.admitted.few_nodes, c.requires.1)

pub overflow_add-v : goal.overflow_add-v
overflow_add-v c = omega (arith, c.requires.0.admitted.few_nodes, c.requires.1, c.requires.2)

pub index_at-u-requires : goal.index_at-u-requires
index_at-u-requires c = omega (arith, c.requires.0.admitted.held_nodes, c.requires.1, c.requires.2)

pub bit_now-b-requires : goal.bit_now-b-requires
bit_now-b-requires c = (c.requires.0, c.requires.1, c.requires.2)

pub edge_cost-requires : goal.edge_cost-requires
edge_cost-requires c =
    let o = c.requires.0 in
    let f = edge_fits (graph-of (goal.at.edge_cost-requires c).Start) c.args.scratch.now o (inner_at c.args.lent.now.inputs c.args.scratch.now) (cost_at c.args.lent.now.inputs c.args.scratch.now) c.args.v c.args.k c.requires.1 c.requires.2 c.requires.3 in
    (o.admitted.few_inputs, o.admitted.few_nodes, omega (arith, names (goal.at.edge_cost-requires c).After-index_at-u, f), o.long)

pub overflow_sub-b : goal.overflow_sub-b
overflow_sub-b c = omega (arith, c.bit_now-b.ensures.1)

pub edge_cost-requires-2 : goal.edge_cost-requires-2
edge_cost-requires-2 c =
    let o = c.requires.0 in
    let f = edge_fits (graph-of (goal.at.edge_cost-requires-2 c).Start) c.args.scratch.now o (inner_at c.args.lent.now.inputs c.args.scratch.now) (cost_at c.args.lent.now.inputs c.args.scratch.now) c.args.v c.args.k c.requires.1 c.requires.2 c.requires.3 in
    (o.admitted.few_inputs, o.admitted.few_nodes, omega (arith, names (goal.at.edge_cost-requires-2 c).After-index_at-u, f), o.long)

pub returns : goal.returns
returns c =
    let a = c.args in
    let d = c.bit_now-b in
    let z = d.ensures.0 c.requires.3 in
    let is = edge_is (graph-of (goal.at.returns c).Start) a.scratch.now c.requires.0 (inner_at a.lent.now.inputs a.scratch.now) (cost_at a.lent.now.inputs a.scratch.now) a.v a.k c.requires.1 c.requires.2 in
    let p = is c.index_at-u.result d.result 0 c.edge_cost.result c.requires.3 (names (goal.at.returns c).After-index_at-u) (omega (arith, z)) (c.edge_cost.ensures ∙ rw (zero-sum d.result d.ensures.1)) in
    let q = is c.index_at-u.result d.result 1 c.edge_cost-2.result c.requires.3 (names (goal.at.returns c).After-index_at-u) (omega (arith, z)) (c.edge_cost-2.ensures ∙ rw (one-sum d.result d.ensures.1)) in
    rw (p, q)
