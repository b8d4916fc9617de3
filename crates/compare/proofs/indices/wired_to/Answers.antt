-- `wired_to` meets its contract: the node tables, then the output tables. From the law that index tables compared are wiring compared.
use mathlib.Core.Bool.{Bool}
use native.Mathlib.Omega.{arith}
use Prim.Native.Nat.{ℕ, ◌*◌}
use lib.Dec.{eqb}
use Rattle.graph.specs.Literals.{index_at}
use Rattle.graph.proofs.Literals.{held_literals}
use Rattle.compare.proofs.Passing.{passing_le}
use Rattle.compare.proofs.Wired.{wired_stops, wired_on}
use Rattle.compare.proofs.indices.wired_to.Goals as goal
use Rattle.compare.proofs.indices.wired_to.Goals.{Start}

abbrev nodes-alike : Start → ℕ → Bool
nodes-alike s j = eqb (index_at s.args.first.now.node_table.indices.now j) (index_at s.args.second.now.node_table.indices.now j)

abbrev outputs-alike : Start → ℕ → Bool
outputs-alike s j = eqb (index_at s.args.first.now.output_table.indices.now j) (index_at s.args.second.now.output_table.indices.now j)

pub overflow_mul-end : goal.overflow_mul-end
overflow_mul-end c = omega (arith, c.requires.0.few_nodes)

pub same_to-k-requires : goal.same_to-k-requires
same_to-k-requires c = let a = c.args in
    (omega (arith, c.requires.0.held_nodes, held_literals a.first.now.node_table.indices.now a.first.now.node_table.bits.now), omega (arith, c.requires.1.held_nodes, held_literals a.second.now.node_table.indices.now a.second.now.node_table.bits.now))

pub returns-then-k-end : goal.returns-then-k-end
returns-then-k-end c =
    let a = c.args in
    wired_stops a.first.now.inputs a.first.now.nodes a.first.now.outputs a.first.now.node_table.indices.now a.first.now.node_table.bits.now a.first.now.output_table.indices.now a.first.now.output_table.bits.now a.second.now.node_table.indices.now a.second.now.node_table.bits.now a.second.now.output_table.indices.now a.second.now.output_table.bits.now c.requires.0 c.requires.1 c.same_to-k.result c.same_to-k.ensures c.if-k-end.true

pub same_to-requires : goal.same_to-requires
same_to-requires c = let a = c.args in
    (omega (arith, c.requires.0.held_outputs, held_literals a.first.now.output_table.indices.now a.first.now.output_table.bits.now), omega (arith, c.requires.1.held_outputs, held_literals a.second.now.output_table.indices.now a.second.now.output_table.bits.now))

pub overflow_add-result : goal.overflow_add-result
overflow_add-result c = omega (arith, c.requires.0.few_nodes, c.requires.0.few_outputs, c.same_to.ensures, passing_le c.args.first.now.outputs (outputs-alike (goal.at.overflow_add-result c).Start))

pub returns : goal.returns
returns c =
    let a = c.args in
    wired_on a.first.now.inputs a.first.now.nodes a.first.now.outputs a.first.now.node_table.indices.now a.first.now.node_table.bits.now a.first.now.output_table.indices.now a.first.now.output_table.bits.now a.second.now.node_table.indices.now a.second.now.node_table.bits.now a.second.now.output_table.indices.now a.second.now.output_table.bits.now c.requires.0 c.requires.1 c.same_to-k.result c.same_to.result c.same_to-k.ensures
    (omega (arith, c.if-k-end.false, c.same_to-k.ensures, passing_le (3 * a.first.now.nodes) (nodes-alike (goal.at.returns c).Start))) c.same_to.ensures
