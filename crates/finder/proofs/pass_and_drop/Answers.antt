-- `pass_and_drop` meets its contract: the pass with the outputs beside it, then the drop. From the laws on the whole finder.
use mathlib.Core.Path.{◌≡◌}
use Prim.Native.Nat.{ℕ, ◌*◌, ◌≤◌}
use native.Mathlib.Omega.{arith}
use Rattle.graph.specs.Graph.{Graph}
use Rattle.graph.specs.Literals.{graph_in}
use Rattle.evaluation.specs.Inner.{nodes_of}
use Rattle.majority_call.proofs.Whole.{bare_admitted}
use Rattle.finder.proofs.Beside.{with_outputs}
use Rattle.finder.proofs.Whole.{cleared_clean, passed_admitted}
use Rattle.finder.proofs.pass_and_drop.Goals as goal
use Rattle.finder.proofs.pass_and_drop.Goals.{Start}

abbrev graph : Start → Graph
graph s =
    let a = s.args in
    graph_in a.inputs a.nodes a.outputs a.node_table.now a.node_bits.now a.output_table.now a.output_bits.now

long : (n l l₀ : ℕ) → n ≤ l₀ → l ≡ l₀ → n ≤ l
long n l l₀ h e = omega arith

all : (n l l₁ l₀ : ℕ) → 8 * n ≤ l₀ → l ≡ l₁ → l₁ ≡ l₀ → n ≤ l
all n l l₁ l₀ h d e = omega arith

pub clear-requires : goal.clear-requires
clear-requires c = rw c.wide.ensures (c.requires.0.few_nodes, c.requires.2)

pub pass-requires : goal.pass-requires
pass-requires c =
    let k = c.clear in
    let a = c.args in (
      bare_admitted a.inputs a.nodes a.outputs (graph (goal.at.pass-requires c).Start).nodes (graph (goal.at.pass-requires c).Start).outputs c.requires.0,
      c.requires.1.enough,
      cleared_clean (nodes_of a.inputs a.nodes (graph (goal.at.pass-requires c).Start).nodes) _ _ c.wide.ensures (long _ _ _ c.requires.2 k.auto.scratch) k.ensures,
    )

pub drop_unread-requires : goal.drop_unread-requires
drop_unread-requires c =
    let p = c.pass in
    let a = c.args in
    let e = with_outputs a.inputs a.nodes a.outputs (graph (goal.at.drop_unread-requires c).Start).nodes _ (graph (goal.at.drop_unread-requires c).Start).outputs a.locks.now p.ensures in
    (passed_admitted (graph (goal.at.drop_unread-requires c).Start) _ a.locks.now c.requires.0 e, c.requires.1, all _ _ _ _ c.requires.2 p.auto.scratch c.clear.auto.scratch)

pub returns : goal.returns
returns c =
    let a = c.args in
    let e = with_outputs a.inputs a.nodes a.outputs (graph (goal.at.returns c).Start).nodes _ (graph (goal.at.returns c).Start).outputs a.locks.now c.pass.ensures in
    rw (← e) c.drop_unread.ensures
