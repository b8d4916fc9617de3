-- `drop_unread` meets its contract: the definition's drop. From the laws on the drop.
use mathlib.Core.Path.{◌≡◌}
use mathlib.Core.List.{List}
use Prim.Native.Nat.{ℕ, ◌≤◌}
use native.Mathlib.Omega.{arith}
use Rattle.graph.specs.Graph.{Graph}
use Rattle.graph.specs.Literals.{literals, graph_in}
use Rattle.hidden.specs.Drop.{live}
use Rattle.hidden.proofs.Live.{live_closed}
use Rattle.finder.proofs.Drops.{moves_here_lem, node_holds, output_holds, outputs_cut, dropped_is, locks_are}
use Rattle.finder.proofs.dropping.drop_unread.Goals as goal
use Rattle.finder.proofs.dropping.drop_unread.Goals.{Start}

abbrev graph : Start → Graph
graph s =
    let a = s.args in
    graph_in a.inputs a.nodes a.outputs a.node_table.now a.node_bits.now a.output_table.now a.output_bits.now

long : (n l l₀ : ℕ) → n ≤ l₀ → l ≡ l₀ → n ≤ l
long n l l₀ h e = omega arith

pub cut-requires : goal.cut-requires
cut-requires c =
    let n = c.number-left in
    let g : Graph = graph (goal.at.cut-requires c).Start in
    let ls = c.args.locks.now in
    let k = long _ _ _ c.requires.2 n.auto.scratch in
    (c.requires.0.few_nodes, c.requires.1.enough, k, c.requires.0.held_nodes, node_holds g c.requires.0 (live g ls) (live_closed g ls c.requires.0) n.new.scratch n.ensures.2 k)

pub renumber_outputs-requires : goal.renumber_outputs-requires
renumber_outputs-requires c =
    let n = c.number-left in
    let g : Graph = graph (goal.at.renumber_outputs-requires c).Start in
    let ls = c.args.locks.now in
    let k = long _ _ _ c.requires.2 n.auto.scratch in
    (c.requires.0.held_outputs, output_holds g c.requires.0 (live g ls) (live_closed g ls c.requires.0) n.new.scratch n.ensures.2 k)

pub returns : goal.returns
returns c =
    let n = c.number-left in
    let a = c.args in
    let g : Graph = graph (goal.at.returns c).Start in
    let ls : List ℕ = a.locks.now in
    let d = live_closed g ls c.requires.0 in
    let m = moves_here_lem g c.requires.0 (live g ls) d _ n.ensures.2 in
    let r = c.cut.ensures a.outputs (literals a.output_table.now a.output_bits.now) (live g ls) m in
    (dropped_is g ls _ _ _ n.ensures.1 r.0 (outputs_cut g c.requires.0 (live g ls) d _ n.ensures.2 _ c.renumber_outputs.ensures), locks_are g ls _ r.1)
