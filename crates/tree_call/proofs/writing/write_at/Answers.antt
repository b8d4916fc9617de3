-- `write_at` meets its contract. From how a place tells a root.
use mathlib.Core.Path.{◌≡◌}
use mathlib.Core.Bool.{Bool, true, false, cond}
use mathlib.Core.Logic.{◌≢◌}
use Prim.Native.Nat.{ℕ, ◌+◌}
use Rattle.graph.specs.Graph.{Graph, mark}
use Rattle.graph.specs.Literals.{graph_in}
use Rattle.moves.specs.Tree.{is_root, place}
use Rattle.tree_call.proofs.writing.write_at.Goals as goal
use Rattle.tree_call.proofs.writing.write_at.Goals.{Start}

abbrev graph : Start → Graph
graph s = let a = s.args in graph_in a.inputs a.nodes a.outputs a.node_table.now a.node_bits.now a.output_table.now a.output_bits.now

-- a place that is not the mark is that of the only reader

no-root : (b : Bool) (p q : ℕ) → p ≡ cond b mark q → p ≢ mark → (b ≡ false) × (p ≡ q)
no-root true p q e d = absurd (d e)
no-root false p q e d = (cc, e)

pub write_inner-requires : goal.write_inner-requires
write_inner-requires c =
    let g = graph (goal.at.write_inner-requires c).Start in
    let u : ℕ = c.args.inputs + 1 + c.args.v in
    let n = no-root (is_root g u) c.args.p (place g u) c.requires.3 c.if-p-eq-MARK.false in
    (c.requires.0, c.requires.1, c.requires.2, n.0, n.1)
