-- `pass` meets its contract: the table is that of the nodes passed. From the laws on one node.
use mathlib.Core.Path.{◌≡◌}
use Prim.Native.Nat.{◌≤◌}
use lib.ListN.{length}
use Rattle.graph.specs.Literals.{literals}
use Rattle.evaluation.specs.Inner.{nodes_of}
use Rattle.hidden.specs.Find.{passed}
use Rattle.finder.specs.Passing.{Clean}
use Rattle.finder.specs.Signs.{Signed}
use Rattle.finder.proofs.Rooms.{SameRoom}
use Rattle.finder.proofs.passing.pass.Given as goal

abbrev pub invariant-loop-v : goal.invariant-loop-v
invariant-loop-v l =
    let g = nodes_of l.inputs l.nodes (literals l.initial.node_table l.initial.node_bits) in
    let h = nodes_of l.inputs l.nodes (literals l.node_table l.node_bits) in
    (l.v ≤ l.nodes) × SameRoom l.initial.node_table l.initial.node_bits l.node_table l.node_bits × (length l.scratch ≡ length l.initial.scratch) × (h ≡ passed g l.locks l.v) × Clean h l.v l.scratch × Signed h l.v l.scratch
