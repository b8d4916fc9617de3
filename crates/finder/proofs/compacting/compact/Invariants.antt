-- `compact` meets its contract: the nodes passed stand together. From the laws on compaction.
use mathlib.Core.Bool.{Bool}
use mathlib.Core.List.{List}
use Prim.Native.Nat.{ℕ}
use Rattle.graph.specs.Graph.{graph_of}
use Rattle.graph.specs.Literals.{literals}
use Rattle.finder.specs.Compacting.{Moves, Compacted}
use Rattle.finder.proofs.Compact.{Shifting}
use Rattle.finder.proofs.Rooms.{SameRoom}
use Rattle.finder.proofs.compacting.compact.Given as goal

abbrev pub invariant-loop-v : goal.invariant-loop-v
invariant-loop-v l =
    let ns = literals l.initial.node_table l.initial.node_bits in
    let ns' = literals l.node_table l.node_bits in
    Shifting l.nodes ns l.initial.locks l.v l.t ns' l.locks × SameRoom l.initial.node_table l.initial.node_bits l.node_table l.node_bits
    × ((o : ℕ) (os : List ℕ) (live : ℕ → Bool) → Moves (graph_of l.inputs l.nodes o ns os) live l.scratch → Compacted (graph_of l.inputs l.nodes o ns os) live l.initial.locks l.v l.t ns' l.locks)
