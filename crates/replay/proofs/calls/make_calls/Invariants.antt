-- `make_calls` makes every call: its loop keeps what is left of them.
use mathlib.Core.Path.{◌≡◌}
use lib.ListN.{length}
use Rattle.graph.specs.Graph.{graph_of}
use Rattle.promises.specs.Demand.{with_locks}
use Rattle.replay.proofs.Left.{CallsLeft}
use Rattle.graph.specs.Literals.{literals}
use Rattle.replay.proofs.calls.make_calls.Given as goal

abbrev pub invariant-loop-s : goal.invariant-loop-s
invariant-loop-s l =
    (length l.node_table ≡ length l.initial.node_table) × (length l.node_bits ≡ length l.initial.node_bits) × (length l.output_table ≡ length l.initial.output_table) × (length l.output_bits ≡ length l.initial.output_bits) × (length l.locks ≡ length l.initial.locks)
    × CallsLeft (with_locks (graph_of l.inputs l.nodes l.outputs (literals l.initial.node_table l.initial.node_bits) (literals l.initial.output_table l.initial.output_bits)) l.initial.locks) l.initial.scratch l.list l.bytes l.calls l.initial.answers
    (with_locks (graph_of l.inputs l.left l.outputs (literals l.node_table l.node_bits) (literals l.output_table l.output_bits)) l.locks) l.scratch l.answers l.s l.at

abbrev pub decreases-loop-s : goal.decreases-loop-s
decreases-loop-s l = length l.s
