-- `block::front_places` meets its contract. The invariant: the words of the nodes known stand at their indices, and the places left are those at
-- which no output that names an index so far is missed. From the laws on blocks.
use mathlib.Core.Path.{◌≡◌}
use Prim.Native.Nat.{◌+◌, ◌-◌, ◌≤◌}
use lib.ListN.{length}
use Rattle.evaluation.specs.Inner.{nodes_of, Front}
use Rattle.assignment.specs.Inner.{Left}
use Rattle.assignment.proofs.block.front_places.Given as goal
use Rattle.graph.specs.Tables.{lent_graph, lent_table}

abbrev pub invariant-loop-known : goal.invariant-loop-known
invariant-loop-known l =
    (l.known ≤ l.many) × (length l.scratch ≡ length l.initial.scratch)
    × Front (nodes_of l.question.lent.inputs l.question.lent.nodes (lent_table l.question.lent.node_table)) l.input_words l.scratch l.known
    × Left (lent_graph l.question.lent) l.question.wanted.now l.input_words (l.question.lent.inputs + 1 + l.known) l.rest

abbrev pub decreases-loop-known : goal.decreases-loop-known
decreases-loop-known l = l.many - l.known
