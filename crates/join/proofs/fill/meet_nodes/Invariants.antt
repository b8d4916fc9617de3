-- `fill::meet_nodes` meets its contract. The invariant: the words of the nodes so far are put. From the laws of filling.
use mathlib.Core.Path.{◌≡◌}
use Prim.Native.Nat.{◌+◌, ◌*◌, ◌≤◌}
use lib.ListN.{length}
use Rattle.graph.specs.Finite.{tab}
use Rattle.graph.specs.Inner.{begun, words_put}
use Rattle.graph.specs.Literals.{literals}
use Rattle.join.specs.Filling.{met_word_by}
use Rattle.join.proofs.fill.meet_nodes.Given as goal
use Rattle.graph.specs.Tables.{lent_table}

abbrev pub invariant-loop-v : goal.invariant-loop-v
invariant-loop-v l =
    (l.v ≤ l.second_nodes)
    × (literals l.joined_node_table (begun (l.start + 3 * l.v) l.more l.joined_node_bits) ≡ words_put l.start (tab (3 * l.v) (met_word_by (lent_table l.second_node_table) (lent_table l.front.outputs) l.front.base l.front.inputs)) (literals l.initial.joined_node_table (begun l.start l.got l.initial.joined_node_bits)))
    × (length l.joined_node_table ≡ length l.initial.joined_node_table)
    × (length l.joined_node_bits ≡ length l.initial.joined_node_bits)
