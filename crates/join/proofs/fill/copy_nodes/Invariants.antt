-- `fill::copy_nodes` meets its contract. The invariant: behind full words that are copied, the words up to the next place are put. From the laws of
-- filled tables.
use mathlib.Core.Path.{◌≡◌}
use mathlib.Core.List.{List}
use Prim.Native.Nat.{ℕ, ◌*◌, ◌≤◌}
use lib.ListN.{length, get_or}
use Rattle.graph.specs.Finite.{tab}
use Rattle.graph.specs.Inner.{begun}
use Rattle.graph.specs.Literals.{literals, filled}
use Rattle.join.proofs.fill.copy_nodes.Given as goal
use Rattle.graph.specs.Tables.{lent_table}

abbrev pub invariant-loop-j : goal.invariant-loop-j
invariant-loop-j l =
    (l.j ≤ 3 * l.nodes)
    × ((m : List ℕ) → 3 * l.nodes ≤ length m → literals l.initial.joined_node_table l.initial.joined_node_bits ≡ filled (tab l.initial.j (λ k. get_or (lent_table l.node_table) k 0)) m → literals l.joined_node_table (begun l.j l.got l.joined_node_bits) ≡ filled (tab l.j (λ k. get_or (lent_table l.node_table) k 0)) m)
    × (length l.joined_node_table ≡ length l.initial.joined_node_table)
    × (length l.joined_node_bits ≡ length l.initial.joined_node_bits)
