-- `fill_literals` meets its contract: scratch has the literals of the nodes passed. From the laws on counting and sweeps.
use mathlib.Core.Path.{◌≡◌}
use lib.ListN.{length}
use Rattle.graph.proofs.Sweep.{swept}
use Rattle.aiger_export.specs.Inner.{node_literal}
use Rattle.aiger_export.proofs.Placed.{Counted}
use Rattle.aiger_export.proofs.gates.fill_literals.Given as goal
use Rattle.graph.specs.Tables.{lent_graph}

abbrev pub invariant-loop-v : goal.invariant-loop-v
invariant-loop-v l =
    Counted (lent_graph l.circuit.lent) l.circuit.lent.inputs l.v l.last
    × (l.scratch ≡ swept (node_literal (lent_graph l.circuit.lent)) l.initial.scratch l.v)
    × (length l.scratch ≡ length l.initial.scratch)
