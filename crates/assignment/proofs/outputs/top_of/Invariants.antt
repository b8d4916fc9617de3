-- `outputs::top_of` meets its contract: the nodes that the outputs passed ask for. From the laws on blocks.
use Prim.Native.Nat.{◌≤◌}
use Rattle.assignment.specs.Inner.{Top}
use Rattle.assignment.proofs.outputs.top_of.Given as goal
use Rattle.graph.specs.Tables.{lent_graph}

abbrev pub invariant-loop-o : goal.invariant-loop-o
invariant-loop-o l =
    (l.o ≤ l.question.lent.outputs) × Top (lent_graph l.question.lent) l.question.wanted.now l.o l.top
