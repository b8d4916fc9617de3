-- `at_each` makes the calls at each node: its loop has made those at the nodes below v.
use Rattle.std.proofs.Common.{◌≡◌, ◌*◌, ◌≤◌}
use Rattle.graph.specs.Tables.{lent_graph}
use Rattle.rounds.specs.Round.{each}
use Rattle.settling.specs.Phase.{Ready, Phase}
use Rattle.settling.proofs.phases.at_each.Given as goal

abbrev pub invariant-loop-v : goal.invariant-loop-v
invariant-loop-v g l =
    record {
      few : l.v ≤ l.lent.nodes;
      all : l.end ≡ l.lent.nodes;
      made : Phase (each g.calls.made l.v) (g.calls.most * l.v) (lent_graph l.lent) l.initial.scratch l.initial.t l.scratch l.t;
      ready : Ready (lent_graph l.lent) l.t l.scratch;
    }
