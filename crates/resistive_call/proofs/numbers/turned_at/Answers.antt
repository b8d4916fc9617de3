-- `turned_at` meets its contract: the two numbers of a word that names v change places. From the law on turned numbers.
use mathlib.Core.Path.{refl}
use native.Mathlib.Omega.{arith}
use Rattle.graph.specs.Graph.{Graph}
use Rattle.graph.proofs.Words.{readable}
use Rattle.resistive_call.proofs.Turning.{turned_as, naming_low}
use Rattle.resistive_call.proofs.numbers.turned_at.Goals as goal
use Rattle.resistive_call.proofs.numbers.turned_at.Goals.{Start}
use Rattle.graph.specs.Tables.{lent_graph, lent_table}

abbrev graph-of : Start → Graph
graph-of s = lent_graph s.args.lent.now

pub which_name-which-requires : goal.which_name-which-requires
which_name-which-requires c =
    (readable (graph-of (goal.at.which_name-which-requires c).Start) c.requires.0.admitted c.args.w c.requires.1, omega (arith, c.requires.2, c.requires.0.admitted.few_inputs, c.requires.0.admitted.few_nodes))

pub given_costs-requires : goal.given_costs-requires
given_costs-requires c = let a = c.args in naming_low _ _ _ _ (c.which_name-which.ensures a.lent.now.inputs a.lent.now.nodes a.lent.now.outputs (lent_table a.lent.now.output_table))

pub returns : goal.returns
returns c =
    turned_as _ _ c.requires.0 _ _ _ c.requires.2 c.requires.3 _ _ _ c.requires.4 refl (c.which_name-which.ensures _ _ _ _) c.given_costs.ensures
