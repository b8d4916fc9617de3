-- `named_saving` meets its contract. From the laws on faults and outcomes.
use native.Mathlib.Omega.{arith}
use mathlib.Core.Path.{◌∙◌}
use Prim.Native.Nat.{◌<◌}
use Rattle.graph.specs.Graph.{Graph}
use Rattle.graph.proofs.Difference.{read_as_lem}
use Rattle.moves.specs.Call.{named_by}
use Rattle.node_call.proofs.Refusing.{AcceptedTrial, trial_accepted, named_below, named_low, within_three}
use Rattle.node_call.proofs.Outcomes.{no_gain, both_had, a_gain}
use Rattle.node_call.proofs.trying.named_saving.Goals as goal
use Rattle.node_call.proofs.trying.named_saving.Goals.{Start}
use Rattle.graph.specs.Tables.{lent_graph, lent_table}

abbrev graph : Start → Graph
graph s = let a = s.args in lent_graph a.lent.now

known : (s : Start) → AcceptedTrial ((lent_graph s.args.lent.now)) s.args.lent.now.locks.now s.args.node s.args.word s.args.a s.args.k
known s = trial_accepted ((lent_graph s.args.lent.now)) s.args.lent.now.locks.now s.args.node s.args.word s.args.a s.args.k s.requires

pub named_by-named-requires : goal.named_by-named-requires
unfolding named_by
named_by-named-requires c =
    let w = (known (goal.at.named_by-named-requires c).Start).at_word in
    let d = w.at_node in
    omega (arith, d.after, d.before, w.from_one, within_three (graph (goal.at.named_by-named-requires c).Start) c.args.lent.now.locks.now c.args.node c.args.word w, named_low (graph (goal.at.named_by-named-requires c).Start) c.args.lent.now.locks.now c.args.node c.args.word w, d.admitted.few_inputs, d.admitted.few_nodes, d.admitted.held_nodes)

pub returns-then-named-lent : goal.returns-then-named-lent
returns-then-named-lent c =
    let a = c.args in
    no_gain (graph (goal.at.returns-then-named-lent c).Start) c.args.lent.now.locks.now a.node a.word _ (c.named_by-named.ensures a.lent.now.nodes a.lent.now.outputs (lent_table a.lent.now.output_table)) a.a a.k c.if-named-lent.true

pub overflow_sub-v : goal.overflow_sub-v
overflow_sub-v c = let d = (known (goal.at.overflow_sub-v c).Start).at_word.at_node in omega (arith, d.after)

pub pair_saving-requires : goal.pair_saving-requires
pair_saving-requires c =
    let a = c.args in
    let w = (known (goal.at.pair_saving-requires c).Start).at_word in
    let d = w.at_node in
    let e = c.named_by-named.ensures a.lent.now.nodes a.lent.now.outputs (lent_table a.lent.now.output_table) in
    let b : named_by (graph (goal.at.pair_saving-requires c).Start) a.node a.word < a.node = named_below (graph (goal.at.pair_saving-requires c).Start) c.args.lent.now.locks.now a.node a.word w in
    let had = both_had (graph (goal.at.pair_saving-requires c).Start) c.args.lent.now.locks.now a.node a.word _ e a.a a.k (known (goal.at.pair_saving-requires c).Start) c.if-named-lent.false in
    (d.admitted, omega (arith, e, b, c.if-named-lent.false), omega (arith, d.after, d.before), d.enough, had.0, had.1)

pub returns : goal.returns
returns c =
    let a = c.args in
    read_as_lem _ c.pair_saving.type_inv
    ∙ a_gain (graph (goal.at.returns c).Start) c.args.lent.now.locks.now a.node a.word _ (c.named_by-named.ensures a.lent.now.nodes a.lent.now.outputs (lent_table a.lent.now.output_table)) a.a a.k (known (goal.at.returns c).Start) c.if-named-lent.false _ c.pair_saving.ensures
