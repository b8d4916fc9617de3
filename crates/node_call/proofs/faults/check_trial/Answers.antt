-- `check_trial` meets its contract. From the laws on faults.
use native.Mathlib.Omega.{arith}
use mathlib.Core.Path.{sym}
use Prim.Native.Nat.{◌<◌}
use Rattle.graph.specs.Graph.{Graph}
use Rattle.graph.proofs.Answers.{ends_row}
use Rattle.graph.proofs.Words.{readable}
use Rattle.moves.specs.Call.{named_by, trial_number}
use Rattle.node_call.proofs.Refusing.{AcceptedWord, pair_accepted, named_below, named_low, within_three, trial_is}
use Rattle.node_call.proofs.faults.check_trial.Goals as goal
use Rattle.node_call.proofs.faults.check_trial.Goals.{In_ok-check_pair, Start}
use Rattle.graph.specs.Tables.{lent_graph, lent_table}

abbrev graph : Start → Graph
graph s = let a = s.args in lent_graph a.lent.now

known : (c : In_ok-check_pair) → AcceptedWord ((lent_graph c.args.lent.now)) c.args.lent.now.locks.now c.args.node c.args.word
known c =
    pair_accepted ((lent_graph c.args.lent.now)) c.args.lent.now.locks.now c.args.node c.args.word (sym c.in_ok-check_pair.ensures)

pub returns-in_err-check_pair : goal.returns-in_err-check_pair
unfolding trial_number
returns-in_err-check_pair c = ends_row _ _ _ _ c.from_residual.ensures.1 c.in_err-check_pair.ensures

pub named_by-named-requires : goal.named_by-named-requires
unfolding named_by
named_by-named-requires c =
    let w = known (goal.at.named_by-named-requires c).In_ok-check_pair in
    let d = w.at_node in
    omega (arith, d.after, d.before, w.from_one, within_three (graph (goal.at.named_by-named-requires c).Start) c.args.lent.now.locks.now c.args.node c.args.word w, named_low (graph (goal.at.named_by-named-requires c).Start) c.args.lent.now.locks.now c.args.node c.args.word w, d.admitted.few_inputs, d.admitted.few_nodes, d.admitted.held_nodes)

pub check_moves-requires : goal.check_moves-requires
check_moves-requires c =
    let a = c.args in
    let w = known (goal.at.check_moves-requires c).In_ok-check_pair in
    let d = w.at_node in
    let e = c.named_by-named.ensures a.lent.now.nodes a.lent.now.outputs (lent_table a.lent.now.output_table) in
    let b : named_by (graph (goal.at.check_moves-requires c).Start) a.node a.word < a.node = named_below (graph (goal.at.check_moves-requires c).Start) a.lent.now.locks.now a.node a.word w in (
      d.after,
      omega (arith, d.before, d.admitted.few_inputs, d.admitted.few_nodes),
      omega (arith, e, b),
      (λ v h. (readable (graph (goal.at.check_moves-requires c).Start) d.admitted v (omega (arith, d.before)), omega (arith, d.before, d.enough))),
    )

pub returns : goal.returns
returns c =
    let a = c.args in
    let os = lent_table a.lent.now.output_table in
    trial_is (graph (goal.at.returns c).Start) a.lent.now.locks.now a.node a.word a.a a.m _ _ (c.named_by-named.ensures a.lent.now.nodes a.lent.now.outputs os) (sym c.in_ok-check_pair.ensures) (c.check_moves.ensures a.lent.now.nodes a.lent.now.outputs os (known (goal.at.returns c).In_ok-check_pair).at_node.before)
