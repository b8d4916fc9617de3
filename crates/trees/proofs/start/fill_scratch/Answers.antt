-- `fill_scratch` meets its contract. From the laws on the sweeps.
use mathlib.Core.Path.{◌≡◌, ◌∙◌}
use native.Mathlib.Omega.{arith}
use lib.ListN.{length}
use Rattle.graph.specs.Graph.{Graph}
use Rattle.graph.proofs.Words.{readable}
use Rattle.trees.proofs.Filled.{first_noting, second_noting, gather_few, placed_four, rising_four, filled}
use Rattle.trees.proofs.start.fill_scratch.Goals as goal
use Rattle.trees.proofs.start.fill_scratch.Goals.{After-slice_known-6-1, Start}
use Rattle.graph.specs.Tables.{lent_graph, lent_table}

abbrev graph-of : Start → Graph
graph-of s = lent_graph s.args.lent.now

long : (c : After-slice_known-6-1) → length c.link_all.new.scratch ≡ length c.args.scratch.now
long c = c.scratch-5-1.given ∙ c.scratch-4-1.given ∙ c.scratch-3-1.given ∙ c.scratch-2-1.given ∙ c.scratch-1.given

pub clear-requires : goal.clear-requires
clear-requires c = (c.requires.0.few_nodes, c.requires.1)

pub overflow_mul-n : goal.overflow_mul-n
overflow_mul-n c = omega (arith, c.requires.0.few_nodes)

pub note_all-requires : goal.note_all-requires
note_all-requires c =
    let a = c.requires.0 in
    (first_noting _ _ _ a.few_inputs a.few_nodes (omega (arith, c.requires.1, c.scratch-1.given)) c.clear.ensures, omega (arith, a.few_nodes), a.held_nodes)

pub note_all-requires-2 : goal.note_all-requires-2
note_all-requires-2 c =
    let a = c.requires.0 in
    (second_noting _ _ _ _ _ _ c.clear.ensures c.note_all.ensures (omega (arith, a.few_nodes)) a.few_inputs a.few_nodes (omega (arith, c.requires.1, c.scratch-1.given, c.scratch-2-1.given)), omega (arith, a.few_outputs), a.held_outputs)

pub gather_all-requires : goal.gather_all-requires
gather_all-requires c =
    let a = c.requires.0 in
    let k = gather_few _ _ _ _ _ _ _ _ _ c.clear.ensures c.note_all.ensures c.note_all-2.ensures (omega (arith, a.few_nodes)) (omega (arith, a.few_outputs)) in (
      a.few_nodes,
      omega (arith, c.requires.1, c.scratch-1.given, c.scratch-2-1.given, c.scratch-3-1.given),
      λ v h. (readable (graph-of (goal.at.gather_all-requires c).Start) a v h, (k v h).0, (k v h).1),
    )

pub link_all-requires : goal.link_all-requires
link_all-requires c =
    let p = c.requires.0 in
    let a = c.args in (
      p.few_nodes,
      omega (arith, c.requires.1, c.scratch-1.given, c.scratch-2-1.given, c.scratch-3-1.given, c.scratch-4-1.given),
      rising_four a.lent.now.inputs a.lent.now.nodes a.lent.now.outputs (lent_table a.lent.now.node_table) (lent_table a.lent.now.output_table) p _ _ _ _ c.clear.ensures c.note_all.ensures c.note_all-2.ensures c.gather_all.ensures,
    )

pub shape_of-scratch : goal.shape_of-scratch
shape_of-scratch c = long (goal.at.shape_of-scratch c).After-slice_known-6-1

pub returns : goal.returns
returns c =
    let p = c.requires.0 in
    let a = c.args in
    let os = lent_table a.lent.now.output_table in
    let k = c.link_all in
    filled a.lent.now.inputs a.lent.now.nodes a.lent.now.outputs (lent_table a.lent.now.node_table) os p _ _ _ _ c.clear.ensures c.note_all.ensures c.note_all-2.ensures c.gather_all.ensures _ k.ensures.1
    (omega (arith, c.requires.1, long (goal.at.returns c).After-slice_known-6-1))
    (k.ensures.0 a.lent.now.inputs a.lent.now.outputs (lent_table a.lent.now.node_table) os p (placed_four a.lent.now.inputs a.lent.now.nodes a.lent.now.outputs (lent_table a.lent.now.node_table) os p _ _ _ _ c.clear.ensures c.note_all.ensures c.note_all-2.ensures c.gather_all.ensures))
