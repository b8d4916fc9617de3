-- `put_nodes` meets its contract: the lines that are left come to the whole. From the laws on fields in a row.
use Rattle.std.proofs.Common.{◌≡◌, ◌-◌, ◌+◌, refl, arith}
use Rattle.graph.specs.Tables.{lent_table}
use Rattle.report.specs.Report.{node_line_at}
use Rattle.report.proofs.LineLaws.{node_put}
use Rattle.report.proofs.Put.{left_next}
use Rattle.tagged_file.proofs.Emitted.{left_none}
use Rattle.report.proofs.lines.put_nodes.Goals as goal

pub loop-v-init : goal.loop-v-init
loop-v-init c =
    let n = c.args.nodes in
    let e : n - 0 ≡ n = omega arith in
    (omega arith, rw e (record { counted = omega arith; fits = refl; same = refl; bytes = refl }), omega arith)

pub word_at-requires : goal.word_at-requires
word_at-requires c = (omega arith, c.requires.fact.3 _ (omega arith))

pub word_at-requires-in-loop-v : goal.word_at-requires-in-loop-v
word_at-requires-in-loop-v c = (omega arith, c.requires.fact.3 _ (omega arith))

pub word_at-requires-in-loop-v-2 : goal.word_at-requires-in-loop-v-2
word_at-requires-in-loop-v-2 c = (omega arith, c.requires.fact.3 _ (omega arith))

pub put_node-at-requires : goal.put_node-at-requires
put_node-at-requires c = omega (arith, c.loop-v.invariant.1.same)

pub loop-v-preserved : goal.loop-v-preserved
loop-v-preserved c =
    let l = c.loop-v in
    let a = c.args in
    let p = node_put a.inputs (lent_table a.node_table.now) l.v (a.inputs + 1 + l.v) l.at _ 54 _ _ _ l.buffer _ refl c.word_at.ensures c.word_at-in-loop-v.ensures c.word_at-in-loop-v-2.ensures c.put_node-at.ensures in
    (omega arith, left_next (node_line_at a.inputs (lent_table a.node_table.now)) _ _ _ l.buffer l.at l.v l.invariant.1 (omega arith) _ _ p.1 p.0, omega (arith, c.put_node-at.ensures.1))

pub shape_of-buffer : goal.shape_of-buffer
shape_of-buffer c = c.loop-v.invariant.1.same

pub returns : goal.returns
returns c =
    let l = c.loop-v in
    let a = c.args in
    let e = left_none (node_line_at a.inputs (lent_table a.node_table.now)) _ _ _ l.buffer l.at l.v _ l.invariant.1 (omega arith) in
    (e.0, omega arith, e.1)
