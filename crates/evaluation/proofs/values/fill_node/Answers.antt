-- `values::fill_node` meets its contract. From the laws on rows.
use mathlib.Core.Path.{◌≡◌, sym}
use native.Mathlib.Omega.{arith}
use lib.ListN.{length, take, length-set}
use lib.Seq.{length-take-le}
use Rattle.evaluation.specs.Inner.{nodes_of}
use Rattle.evaluation.proofs.Index.{named_below}
use Rattle.evaluation.proofs.Rows.{row_more}
use Rattle.evaluation.proofs.values.fill_node.Goals as goal
use Rattle.evaluation.proofs.values.fill_node.Goals.{Start}
use Rattle.graph.specs.Tables.{lent_table}

-- the words before it are as many as the nodes

as_many : (s : Start) → let a = s.args in length (take a.v a.scratch.now) ≡ a.v
as_many s = length-take-le s.args.v s.args.scratch.now (omega (arith, s.requires.1))

pub slice_bounds-words-end : goal.slice_bounds-words-end
slice_bounds-words-end c = omega (arith, c.requires.1)

pub slice_bounds-words-end-2 : goal.slice_bounds-words-end-2
slice_bounds-words-end-2 c = sym (as_many (goal.at.slice_bounds-words-end-2 c).Start)

pub node_word-requires : goal.node_word-requires
node_word-requires c =
    let e = as_many (goal.at.node_word-requires c).Start in
    named_below _ c.args.lent.now.inputs _ c.args.v c.requires.3 c.requires.2 (λ k h. (c.requires.0, omega (arith, e, h)))

pub offset_bounds-scratch-v : goal.offset_bounds-scratch-v
offset_bounds-scratch-v c = omega (arith, c.requires.1)

pub bounds-scratch-v : goal.bounds-scratch-v
bounds-scratch-v c = omega (arith, c.requires.1)

pub shape_of-scratch : goal.shape_of-scratch
shape_of-scratch c = simp length-set

pub returns : goal.returns
returns c n h j l =
    let a = c.args in
    row_more (nodes_of a.lent.now.inputs n (lent_table a.lent.now.node_table)) a.input_words.now j a.scratch.now a.v c.node_word.result
    (omega (arith, c.requires.1)) (h j l) (c.node_word.ensures a.lent.now.inputs n j l)
