-- `front::front_node` meets its contract. From the laws on words that stand at the front.
use mathlib.Core.Path.{◌≡◌, sym}
use Prim.Native.Nat.{◌+◌}
use native.Mathlib.Omega.{arith}
use lib.ListN.{length, take}
use lib.Seq.{length-take-le}
use Rattle.evaluation.specs.Inner.{nodes_of}
use Rattle.evaluation.proofs.Index.{named_below}
use Rattle.evaluation.proofs.Rows.{front_more}
use Rattle.evaluation.proofs.front.front_node.Goals as goal
use Rattle.evaluation.proofs.front.front_node.Goals.{Start}
use Rattle.graph.specs.Tables.{lent_table}

-- the words before it are as many as its index says

as_many : (s : Start) → let a = s.args in length (take (a.lent.now.inputs + 1 + a.v) a.scratch.now) ≡ a.lent.now.inputs + 1 + a.v
as_many s = length-take-le (s.args.lent.now.inputs + 1 + s.args.v) s.args.scratch.now (omega (arith, s.requires.2))

pub slice_bounds-words-end-2 : goal.slice_bounds-words-end-2
slice_bounds-words-end-2 c = sym (as_many (goal.at.slice_bounds-words-end-2 c).Start)

pub node_word-requires : goal.node_word-requires
node_word-requires c =
    let e = as_many (goal.at.node_word-requires c).Start in
    named_below _ c.args.lent.now.inputs _ c.args.v c.requires.0 c.requires.1 (λ k h. omega (arith, e, h))

pub returns : goal.returns
returns c n ws f =
    let a = c.args in
    front_more (nodes_of a.lent.now.inputs n (lent_table a.lent.now.node_table)) ws a.scratch.now a.v c.node_word.result (omega (arith, c.requires.2)) f (c.node_word.ensures a.lent.now.inputs n)
