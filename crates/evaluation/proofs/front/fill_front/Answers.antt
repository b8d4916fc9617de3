-- `front::fill_front` meets its contract: the words stand at the front behind those of the constant and the inputs, and then without them.
-- From the laws on words that stand at the front.
use native.Mathlib.Omega.{arith}
use Prim.Native.Nat.{◌-◌}
use Rattle.graph.specs.Graph.{Graph}
use Rattle.evaluation.specs.Inner.{nodes_of}
use Rattle.evaluation.proofs.Rows.{row_none, front_none, front_moved}
use Rattle.evaluation.proofs.front.fill_front.Goals as goal
use Rattle.graph.specs.Tables.{lent_table}

pub returns-then-lent : goal.returns-then-lent
returns-then-lent c =
    let a = c.args in
    (omega arith, λ n j h. row_none (nodes_of a.lent.now.inputs n (lent_table a.lent.now.node_table)) a.input_words.now j c.requires.0)

pub front_nodes-requires : goal.front_nodes-requires
front_nodes-requires c =
    (omega (arith, c.requires.2), omega (arith, c.requires.1, c.fill_low.auto.scratch, c.if-lent.false), λ v h. c.requires.3 v (omega (arith, c.if-lent.false)), omega arith)

pub returns : goal.returns
returns c =
    let a = c.args in (
      omega (arith, c.if-lent.false),
      λ n.
          let g : Graph = nodes_of a.lent.now.inputs n (lent_table a.lent.now.node_table) in
          front_moved g a.input_words.now c.front_nodes.new.scratch (a.lent.now.nodes - a.lent.now.inputs - 1) c.shift.new.scratch
          (c.front_nodes.ensures n a.input_words.now (front_none g a.input_words.now c.fill_low.new.scratch c.requires.0 c.fill_low.ensures)) c.shift.ensures,
    )
