-- `block::first_places` meets its contract: the constant and the inputs, then the nodes that have room. From the laws on blocks.
use mathlib.Core.Path.{refl, sym, subst}
use mathlib.Core.List.{[]}
use Prim.Native.Nat.{ℕ, ◌+◌}
use native.Mathlib.Omega.{arith}
use lib.ListN.{take}
use Rattle.graph.specs.Graph.{Graph}
use Rattle.evaluation.specs.Inner.{nodes_of, NodeWords}
use Rattle.evaluation.proofs.Rows.{row_none}
use Rattle.assignment.specs.Inner.{Left}
use Rattle.assignment.proofs.Blocks.{left_first}
use Rattle.assignment.proofs.block.first_places.Goals as goal
use Rattle.assignment.proofs.block.first_places.Goals.{After-left_from-left, Start}
use Rattle.graph.specs.Tables.{lent_graph, lent_table}

none-known : (s : Start) → let a = s.args in NodeWords (nodes_of a.question.now.lent.inputs a.question.now.lent.nodes (lent_table a.question.now.lent.node_table)) a.input_words.now [] 0
none-known s = let a = s.args in λ j h. row_none (nodes_of a.question.now.lent.inputs a.question.now.lent.nodes (lent_table a.question.now.lent.node_table)) a.input_words.now j s.requires.1

-- what the constant and the inputs leave

low-left : (n : After-left_from-left) → let a = n.args in Left (lent_graph a.question.now.lent) a.question.now.wanted.now a.input_words.now (a.question.now.lent.inputs + 1 + 0) n.left_from-left.result
low-left n =
    let a = n.args in
    let g : Graph = lent_graph a.question.now.lent in
    left_first g a.question.now.wanted.now a.input_words.now [] n.left_from-left.result refl (λ j h. row_none (nodes_of a.question.now.lent.inputs a.question.now.lent.nodes (lent_table a.question.now.lent.node_table)) a.input_words.now j n.requires.1) n.left_from-left.ensures

pub left_from-left-requires : goal.left_from-left-requires
left_from-left-requires c =
    (c.args.question.now.searchable.few, c.requires.1, omega arith)

pub returns-then-many-eq0 : goal.returns-then-many-eq0
returns-then-many-eq0 c =
    let a = c.args in
    let g : Graph = lent_graph a.question.now.lent in
    let e = sym c.if-many-eq0.true in (
      subst (λ (m : ℕ). Left g a.question.now.wanted.now a.input_words.now (a.question.now.lent.inputs + 1 + m) c.left_from-left.result) e (low-left (goal.at.returns-then-many-eq0 c).After-left_from-left),
      λ d. subst (λ (m : ℕ). NodeWords (nodes_of a.question.now.lent.inputs a.question.now.lent.nodes (lent_table a.question.now.lent.node_table)) a.input_words.now (take m a.scratch.now) m) e (none-known (goal.at.returns-then-many-eq0 c).Start),
    )

pub front_places-requires : goal.front_places-requires
front_places-requires c =
    (c.requires.0, c.requires.1, c.requires.2 c.if-many-eq0.false, low-left (goal.at.front_places-requires c).After-left_from-left)
