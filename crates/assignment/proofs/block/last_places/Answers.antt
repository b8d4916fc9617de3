-- `block::last_places` meets its contract: the rest of the nodes, then the outputs that name them. From the laws on blocks.
use mathlib.Core.Path.{◌≡◌, sym}
use native.Mathlib.Omega.{arith}
use lib.ListN.{length, take}
use lib.Seq.{length-take-le}
use Rattle.graph.specs.Graph.{Graph}
use Rattle.evaluation.proofs.Outputs.{node_below}
use Rattle.assignment.proofs.Blocks.{left_more}
use Rattle.assignment.proofs.block.last_places.Goals as goal
use Rattle.assignment.proofs.block.last_places.Goals.{After-fill_rest}
use Rattle.graph.specs.Tables.{lent_graph}

-- the words filled in are as many as are asked for

long : (c : After-fill_rest) → let top = c.args.top in length (take top c.fill_rest.new.scratch) ≡ top
long c =
    length-take-le c.args.top c.fill_rest.new.scratch (omega (arith, c.requires.3, c.requires.0, c.fill_rest.auto.scratch))

pub fill_rest-requires : goal.fill_rest-requires
fill_rest-requires c =
    let a = c.args in
    let p = c.args.question.now.searchable in (
      c.requires.1,
      omega (arith, c.requires.3, c.requires.0),
      omega (arith, c.requires.3, p.admitted.few_nodes),
      (λ v h. node_below (lent_graph a.question.now.lent) p.admitted v (omega (arith, c.requires.3))),
      c.requires.2,
    )

pub slice_bounds-words-end-2 : goal.slice_bounds-words-end-2
slice_bounds-words-end-2 c = sym (long (goal.at.slice_bounds-words-end-2 c).After-fill_rest)

pub left_from-requires : goal.left_from-requires
left_from-requires c =
    (c.args.question.now.searchable.few, c.requires.1, omega (arith, long (goal.at.left_from-requires c).After-fill_rest, c.requires.3, c.args.question.now.searchable.admitted.few_nodes))

pub returns : goal.returns
returns c =
    let a = c.args in
    let g : Graph = lent_graph a.question.now.lent in
    left_more g a.question.now.wanted.now a.input_words.now (take a.top c.fill_rest.new.scratch) a.many a.top a.left c.left_from.result
    (long (goal.at.returns c).After-fill_rest) c.requires.2 c.requires.3 (c.fill_rest.ensures a.question.now.lent.nodes c.requires.5) c.requires.4 c.left_from.ensures
