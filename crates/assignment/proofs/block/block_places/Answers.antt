-- `block::block_places` meets its contract: the places at which nothing wanted is missed are those that give the pattern. From the laws on blocks.
use Prim.Native.Nat.{◌+◌, ◌≤◌}
use native.Mathlib.Omega.{arith}
use lib.ListN.{length}
use Rattle.graph.specs.Graph.{Graph}
use Rattle.assignment.proofs.Numbers.{words_long}
use Rattle.assignment.proofs.Blocks.{left_none, places_of}
use Rattle.assignment.proofs.block.block_places.Goals as goal
use Rattle.assignment.proofs.block.block_places.Goals.{After-input_words-input_words}
use Rattle.graph.specs.Tables.{lent_graph}

-- sixteen input words are enough

enough : (w : After-input_words-input_words) → w.args.question.now.lent.inputs ≤ length w.input_words-input_words.result
enough w =
    let n = words_long w.input_words-input_words.result w.args.b w.input_words-input_words.ensures in
    omega (arith, w.args.question.now.searchable.few)

pub first_places-left-requires : goal.first_places-left-requires
first_places-left-requires c =
    (c.requires.0, enough (goal.at.first_places-left-requires c).After-input_words-input_words, c.front_count-many.ensures.1)

pub returns-then-left-eq0 : goal.returns-then-left-eq0
returns-then-left-eq0 c =
    let a = c.args in
    let g : Graph = lent_graph a.question.now.lent in
    let words = c.input_words-input_words.result in
    let l : a.question.now.lent.inputs + 1 + c.front_count-many.result ≤ a.question.now.lent.inputs + 1 + a.top = omega (arith, c.front_count-many.ensures.0) in
    places_of g a.question.now.wanted.now words a.b 0 a.top c.input_words-input_words.ensures c.args.question.now.searchable.few c.requires.1
    (left_none g a.question.now.wanted.now words (a.question.now.lent.inputs + 1 + c.front_count-many.result) (a.question.now.lent.inputs + 1 + a.top) c.first_places-left.result l c.if-left-eq0.true c.first_places-left.ensures.0)

pub last_places-requires : goal.last_places-requires
last_places-requires c = (
  omega (arith, c.requires.0, c.first_places-left.auto.scratch),
  enough (goal.at.last_places-requires c).After-input_words-input_words,
  c.front_count-many.ensures.0,
  c.requires.1.few,
  c.first_places-left.ensures.0,
  c.first_places-left.ensures.1 c.if-left-eq0.false,
)

pub returns : goal.returns
returns c =
    let a = c.args in
    let g : Graph = lent_graph a.question.now.lent in
    places_of g a.question.now.wanted.now c.input_words-input_words.result a.b c.last_places.result a.top c.input_words-input_words.ensures c.args.question.now.searchable.few c.requires.1 c.last_places.ensures
