-- `block::front_places` meets its contract. The invariant: the words of the nodes known stand at their indices, and the places left are those at
-- which no output that names an index so far is missed. From the laws on blocks.
use mathlib.Core.Path.{◌≡◌, refl, subst, ◌∙◌}
use Prim.Native.Nat.{ℕ, ◌+◌, ◌-◌, ◌≤◌, ◌<◌}
use native.Mathlib.Omega.{arith}
use lib.ListN.{length, take, drop}
use Rattle.graph.specs.Graph.{Graph}
use Rattle.evaluation.specs.Inner.{nodes_of, Front}
use Rattle.evaluation.proofs.Outputs.{node_below}
use Rattle.evaluation.proofs.Rows.{front_none, front_moved}
use Rattle.assignment.proofs.Blocks.{left_more, left_none, part_long, part_few, part_words}
use Rattle.assignment.proofs.block.front_places.Goals as goal
use Rattle.assignment.proofs.block.front_places.Goals.{After-front_nodes, After-min-next, At-loop-known}
use Rattle.graph.specs.Tables.{lent_graph, lent_table}

-- scratch is as long as it came

as_long : (l : At-loop-known) → length l.loop-known.scratch ≡ length l.args.scratch.now
as_long l = l.loop-known.invariant.1 ∙ l.fill_low.auto.scratch

-- the next stretch ends with the nodes that have room

few : (c : After-min-next) → (c.loop-known.known < c.min-next.result) × (c.min-next.result ≤ c.args.many)
few c =
    let e = c.min-next.ensures in
    let t = c.loop-known-test.true in
    (omega arith, omega arith)

-- what it fills is in scratch

fits-scratch : (c : After-front_nodes) → c.args.question.now.lent.inputs + 1 + c.min-next.result ≤ length c.front_nodes.new.scratch
fits-scratch c =
    let e = c.min-next.ensures in
    let t = c.loop-known-test.true in
    let l : length c.loop-known.scratch ≡ length c.args.scratch.now = c.loop-known.invariant.1 ∙ c.fill_low.auto.scratch in
    omega (arith, c.front_nodes.auto.scratch, c.requires.2, c.requires.0)

pub fill_low-requires : goal.fill_low-requires
fill_low-requires c =
    (c.requires.1, omega (arith, c.requires.2, c.requires.0))

pub overflow_add-first : goal.overflow_add-first
overflow_add-first c = omega (arith, c.args.question.now.searchable.few)

pub overflow_add-step : goal.overflow_add-step
overflow_add-step c = omega (arith, c.requires.2, c.args.question.now.searchable.admitted.few_nodes)

pub loop-known-init : goal.loop-known-init
loop-known-init c =
    let a = c.args in (
      omega arith,
      refl,
      front_none (nodes_of a.question.now.lent.inputs a.question.now.lent.nodes (lent_table a.question.now.lent.node_table)) a.input_words.now c.fill_low.new.scratch c.requires.1 c.fill_low.ensures,
      c.requires.3,
    )

pub shape_of-scratch-then-rest-eq0 : goal.shape_of-scratch-then-rest-eq0
shape_of-scratch-then-rest-eq0 c = as_long (goal.at.shape_of-scratch-then-rest-eq0 c).At-loop-known

pub returns-then-rest-eq0 : goal.returns-then-rest-eq0
returns-then-rest-eq0 c =
    let a = c.args in
    let g : Graph = lent_graph a.question.now.lent in
    (left_none g a.question.now.wanted.now a.input_words.now (a.question.now.lent.inputs + 1 + c.loop-known.known) (a.question.now.lent.inputs + 1 + a.many) c.loop-known.rest (omega (arith, c.loop-known.invariant.0)) c.if-rest-eq0.true c.loop-known.invariant.3, λ d. absurd (d refl))

pub overflow_add-known : goal.overflow_add-known
overflow_add-known c = omega (arith, c.loop-known.invariant.0, c.requires.2, c.args.question.now.searchable.admitted.few_nodes)

pub front_nodes-requires : goal.front_nodes-requires
front_nodes-requires c =
    let a = c.args in
    let m = few (goal.at.front_nodes-requires c).After-min-next in (
      omega (arith, m.1, c.requires.2, c.args.question.now.searchable.admitted.few_nodes),
      omega (arith, m.1, c.requires.2, c.requires.0, as_long (goal.at.front_nodes-requires c).At-loop-known),
      (λ v h. node_below (lent_graph a.question.now.lent) c.args.question.now.searchable.admitted v (omega (arith, m.1, c.requires.2))),
      omega (arith, m.0),
    )

pub overflow_add-words : goal.overflow_add-words
overflow_add-words c =
    omega (arith, (few (goal.at.overflow_add-words c).After-min-next).1, c.requires.2, c.args.question.now.searchable.admitted.few_nodes)

pub offset_bounds-scratch-first : goal.offset_bounds-scratch-first
offset_bounds-scratch-first c = omega (arith, c.args.question.now.searchable.few)

pub slice_bounds-words-end : goal.slice_bounds-words-end
slice_bounds-words-end c = fits-scratch (goal.at.slice_bounds-words-end c).After-front_nodes

pub overflow_add-first-in-loop-known : goal.overflow_add-first-in-loop-known
overflow_add-first-in-loop-known c =
    omega (arith, c.loop-known.invariant.0, c.requires.2, c.args.question.now.searchable.admitted.few_nodes)

pub left_from-rest-requires : goal.left_from-rest-requires
left_from-rest-requires c =
    (c.args.question.now.searchable.few, c.requires.1, part_few (c.args.question.now.lent.inputs + 1) c.min-next.result c.front_nodes.new.scratch (fits-scratch (goal.at.left_from-rest-requires c).After-front_nodes) (omega (arith, (few (goal.at.left_from-rest-requires c).After-min-next).1, c.requires.2, c.args.question.now.searchable.admitted.few_nodes)))

pub loop-known-smaller : goal.loop-known-smaller
loop-known-smaller c = let m = few (goal.at.loop-known-smaller c).After-min-next in omega (arith, m.0, m.1)

pub loop-known-preserved : goal.loop-known-preserved
loop-known-preserved c =
    let a = c.args in
    let g : Graph = lent_graph a.question.now.lent in
    let m = few (goal.at.loop-known-preserved c).After-min-next in
    let next = c.min-next.result in
    let filled = c.front_nodes.new.scratch in
    let front = c.front_nodes.ensures a.question.now.lent.nodes a.input_words.now c.loop-known.invariant.2 in (
      m.1,
      c.front_nodes.auto.scratch ∙ c.loop-known.invariant.1,
      front,
      left_more g a.question.now.wanted.now a.input_words.now (take (a.question.now.lent.inputs + 1 + next - (a.question.now.lent.inputs + 1)) (drop (a.question.now.lent.inputs + 1) filled)) c.loop-known.known next c.loop-known.rest c.left_from-rest.result
          (part_long (a.question.now.lent.inputs + 1) next filled (fits-scratch (goal.at.loop-known-preserved c).After-front_nodes)) (omega (arith, m.0)) (omega (arith, m.1, c.requires.2))
          (part_words (nodes_of a.question.now.lent.inputs a.question.now.lent.nodes (lent_table a.question.now.lent.node_table)) a.input_words.now filled next front) c.loop-known.invariant.3 c.left_from-rest.ensures,
    )

pub shift-requires : goal.shift-requires
shift-requires c =
    let h : c.args.question.now.lent.inputs + 1 + c.args.many ≤ length c.loop-known.scratch = omega (arith, c.requires.2, c.requires.0, as_long (goal.at.shift-requires c).At-loop-known) in
    h

pub shape_of-scratch : goal.shape_of-scratch
shape_of-scratch c = c.shift.auto.scratch ∙ as_long (goal.at.shape_of-scratch c).At-loop-known

pub returns : goal.returns
returns c =
    let a = c.args in
    let e : c.loop-known.known ≡ a.many = omega (arith, c.loop-known.invariant.0, c.loop-known-test.false) in
    let g : Graph = nodes_of a.question.now.lent.inputs a.question.now.lent.nodes (lent_table a.question.now.lent.node_table) in (
      rw e at c.loop-known.invariant.3,
      λ d. front_moved g a.input_words.now c.loop-known.scratch a.many c.shift.new.scratch (subst (λ (i : ℕ). Front g a.input_words.now c.loop-known.scratch i) e c.loop-known.invariant.2) c.shift.ensures,
    )
