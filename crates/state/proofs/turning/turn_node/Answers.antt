-- `turn_node` makes a move: its three words and its readers, each by the move's flag. From the step law.
use mathlib.Core.Path.{◌≡◌, ◌∙◌, ap}
use Prim.Native.Nat.{ℕ, ◌<◌}
use native.Mathlib.Omega.{arith}
use Rattle.graph.specs.Graph.{Graph, is_xor}
use Rattle.graph.proofs.Words.{readable}
use Rattle.moves.specs.Rows.{arity, flag}
use Rattle.moves.proofs.Moves.{node_row}
use Rattle.state.proofs.Made.{still, made}
use Rattle.state.proofs.turning.turn_node.Goals as goal
use Rattle.state.proofs.turning.turn_node.Goals.{After-is_xor-xor, Start}
use Rattle.graph.specs.Tables.{lent_graph, lent_table}

abbrev graph-of : Start → Graph
graph-of s = lent_graph s.args.lent.now

kind : (c : After-is_xor-xor) → c.is_xor-xor.result ≡ is_xor (graph-of (goal.at.After-is_xor-xor c).Start) c.args.v
kind c = let a = c.args in c.is_xor-xor.ensures a.lent.now.inputs a.lent.now.nodes a.lent.now.outputs (lent_table a.lent.now.output_table)

has : (c : After-is_xor-xor) → c.args.m < arity c.is_xor-xor.result
has c = omega (arith, ap arity (kind c), node_row (graph-of (goal.at.After-is_xor-xor c).Start) c.args.v c.args.m c.requires.2)

-- what a flag is, by the kind

is : (c : After-is_xor-xor) (k f : ℕ) → f ≡ flag c.is_xor-xor.result c.args.m k → f ≡ flag (is_xor (graph-of (goal.at.After-is_xor-xor c).Start) c.args.v) c.args.m k
is c k f e = e ∙ ap (λ y. flag y c.args.m k) (kind c)

pub is_xor-xor-requires : goal.is_xor-xor-requires
is_xor-xor-requires c = readable (graph-of (goal.at.is_xor-xor-requires c).Start) c.requires.0.admitted c.args.v c.requires.1

pub flag_of-f-requires : goal.flag_of-f-requires
flag_of-f-requires c = (has (goal.at.flag_of-f-requires c).After-is_xor-xor, omega arith)

pub turn_word_by-requires : goal.turn_word_by-requires
turn_word_by-requires c =
    let f = c.flag_of-f in
    (c.requires.0, c.requires.1, omega arith, still (graph-of (goal.at.turn_word_by-requires c).Start) c.args.v c.args.m 0 f.result (omega arith) (is (goal.at.turn_word_by-requires c).After-is_xor-xor 0 f.result f.ensures.0), f.ensures.1)

pub flag_of-f-requires-2 : goal.flag_of-f-requires-2
flag_of-f-requires-2 c = (has (goal.at.flag_of-f-requires-2 c).After-is_xor-xor, omega arith)

pub turn_word_by-requires-2 : goal.turn_word_by-requires-2
turn_word_by-requires-2 c =
    let f = c.flag_of-f-2 in
    (c.turn_word_by.ensures.ordered, c.requires.1, omega arith, still (graph-of (goal.at.turn_word_by-requires-2 c).Start) c.args.v c.args.m 1 f.result (omega arith) (is (goal.at.turn_word_by-requires-2 c).After-is_xor-xor 1 f.result f.ensures.0), f.ensures.1)

pub flag_of-f-requires-3 : goal.flag_of-f-requires-3
flag_of-f-requires-3 c = (has (goal.at.flag_of-f-requires-3 c).After-is_xor-xor, omega arith)

pub turn_word_by-requires-3 : goal.turn_word_by-requires-3
turn_word_by-requires-3 c =
    let f = c.flag_of-f-3 in
    (c.turn_word_by-2.ensures.ordered, c.requires.1, omega arith, still (graph-of (goal.at.turn_word_by-requires-3 c).Start) c.args.v c.args.m 2 f.result (omega arith) (is (goal.at.turn_word_by-requires-3 c).After-is_xor-xor 2 f.result f.ensures.0), f.ensures.1)

pub flag_of-f-requires-4 : goal.flag_of-f-requires-4
flag_of-f-requires-4 c = (has (goal.at.flag_of-f-requires-4 c).After-is_xor-xor, omega arith)

pub turn_readers-requires : goal.turn_readers-requires
turn_readers-requires c = (c.turn_word_by-3.ensures.ordered, c.requires.1, c.flag_of-f-4.ensures.1)

pub shape_of-scratch : goal.shape_of-scratch
shape_of-scratch c = omega (arith, c.scratch-1.given, c.scratch-2-1.given, c.scratch-3-1.given, c.scratch-4-1.given)

pub returns : goal.returns
returns c =
    let a = c.args in
    let r₁ = c.turn_word_by in
    let r₂ = c.turn_word_by-2 in
    let r₃ = c.turn_word_by-3 in
    let r₄ = c.turn_readers in
    let f₀ = c.flag_of-f in
    let f₁ = c.flag_of-f-2 in
    let f₂ = c.flag_of-f-3 in
    let f₃ = c.flag_of-f-4 in
    made (graph-of (goal.at.returns c).Start) a.scratch.now c.requires.0 a.v a.m c.requires.1 f₀.result f₁.result f₂.result f₃.result
    (is (goal.at.returns c).After-is_xor-xor 0 f₀.result f₀.ensures.0) (is (goal.at.returns c).After-is_xor-xor 1 f₁.result f₁.ensures.0) (is (goal.at.returns c).After-is_xor-xor 2 f₂.result f₂.ensures.0) (is (goal.at.returns c).After-is_xor-xor 3 f₃.result f₃.ensures.0)
    r₁.new.scratch r₂.new.scratch r₃.new.scratch r₄.new.scratch r₁.ensures r₂.ensures r₃.ensures r₄.ensures
