-- `turn_word` keeps the state in order and turns one word of the graph that it stands for. From what its two stores make of a state; the
-- word's bit before says which way the count goes.
use mathlib.Core.Path.{◌≡◌}
use Prim.Native.Nat.{◌+◌, ◌-◌, ◌*◌, ◌%◌, ◌≤◌, ◌<◌}
use native.Mathlib.Omega.{arith}
use lib.ListN.{length, set, length-set}
use mathlib.Core.Logic.{inr}
use Rattle.graph.specs.Graph.{Graph, node, word, index}
use Rattle.graph.proofs.Literals.{names_index}
use Rattle.graph.proofs.Words.{edge_low}
use Rattle.state.specs.State.{field, stands}
use Rattle.state.proofs.Order.{odd_le}
use Rattle.state.proofs.Stores.{names_low, bit_counted, word_low, word_high, field_kept}
use Rattle.state.proofs.turning.turn_word.Goals as goal
use Rattle.state.proofs.turning.turn_word.Goals.{After-index_at-u, Else-u-lent, Start}
use Rattle.graph.specs.Tables.{lent_graph}

abbrev graph-of : Start → Graph
graph-of s = lent_graph s.args.lent.now

-- the index that the word names

names : (c : After-index_at-u) → c.index_at-u.result ≡ index (word (graph-of (goal.at.After-index_at-u c).Start) (3 * c.args.v + c.args.k))
names c =
    names_index c.index_at-u.ensures (edge_low (graph-of (goal.at.After-index_at-u c).Start) c.requires.0.admitted (3 * c.args.v + c.args.k) (omega (arith, c.requires.1, c.requires.2)) c.requires.3)

-- what the code knows where a word is turned

record At (s : Start) : Type 0 where
  few : s.args.lent.now.nodes ≤ 100000
  node : s.args.v < s.args.lent.now.nodes
  word : s.args.k < 3
  long : 8 * s.args.lent.now.nodes ≤ length s.args.scratch.now
  held : 3 * s.args.lent.now.nodes ≤ 300000

at : (s : Start) → At s
at s = let o = s.requires.0 in record { few = o.admitted.few_nodes; node = s.requires.1; word = s.requires.2; long = o.long; held = omega (arith, o.admitted.few_nodes) }

-- the node that it names

record Named (c : Else-u-lent) : Type 0 where
  below : c.index_at-u.result - (c.args.lent.now.inputs + 1) < c.args.lent.now.nodes
  is : index (word (graph-of (goal.at.Else-u-lent c).Start) (3 * c.args.v + c.args.k)) ≡ node (graph-of (goal.at.Else-u-lent c).Start) (c.index_at-u.result - (c.args.lent.now.inputs + 1))

named : (c : Else-u-lent) → Named c
named c =
    let n = names_low (graph-of (goal.at.Else-u-lent c).Start) c.args.scratch.now c.requires.0 (3 * c.args.v + c.args.k) (omega (arith, c.requires.1, c.requires.2)) c.requires.3 in
    record { below = omega (arith, n, names (goal.at.Else-u-lent c).After-index_at-u, c.if-u-lent.false); is = omega (arith, n, names (goal.at.Else-u-lent c).After-index_at-u, c.if-u-lent.false) }

-- its count is as it was

count_kept : (c : Else-u-lent) → let w = c.index_at-u.result - (c.args.lent.now.inputs + 1) in
    field (set c.args.scratch.now (8 * c.args.v + 2) c.flipped.result) w 1 ≡ field c.args.scratch.now w 1
count_kept c = field_kept c.args.scratch.now c.args.v 2 c.flipped.result _ 1 (omega arith) (omega arith) (inr (omega arith))

-- the bit that the word showed

was : (i : After-index_at-u) → i.bit_now-shown.result ≡ word (stands (graph-of (goal.at.After-index_at-u i).Start) i.args.scratch.now) (3 * i.args.v + i.args.k) % 2
was i = i.bit_now-shown.ensures.0 i.requires.3

pub bit_now-shown-requires : goal.bit_now-shown-requires
bit_now-shown-requires c = (c.requires.0, c.requires.1, c.requires.2)

pub overflow_mul-v : goal.overflow_mul-v
overflow_mul-v c = let a = at (goal.at.overflow_mul-v c).Start in omega (arith, a.few, a.node)

pub overflow_add-v : goal.overflow_add-v
overflow_add-v c = let a = at (goal.at.overflow_add-v c).Start in omega (arith, a.few, a.node, a.word)

pub index_at-u-requires : goal.index_at-u-requires
index_at-u-requires c = omega (arith, c.requires.0.admitted.held_nodes, c.requires.1, c.requires.2)

pub overflow_mul-at : goal.overflow_mul-at
overflow_mul-at c = let a = at (goal.at.overflow_mul-at c).Start in omega (arith, a.few, a.node)

pub overflow_add-at : goal.overflow_add-at
overflow_add-at c = let a = at (goal.at.overflow_add-at c).Start in omega (arith, a.few, a.node)

pub offset_bounds-scratch-at : goal.offset_bounds-scratch-at
offset_bounds-scratch-at c = let a = at (goal.at.offset_bounds-scratch-at c).Start in omega (arith, a.few, a.node)

pub bounds-scratch-at : goal.bounds-scratch-at
bounds-scratch-at c = let a = at (goal.at.bounds-scratch-at c).Start in omega (arith, a.long, a.node)

pub overflow_add-k : goal.overflow_add-k
overflow_add-k c = let a = at (goal.at.overflow_add-k c).Start in omega (arith, a.word)

pub flipped-requires : goal.flipped-requires
flipped-requires c = let a = at (goal.at.flipped-requires c).Start in omega (arith, a.word)

pub offset_bounds-scratch-at-2 : goal.offset_bounds-scratch-at-2
offset_bounds-scratch-at-2 c = let a = at (goal.at.offset_bounds-scratch-at-2 c).Start in omega (arith, a.few, a.node)

pub bounds-scratch-at-2 : goal.bounds-scratch-at-2
bounds-scratch-at-2 c = let a = at (goal.at.bounds-scratch-at-2 c).Start in omega (arith, a.long, a.node)

pub returns-then-u-lent : goal.returns-then-u-lent
returns-then-u-lent c =
    let a = c.args in
    word_low (graph-of (goal.at.returns-then-u-lent c).Start) a.scratch.now c.requires.0 a.v a.k c.requires.1 c.requires.2 c.requires.3 c.flipped.result c.flipped.ensures
    (omega (arith, names (goal.at.returns-then-u-lent c).After-index_at-u, c.if-u-lent.true))

pub overflow_sub-w : goal.overflow_sub-w
overflow_sub-w c = omega (arith, c.if-u-lent.false)

pub overflow_cast-to : goal.overflow_cast-to
overflow_cast-to c = let a = at (goal.at.overflow_cast-to c).Start in omega (arith, a.few, (named (goal.at.overflow_cast-to c).Else-u-lent).below)

pub overflow_mul-to : goal.overflow_mul-to
overflow_mul-to c = let a = at (goal.at.overflow_mul-to c).Start in omega (arith, a.few, (named (goal.at.overflow_mul-to c).Else-u-lent).below)

pub overflow_add-to : goal.overflow_add-to
overflow_add-to c = let a = at (goal.at.overflow_add-to c).Start in omega (arith, a.few, (named (goal.at.overflow_add-to c).Else-u-lent).below)

pub offset_bounds-scratch-to : goal.offset_bounds-scratch-to
offset_bounds-scratch-to c = let a = at (goal.at.offset_bounds-scratch-to c).Start in omega (arith, a.few, (named (goal.at.offset_bounds-scratch-to c).Else-u-lent).below)

pub bounds-scratch-to : goal.bounds-scratch-to
bounds-scratch-to c = let a = at (goal.at.bounds-scratch-to c).Start in simp length-set (omega (arith, a.long, (named (goal.at.bounds-scratch-to c).Else-u-lent).below))

pub adjusted-requires : goal.adjusted-requires
adjusted-requires c =
    let a = c.args in
    let w = c.index_at-u.result - (a.lent.now.inputs + 1) in
    let n = named (goal.at.adjusted-requires c).Else-u-lent in
    omega (
      arith,
      was (goal.at.adjusted-requires c).After-index_at-u,
      count_kept (goal.at.adjusted-requires c).Else-u-lent,
      bit_counted (graph-of (goal.at.adjusted-requires c).Start) a.scratch.now c.requires.0 a.v a.k c.requires.1 c.requires.2 c.requires.3 c.flipped.result c.flipped.ensures w n.below n.is,
      odd_le (graph-of (goal.at.adjusted-requires c).Start) a.scratch.now c.requires.0 w n.below,
    )

pub offset_bounds-scratch-to-2 : goal.offset_bounds-scratch-to-2
offset_bounds-scratch-to-2 c = let a = at (goal.at.offset_bounds-scratch-to-2 c).Start in omega (arith, a.few, (named (goal.at.offset_bounds-scratch-to-2 c).Else-u-lent).below)

pub bounds-scratch-to-2 : goal.bounds-scratch-to-2
bounds-scratch-to-2 c = let a = at (goal.at.bounds-scratch-to-2 c).Start in simp length-set (omega (arith, a.long, (named (goal.at.bounds-scratch-to-2 c).Else-u-lent).below))

pub returns : goal.returns
returns c =
    let a = c.args in
    let w = c.index_at-u.result - (a.lent.now.inputs + 1) in
    let n = named (goal.at.returns c).Else-u-lent in
    word_high (graph-of (goal.at.returns c).Start) a.scratch.now c.requires.0 a.v a.k c.requires.1 c.requires.2 c.requires.3 c.flipped.result c.flipped.ensures w c.adjusted.result n.below n.is
    (omega (arith, was (goal.at.returns c).After-index_at-u, count_kept (goal.at.returns c).Else-u-lent, c.adjusted.ensures))
