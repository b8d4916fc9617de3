-- `pair_step` is the pair call at a word that the node has: it names a node below, or none.
use mathlib.Core.Path.{◌≡◌, refl}
use Prim.Native.Nat.{◌+◌, ◌-◌, ◌*◌, ◌≤◌, ◌<◌}
use native.Mathlib.Omega.{arith}
use Rattle.graph.specs.Graph.{Graph, word, index}
use Rattle.graph.specs.Literals.{held}
use Rattle.graph.proofs.Literals.{names_index}
use Rattle.state.proofs.Pairs.{has_word, named_below, pair_none, pair_is}
use Rattle.state.proofs.moving.pair_step.Goals as goal
use Rattle.state.proofs.moving.pair_step.Goals.{After-index_at-u, Start}
use Rattle.graph.specs.Tables.{lent_graph, lent_table}

abbrev graph-of : Start → Graph
graph-of s = lent_graph s.args.lent.now

-- the word's place, and what it names

record Placed (s : Start) : Type 0 where
  low : 1 ≤ s.args.k
  high : s.args.k ≤ 3
  few : s.args.lent.now.nodes ≤ 100000
  within : 3 * s.args.v + (s.args.k - 1) < held (lent_table s.args.lent.now.node_table)
  below : index (word (graph-of s) (3 * s.args.v + (s.args.k - 1))) < s.args.lent.now.inputs + 1 + s.args.v
  few_inputs : s.args.lent.now.inputs ≤ 4096

placed : (s : Start) → Placed s
placed s =
    let a = s.args in
    let o = s.requires.0 in
    let h = has_word (graph-of s) a.lent.now.locks.now a.scratch.now o a.v a.k s.requires.1 s.requires.2 in
    record {
      low = h.0;
      high = h.1;
      few = o.admitted.few_nodes;
      within = omega (arith, h.0, h.1, s.requires.1, o.admitted.held_nodes);
      below = named_below (graph-of s) a.lent.now.locks.now a.scratch.now o a.v a.k s.requires.1 s.requires.2;
      few_inputs = o.admitted.few_inputs;
    }

-- the index read is the one that it names

names : (x : After-index_at-u) → x.index_at-u.result ≡ index (word (graph-of (goal.at.After-index_at-u x).Start) (3 * x.args.v + (x.args.k - 1)))
names x = let p = placed (goal.at.After-index_at-u x).Start in names_index x.index_at-u.ensures (omega (arith, p.below, p.few, p.few_inputs, x.requires.1))

pub overflow_sub-at : goal.overflow_sub-at
overflow_sub-at c = omega (arith, (placed (goal.at.overflow_sub-at c).Start).low)

pub overflow_add-at : goal.overflow_add-at
overflow_add-at c = let p = placed (goal.at.overflow_add-at c).Start in omega (arith, p.low, p.high, p.few, c.requires.1)

pub index_at-u-requires : goal.index_at-u-requires
index_at-u-requires c = (placed (goal.at.index_at-u-requires c).Start).within

pub returns-then-u-lent : goal.returns-then-u-lent
returns-then-u-lent c =
    let a = c.args in
    pair_none (graph-of (goal.at.returns-then-u-lent c).Start) a.lent.now.locks.now a.scratch.now c.requires.0 a.v a.k c.requires.1 (omega (arith, names (goal.at.returns-then-u-lent c).After-index_at-u, c.if-u-lent.true)) (record { count = a.count; before = 0; after = 0 }) c.requires.3 refl refl

pub move_pair-requires : goal.move_pair-requires
move_pair-requires c =
    (c.requires.0, omega (arith, (placed (goal.at.move_pair-requires c).Start).below, names (goal.at.move_pair-requires c).After-index_at-u, c.if-u-lent.false), c.requires.1, c.requires.3, c.requires.4)

pub returns : goal.returns
returns c =
    let r = c.move_pair in
    let a = c.args in
    pair_is (graph-of (goal.at.returns c).Start) a.lent.now.locks.now a.scratch.now c.requires.0 a.v a.k c.requires.1 (c.index_at-u.result - (a.lent.now.inputs + 1))
    (omega (arith, (placed (goal.at.returns c).Start).below, c.requires.1, names (goal.at.returns c).After-index_at-u, c.if-u-lent.false)) (omega (arith, names (goal.at.returns c).After-index_at-u, c.if-u-lent.false)) r.new.scratch r.result r.ensures
