-- `shift` meets its contract. From the laws on compaction.
use mathlib.Core.List.{List}
use Prim.Native.Nat.{ℕ}
use Rattle.graph.specs.Literals.{literals}
use Rattle.finder.proofs.Compact.{left_at, taken_at}
use Rattle.finder.proofs.compacting.shift.Goals as goal
use Rattle.finder.proofs.compacting.shift.Goals.{Start}

abbrev words : Start → List ℕ
words s = literals s.args.node_table.now s.args.node_bits.now

pub returns-then-scratch-v-eq0 : goal.returns-then-scratch-v-eq0
returns-then-scratch-v-eq0 c =
    let a = c.args in
    left_at a.inputs a.scratch.now a.v a.t (words (goal.at.returns-then-scratch-v-eq0 c).Start) a.locks.now c.if-scratch-v-eq0.true

pub returns : goal.returns
returns c =
    let a = c.args in
    taken_at a.inputs a.scratch.now a.v a.t (words (goal.at.returns c).Start) a.locks.now _ c.if-scratch-v-eq0.false c.move_node.ensures
