-- `compact` meets its contract: the nodes passed stand together. From the laws on compaction.
use mathlib.Core.Path.{◌≡◌}
use mathlib.Core.List.{List}
use Prim.Native.Nat.{ℕ, ◌≤◌}
use native.Mathlib.Omega.{arith}
use Rattle.graph.specs.Graph.{graph_of}
use Rattle.graph.specs.Literals.{literals}
use Rattle.graph.proofs.Literals.{held_le}
use Rattle.finder.proofs.Compact.{compacted_none, compacted_more, shifting_none, shifting_holds, shifting_room, shifting_more}
use Rattle.finder.proofs.Rooms.{room_same, room_then, held_kept}
use Rattle.finder.proofs.compacting.compact.Goals as goal
use Rattle.finder.proofs.compacting.compact.Goals.{Start}

abbrev words : Start → List ℕ
words s = literals s.args.node_table.now s.args.node_bits.now

within : (a b c : ℕ) → a ≤ b → b ≤ c → a ≤ c
within a b c h k = omega arith

pub loop-v-init : goal.loop-v-init
loop-v-init c =
    let a = c.args in
    (shifting_none _ _ _, room_same _ _, λ o os l m. compacted_none (graph_of a.inputs a.nodes o (words (goal.at.loop-v-init c).Start) os) l a.locks.now)

pub shift-t-requires : goal.shift-t-requires
shift-t-requires c =
    let a = c.args in
    let i = c.loop-v.invariant.0 in
    let r = shifting_room a.nodes (words (goal.at.shift-t-requires c).Start) a.locks.now c.loop-v.v c.loop-v.t _ _ i c.loop-v-test.true c.requires.0 c.requires.1 _ c.requires.2 _ _ c.requires.3 (held_kept _ _ _ _ c.loop-v.invariant.1) in
    (r.0, r.1, r.2, r.3, r.4, shifting_holds a.nodes (words (goal.at.shift-t-requires c).Start) a.locks.now c.loop-v.v c.loop-v.t _ _ i c.loop-v-test.true a.inputs a.scratch.now (c.requires.4 c.loop-v.v c.loop-v-test.true))

pub loop-v-preserved : goal.loop-v-preserved
loop-v-preserved c =
    let a = c.args in
    let k = c.shift-t.auto in
    let i = c.loop-v.invariant.0 in
    let ns = literals c.loop-v.node_table c.loop-v.node_bits in (
      shifting_more a.nodes (words (goal.at.loop-v-preserved c).Start) a.locks.now c.loop-v.v c.loop-v.t ns c.loop-v.locks i c.loop-v-test.true a.inputs _ a.scratch.now _ _ c.shift-t.ensures,
      room_then _ _ _ _ c.loop-v.invariant.1 _ _ k.node_table k.node_bits,
      λ n os m z.
          compacted_more (graph_of a.inputs a.nodes n (words (goal.at.loop-v-preserved c).Start) os) m a.locks.now a.scratch.now z c.loop-v.v c.loop-v.t ns c.loop-v.locks
          (c.loop-v.invariant.2 n os m z) c.loop-v-test.true _ _ _ (within _ _ _ c.requires.3 (held_le (words (goal.at.loop-v-preserved c).Start))) c.requires.1 c.shift-t.ensures,
    )

pub shape_of-node_table : goal.shape_of-node_table
shape_of-node_table c = c.loop-v.invariant.1.indices

pub shape_of-node_bits : goal.shape_of-node_bits
shape_of-node_bits c = c.loop-v.invariant.1.bits

pub shape_of-locks : goal.shape_of-locks
shape_of-locks c = c.loop-v.invariant.0.same_locks

pub returns : goal.returns
returns c =
    let i = c.loop-v.invariant.0 in
    let e : c.loop-v.v ≡ c.args.nodes = omega (arith, c.loop-v-test.false, i.within) in
    (omega (arith, i.low, i.within), λ o os m k. rw e at (c.loop-v.invariant.2 o os m k))
