-- `renumber_outputs` meets its contract: the outputs passed have their new indices. From the laws on moved words.
use mathlib.Core.Path.{◌≡◌, refl}
use mathlib.Core.List.{List}
use Prim.Native.Nat.{ℕ, ◌≤◌, ◌<◌}
use native.Mathlib.Omega.{arith}
use Rattle.graph.specs.Literals.{literals}
use Rattle.graph.proofs.Literals.{held_le}
use Rattle.finder.proofs.Compact.{renumber_low}
use Rattle.finder.proofs.Moved.{outputs_none, outputs_more, due_holds}
use Rattle.finder.proofs.Rooms.{room_same, room_then, held_kept}
use Rattle.finder.proofs.compacting.renumber_outputs.Goals as goal
use Rattle.finder.proofs.compacting.renumber_outputs.Goals.{Start}

abbrev words : Start → List ℕ
words s = literals s.args.output_table.now s.args.output_bits.now

inside : (w j o l l₀ : ℕ) → w ≡ j → j < o → o ≤ l₀ → l ≡ l₀ → w < l
inside w j o l l₀ e h k q = omega arith

less : (j o k l : ℕ) → j < o → o ≤ k → k ≤ l → j < l
less j o k l h p q = omega arith

pub loop-j-init : goal.loop-j-init
loop-j-init c = (omega arith, room_same _ _, outputs_none c.args.inputs c.args.scratch.now (words (goal.at.loop-j-init c).Start))

pub edge_at-x-requires : goal.edge_at-x-requires
edge_at-x-requires c =
    let h = due_holds c.args.inputs c.loop-j.j _ c.wide-at.result c.args.scratch.now (words (goal.at.edge_at-x-requires c).Start) _ c.loop-j.invariant.2 c.wide-at.ensures refl (c.requires.1 c.loop-j.j c.loop-j-test.true) in
    (inside _ _ _ _ _ c.wide-at.ensures c.loop-j-test.true c.requires.0 (held_kept _ _ _ _ c.loop-j.invariant.1), h.low)

pub renumbered-requires : goal.renumbered-requires
renumbered-requires c =
    due_holds c.args.inputs c.loop-j.j _ c.wide-at.result c.args.scratch.now (words (goal.at.renumbered-requires c).Start) _ c.loop-j.invariant.2 c.wide-at.ensures c.edge_at-x.ensures (c.requires.1 c.loop-j.j c.loop-j-test.true)

pub set_word-requires : goal.set_word-requires
set_word-requires c =
    let h = due_holds c.args.inputs c.loop-j.j _ c.wide-at.result c.args.scratch.now (words (goal.at.set_word-requires c).Start) _ c.loop-j.invariant.2 c.wide-at.ensures c.edge_at-x.ensures (c.requires.1 c.loop-j.j c.loop-j-test.true) in
    (inside _ _ _ _ _ c.wide-at.ensures c.loop-j-test.true c.requires.0 (held_kept _ _ _ _ c.loop-j.invariant.1), λ n. rw c.renumbered.ensures (renumber_low c.args.inputs c.args.scratch.now _ h))

pub loop-j-preserved : goal.loop-j-preserved
loop-j-preserved c =
    let a = c.args in
    let k = c.set_word.auto in (
      omega (arith, c.loop-j-test.true),
      room_then _ _ _ _ c.loop-j.invariant.1 _ _ k.table k.bits,
      rw c.set_word.ensures (outputs_more a.inputs c.loop-j.j c.edge_at-x.result c.renumbered.result c.wide-at.result a.scratch.now (words (goal.at.loop-j-preserved c).Start) (literals c.loop-j.output_table c.loop-j.output_bits) c.loop-j.invariant.2
          (less c.loop-j.j _ _ _ c.loop-j-test.true c.requires.0 (held_le (words (goal.at.loop-j-preserved c).Start))) c.wide-at.ensures c.edge_at-x.ensures c.renumbered.ensures),
    )

pub shape_of-output_table : goal.shape_of-output_table
shape_of-output_table c = c.loop-j.invariant.1.indices

pub shape_of-output_bits : goal.shape_of-output_bits
shape_of-output_bits c = c.loop-j.invariant.1.bits

pub returns : goal.returns
returns c =
    let e : c.loop-j.j ≡ c.args.outputs = omega (arith, c.loop-j-test.false, c.loop-j.invariant.0) in
    rw e at c.loop-j.invariant.2
