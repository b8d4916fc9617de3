-- `write_node` meets its contract: three bits put in a row. From that law.
use mathlib.Core.Path.{◌≡◌, ◌∙◌, sym}
use Prim.Native.Nat.{◌+◌, ◌*◌, ◌≤◌, ◌<◌}
use native.Mathlib.Omega.{arith}
use lib.ListN.{length}
use Rattle.state.specs.State.{kept_bit, bit_now}
use Rattle.state.proofs.Stands.{kept_at_lem}
use Rattle.state.proofs.Written.{node_put}
use Rattle.state.proofs.writing.write_node.Goals as goal
use Rattle.state.proofs.writing.write_node.Goals.{Start}

-- the places of a node's words, and what is lent

record At (s : Start) : Type 0 where
  few : s.args.v < 100000
  long : 8 * s.args.v + 8 ≤ length s.args.scratch.now
  word : 3 * s.args.v + 2 < length s.args.table.now
  bit : 3 * s.args.v + 2 < 64 * length s.args.bits.now

at : (s : Start) → At s
at s = record { few = omega (arith, s.requires.0.few_nodes, s.requires.1); long = omega (arith, s.requires.0.long, s.requires.1); word = s.requires.2; bit = s.requires.3 }

pub overflow_mul-at : goal.overflow_mul-at
overflow_mul-at c = let a = at (goal.at.overflow_mul-at c).Start in omega (arith, a.few)

pub overflow_mul-kept : goal.overflow_mul-kept
overflow_mul-kept c = let a = at (goal.at.overflow_mul-kept c).Start in omega (arith, a.few)

pub overflow_add-kept : goal.overflow_add-kept
overflow_add-kept c = let a = at (goal.at.overflow_add-kept c).Start in omega (arith, a.few)

pub offset_bounds-scratch-v : goal.offset_bounds-scratch-v
offset_bounds-scratch-v c = let a = at (goal.at.offset_bounds-scratch-v c).Start in omega (arith, a.few)

pub bounds-scratch-v : goal.bounds-scratch-v
bounds-scratch-v c = let a = at (goal.at.bounds-scratch-v c).Start in omega (arith, a.long)

pub word_bit-x-requires : goal.word_bit-x-requires
word_bit-x-requires c = (c.requires.0, omega (arith, (at (goal.at.word_bit-x-requires c).Start).word), c.bit_of.ensures.1)

pub overflow_add-at : goal.overflow_add-at
overflow_add-at c = let a = at (goal.at.overflow_add-at c).Start in omega (arith, a.few)

pub word_bit-y-requires : goal.word_bit-y-requires
word_bit-y-requires c = (c.requires.0, omega (arith, (at (goal.at.word_bit-y-requires c).Start).word), c.bit_of-2.ensures.1)

pub overflow_add-at-2 : goal.overflow_add-at-2
overflow_add-at-2 c = let a = at (goal.at.overflow_add-at-2 c).Start in omega (arith, a.few)

pub word_bit-z-requires : goal.word_bit-z-requires
word_bit-z-requires c = (c.requires.0, omega (arith, (at (goal.at.word_bit-z-requires c).Start).word), c.bit_of-3.ensures.1)

pub put_bit-one-requires : goal.put_bit-one-requires
put_bit-one-requires c = (omega (arith, (at (goal.at.put_bit-one-requires c).Start).bit), c.word_bit-x.ensures.1)

pub overflow_add-at-3 : goal.overflow_add-at-3
overflow_add-at-3 c = let a = at (goal.at.overflow_add-at-3 c).Start in omega (arith, a.few)

pub put_bit-two-requires : goal.put_bit-two-requires
put_bit-two-requires c = (omega (arith, (at (goal.at.put_bit-two-requires c).Start).bit, c.bits-1.given), c.word_bit-y.ensures.1)

pub overflow_add-at-4 : goal.overflow_add-at-4
overflow_add-at-4 c = let a = at (goal.at.overflow_add-at-4 c).Start in omega (arith, a.few)

pub put_bit-requires : goal.put_bit-requires
put_bit-requires c = (omega (arith, (at (goal.at.put_bit-requires c).Start).bit, c.bits-1.given, c.bits-2-1.given), c.word_bit-z.ensures.1)

pub shape_of-bits : goal.shape_of-bits
shape_of-bits c = omega (arith, c.bits-1.given, c.bits-2-1.given, c.bits-3-1.given)

pub returns : goal.returns
returns c bs p =
    let a = c.args in
    let f = bit_now a.inputs a.nodes a.scratch.now a.table.now in
    let zero : 3 * a.v + 0 ≡ 3 * a.v = omega arith in
    let k₀ : kept_bit a.scratch.now (3 * a.v) ≡ _ = rw zero at (kept_at_lem a.scratch.now a.v 0 (omega arith)) in
    node_put f bs a.bits.now c.put_bit-one.new.bits c.put_bit-two.new.bits c.put_bit.new.bits (3 * a.v) a.got c.put_bit-one.result c.put_bit-two.result c.put_bit.result _ _ _
    (c.word_bit-x.ensures.0 (c.bit_of.ensures.0 ∙ sym k₀))
    (c.word_bit-y.ensures.0 (c.bit_of-2.ensures.0 ∙ sym (kept_at_lem a.scratch.now a.v 1 (omega arith))))
    (c.word_bit-z.ensures.0 (c.bit_of-3.ensures.0 ∙ sym (kept_at_lem a.scratch.now a.v 2 (omega arith))))
    c.put_bit-one.ensures c.put_bit-two.ensures c.put_bit.ensures p
