-- `turn_outputs` meets its contract: the outputs passed are turned as the bits of the indices that they name say. From the laws of a table
-- turned up to a place.
use mathlib.Core.Path.{◌≡◌, refl, ap, ◌∙◌}
use mathlib.Core.List.{List}
use native.Mathlib.Omega.{arith}
use Prim.Native.Nat.{ℕ, ◌<◌}
use lib.ListN.{get_or}
use Rattle.graph.specs.Graph.{index}
use Rattle.graph.specs.Literals.{held, literals}
use Rattle.graph.specs.Turned.{turned_table, up_to}
use Rattle.graph.proofs.Turned.{turned_start}
use Rattle.many.specs.Making.{named}
use Rattle.many.proofs.Sweeping.{named_asks, named_more}
use Rattle.many.proofs.making.turn_outputs.Goals as goal
use Rattle.many.proofs.making.turn_outputs.Goals.{In-loop-j, Start}

abbrev table : Start → List ℕ
table s = literals s.args.output_table.now s.args.output_bits.now

-- inside the loop: what turning the output asks

asks : (c : In-loop-j) → let l = c.loop-j in let a = c.args in
    (l.j < held (literals a.output_table.now l.output_bits)) × (index (get_or (literals a.output_table.now l.output_bits) l.j 0) < 104128)
asks c =
    let l = c.loop-j in
    let h = c.loop-j-test.true in
    named_asks c.args.seen.now ((literals c.args.output_table.now c.args.output_bits.now)) l.j (literals c.args.output_table.now l.output_bits) l.invariant.2 c.args.outputs h c.requires.0 (c.requires.1 l.j h)

pub loop-j-init : goal.loop-j-init
loop-j-init c = (omega arith, refl, turned_start _ _)

pub turns_at-t-requires : goal.turns_at-t-requires
turns_at-t-requires c = (omega arith, (asks (goal.at.turns_at-t-requires c).In-loop-j).0, (asks (goal.at.turns_at-t-requires c).In-loop-j).1, c.requires.2)

pub turn_word-requires : goal.turn_word-requires
turn_word-requires c = (c.turns_at-t.ensures.1, (asks (goal.at.turn_word-requires c).In-loop-j).0, λ p. omega (arith, (asks (goal.at.turn_word-requires c).In-loop-j).1))

pub loop-j-smaller : goal.loop-j-smaller
loop-j-smaller c = omega (arith, c.loop-j-test.true)

pub loop-j-preserved : goal.loop-j-preserved
loop-j-preserved c =
    let l = c.loop-j in
    let a = c.args in (
      omega (arith, c.loop-j-test.true),
      c.turn_word.auto.bits ∙ l.invariant.1,
      named_more a.seen.now (table (goal.at.loop-j-preserved c).Start) l.j (literals a.output_table.now l.output_bits) l.invariant.2 a.outputs c.loop-j-test.true c.requires.0 c.turns_at-t.result (literals a.output_table.now c.turn_word.new.bits) c.turns_at-t.ensures.0 c.turn_word.ensures,
    )

pub shape_of-output_bits : goal.shape_of-output_bits
shape_of-output_bits c = c.loop-j.invariant.1

pub returns : goal.returns
returns c =
    let l = c.loop-j in
    let k : l.j ≡ c.args.outputs = omega (arith, c.loop-j-test.false, l.invariant.0) in
    l.invariant.2 ∙ ap (λ (y : ℕ). turned_table (table (goal.at.returns c).Start) (up_to y (named c.args.seen.now (table (goal.at.returns c).Start)))) k
