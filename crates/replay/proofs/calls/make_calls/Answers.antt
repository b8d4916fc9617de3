-- `make_calls` makes every call: its loop keeps what is left of them.
use mathlib.Core.Path.{refl, ◌∙◌}
use Prim.Native.Nat.{◌+◌, ◌≤◌}
use native.Mathlib.Omega.{arith}
use mir.Syntax.{w64}
use mir.ValLaws.{to_z_pos}
use lib.ListN.{length, length-set}
use Rattle.graph.proofs.Difference.{read_as_lem}
use Rattle.file_checks.proofs.Checked.{rest}
use Rattle.replay.proofs.Left.{opened, calls_more, calls_none}
use Rattle.replay.proofs.One.{decoded_or}
use Rattle.replay.proofs.calls.make_calls.Goals as goal
use Rattle.replay.proofs.calls.make_calls.Goals.{In-len3-up}

-- there is room for the answer of a call that is left

room : (c : In-len3-up) → let l = c.loop-s in (l.at + 3 ≤ length l.answers) × (l.at + 3 ≤ 1152921504606846979)
room c =
    let i = c.loop-s.invariant.5 in
    (omega (arith, i.fits, c.in-len3-up.len_at_least), omega (arith, i.placed, c.in-len3-up.len_at_least, c.requires.1))

pub loop-s-init : goal.loop-s-init
loop-s-init c = (refl, refl, refl, refl, refl, record { long_scratch = refl; long_answers = refl; fits = omega (arith, c.requires.0); placed = omega arith; graph = refl; answers = refl })

pub offset_bounds-answers-at : goal.offset_bounds-answers-at
offset_bounds-answers-at c = omega (arith, room (goal.at.offset_bounds-answers-at c).In-len3-up)

pub bounds-answers-at : goal.bounds-answers-at
bounds-answers-at c = omega (arith, room (goal.at.bounds-answers-at c).In-len3-up)

pub overflow_add-own : goal.overflow_add-own
overflow_add-own c = omega (arith, room (goal.at.overflow_add-own c).In-len3-up)

pub offset_bounds-answers-at-in-len3-up : goal.offset_bounds-answers-at-in-len3-up
offset_bounds-answers-at-in-len3-up c = omega (arith, room (goal.at.offset_bounds-answers-at-in-len3-up c).In-len3-up)

pub bounds-answers-at-in-len3-up : goal.bounds-answers-at-in-len3-up
bounds-answers-at-in-len3-up c = simp length-set (omega (arith, room (goal.at.bounds-answers-at-in-len3-up c).In-len3-up))

pub overflow_add-others : goal.overflow_add-others
overflow_add-others c = omega (arith, room (goal.at.overflow_add-others c).In-len3-up)

pub offset_bounds-answers-at-in-len3-up-2 : goal.offset_bounds-answers-at-in-len3-up-2
offset_bounds-answers-at-in-len3-up-2 c = omega (arith, room (goal.at.offset_bounds-answers-at-in-len3-up-2 c).In-len3-up)

pub bounds-answers-at-in-len3-up-2 : goal.bounds-answers-at-in-len3-up-2
bounds-answers-at-in-len3-up-2 c = simp length-set (omega (arith, room (goal.at.bounds-answers-at-in-len3-up-2 c).In-len3-up))

pub overflow_add-at : goal.overflow_add-at
overflow_add-at c = omega (arith, room (goal.at.overflow_add-at c).In-len3-up)

pub loop-s-preserved : goal.loop-s-preserved
loop-s-preserved c =
    let l = c.loop-s in
    let k = c.one_call-answer.auto in (
      k.node_table ∙ l.invariant.0,
      k.node_bits ∙ l.invariant.1,
      k.output_table ∙ l.invariant.2,
      k.output_bits ∙ l.invariant.3,
      k.locks ∙ l.invariant.4,
      calls_more _ _ _ _ _ _ _ _ l.scratch _ l.answers l.s.now _ l.at _ _ _ c.one_call-answer.result _ _ _
          (to_z_pos w64 _ (omega (arith, c.struct_told-1.given.0.1)))
          (read_as_lem _ c.struct_told-1.given.1.0.1)
          (read_as_lem _ c.struct_told-in-len3-up-1.given.1.1.0.1)
          (opened l.s.now _ c.in-len3-up.len_at_least (rest 3 l.s.now))
          l.invariant.5 (decoded_or _ _ _ _ _ _ _ _ c.try_from.result c.try_from.ensures c.unwrap_or.ensures c.one_call-answer.ensures) k.scratch,
    )

pub shape_of-node_table : goal.shape_of-node_table
shape_of-node_table c = c.loop-s.invariant.0

pub shape_of-node_bits : goal.shape_of-node_bits
shape_of-node_bits c = c.loop-s.invariant.1

pub shape_of-output_table : goal.shape_of-output_table
shape_of-output_table c = c.loop-s.invariant.2

pub shape_of-output_bits : goal.shape_of-output_bits
shape_of-output_bits c = c.loop-s.invariant.3

pub shape_of-locks : goal.shape_of-locks
shape_of-locks c = c.loop-s.invariant.4

pub shape_of-scratch : goal.shape_of-scratch
shape_of-scratch c = c.loop-s.invariant.5.long_scratch

pub shape_of-answers : goal.shape_of-answers
shape_of-answers c = c.loop-s.invariant.5.long_answers

pub returns : goal.returns
returns c =
    let l = c.loop-s in
    calls_none _ _ _ _ _ _ _ l.scratch l.answers l.s.now l.at (omega arith) c.requires.0 l.invariant.5
