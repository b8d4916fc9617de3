-- `write_outputs` sweeps the outputs: those passed are turned as often as is due. From the laws of a sweep.
use mathlib.Core.Path.{refl, ◌∙◌}
use Prim.Native.Nat.{◌/◌}
use native.Mathlib.Omega.{arith}
use lib.ListN.{get_or}
use Rattle.graph.specs.Literals.{literals}
use Rattle.graph.proofs.Turned.{swept_none, swept_held, swept_next, swept_all}
use Rattle.state.specs.State.{pending_at}
use Rattle.state.proofs.writing.write_outputs.Goals as goal
use Rattle.state.proofs.writing.write_outputs.Invariants.{often}

-- how often the word x is turned

pub loop-j-init : goal.loop-j-init
loop-j-init c = let a = c.args in (omega arith, refl, swept_none (often a.inputs a.nodes a.scratch.now) (literals a.table.now a.bits.now))

pub write_output-requires : goal.write_output-requires
write_output-requires c =
    let a = c.args in
    (c.requires.0, omega (arith, c.loop-j-test.true, swept_held (often a.inputs a.nodes a.scratch.now) (literals a.table.now a.bits.now) c.loop-j.j (literals a.table.now c.loop-j.bits) c.loop-j.invariant.2, c.requires.1))

pub loop-j-preserved : goal.loop-j-preserved
loop-j-preserved c =
    let r = c.write_output in
    let a = c.args in
    let w = get_or (literals a.table.now c.loop-j.bits) c.loop-j.j 0 in (
      omega (arith, c.loop-j-test.true),
      c.bits-1.given ∙ c.loop-j.invariant.1,
      swept_next (often a.inputs a.nodes a.scratch.now) (literals a.table.now a.bits.now) c.loop-j.j w (pending_at a.inputs a.nodes a.scratch.now (w / 2)) (literals a.table.now c.loop-j.bits) (literals a.table.now r.new.bits)
          (omega (arith, c.loop-j-test.true, c.requires.1)) c.loop-j.invariant.2 refl refl r.ensures,
    )

pub shape_of-bits : goal.shape_of-bits
shape_of-bits c = c.loop-j.invariant.1

pub returns : goal.returns
returns c =
    let a = c.args in
    swept_all (often a.inputs a.nodes a.scratch.now) (literals a.table.now a.bits.now) a.count c.loop-j.j (literals a.table.now c.loop-j.bits) (omega (arith, c.loop-j.invariant.0)) c.loop-j.invariant.2
