-- `turn_readers` meets its contract: the words passed are turned. From the laws of a sweep.
use native.Mathlib.Omega.{arith}
use mathlib.Core.Path.{refl, ◌∙◌}
use Rattle.graph.specs.Literals.{literals}
use Rattle.graph.proofs.Turned.{swept_none, swept_held, swept_next, swept_all}
use Rattle.node_call.specs.Write.{read_turns, readers_after}
use Rattle.node_call.proofs.Turning.{readers_still}
use Rattle.node_call.proofs.write.turn_readers.Goals as goal

pub returns-then-t-eq0 : goal.returns-then-t-eq0
returns-then-t-eq0 c =
    let a = c.args in
    readers_still a.n a.u a.t (literals a.table.now a.bits.now) c.if-t-eq0.true

pub loop-j-init : goal.loop-j-init
loop-j-init c = let a = c.args in (omega arith, refl, swept_none (read_turns a.u a.t) (literals a.table.now a.bits.now))

pub turn_reader-requires : goal.turn_reader-requires
turn_reader-requires c =
    let a = c.args in
    let h = swept_held (read_turns a.u a.t) (literals a.table.now a.bits.now) c.loop-j.j (literals a.table.now c.loop-j.bits) c.loop-j.invariant.2 in
    (omega (arith, h, c.requires.0), c.requires.1, c.requires.2)

pub loop-j-preserved : goal.loop-j-preserved
loop-j-preserved c =
    let a = c.args in (
      omega (arith, c.loop-j-test.true),
      c.turn_reader.auto.bits ∙ c.loop-j.invariant.1,
      swept_next (read_turns a.u a.t) (literals a.table.now a.bits.now) c.loop-j.j _ _ (literals a.table.now c.loop-j.bits) _ (omega (arith, c.loop-j-test.true, c.requires.0)) c.loop-j.invariant.2 refl refl c.turn_reader.ensures,
    )

pub returns : goal.returns
unfolding readers_after
returns c =
    let a = c.args in
    swept_all (read_turns a.u a.t) (literals a.table.now a.bits.now) a.n c.loop-j.j (literals a.table.now c.loop-j.bits) (omega arith) c.loop-j.invariant.2
