-- `at_each` makes the calls at each node: its loop has made those at the nodes below v.
use Rattle.std.proofs.Common.{◌≡◌, ◌*◌, refl, arith}
use Rattle.settling.proofs.Stepping.{each_none, calls_more, phase_ready, first_ready}
use Rattle.settling.proofs.phases.at_each.Goals as goal

pub loop-v-init : goal.loop-v-init
loop-v-init g c =
    let r = c.requires.1.0 in
    let e : g.calls.most * 0 ≡ 0 = omega arith in
    record { few = omega arith; all = refl; made = rw e (each_none g.calls.made _ _ _ r.0 r.1); ready = first_ready _ _ _ r.0 r.1 r.2 }

pub loop-v-preserved : goal.loop-v-preserved
loop-v-preserved g c =
    let i = c.loop-v.invariant in
    let r = c.requires.1.0 in
    let e = calls_more g.calls.made _ _ c.loop-v.v g.calls.most _ _ _ _ _ i.made
    (c.requires.1.1.1 c.loop-v.v c.loop-v.t _ _ _ c.loop-v-test.true i.ready c.call-t.ensures) in
    record { few = omega arith; all = refl; made = e; ready = phase_ready _ _ _ _ _ _ _ _ e r.0 r.2 r.3 (omega arith) }

pub returns : goal.returns
returns g c =
    let e : c.loop-v.v ≡ c.args.lent.now.nodes = omega arith in
    rw e at c.loop-v.invariant.made
