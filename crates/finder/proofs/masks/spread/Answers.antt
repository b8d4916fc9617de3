-- `spread` meets its contract: of the words that have been looked at so many are apart, so that three that meet them all have as many of the places seen. From
-- the laws on ways.
use mathlib.Core.Path.{sym}
use mathlib.Core.Bool.{true≢false}
use Prim.Native.Nat.{◌+◌}
use native.Mathlib.Omega.{arith}
use Rattle.finder.proofs.Meets.{least_none, least_more, least_end, unmet_none, unmet_up}
use Rattle.finder.proofs.masks.spread.Goals as goal

pub loop-k-init : goal.loop-k-init
loop-k-init c = (omega arith, omega arith, least_none _ 0 _)

pub bounds-ways-k : goal.bounds-ways-k
bounds-ways-k c = omega (arith, c.loop-k-test.true, c.requires)

pub returns-then-w-eq0 : goal.returns-then-w-eq0
returns-then-w-eq0 c =
    let t = c.loop-k-test.true in
    let l = c.loop-k in
    let a = c.args in
    λ e x y z. unmet_up a.allowed (l.k + 1) a.n a.ways.now x y z (omega (arith, t)) (unmet_none a.allowed l.k a.ways.now c.if-w-eq0.true x y z)

pub apart_more-apart-requires : goal.apart_more-apart-requires
apart_more-apart-requires c = omega (arith, c.loop-k.invariant.1)

pub returns-then-apart-gt3 : goal.returns-then-apart-gt3
returns-then-apart-gt3 c =
    let p = c.apart_more-apart in
    let q = c.seen_more-seen in
    let t = c.loop-k-test.true in
    let l = c.loop-k in
    let a = c.args in
    λ e x y z.
    unmet_up a.allowed (l.k + 1) a.n a.ways.now x y z (omega (arith, t))
    (least_end a.allowed (l.k + 1) a.ways.now p.result q.result c.if-apart-gt3.true (least_more a.allowed l.k a.ways.now l.apart l.seen p.result q.result l.invariant.2 p.ensures q.ensures) x y z)

pub loop-k-preserved : goal.loop-k-preserved
loop-k-preserved c =
    let p = c.apart_more-apart in
    let q = c.seen_more-seen in
    let l = c.loop-k in
    let a = c.args in (
      omega (arith, c.loop-k-test.true),
      omega (arith, c.if-apart-gt3.false),
      least_more a.allowed l.k a.ways.now l.apart l.seen p.result q.result l.invariant.2 p.ensures q.ensures,
    )

pub returns : goal.returns
returns c e = absurd (true≢false (sym e))
