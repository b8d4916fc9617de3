-- `fill::copy_locks` meets its contract. The invariant: the bytes so far are copied. From the laws on a copy.
use mathlib.Core.Path.{◌≡◌, ap, ◌∙◌}
use native.Mathlib.Omega.{arith}
use native.Mathlib.Numerals.{add-one}
use lib.ListN.{length}
use lib.Seq.{paste-zero, paste-suc, length-paste}
use Rattle.join.proofs.fill.copy_locks.Goals as goal

pub loop-v-init : goal.loop-v-init
loop-v-init c = let a = c.args in (omega arith, paste-zero a.joined_locks.now a.start a.locks.now)

pub bounds-joined_locks-first : goal.bounds-joined_locks-first
bounds-joined_locks-first c =
    let l = c.loop-v in
    let a = c.args in
    let e = ap length l.invariant.1 ∙ length-paste a.joined_locks.now a.start a.locks.now l.v (omega arith) (omega arith) in
    omega arith

pub loop-v-preserved : goal.loop-v-preserved
loop-v-preserved c =
    let l = c.loop-v in
    let a = c.args in
    (omega arith, rw (l.invariant.1, add-one) (paste-suc a.joined_locks.now a.start a.locks.now l.v 0 (omega arith) (omega arith)))

pub shape_of-joined_locks : goal.shape_of-joined_locks
shape_of-joined_locks c =
    let l = c.loop-v in
    let a = c.args in
    ap length l.invariant.1 ∙ length-paste a.joined_locks.now a.start a.locks.now l.v (omega arith) (omega arith)

pub returns : goal.returns
returns c =
    let l = c.loop-v in
    let e : l.v ≡ c.args.count = omega arith in
    rw e at l.invariant.1
