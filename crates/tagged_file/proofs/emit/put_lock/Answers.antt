-- `put_lock` stores a lock's field, or nothing. From what a lock takes.
use native.Mathlib.Omega.{arith}
use mathlib.Core.Path.{ap, ◌∙◌}
use lib.Seq.{sets}
use Rattle.tagged_file.proofs.FieldBytes.{lock_locked, lock_free, length_locked, length_free}
use Rattle.tagged_file.proofs.emit.put_lock.Goals as goal

pub returns-then-lock-ne1 : goal.returns-then-lock-ne1
returns-then-lock-ne1 c =
    let a = c.args in
    let n = c.if-lock-ne1.true in
    record { value = omega (arith, length_free a.lock a.index n); buffer_after = ap (sets a.buffer.now a.at) (lock_free a.lock a.index n) }

pub put_single-requires : goal.put_single-requires
put_single-requires c =
    let a = c.args in
    omega (arith, length_locked a.lock a.index c.if-lock-ne1.false)

pub returns : goal.returns
returns c =
    let a = c.args in
    let e = c.if-lock-ne1.false in
    record { value = omega (arith, length_locked a.lock a.index e); buffer_after = c.put_single.ensures ∙ ap (sets a.buffer.now a.at) (lock_locked a.lock a.index e) }
