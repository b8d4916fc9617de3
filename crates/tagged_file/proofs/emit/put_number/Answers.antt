-- `put_number` stores the four bytes of a number. Assumes their room.
use native.Mathlib.Omega.{arith}
use lib.ListN.{length-set}
use Prim.Native.Nat.{suc, ◌+◌}
use mathlib.Core.Path.{◌≡◌}
use Rattle.tagged_file.specs.Write.{big}
use Rattle.tagged_file.proofs.emit.put_number.Goals as goal

pub bounds-buffer-at-2 : goal.bounds-buffer-at-2
bounds-buffer-at-2 c = simp length-set (omega arith)

pub bounds-buffer-at-3 : goal.bounds-buffer-at-3
bounds-buffer-at-3 c = simp length-set (omega arith)

pub bounds-buffer-at-4 : goal.bounds-buffer-at-4
bounds-buffer-at-4 c = simp length-set (omega arith)

pub returns : goal.returns
unfolding big
returns c =
    let at = c.args.at in
    let q₁ : at + 1 ≡ suc at = omega arith in
    let q₂ : at + 2 ≡ suc (suc at) = omega arith in
    let q₃ : at + 3 ≡ suc (suc (suc at)) = omega arith in
    rw (q₁, q₂, q₃)
