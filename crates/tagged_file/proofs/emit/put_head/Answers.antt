-- `put_head` stores a tag and two bytes of a length. Assumes their room.
use native.Mathlib.Omega.{arith}
use lib.ListN.{length-set}
use Prim.Native.Nat.{suc, ◌+◌}
use mathlib.Core.Path.{◌≡◌}
use Rattle.tagged_file.proofs.emit.put_head.Goals as goal

pub bounds-buffer-at-2 : goal.bounds-buffer-at-2
bounds-buffer-at-2 c = simp length-set (omega arith)

pub bounds-buffer-at-3 : goal.bounds-buffer-at-3
bounds-buffer-at-3 c = simp length-set (omega arith)

pub returns : goal.returns
returns c =
    let at = c.args.at in
    let q₁ : at + 1 ≡ suc at = omega arith in
    let q₂ : at + 2 ≡ suc (suc at) = omega arith in
    rw (q₁, q₂)
