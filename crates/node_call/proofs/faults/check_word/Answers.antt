-- `check_word` meets its contract. Assumes nothing.
use native.Mathlib.Omega.{arith}
use mathlib.Core.Path.{◌≡◌}
use mathlib.Core.Bool.{Bool, true, false, cond, ◌&&◌, and-false}
use Prim.Native.Nat.{ℕ, ◌≤◌, ◌<◌}
use lib.Dec.{leb}
use borrow.Author.Tests.{le-leb, lt-leb}
use Rattle.node_call.proofs.faults.check_word.Goals as goal

within : (x : Bool) (k : ℕ) → 1 ≤ k → k ≤ 2 → ◌≡◌ {A = ℕ} 0 (cond (leb 1 k && leb k (cond x 2 3)) 0 7)
within true k h l = rw (le-leb 1 k h, le-leb k 2 l)
within false k h l = rw (le-leb 1 k h, le-leb k 3 (omega arith))

past : (k : ℕ) → 2 < k → (k ≡ 3 → ⊥) → 3 < k
past k h n = omega arith

pub returns-then-word-lt1 : goal.returns-then-word-lt1
returns-then-word-lt1 c = rw (lt-leb 1 c.args.word c.if-word-lt1.true)

pub returns-then-word-le2 : goal.returns-then-word-le2
returns-then-word-le2 c = within c.args.xor c.args.word c.if-word-lt1.false c.if-word-le2.true

pub returns-then-xor : goal.returns-then-xor
returns-then-xor c =
    let a = c.args in
    rw (c.if-xor.true, lt-leb a.word 2 c.if-word-le2.false, and-false)

pub returns-then-word-eq3 : goal.returns-then-word-eq3
returns-then-word-eq3 c =
    let a = c.args in
    rw (c.if-xor.false, le-leb 1 a.word (omega arith), le-leb a.word 3 (omega arith))

pub returns : goal.returns
returns c =
    let a = c.args in
    let h : 3 < a.word = past a.word c.if-word-le2.false c.if-word-eq3.false in
    rw (c.if-xor.false, lt-leb a.word 3 h, and-false)
