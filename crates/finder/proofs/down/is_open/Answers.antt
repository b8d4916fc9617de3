-- `is_open` meets its contract. From the laws on open indices.
use mathlib.Core.Path.{◌≡◌, sym}
use mathlib.Core.Bool.{true≢false}
use Prim.Native.Nat.{ℕ, ◌+◌, ◌-◌, ◌*◌, ◌≤◌, ◌<◌}
use native.Mathlib.Omega.{arith}
use borrow.Author.Tests.{ltb-true}
use Rattle.finder.proofs.Opens.{open_input, open_node}
use Rattle.finder.proofs.down.is_open.Goals as goal

room : (i u w l : ℕ) → w ≡ u - i - 1 → i < u → u ≤ i + 100000 → 8 * (u - i) ≤ l → (w < 100000) × (0 < 8) × (8 * w + 0 < l)
room i u w l e b h k = (omega arith, omega arith, omega arith)

pub returns-then-index-eq0 : goal.returns-then-index-eq0
returns-then-index-eq0 c = λ e. absurd (true≢false (sym e))

pub returns-then-index-inputs : goal.returns-then-index-inputs
returns-then-index-inputs c = λ e. open_input c.args.inputs c.args.scratch.now c.args.index c.if-index-eq0.false c.if-index-inputs.true

pub read-requires : goal.read-requires
read-requires c =
    room c.args.inputs c.args.index _ _ c.wide.ensures (omega (arith, c.if-index-inputs.false)) c.requires.1 c.requires.2

pub returns : goal.returns
returns c =
    λ e. open_node c.args.inputs c.args.scratch.now c.args.index _ _ c.if-index-eq0.false c.wide.ensures c.read.ensures (ltb-true 1 _ e)
