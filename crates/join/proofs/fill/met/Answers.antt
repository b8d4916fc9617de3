-- `fill::met` meets its contract: its three ways are those of `met_by`. From the laws on tests.
use mathlib.Core.Path.{refl, ap, ◌∙◌}
use Prim.Native.Nat.{◌-◌, ◌/◌}
use native.Mathlib.Omega.{arith}
use Rattle.graph.specs.Graph.{turn}
use Rattle.graph.proofs.Tests.{less, no_less, equal, unequal}
use Rattle.graph.proofs.Turn.{turn_half}
use Rattle.join.proofs.fill.met.Goals as goal

pub returns-then-front-index : goal.returns-then-front-index
returns-then-front-index c = (unequal _ _ _ _ (λ z. omega arith) (less _ _ _ _ (omega arith) refl), omega arith)

pub returns-then-index-eq0 : goal.returns-then-index-eq0
returns-then-index-eq0 c = (equal _ _ _ _ c.if-index-eq0.true refl, omega arith)

pub edge_at-y-requires : goal.edge_at-y-requires
edge_at-y-requires c =
    let m = c.args.front.now.meets in
    (omega (arith, m.enough), omega (arith, m.low (c.args.x / 2 - 1) (omega arith)))

pub returns : goal.returns
returns c = (
  unequal _ _ _ _ c.if-index-eq0.false (no_less _ _ _ _ (omega arith) (c.turned.ensures ∙ ap (turn _) c.edge_at-y.ensures)),
  rw (c.turned.ensures, turn_half, c.edge_at-y.ensures) (omega (arith, c.args.front.now.meets.low (c.args.x / 2 - 1) (omega arith))),
)
