-- `edge_cost` meets its contract. From the laws on tests.
use mathlib.Core.Path.{refl}
use Rattle.trees.proofs.EdgeCosts.{edge_input, edge_root, edge_inner}
use native.Mathlib.Omega.{arith}
use Rattle.trees.proofs.costs.edge_cost.Goals as goal

pub returns-then-u-inputs : goal.returns-then-u-inputs
returns-then-u-inputs c = edge_input _ _ _ _ (omega arith) refl

pub returns-then-read : goal.returns-then-read
returns-then-read c = edge_root _ _ _ _ _ (omega arith) refl (omega (arith, c.read.ensures)) refl

pub returns : goal.returns
returns c = edge_inner _ _ _ _ _ _ (omega arith) refl (λ e. omega (arith, c.read.ensures)) c.read-2.ensures c.stored_bit.ensures
