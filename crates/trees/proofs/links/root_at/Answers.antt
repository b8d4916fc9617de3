-- `root_at` meets its contract. From the laws on tests.
use mathlib.Core.Path.{sym, ◌∙◌}
use Rattle.trees.proofs.LinkSteps.{root_at_root, root_at_other}
use native.Mathlib.Omega.{arith}
use Rattle.trees.proofs.links.root_at.Goals as goal

pub returns-then-read : goal.returns-then-read
returns-then-read c = sym (root_at_root _ _ (omega (arith, c.read.ensures)))

pub returns : goal.returns
returns c = c.read-2.ensures ∙ sym (root_at_other _ _ (λ e. omega (arith, c.read.ensures)))
