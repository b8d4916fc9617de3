-- `comparison_told` meets its contract, case by case: there are two numbers of each.
use mathlib.Core.Path.{◌≡◌, refl, sym, ap, ◌∙◌}
use mathlib.Core.List.{List}
use Prim.Native.Nat.{ℕ}
use Rattle.compare.specs.declared.Comparison.{Comparison}
use Rattle.compare.specs.declared.Comparison.TheVariants.{Moves, Size, NodeIndex, OutputIndex, NodeBit, OutputBit}
use Rattle.compare.specs.Compare.{difference_told, comparison_answer}
use Rattle.answers.specs.Told.{told_by, told}
use Rattle.answers.proofs.told.comparison_told.Goals as goal

two_told : (k : Comparison) (before : List ℕ) → difference_told k ≡ told_by (difference_told k) before
two_told Moves before = refl
two_told (Size s) before = refl
two_told (NodeIndex p) before = refl
two_told (OutputIndex p) before = refl
two_told (NodeBit p) before = refl
two_told (OutputBit p) before = refl

pub returns-in-Ok : goal.returns-in-Ok
returns-in-Ok c =
    c.numbers.ensures ∙ two_told c.in-Ok.comparison c.args.before ∙ sym (ap (λ a. told (comparison_answer a) c.args.before) c.in-Ok.is)
