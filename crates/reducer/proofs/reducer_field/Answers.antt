-- `reducer_field` meets its contract. From those of `check_field`, `field` and `field_told`.
use mathlib.Core.Path.{sym, ap, ◌∙◌}
use mathlib.Core.List.{List, [], ◌∷◌}
use Prim.Native.Nat.{ℕ}
use lib.ListN.{length}
use Rattle.graph.specs.Answer.{accepted, unless}
use Rattle.file_checks.specs.File.{field_number}
use Rattle.reducer.specs.Interface.{field_answer}
use Rattle.answers.proofs.Same.{same_told}
use Rattle.reducer.proofs.Left.{stretch_told}
use Rattle.reducer.proofs.reducer_field.Goals as goal

pub returns : goal.returns
unfolding field_answer
returns c =
    let a = c.args in
    let s = a.bytes.now in
    let n = c.refusal_number-number.ensures ∙ c.check_field.ensures in
    let q = c.field_told.ensures
    ∙ same_told _ (ap (λ (k : ℕ). unless k (accepted (3 ∷ length c.field.result.now ∷ []))) n
    ∙ ap (λ (l : List ℕ). unless (field_number s) (accepted (3 ∷ length l ∷ []))) c.field.ensures) in
    record { answer = (n, q); stretch = λ z. stretch_told s _ _ q (sym n ∙ z) }
