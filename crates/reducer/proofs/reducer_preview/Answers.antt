-- `reducer_preview` meets its contract. From those of `preview` and of its answer's number and value.
use mathlib.Core.Path.{refl, ap, ◌∙◌}
use Rattle.graph.specs.Answer.{Answer}
use Rattle.answers.proofs.Same.{numbered, same_signed}
use Rattle.reducer.proofs.Left.{same_kept}
use Rattle.reducer.proofs.reducer_preview.Goals as goal

pub returns : goal.returns
returns c =
    let t = c.preview-answer.ensures in
    let e = t.answer in
    record {
      saving = ((c.refusal_number.ensures ∙ numbered _ _ (λ x. refl)) ∙ ap (λ (a : Answer). a.number) e, c.saving_told.ensures ∙ same_signed e refl);
      moves = t.bytes;
      scratch = same_kept _ _ e t.scratch;
    }
