-- `reducer_export` meets its contract. From those of `export` and of its answer's number and value.
use mathlib.Core.Path.{refl, ap, ◌∙◌}
use Rattle.tagged_file.specs.Write.{WriteOutcome}
use Rattle.answers.proofs.Same.{numbered}
use Rattle.reducer.proofs.Left.{same_kept, text_left}
use Rattle.tagged_file.specs.Write.{WriteOutcome}
use Rattle.reducer.proofs.reducer_export.Goals as goal

pub returns : goal.returns
returns c =
    let t = c.export-answer.ensures in
    record {
      text = text_left _ _ (c.refusal_number.ensures ∙ numbered _ _ (λ x. refl)) _ _ _ c.written_told.ensures t.outcome;
      scratch = same_kept _ _ (ap (λ (o : WriteOutcome). o.answer) t.outcome) t.scratch;
    }
