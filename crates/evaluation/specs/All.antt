-- The words of this crate, for the specs/ of those above it to name in one line. No promise to a caller.
pub use Rattle.evaluation.specs.Word.{gather}
pub use Rattle.evaluation.specs.Evaluation.{assignment_at, output_word, slice_number, scratch_number, evaluate_number, results_after, evaluated_answer}
