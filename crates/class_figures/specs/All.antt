-- The words of this crate, for the specs/ of those above it to name in one line. No promise to a caller.
pub use Rattle.class_figures.specs.Figures.{kind_cells, cells, row_of, total, figures, afresh}
pub use Rattle.class_figures.specs.Call.{record_length, record_number, length_number, class_number, entered_at, entered, ClassOutcome, class_outcome, guarded_class, settled_in, class_call, latest_total, all_of, latest_of, figures_number, figures_call, told_answer, figures_answer}
