-- The words of this crate, for the specs/ of those above it to name in one line. No promise to a caller.
pub use Rattle.report.specs.Report.{inputs_text, nodes_text, outputs_text, before_text, after_text, rounds_text, node_text, maj_text, xor_text, space_text, out_text, refused_text, numbered, line1, line2, line3, line4, sizes_line, counts_line, node_line, output_line, node_line_at, output_line_at, settled_text, text_of, settled_with, then_settle, settled_file, room_number, buffer_number, report_number, reported_answer, ReportOutcome, report_outcome, printed, report_call}
