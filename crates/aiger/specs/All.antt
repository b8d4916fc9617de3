-- The words of this crate, for the specs/ of those above it to name in one line. No promise to a caller.
pub use Rattle.aiger.specs.Import.{head_m, head_i, head_l, head_o, head_a, body, aag_number, header_number, input_line_number, output_line_number, gate_line_number, input_lines_number, output_lines_number, gate_lines_number, body_number, import_number, gate_word, graph_imported, import_call}
pub use Rattle.aiger.specs.Export.{gates_of, gates_before, exported, gate, xor_gates, majority_gates, node_gates, gates, ended, ones, threes, header, inputs, outputs, export_text, export_number, export_call}
