-- The words of this crate, for the specs/ of those above it to name in one line. No promise to a caller.
pub use Rattle.file_checks.specs.File.{be2, be4, payload_of, due_number, field_number, field_payload, node_size, third, head_number, node_field_number, output_field_number, lock_field_number, end_number, locks_within, lock_count, lock_fields_number, output_fields_number, node_fields_number, file_number, node_words, after_nodes, single_words, after_singles, locks_from, lock_indices}
