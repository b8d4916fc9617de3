-- The words of this crate, for the specs/ of those above it to name in one line. No promise to a caller.
pub use Rattle.tagged_file.specs.Load.{loaded_answer, blank, loaded_graph, graph_read, among, locks_read, free_locks, load_call}
pub use Rattle.tagged_file.specs.Write.{big, field_of, head_field, node_field, output_field, lock_field, end_field, node_field_at, output_field_at, lock_field_at, in_order, file_of, write_number, written_answer, WriteOutcome, write_outcome, write_by, write_call}
