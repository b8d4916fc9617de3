-- The words of this crate, for the specs/ of those above it to name in one line. No promise to a caller.
pub use Rattle.join.specs.Join.{met, met_word, joined_graph, joined_locks, join_number, join_call}
