-- The words of this crate, for the specs/ of those above it to name in one line. No promise to a caller.
pub use Rattle.preview.specs.Preview.{tree_moves, moves_told, choice_in, preview_number, preview_answer, preview_bytes, AsTreeCall, all_nodes, AsList}
