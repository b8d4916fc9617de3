-- The words of this crate, for the specs/ of those above it to name in one line. No promise to a caller.
pub use Rattle.resistive.specs.Resistive.{odd_inputs, single, singles, key, still_moves, still_at, best_still, resistive_call, MostSingle}
