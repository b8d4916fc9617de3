-- The words of this crate, for the specs/ of those above it to name in one line. No promise to a caller.
pub use Rattle.choice.specs.Choice.{from, choices, unless_less, least, best, Fits}
