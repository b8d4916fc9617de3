-- The words of this crate, for the specs/ of those above it to name in one line. No promise to a caller.
pub use Rattle.answers.specs.Told.{told_by, told, told_signed, told_one, told_gain}
