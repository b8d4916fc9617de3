-- The words of this crate, for the specs/ of those above it to name in one line. No promise to a caller.
pub use Rattle.many.specs.Many.{rising_fault, entry_number, list_number, many_number, many_call, Entry, entries, one_by_one, EveryOrder}
