-- The words of this crate, for the specs/ of those above it to name in one line. No promise to a caller.
pub use Rattle.assignment.specs.Assignment.{numbered, misses, missed, by_number, or_else, least, least_assignment, wish_number, pattern_number, assignment_number, found_values, assignment_call, assigned_answer}
