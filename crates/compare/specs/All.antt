-- The words of this crate, for the specs/ of those above it to name in one line. No promise to a caller.
pub use Rattle.compare.specs.Compare.{passing, places, word_in, wire_in, wired_to, led_to, leading, Compared, compared, size_number, difference_told, comparison_answer, place_told, size_apart, words_compared, graphs_compared, rooms_number, contents_number, compare_number, compare_call}
