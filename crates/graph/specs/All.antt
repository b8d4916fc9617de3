-- The words of this crate, for the specs/ of those above it to name in one line. No promise to a caller.
pub use Rattle.std.specs.Prelude.{◌+◌, ◌-◌, ◌*◌, ◌/◌, ◌%◌, ◌^◌, ◌≤◌, ◌<◌, ◌&&◌, ◌≡◌, ◌∷◌, ◌++◌, ◌⊎◌, ◌+ℤ◌}
pub use Rattle.graph.specs.Words.{ℕ, zero, suc, min, max, Bool, true, false, not, cond, List, [], map, flat_map, Perm, eqb, ltb, leb, length, get_or, take, drop, ℤ, pos, negsuc, sub_ℕ, ones}
pub use Rattle.graph.specs.Finite.{tab, sum, count, if_less, if_equal, first, first_of, difference, decimal_in, decimal}
pub use Rattle.graph.specs.Graph.{Graph, graph_of, mark, index, complement, turn, node, word, output, is_xor, is_edge, wire, output_wire, wiring, turned_table, turned_by}
pub use Rattle.graph.specs.Literals.{bit, bit_at, index_at, literal_of, literal_at, literals, graph_in, held, bit_of, words_for, strays, ones_in, evened, cleared, filled, before, after, Slice, table_before, table_after, graph_before, graph_after}
pub use Rattle.graph.specs.Value.{Assignment, majority, exclusive, literal_value, node_value, values, value, output_value}
pub use Rattle.graph.specs.Count.{adds, word_adds, node_adds, output_adds, C, named, output_named, node_readers, readers}
pub use Rattle.graph.specs.Admission.{room_number, tables_number, word_number, output_number, stray_number, strays_number, literal_number, lock_number, locks_number, content_number, admission_number, Admitted, LockBytes}
pub use Rattle.graph.specs.Answer.{number_of, Answer, accepted, refused, gained, whole, own_of, others_of, saving_of, unless, admission_answer, count_answer, Outcome, outcome, guarded, LockedOutcome, locked_outcome, guarded_locks, ScratchKept}
