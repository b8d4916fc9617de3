-- The words of this crate, for the specs/ of those above it to name in one line. No promise to a caller.
pub use Rattle.hidden.specs.Truth.{Triple, triple, leak, free, leaks, node_byte, over, truth}
pub use Rattle.hidden.specs.Ways.{Misses, Reads, Way, AllMiss, MissedWay}
pub use Rattle.hidden.specs.Class.{orders, placed, variant, variants, class_of, classes}
pub use Rattle.hidden.specs.Majority.{majority_byte, majority_class, is_majority, complements, rewired, majority_of, made}
pub use Rattle.hidden.specs.Find.{reaches, near_below, near, pairs, triples, first_made, is_locked, is_plain, passed}
pub use Rattle.hidden.specs.Drop.{some, lives_by, lives, live, kept, renumbered, new_literal, new_word, new_nodes, new_outputs, new_locks, keeping, dropped, dropped_locks}
pub use Rattle.hidden.specs.Call.{told_majority, majority_answer, found_answer, nodes_after_answer, triple_fault, lock_fault, majority_number, majority_outcome, majority_call, find_number, found, find_call}
pub use Rattle.hidden.specs.Keeps.{Keeps, Same, AllRead, Finds}
