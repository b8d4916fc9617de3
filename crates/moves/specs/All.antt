-- The words of this crate, for the specs/ of those above it to name in one line. No promise to a caller.
pub use Rattle.moves.specs.Rows.{rows, first_row, arity, flag, kind_moves, lock_at, moves_at}
pub use Rattle.moves.specs.Apply.{Choice, none, at, put, seen, own, turns, output_turns, apply}
pub use Rattle.moves.specs.Tree.{is_root, last, place, reader, root_in, root_of, members, tree}
pub use Rattle.moves.specs.Call.{among, own_adds, other_adds, Split, split, told_saving, saving_answer, moved, moved_c, best_at, rewrite_by, rewrite, is_node, node_fault, word_fault, root_fault, scratch_fault, move_fault, locked_fault, move_number, node_number, node_call, named_by, pair_number, pair_rewrite, pair_call, tree_number, tree_call, gain_answer, trial_number, trial_saving, trial_call}
