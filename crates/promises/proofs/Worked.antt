-- The worked rows, lists of calls and trials hold of the definitions: by computation.
use mathlib.Core.Path.{refl}
use mathlib.Core.List.{flat_map}
use Rattle.graph.specs.Finite.{tab, sum, count, if_less, if_equal, first, first_of, difference}
use Rattle.graph.specs.Graph.{turn, is_xor, is_edge}
use Rattle.graph.specs.Turned.{turned_table, turned_by}
use Rattle.graph.specs.Count.{adds, word_adds, node_adds, output_adds, C, named, output_named, node_readers, readers}
use Rattle.graph.specs.Admission.{room_number, tables_number, word_number, output_number, literal_number, lock_number, locks_number, content_number, admission_number, stray_number, strays_number}
use Rattle.graph.specs.Answer.{guarded, unless}
use Rattle.choice.specs.Choice.{from, choices, unless_less, least, best}
use Rattle.moves.specs.Rows.{rows, first_row, arity, flag, kind_moves, lock_at, moves_at}
use Rattle.moves.specs.Apply.{at, put, seen, own, turns, output_turns, apply}
use Rattle.moves.specs.Tree.{is_root, last, place, reader, root_in, root_of, members, tree}
use Rattle.moves.specs.Call.{moved, moved_c, best_at, rewrite, is_node, node_fault, word_fault, root_fault, scratch_fault, move_fault, locked_fault, move_number, node_number, node_call, named_by, pair_number, pair_rewrite, pair_call, tree_number, tree_call, among, own_adds, other_adds, split, trial_number, trial_saving, trial_call}
use Rattle.many.specs.Many.{rising_fault, entry_number, list_number, many_number, many_call}
use Rattle.rounds.specs.Round.{start, after, each, tree_at, node_at, pair_at, pairs_at, round}
use Rattle.rounds.specs.Settle.{settle_in, settle, settle_number, settle_call}
use Rattle.resistive.specs.Resistive.{odd_inputs, single, singles, key, still_moves, still_at, best_still, resistive_call}
use Rattle.promises.specs.Worked.{WorkedGraphs, ThereAndBack, LostAndWon, WorkedTrials}
use Rattle.graph.specs.Literals.{bit_of, held, strays}

pub graphs : WorkedGraphs
unfolding flat_map tab sum count if_less if_equal first first_of turn is_xor is_edge adds word_adds node_adds output_adds C named output_named node_readers readers tables_number room_number word_number output_number literal_number lock_number locks_number content_number admission_number guarded from choices unless_less least best rows first_row arity flag kind_moves lock_at moves_at at put seen own turns output_turns turned_table turned_by apply is_root last place reader root_in root_of members tree moved moved_c best_at rewrite is_node node_fault word_fault root_fault scratch_fault node_number node_call named_by pair_number pair_rewrite pair_call tree_number tree_call difference among own_adds other_adds split start after each tree_at node_at pair_at pairs_at round settle_in settle settle_number settle_call rising_fault move_fault locked_fault move_number entry_number list_number many_number many_call held strays bit_of strays_number stray_number
graphs =
    ((refl, refl, refl, refl), (refl, refl, refl, refl), (refl, refl, refl, refl), (refl, refl, refl, refl), (refl, refl, refl, refl), (refl, refl, refl, refl), (refl, refl, refl, refl), (refl, refl, refl, refl), (refl, refl, refl, refl), (refl, refl, refl, refl), (refl, refl, refl, refl), (refl, refl, refl, refl), (refl, refl, refl, refl), (refl, refl, refl, refl), (refl, refl, refl, refl), (refl, refl, refl, refl), (refl, refl, refl, refl), (refl, refl, refl, refl))

pub there_and_back : ThereAndBack
unfolding flat_map tab sum count if_less if_equal first first_of turn is_xor is_edge adds word_adds node_adds output_adds C named output_named node_readers readers tables_number room_number word_number output_number literal_number lock_number locks_number content_number admission_number guarded from choices unless_less least best rows first_row arity flag kind_moves lock_at moves_at at put seen own turns output_turns turned_table turned_by apply is_root last place reader root_in root_of members tree moved moved_c best_at rewrite is_node node_fault word_fault root_fault scratch_fault node_number node_call named_by pair_number pair_rewrite pair_call tree_number tree_call difference among own_adds other_adds split start after each tree_at node_at pair_at pairs_at round settle_in settle settle_number settle_call rising_fault move_fault locked_fault move_number entry_number list_number many_number many_call held strays bit_of strays_number stray_number
there_and_back = (refl, refl)

pub lost_and_won : LostAndWon
unfolding flat_map tab sum count if_less if_equal first first_of turn is_xor is_edge adds word_adds node_adds output_adds C named output_named node_readers readers tables_number room_number word_number output_number literal_number lock_number locks_number content_number admission_number guarded from choices unless_less least best rows first_row arity flag kind_moves lock_at moves_at at put seen own turns output_turns turned_table turned_by apply is_root last place reader root_in root_of members tree moved moved_c best_at rewrite is_node node_fault root_fault scratch_fault tree_number tree_call difference among own_adds other_adds split odd_inputs single singles key still_moves still_at best_still resistive_call held strays bit_of strays_number stray_number
lost_and_won = (refl, refl)

pub trials : WorkedTrials
unfolding flat_map tab sum if_less if_equal first first_of turn is_xor is_edge adds word_adds node_adds output_adds C difference tables_number room_number word_number output_number literal_number lock_number locks_number content_number admission_number from choices rows first_row arity flag kind_moves lock_at at put seen own turns output_turns turned_table turned_by apply moved moved_c is_node node_fault word_fault move_fault locked_fault move_number named_by pair_number unless trial_number trial_saving trial_call count held strays bit_of strays_number stray_number
trials = (refl, refl, refl, refl, refl, refl, refl, refl)
