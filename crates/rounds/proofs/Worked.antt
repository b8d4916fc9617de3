-- The worked settling holds of the definitions: by computation.
use mathlib.Core.Path.{refl}
use mathlib.Core.List.{flat_map}
use Rattle.graph.specs.Finite.{tab, sum, count, if_less, if_equal, first, first_of, difference}
use Rattle.graph.specs.Graph.{turn, is_xor, is_edge}
use Rattle.graph.specs.Turned.{turned_table, turned_by}
use Rattle.graph.specs.Count.{adds, word_adds, node_adds, output_adds, C, named, output_named, node_readers, readers}
use Rattle.graph.specs.Admission.{room_number, tables_number, word_number, output_number, literal_number, lock_number, locks_number, content_number, admission_number, stray_number, strays_number}
use Rattle.graph.specs.Answer.{guarded}
use Rattle.choice.specs.Choice.{from, choices, unless_less, least, best}
use Rattle.moves.specs.Rows.{rows, first_row, arity, flag, kind_moves, lock_at, moves_at}
use Rattle.moves.specs.Apply.{at, put, seen, own, turns, output_turns, apply}
use Rattle.moves.specs.Tree.{is_root, last, place, reader, root_in, root_of, members, tree}
use Rattle.moves.specs.Call.{moved, moved_c, best_at, rewrite, is_node, node_fault, word_fault, root_fault, scratch_fault, node_number, node_call, named_by, pair_number, pair_rewrite, pair_call, tree_number, tree_call, among, own_adds, other_adds, split}
use Rattle.rounds.specs.Round.{start, after, each, tree_at, node_at, pair_at, pairs_at, round}
use Rattle.rounds.specs.Settle.{settle_in, settle, settle_number, settle_call}
use Rattle.rounds.specs.Promises.{Settles}
use Rattle.graph.specs.Literals.{bit_of, held, strays}

pub settles : Settles
unfolding flat_map tab sum count if_less if_equal first first_of turn is_xor is_edge adds word_adds node_adds output_adds C named output_named node_readers readers tables_number room_number word_number output_number literal_number lock_number locks_number content_number admission_number guarded from choices unless_less least best rows first_row arity flag kind_moves lock_at moves_at at put seen own turns output_turns turned_table turned_by apply is_root last place reader root_in root_of members tree moved moved_c best_at rewrite is_node node_fault word_fault root_fault scratch_fault node_number node_call named_by pair_number pair_rewrite pair_call tree_number tree_call difference among own_adds other_adds split start after each tree_at node_at pair_at pairs_at round settle_in settle settle_number settle_call held strays bit_of strays_number stray_number
settles = refl
