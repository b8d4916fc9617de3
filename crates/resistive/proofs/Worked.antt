-- The worked trees for resistive memory hold of the definitions: by computation.
use mathlib.Core.Path.{refl}
use mathlib.Core.List.{flat_map}
use Rattle.graph.specs.Finite.{tab, sum, count, if_less, if_equal, first, first_of, difference}
use Rattle.graph.specs.Graph.{turn, is_xor, is_edge, turned_table, turned_by}
use Rattle.graph.specs.Count.{adds, word_adds, node_adds, output_adds, C, named, output_named, node_readers, readers}
use Rattle.graph.specs.Admission.{room_number, tables_number, word_number, output_number, literal_number, lock_number, locks_number, content_number, admission_number, stray_number, strays_number}
use Rattle.graph.specs.Literals.{bit_of, held, strays}
use Rattle.graph.specs.Answer.{guarded}
use Rattle.choice.specs.Choice.{from, choices, unless_less, least, best}
use Rattle.moves.specs.Rows.{rows, first_row, arity, flag, kind_moves, lock_at, moves_at}
use Rattle.moves.specs.Apply.{at, put, seen, own, turns, output_turns, apply}
use Rattle.moves.specs.Tree.{is_root, last, place, reader, root_in, root_of, members, tree}
use Rattle.moves.specs.Call.{moved, is_node, node_fault, root_fault, scratch_fault, tree_number, among, own_adds, other_adds, split}
use Rattle.resistive.specs.Resistive.{odd_inputs, single, singles, key, still_moves, still_at, best_still, resistive_call}
use Rattle.resistive.specs.Worked.{Worked}

pub worked : Worked
unfolding flat_map tab sum count if_less if_equal first first_of difference turn is_xor is_edge turned_table turned_by adds word_adds node_adds output_adds C named output_named node_readers readers room_number tables_number word_number output_number literal_number lock_number locks_number content_number admission_number stray_number strays_number bit_of held strays guarded from choices unless_less least best rows first_row arity flag kind_moves lock_at moves_at at put seen own turns output_turns apply is_root last place reader root_in root_of members tree moved is_node node_fault root_fault scratch_fault tree_number among own_adds other_adds split odd_inputs single singles key still_moves still_at best_still resistive_call
worked =
    record {
      plain_free = record { moves = refl; result = refl; before = refl; after = refl };
      plain_locked = record { moves = refl; result = refl; before = refl; after = refl };
      xor_free = record { moves = refl; result = refl; before = refl; after = refl };
      xor_locked = record { moves = refl; result = refl; before = refl; after = refl };
      constant_free = record { moves = refl; result = refl; before = refl; after = refl };
      P1_root = record { moves = refl; result = refl; before = refl; after = refl };
      P5_root = record { moves = refl; result = refl; before = refl; after = refl };
    }
