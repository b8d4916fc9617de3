-- The worked values and calls hold of the definitions: by computation.
use mathlib.Core.Path.{refl}
use Rattle.graph.specs.Finite.{if_less, if_equal, first, first_of, sum, count, tab}
use Rattle.graph.specs.Graph.{is_xor, is_edge}
use Rattle.graph.specs.Value.{majority, exclusive, literal_value, node_value}
use Rattle.graph.specs.Count.{named, output_named}
use Rattle.graph.specs.Admission.{room_number, tables_number, word_number, output_number, literal_number, lock_number, locks_number, content_number, admission_number, stray_number, strays_number}
use Rattle.graph.specs.Answer.{guarded_locks}
use Rattle.graph.specs.Literals.{bit, bit_of, held, strays}
use Rattle.evaluation.specs.Word.{gather}
use Rattle.moves.specs.Tree.{last}
use Rattle.moves.specs.Call.{scratch_fault}
use Rattle.hidden.specs.Truth.{free, leaks, node_byte, over, truth}
use Rattle.hidden.specs.Class.{classes}
use Rattle.hidden.specs.Majority.{majority_byte, is_majority, complements, rewired, majority_of, made}
use Rattle.hidden.specs.Find.{reaches, near_below, near, pairs, triples, first_made, is_locked, is_plain, passed}
use Rattle.hidden.specs.Drop.{some, lives_by, lives, live, kept, renumbered, new_literal, new_word, new_nodes, new_outputs, new_locks, keeping, dropped, dropped_locks}
use Rattle.hidden.specs.Call.{find_number, found, find_call}
use Rattle.hidden.specs.Worked.{Worked}

pub worked : Worked
unfolding find_call found find_number guarded_locks admission_number tables_number room_number content_number locks_number lock_number literal_number word_number output_number stray_number strays_number scratch_fault first first_of if_less dropped dropped_locks keeping new_locks new_outputs new_nodes new_word new_literal renumbered kept live lives lives_by some named output_named passed is_plain is_locked first_made triples pairs near near_below reaches made majority_of rewired complements last is_majority majority_byte classes truth over free leaks node_byte gather bit bit_of held strays is_edge node_value is_xor literal_value majority exclusive if_equal tab sum count
worked =
    record {
      imported_truth = refl;
      imported_near = refl;
      imported_found = refl;
      chain_truth = refl;
      triples_five = refl;
      twice_truth = (refl, refl);
      first_found = refl;
      again_found = refl;
      locked_found = refl;
      unread_found = refl;
      most_dropped = refl;
    }
