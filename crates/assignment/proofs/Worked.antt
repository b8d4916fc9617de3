-- The worked assignments and faults hold of the definitions: by computation.
use mathlib.Core.Path.{refl}
use Rattle.graph.specs.Finite.{tab, first, first_of, if_less, if_equal, count, sum}
use Rattle.graph.specs.Graph.{is_xor, is_edge}
use Rattle.graph.specs.Literals.{bit, bit_of, held, strays}
use Rattle.graph.specs.Value.{majority, exclusive, literal_value, node_value, values, output_value}
use Rattle.graph.specs.Admission.{room_number, tables_number, word_number, output_number, literal_number, lock_number, locks_number, content_number, stray_number, strays_number}
use Rattle.evaluation.specs.Evaluation.{scratch_number}
use Rattle.assignment.specs.Assignment.{numbered, misses, missed, or_else, least, by_number, least_assignment, wish_number, pattern_number, assignment_number}
use Rattle.assignment.specs.Worked.{Worked}

pub worked : Worked
unfolding least_assignment least or_else by_number numbered missed misses first_of first if_less if_equal output_value values literal_value node_value is_xor majority exclusive tab bit assignment_number tables_number room_number content_number literal_number word_number output_number locks_number lock_number pattern_number wish_number scratch_number is_edge count sum held strays bit_of strays_number stray_number
worked =
    record {
      adds = refl;
      never = refl;
      second = refl;
      sixteen = refl;
      seventeen = refl;
      three_wanted = refl;
      no_scratch = refl;
      short_pattern = refl;
      high_literal = refl;
      bad_lock = refl;
    }
