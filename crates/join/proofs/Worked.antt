-- The worked joins, by computation.
use mathlib.Core.Path.{refl}
use Rattle.graph.specs.Finite.{tab, if_less, if_equal, first, first_of, count, sum}
use Rattle.graph.specs.Graph.{turn, is_xor, is_edge}
use Rattle.graph.specs.Literals.{literal_of, bit_of, held, strays, evened, cleared, filled}
use Rattle.graph.specs.Value.{majority, exclusive, literal_value, node_value, values, output_value}
use Rattle.graph.specs.Admission.{room_number, tables_number, word_number, output_number, stray_number, strays_number, literal_number, lock_number, locks_number, content_number, admission_number}
use Rattle.graph.specs.Answer.{guarded_locks}
use Rattle.join.specs.Join.{met, met_word, joined_graph, joined_locks, join_number, join_call}
use Rattle.join.specs.Worked.{Inverters, Adder, Refusals}

pub inverters : Inverters
unfolding tab if_less if_equal first first_of count sum turn is_xor is_edge literal_of bit_of held strays evened cleared filled room_number tables_number word_number output_number stray_number strays_number literal_number lock_number locks_number content_number admission_number guarded_locks met met_word joined_graph joined_locks join_number join_call
inverters = record { both = refl; first = refl; second = refl; constants = refl }

pub adder : Adder
unfolding tab if_less if_equal first first_of count sum turn is_xor is_edge literal_of bit_of held strays evened cleared filled majority exclusive literal_value node_value values output_value room_number tables_number word_number output_number stray_number strays_number literal_number lock_number locks_number content_number admission_number guarded_locks met met_word joined_graph joined_locks join_number join_call
adder = record { joined = refl; sums = refl }

pub refusals : Refusals
unfolding tab if_less if_equal first first_of count sum turn is_xor is_edge literal_of bit_of held strays evened cleared filled room_number tables_number word_number output_number stray_number strays_number literal_number lock_number locks_number content_number admission_number guarded_locks met met_word joined_graph joined_locks join_number join_call
refusals = record { first_literal = refl; second_lock = refl; stages_differ = refl; short_slice = refl }
