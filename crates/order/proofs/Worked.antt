-- The worked lists, by computation.
use mathlib.Core.Path.{refl}
use Rattle.graph.specs.Finite.{tab, if_less, if_equal}
use Rattle.graph.specs.Graph.{turn, is_xor, is_edge}
use Rattle.graph.specs.Turned.{turned_table, turned_by}
use Rattle.moves.specs.Compose.{combined}
use Rattle.moves.specs.Rows.{rows, first_row, arity, flag}
use Rattle.moves.specs.Apply.{at, put, seen, own, turns, output_turns, apply}
use Rattle.moves.specs.Call.{moved}
use Rattle.many.specs.Many.{one_by_one}
use Rattle.order.specs.Order.{combination}
use Rattle.order.specs.Worked.{Worked}

pub worked : Worked
unfolding tab if_less if_equal turn is_xor is_edge turned_table turned_by rows first_row arity flag combined at put seen own turns output_turns apply moved one_by_one combination
worked = record { first = refl; second = refl; combined_first = refl; combined_second = refl; majority_first = refl; majority_second = refl }
