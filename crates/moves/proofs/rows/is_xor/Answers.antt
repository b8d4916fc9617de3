-- `is_xor` meets its contract. Assumes nothing.
use Rattle.graph.specs.Graph.{is_xor}
use Rattle.moves.proofs.rows.is_xor.Goals as goal

pub returns : goal.returns
unfolding is_xor
returns c = λ i n o os. c.is_mark_at.ensures
