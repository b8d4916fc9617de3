-- `named_by` meets its contract. From what the index table tells.
use Rattle.graph.proofs.Literals.{names_index}
use Rattle.moves.specs.Call.{named_by}
use Rattle.node_call.proofs.rewrite.named_by.Goals as goal

pub returns : goal.returns
unfolding named_by
returns c = λ n o os. names_index c.index_at.ensures c.requires.5
