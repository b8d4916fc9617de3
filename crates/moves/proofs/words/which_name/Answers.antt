-- `which_name` meets its contract. From its callees'.
use Rattle.moves.specs.Decide.{naming}
use Rattle.moves.proofs.Deciding.{first_place}
use Rattle.moves.proofs.words.which_name.Goals as goal
use Rattle.graph.specs.Tables.{lent_table}

pub returns : goal.returns
unfolding naming
returns c i n o os =
    let a = c.args in
    rw (
      ← first_place (lent_table a.node_table.now) a.v,
      c.names_at-x.ensures,
      c.names_at-y.ensures,
      c.names_at-z.ensures,
    )
