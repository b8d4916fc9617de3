-- `values::fill_nodes` meets its contract: the first nodes at the front, then the rest. From its callees' contracts.
use Rattle.evaluation.proofs.values.fill_nodes.Goals as goal

pub returns : goal.returns
returns c =
    c.fill_rest.ensures c.args.lent.now.nodes (c.fill_front-begin.ensures.1 c.args.lent.now.nodes)
