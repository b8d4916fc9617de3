-- `moving_call` tells what the call of its kind answers. From the contracts of the five calls.
use Rattle.moves.specs.Call.{saving_answer}
use Rattle.settling.specs.Settle.{settled_answer}
use Rattle.replay.proofs.One.{told_node, told_pair, told_tree, told_settling, told_part}
use Rattle.replay.proofs.calls.moving_call.Goals as goal

pub returns-in-Node : goal.returns-in-Node
returns-in-Node c =
    told_node _ _ _ _ _ _ _ _ _ (saving_answer c.node_call.result) _ c.in-Node.is c.node_call.ensures c.saving_answer.ensures

pub returns-in-Pair : goal.returns-in-Pair
returns-in-Pair c =
    told_pair _ _ _ _ _ _ _ _ _ (saving_answer c.pair_call.result) _ c.in-Pair.is c.pair_call.ensures c.saving_answer-in-Pair.ensures

pub returns-in-Tree : goal.returns-in-Tree
returns-in-Tree c =
    told_tree _ _ _ _ _ _ _ _ _ (saving_answer c.tree_call.result) _ c.in-Tree.is c.tree_call.ensures.outcome c.saving_answer-in-Tree.ensures

pub returns-in-Settling : goal.returns-in-Settling
returns-in-Settling c =
    told_settling _ _ _ _ _ _ _ _ _ (settled_answer c.settle.result) _ c.in-Settling.is c.settle.ensures.call c.settled_answer.ensures

pub returns-in_default : goal.returns-in_default
returns-in_default c = let n = c.in_default in told_part _ _ _ _ _ _ _ _ _ n.not-Node n.not-Pair n.not-Tree n.not-Settling c.part_call.ensures
