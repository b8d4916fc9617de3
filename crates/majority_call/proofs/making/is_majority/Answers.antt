-- `is_majority` meets its contract. Assumes nothing.
use Rattle.hidden.specs.Majority.{is_majority}
use Rattle.majority_call.proofs.making.is_majority.Goals as goal

pub returns : goal.returns
unfolding is_majority
returns c = rw c.class_of.ensures
