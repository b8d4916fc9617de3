-- `check_call` meets its contract: the kind, then what many moves or a majority call take of the lent nodes. From the laws on one call.
use Rattle.replay.proofs.Refusing.{unknown_call, many_call_lem, three_call_lem, other_call}
use Rattle.replay.proofs.faults.check_call.Goals as goal

pub returns-in_err-try_from : goal.returns-in_err-try_from
returns-in_err-try_from c = unknown_call _ _ _ _ _ _ c.from_residual.ensures.1 c.in_err-try_from.ensures.0 c.in_err-try_from.ensures.1

pub returns-in-Many : goal.returns-in-Many
returns-in-Many c = many_call_lem _ _ _ _ _ c.in_ok-try_from.ensures c.in-Many.is c.check_part.ensures

pub returns-in-Majority : goal.returns-in-Majority
returns-in-Majority c = three_call_lem _ _ _ _ _ c.in_ok-try_from.ensures c.in-Majority.is c.check_part-in-Majority.ensures

pub returns-in_default : goal.returns-in_default
returns-in_default c = other_call _ _ _ _ _ c.in_ok-try_from.ensures c.in_default.not-Many c.in_default.not-Majority
