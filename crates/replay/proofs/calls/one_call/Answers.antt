-- `one_call` makes the call of its kind. From the laws on one call.
use Rattle.replay.proofs.One.{told_moving, told_five, told_six, told_seven, by_answer}
use Rattle.replay.proofs.calls.one_call.Goals as goal

pub returns-in-Majority : goal.returns-in-Majority
returns-in-Majority c =
    by_answer _ _ _ _ _ _ _ _ _ (told_five _ _ _ _ _ _ _ _ _ c.in-Majority.is c.three_call.ensures)

pub returns-in-Finder : goal.returns-in-Finder
returns-in-Finder c = told_six _ _ _ _ _ _ _ _ _ c.in-Finder.is c.find_call.ensures

pub returns-in-Resistive : goal.returns-in-Resistive
returns-in-Resistive c =
    by_answer _ _ _ _ _ _ _ _ _ (told_seven _ _ _ _ _ _ _ _ _ c.in-Resistive.is c.memory_call.ensures)

pub returns-in_default : goal.returns-in_default
returns-in_default c =
    let n = c.in_default in
    by_answer _ _ _ _ _ _ _ _ _ (told_moving _ _ _ _ _ _ _ _ _ n.not-Majority n.not-Finder n.not-Resistive c.moving_call.ensures)
