-- `majority_answer` meets its contract: what it says is told as a number.
use Rattle.std.proofs.Common.{rules}
use Rattle.hidden.specs.Call.{told_majority}
use Rattle.hidden.specs.declared.Majority.TheVariants.{Made, NotMajority, NotCovered}
use Rattle.replay.proofs.One.{by_value}
use Rattle.replay.proofs.calls.majority_answer.Goals as goal

pub returns : goal.returns
returns c =
    by_value told_majority c.args.answer c.map.result _ _ c.map.ensures.cases
    (elim [ Made ↦ λ v p. search rules | NotMajority ↦ λ v p. search rules | NotCovered ↦ λ v p. search rules ])
    c.value_answer.ensures
