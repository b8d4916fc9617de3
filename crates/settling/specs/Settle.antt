-- What settling answers, as document 01's number and values.
use Rattle.std.specs.Prelude.{◌∷◌, Result}
use Rattle.graph.specs.All.{[], Answer, gained}
use Rattle.graph.specs.Answer.{answer_by}
use Rattle.graph.specs.declared.Refusal.{Refusal}
use Rattle.settling.specs.declared.Settled.{Settled}

abbrev pub rounds_answer : Settled → Answer
rounds_answer s = gained (s.rounds ∷ s.before ∷ s.after ∷ []) s.own s.others

abbrev pub settled_answer : Result Settled Refusal → Answer
settled_answer = answer_by rounds_answer
