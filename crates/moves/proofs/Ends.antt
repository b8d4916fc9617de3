-- A call on a graph that ends by the refusal of a check: it answers that refusal's number and leaves the graph. From the laws on answers.
use Rattle.std.proofs.Common.{◌≡◌, ℕ, ◌∙◌, Result}
use Rattle.std.specs.Result.{IsErrAnd}
use Rattle.std.proofs.lemmas.Result.{err_from_is_err_and}
use Rattle.graph.specs.Answer.{Answer, Outcome, number_of, answer_by, outcome, guarded}
use Rattle.graph.specs.Graph.{Graph}
use Rattle.graph.specs.declared.Refusal.{Refusal}
use Rattle.graph.proofs.Answers.{number_some, refused_outcome}

pub ends_outcome : {T : Type 0} (f : T → Answer) (r : Result T Refusal) (x : Refusal) (m : ℕ) (g : Graph) (o : Outcome) → IsErrAnd r (λ y. y ≡ x) → number_of x ≡ m → outcome (answer_by f r) g ≡ guarded m g o
ends_outcome f r x m g o e n =
    let p = err_from_is_err_and r e in
    rw (p.1, p.2) (refused_outcome (number_of x) m g o n (λ z. number_some x (n ∙ z)))
