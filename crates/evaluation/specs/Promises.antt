-- What an evaluation promises beside its definition.
use Rattle.std.specs.Prelude.{◌<◌, ◌≡◌}
use Rattle.graph.specs.All.{ℕ, List, length, get_or, Graph, bit, output_value}
use Rattle.evaluation.specs.Evaluation.{assignment_at, evaluate_number, results_after}

-- where nothing is refused, bit j of result o is the output's value under the assignment of place j
abbrev pub ResultBit : Graph → (words ls : List ℕ) → ℕ → List ℕ → Type 0
ResultBit g words ls s results =
    evaluate_number g ls (length words) s (length results) ≡ 0
    → (o j : ℕ) → o < g.O → j < 64 → bit j (get_or (results_after g ls words s results) o 0) ≡ output_value g (assignment_at words j) o

pub record Promises : Type 0 where
  pub result_bit : (g : Graph) (words ls : List ℕ) (s : ℕ) (results : List ℕ) → ResultBit g words ls s results
