-- What the least assignment is, without a search: it gives the pattern, no assignment with a lower number does, and nothing is found just
-- where no assignment at all gives it.
use Rattle.std.specs.Prelude.{◌%◌, ◌^◌, ◌≤◌, ◌<◌, ◌≡◌, ◌∷◌}
use Rattle.graph.specs.All.{ℕ, List, [], get_or, Graph, Assignment, output_value}
use Rattle.evaluation.specs.All.{gather}
use Rattle.assignment.specs.Assignment.{numbered, least_assignment}
use Rattle.assignment.specs.Worked.{Worked}

-- every output that is wanted has its wanted value
abbrev pub Gives : Graph → List ℕ → Assignment → Type 0
Gives g wanted a = (o : ℕ) → o < g.O → (get_or wanted o 0 ≡ 2 → ⊥) → output_value g a o ≡ get_or wanted o 0

-- an assignment's number: input 1 has the lowest bit
unfoldable pub number_from : Graph → Assignment → ℕ
number_from g a = gather (λ k. a k % 2) g.I

pub record IsLeast (g : Graph) (wanted : List ℕ) (n : ℕ) : Type 0 where
  pub low : n < 2 ^ g.I
  pub gives : Gives g wanted (numbered n)
  pub least : (a : Assignment) → Gives g wanted a → n ≤ number_from g a

pub record LeastOf (g : Graph) (wanted : List ℕ) : Type 0 where
  pub found : (n : ℕ) → least_assignment g wanted ≡ n ∷ [] → IsLeast g wanted n
  pub none : least_assignment g wanted ≡ [] → (a : Assignment) → Gives g wanted a → ⊥
  pub only_then : ((a : Assignment) → Gives g wanted a → ⊥) → least_assignment g wanted ≡ []

pub record Promises : Type 0 where
  pub least_of : (g : Graph) (wanted : List ℕ) → LeastOf g wanted
  pub worked : Worked
