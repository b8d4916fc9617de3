-- Worked assignments: a full adder, an output that no assignment gives, and the order of the faults.
use Rattle.std.specs.Prelude.{◌≡◌, ◌∷◌}
use Rattle.graph.specs.All.{List, [], map, ℕ, graph_of, mark}
use Rattle.assignment.specs.Assignment.{least_assignment, assignment_number}

-- a full adder of inputs 1 to 3: the carry, and the sum by two XORs; wanted are the carry and the sum
abbrev pub adder : List ℕ → List ℕ
adder wanted = least_assignment (graph_of 3 3 2 (2 ∷ 4 ∷ 6 ∷ 2 ∷ 4 ∷ mark ∷ 10 ∷ 6 ∷ mark ∷ []) (8 ∷ 12 ∷ [])) wanted

-- the first fault of a graph with i inputs and one node, by its third word, its lock, the pattern and scratch
abbrev pub fault_of : ℕ → ℕ → ℕ → List ℕ → ℕ → ℕ
fault_of i z lock wanted s = assignment_number (graph_of i 1 1 (0 ∷ 0 ∷ z ∷ []) (0 ∷ [])) (lock ∷ []) wanted s

pub record Worked : Type 0 where
  -- two ones: inputs 1 and 2, which is 3; all ones: 7; a sum of 1, whatever the carry: input 1; anything: 0
  pub adds :
      map adder ((1 ∷ 0 ∷ []) ∷ (1 ∷ 1 ∷ []) ∷ (2 ∷ 1 ∷ []) ∷ (2 ∷ 2 ∷ []) ∷ [])
      ≡ (3 ∷ []) ∷ (7 ∷ []) ∷ (1 ∷ []) ∷ (0 ∷ []) ∷ []
  -- an output and its opposite are never both 1
  pub never : least_assignment (graph_of 1 0 2 [] (2 ∷ 3 ∷ [])) (1 ∷ 1 ∷ []) ≡ []
  -- the second input alone is the number 2
  pub second : least_assignment (graph_of 2 0 1 [] (4 ∷ [])) (1 ∷ []) ≡ 2 ∷ []
  -- 16 inputs are accepted and 17 not; a byte past the outputs is not looked at; then the order of the faults
  pub sixteen : fault_of 16 0 0 (2 ∷ 9 ∷ []) 1 ≡ 0
  pub seventeen : fault_of 17 0 0 (3 ∷ []) 0 ≡ 17
  pub three_wanted : fault_of 16 0 0 (3 ∷ []) 0 ≡ 18
  pub no_scratch : fault_of 16 0 0 (2 ∷ []) 0 ≡ 8
  pub short_pattern : fault_of 17 99 2 [] 0 ≡ 4
  pub high_literal : fault_of 17 99 2 (3 ∷ []) 0 ≡ 5
  pub bad_lock : fault_of 17 0 2 (3 ∷ []) 0 ≡ 13
