-- The classes of the 256 functions of three variables, under input order, input complement and output complement.
use Rattle.std.specs.Prelude.{◌∷◌, ◌+◌, ◌*◌, ◌%◌, ◌^◌}
use Rattle.graph.specs.All.{List, [], flat_map, ℕ, get_or, sum, bit}
use Rattle.choice.specs.All.{from, least}
use Rattle.evaluation.specs.All.{gather}

-- the six orders of three inputs
unfoldable pub orders : List (List ℕ)
orders =
    (0 ∷ 1 ∷ 2 ∷ [])
    ∷ (0 ∷ 2 ∷ 1 ∷ [])
    ∷ (1 ∷ 0 ∷ 2 ∷ [])
    ∷ (1 ∷ 2 ∷ 0 ∷ [])
    ∷ (2 ∷ 0 ∷ 1 ∷ [])
    ∷ (2 ∷ 1 ∷ 0 ∷ [])
    ∷ []

-- the assignment k with input j complemented where bit j of c says so, and then at place j of the order
unfoldable pub placed : List ℕ → ℕ → ℕ → ℕ
placed order c k = sum 3 (λ j. (bit j k + bit j c) % 2 * 2 ^ get_or order j 0)

-- the function f with its inputs so, and its output complemented o times
unfoldable pub variant : ℕ → List ℕ → ℕ → ℕ → ℕ
variant f order c o = gather (λ k. (bit (placed order c k) f + o) % 2) 8

-- all 96
unfoldable pub variants : ℕ → List ℕ
variants f = flat_map (λ order. flat_map (λ c. variant f order c 0 ∷ variant f order c 1 ∷ []) (from 0 8)) orders

-- the class of f: the least of them
unfoldable pub class_of : ℕ → ℕ
class_of f = least (λ x. x) 0 (variants f)

-- the table
unfoldable pub classes : List ℕ
classes =
    0 ∷ 1 ∷ 1 ∷ 3 ∷ 1 ∷ 3 ∷ 6 ∷ 7 ∷ 1 ∷ 6 ∷ 3 ∷ 7 ∷ 3 ∷ 7 ∷ 7 ∷ 15
    ∷ 1 ∷ 3 ∷ 6 ∷ 7 ∷ 6 ∷ 7 ∷ 22 ∷ 23 ∷ 24 ∷ 25 ∷ 25 ∷ 27 ∷ 25 ∷ 27 ∷ 30 ∷ 7
    ∷ 1 ∷ 6 ∷ 3 ∷ 7 ∷ 24 ∷ 25 ∷ 25 ∷ 27 ∷ 6 ∷ 22 ∷ 7 ∷ 23 ∷ 25 ∷ 30 ∷ 27 ∷ 7
    ∷ 3 ∷ 7 ∷ 7 ∷ 15 ∷ 25 ∷ 27 ∷ 30 ∷ 7 ∷ 25 ∷ 30 ∷ 27 ∷ 7 ∷ 60 ∷ 25 ∷ 25 ∷ 3
    ∷ 1 ∷ 6 ∷ 24 ∷ 25 ∷ 3 ∷ 7 ∷ 25 ∷ 27 ∷ 6 ∷ 22 ∷ 25 ∷ 30 ∷ 7 ∷ 23 ∷ 27 ∷ 7
    ∷ 3 ∷ 7 ∷ 25 ∷ 27 ∷ 7 ∷ 15 ∷ 30 ∷ 7 ∷ 25 ∷ 30 ∷ 60 ∷ 25 ∷ 27 ∷ 7 ∷ 25 ∷ 3
    ∷ 6 ∷ 22 ∷ 25 ∷ 30 ∷ 25 ∷ 30 ∷ 60 ∷ 25 ∷ 22 ∷ 105 ∷ 30 ∷ 22 ∷ 30 ∷ 22 ∷ 25 ∷ 6
    ∷ 7 ∷ 23 ∷ 27 ∷ 7 ∷ 27 ∷ 7 ∷ 25 ∷ 3 ∷ 30 ∷ 22 ∷ 25 ∷ 6 ∷ 25 ∷ 6 ∷ 24 ∷ 1
    ∷ 1 ∷ 24 ∷ 6 ∷ 25 ∷ 6 ∷ 25 ∷ 22 ∷ 30 ∷ 3 ∷ 25 ∷ 7 ∷ 27 ∷ 7 ∷ 27 ∷ 23 ∷ 7
    ∷ 6 ∷ 25 ∷ 22 ∷ 30 ∷ 22 ∷ 30 ∷ 105 ∷ 22 ∷ 25 ∷ 60 ∷ 30 ∷ 25 ∷ 30 ∷ 25 ∷ 22 ∷ 6
    ∷ 3 ∷ 25 ∷ 7 ∷ 27 ∷ 25 ∷ 60 ∷ 30 ∷ 25 ∷ 7 ∷ 30 ∷ 15 ∷ 7 ∷ 27 ∷ 25 ∷ 7 ∷ 3
    ∷ 7 ∷ 27 ∷ 23 ∷ 7 ∷ 30 ∷ 25 ∷ 22 ∷ 6 ∷ 27 ∷ 25 ∷ 7 ∷ 3 ∷ 25 ∷ 24 ∷ 6 ∷ 1
    ∷ 3 ∷ 25 ∷ 25 ∷ 60 ∷ 7 ∷ 27 ∷ 30 ∷ 25 ∷ 7 ∷ 30 ∷ 27 ∷ 25 ∷ 15 ∷ 7 ∷ 7 ∷ 3
    ∷ 7 ∷ 27 ∷ 30 ∷ 25 ∷ 23 ∷ 7 ∷ 22 ∷ 6 ∷ 27 ∷ 25 ∷ 25 ∷ 24 ∷ 7 ∷ 3 ∷ 6 ∷ 1
    ∷ 7 ∷ 30 ∷ 27 ∷ 25 ∷ 27 ∷ 25 ∷ 25 ∷ 24 ∷ 23 ∷ 22 ∷ 7 ∷ 6 ∷ 7 ∷ 6 ∷ 3 ∷ 1
    ∷ 15 ∷ 7 ∷ 7 ∷ 3 ∷ 7 ∷ 3 ∷ 6 ∷ 1 ∷ 7 ∷ 6 ∷ 3 ∷ 1 ∷ 3 ∷ 1 ∷ 1 ∷ 0
    ∷ []
