-- An assignment for a wanted output (document 02): the least one that gives the pattern, or none.
use Rattle.std.specs.Prelude.{◌^◌, ◌∷◌, Option, option_to_list, Result}
use Rattle.graph.specs.All.{ℕ, zero, suc, List, [], length, get_or, if_less, if_equal, first, first_of, Graph, Assignment, output_value, bit, tables_number, content_number, Answer, accepted, unless}
use Rattle.graph.specs.{Answer.answer_by, declared.Refusal.Refusal}
use Rattle.evaluation.specs.All.{scratch_number}

-- the assignment with the number n: input 1 has its lowest bit
unfoldable pub numbered : ℕ → Assignment
numbered n k = bit k n

-- 1 where output o is not as the pattern wants it, a byte an output: 0, 1, or 2 for either
unfoldable pub misses : Graph → List ℕ → Assignment → ℕ → ℕ
misses g wanted a o = if_equal (get_or wanted o 0) 2 0 (if_equal (output_value g a o) (get_or wanted o 0) 0 1)

-- 0 where the assignment gives the pattern
unfoldable pub missed : Graph → List ℕ → Assignment → ℕ
missed g wanted a = first_of g.O (misses g wanted a)

unfoldable pub by_number : Graph → List ℕ → ℕ → ℕ
by_number g wanted n = missed g wanted (numbered n)

-- the first of two lists that has something
unfoldable pub or_else : List ℕ → List ℕ → List ℕ
or_else [] y = y
or_else (x ∷ xs) y = x ∷ xs

-- the least number below n at which f is 0, alone in a list; or nothing
unfoldable pub least : ℕ → (ℕ → ℕ) → List ℕ
least zero f = []
least (suc n) f = or_else (least n f) (if_equal (f n) 0 (n ∷ []) [])

-- the least assignment that gives the pattern, by number; or nothing
unfoldable pub least_assignment : Graph → List ℕ → List ℕ
least_assignment g wanted = least (2 ^ g.I) (by_number g wanted)

-- 18: the byte wanted of output o is above 2
unfoldable pub wish_number : List ℕ → ℕ → ℕ
wish_number wanted o = if_less 2 (get_or wanted o 0) 18 0

unfoldable pub pattern_number : ℕ → List ℕ → ℕ
pattern_number o wanted = first_of o (wish_number wanted)

-- the first fault, with s words of scratch, or 0: 3, 4, 4 of the pattern, 5, 13, 17, 18 and 8 in that order
unfoldable pub assignment_number : Graph → List ℕ → List ℕ → ℕ → ℕ
assignment_number g ls wanted s =
    first (tables_number g ls)
    (first (if_less (length wanted) g.O 4 0)
    (first (content_number g ls)
    (first (if_less 16 g.I 17 0)
    (first (pattern_number g.O wanted) (scratch_number g s)))))

-- what is returned: 1 and the number, or 0 and 0 for "none"
abbrev pub found_values : List ℕ → List ℕ
found_values [] = 0 ∷ 0 ∷ []
found_values (n ∷ ns) = 1 ∷ n ∷ []

unfoldable pub assignment_call : Graph → List ℕ → List ℕ → ℕ → Answer
assignment_call g ls wanted s = unless (assignment_number g ls wanted s) (accepted (found_values (least_assignment g wanted)))

-- what a search answers
abbrev pub assigned_answer : Result (Option ℕ) Refusal → Answer
assigned_answer = answer_by (λ f. accepted (found_values (option_to_list f)))
