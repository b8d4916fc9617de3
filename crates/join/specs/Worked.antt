-- Joins worked out by hand.
use Rattle.std.specs.Prelude.{◌+◌, ◌*◌, ◌/◌, ◌%◌, ◌&&◌, ◌≡◌, ◌∷◌}
use Rattle.graph.specs.All.{ℕ, zero, suc, Bool, true, List, [], eqb, length, tab, Graph, graph_of, mark, Assignment, output_value, accepted, refused, locked_outcome}
use Rattle.join.specs.Join.{join_call}

-- outputs of i inputs, with no nodes
abbrev wires : ℕ → List ℕ → Graph
wires i os = graph_of i 0 (length os) [] os

-- the outputs os of i inputs, met by ps, leave the words vs in the lent ws
abbrev WiredAs : ℕ → (os ps ws vs : List ℕ) → Type 0
WiredAs i os ps ws vs = join_call (wires i os) [] (wires (length os) ps) [] [] ws [] ≡ locked_outcome (accepted (i ∷ 0 ∷ length ps ∷ [])) (graph_of i 0 (length ps) [] vs) []

-- An inverter (3) that meets an inverter is a wire; one that meets a wire, or is met by one, is an inverter. The second's constant stays; a
-- constant that the first puts out is met like any literal. A word more is left, but for its bit.
pub record Inverters : Type 0 where
  pub both : WiredAs 1 (3 ∷ []) (3 ∷ []) (0 ∷ []) (2 ∷ [])
  pub first : WiredAs 1 (3 ∷ []) (2 ∷ []) (0 ∷ []) (3 ∷ [])
  pub second : WiredAs 1 (2 ∷ []) (3 ∷ []) (0 ∷ []) (3 ∷ [])
  pub constants : WiredAs 0 (1 ∷ []) (3 ∷ 2 ∷ 1 ∷ []) (9 ∷ 9 ∷ 9 ∷ 7 ∷ []) (0 ∷ 1 ∷ 1 ∷ 6 ∷ [])

-- A stage of a ripple adder puts out the complement of its carry (as the majority of complements), then what the next stage adds, then its
-- sum. First stage: I=5 (a₀ b₀ c a₁ b₁), node 6 is 3 5 7, node 7 is XOR 2 4, node 8 is XOR 14 6 → 12, 8, 10, 16
abbrev low : Graph
low = graph_of 5 3 4 (3 ∷ 5 ∷ 7 ∷ 2 ∷ 4 ∷ mark ∷ 14 ∷ 6 ∷ mark ∷ []) (12 ∷ 8 ∷ 10 ∷ 16 ∷ [])

-- second stage: I=4 (the carry's complement, a₁ b₁ s₀), node 5 is 3 4 6, node 6 is XOR 3 4, node 7 is XOR 12 6 → 8, 14, 10
abbrev high : Graph
high = graph_of 4 3 3 (3 ∷ 4 ∷ 6 ∷ 3 ∷ 4 ∷ mark ∷ 12 ∷ 6 ∷ mark ∷ []) (8 ∷ 14 ∷ 10 ∷ [])

-- joined: node 9 is 13 8 10, node 10 is XOR 13 8, node 11 is XOR 20 10 → 16, 22, 18; in slices with one place more, whose bit is cleared
abbrev adder : Graph
adder =
    graph_of 5 6 3
    (3 ∷ 5 ∷ 7 ∷ 2 ∷ 4 ∷ mark ∷ 14 ∷ 6 ∷ mark ∷ 13 ∷ 8 ∷ 10 ∷ 13 ∷ 8 ∷ mark ∷ 20 ∷ 10 ∷ mark ∷ 4 ∷ [])
    (16 ∷ 22 ∷ 18 ∷ 4 ∷ [])

-- the number n as an assignment, input 1 being the lowest bit; the sum that the outputs say; and that which is due: a₀ + b₀ + c + 2 a₁ + 2 b₁
abbrev bits : ℕ → Assignment
bits n zero = n
bits n (suc k) = bits (n / 2) k

abbrev said : Graph → ℕ → ℕ
said g n = output_value g (bits n) 0 + 2 * output_value g (bits n) 1 + 4 * output_value g (bits n) 2

abbrev due : ℕ → ℕ
due n = n % 2 + n / 2 % 2 + n / 4 % 2 + 2 * (n / 8 % 2) + 2 * (n / 16 % 2)

abbrev adds : Graph → ℕ → Bool
adds g zero = true
adds g (suc n) = eqb (said g n) (due n) && adds g n

abbrev fives : ℕ → List ℕ
fives n = tab n (λ j. 5)

pub record Adder : Type 0 where
  pub joined :
      join_call low (0 ∷ 1 ∷ 0 ∷ []) high (1 ∷ 0 ∷ 0 ∷ []) (fives 19) (fives 4) (fives 7)
      ≡ locked_outcome (accepted (5 ∷ 6 ∷ 3 ∷ [])) adder (0 ∷ 1 ∷ 0 ∷ 1 ∷ 0 ∷ 0 ∷ 5 ∷ [])
  pub sums : adds adder 32 ≡ true

-- a stage of two inputs and one node
abbrev stage : Graph
stage = graph_of 2 1 0 (2 ∷ 2 ∷ 2 ∷ []) []

-- Refusals in their order, each with the next one there too: the first graph's literal (5) before the second's lock (13); that before 19;
-- 19 before a short slice (4); and the slices as they were
pub record Refusals : Type 0 where
  pub first_literal : join_call (wires 1 (4 ∷ [])) [] stage (2 ∷ []) [] [] [] ≡ locked_outcome (refused 5) (graph_of 0 0 0 [] []) []
  pub second_lock : join_call (wires 1 (2 ∷ [])) [] stage (2 ∷ []) [] [] [] ≡ locked_outcome (refused 13) (graph_of 0 0 0 [] []) []
  pub stages_differ : join_call (wires 1 (2 ∷ [])) [] stage (0 ∷ []) [] [] [] ≡ locked_outcome (refused 19) (graph_of 0 0 0 [] []) []
  pub short_slice : join_call (wires 1 (2 ∷ 2 ∷ [])) [] stage (0 ∷ []) (7 ∷ 7 ∷ []) [] (7 ∷ []) ≡ locked_outcome (refused 4) (graph_of 0 0 0 (7 ∷ 7 ∷ []) []) (7 ∷ [])
