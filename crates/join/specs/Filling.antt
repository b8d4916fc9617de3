-- The words of the second graph met, by the numbers and tables that they are worked out from. What the inner functions ask of each other, and
-- no promise to a caller.
use Rattle.std.specs.Prelude.{◌≡◌, true, cond, not, ◌&&◌, List, ℕ, ◌+◌, ◌-◌, ◌*◌, ◌%◌, ◌≤◌, ◌<◌, eqb, get_or}
use Rattle.graph.specs.Finite.{if_less, if_equal}
use Rattle.graph.specs.Graph.{mark, index, complement, turn}
use Rattle.graph.specs.Inner.{AllReadable}
use Rattle.graph.specs.Literals.{held}

-- `met`: os has the first's outputs, which has `base` = I + N indices, and the second has i inputs
abbrev pub met_by : List ℕ → ℕ → ℕ → ℕ → ℕ
met_by os base i x =
    if_equal (index x) 0 x
    (if_less i (index x)
    (x + 2 * base - 2 * i)
    (turn (complement x) (get_or os (index x - 1) 0)))

-- `met_word`, the second's words standing in ms
abbrev pub met_word_by : List ℕ → List ℕ → ℕ → ℕ → ℕ → ℕ
met_word_by ms os base i j = cond (not (eqb (j % 3) 2 && eqb (get_or ms j 0) mark)) (met_by os base i (get_or ms j 0)) mark

-- what meeting a literal asks
pub record Meets (os : List ℕ) (base i : ℕ) : Type 0 where
  pub few_indices : base ≤ 104096
  pub few_inputs : i ≤ 4096
  pub enough : i ≤ held os
  pub low : (k : ℕ) → k < i → index (get_or os k 0) ≤ 104096

-- words of m nodes whose edges can be met
pub record Stand (m : ℕ) (ms : List ℕ) : Type 0 where
  pub few : m ≤ 100000
  pub readable : AllReadable m ms
  pub low : (j : ℕ) → j < 3 * m → not (eqb (j % 3) 2 && eqb (get_or ms j 0) mark) ≡ true → index (get_or ms j 0) ≤ 104096
