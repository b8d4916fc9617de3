-- The rising list of the indices near a node, in the first words of a slice. What the inner functions ask of each other, and no promise
-- to a caller.
use Rattle.std.specs.Prelude.{◌≡◌, Bool, ◌&&◌, ◌||◌, ◌⊎◌, List, [], ◌∷◌, ℕ, zero, suc, ◌+◌, ◌*◌, ◌≤◌, ◌<◌, eqb, length, get_or, set, take}
use Rattle.graph.specs.Finite.{if_less, if_equal}
use Rattle.graph.specs.Graph.{Graph, index, word, is_edge}
use Rattle.hidden.specs.Find.{reaches}
use Rattle.hidden.specs.Inner.{Between, has}

-- the list with x, if it has not got it, where it belongs: the higher of two is carried on
unfoldable pub insert_to : ℕ → List ℕ → List ℕ
insert_to x [] = x ∷ []
insert_to x (y ∷ ys) = let on = insert_to x ys in let off = insert_to y ys in if_equal y x (y ∷ ys) (if_less y x (y ∷ on) (x ∷ off))

-- the lower of what is carried and of what stands at place k stays there, the other is carried on
pub record Stays (k c r : ℕ) (xs xs' : List ℕ) : Type 0 where
  pub lower : get_or xs k 0 < c
  pub carried : r ≡ c
  pub list : xs' ≡ xs

pub record Swaps (k c r : ℕ) (xs xs' : List ℕ) : Type 0 where
  pub lower : c ≤ get_or xs k 0
  pub carried : r ≡ get_or xs k 0
  pub list : xs' ≡ set xs k c

abbrev pub Carried : ℕ → ℕ → ℕ → List ℕ → List ℕ → Type 0
Carried k c r xs xs' = Stays k c r xs xs' ⊎ Swaps k c r xs xs'

-- the first n with x are the first r now
pub record Inserted (x n r : ℕ) (xs xs' : List ℕ) : Type 0 where
  pub same : length xs' ≡ length xs
  pub few : r ≤ n + 1
  pub list : take r xs' ≡ insert_to x (take n xs)

-- the first n with at most c others, all below u, those above 0 that pass the test, are the first r now
pub record Grown (c u : ℕ) (t : ℕ → Bool) (n r : ℕ) (xs xs' : List ℕ) : Type 0 where
  pub same : length xs' ≡ length xs
  pub few : r ≤ n + c
  pub rising : (hi : ℕ) → u ≤ hi → Between 0 hi (take n xs) → Between 0 hi (take r xs')
  pub members : (i : ℕ) → 0 < i → has i (take r xs') ≡ (has i (take n xs) || t i)

-- how many indices one reaches at most within k words
abbrev pub reach_room : ℕ → ℕ
reach_room zero = 0
reach_room (suc k) = 3 * (reach_room k + 1)

-- what the word at place j leads to within k words more
unfoldable pub through : Graph → ℕ → ℕ → ℕ → Bool
through g k j i = is_edge g j && (eqb (index (word g j)) i || reaches g k (index (word g j)) i)
