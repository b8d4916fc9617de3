-- Lists of moves, one for each of several nodes, and the first of the least, by exhaustion.
use Rattle.std.specs.Prelude.{ℕ, zero, suc, ◌<◌, cond, leb}
use mathlib.Core.List.{List, [], ◌∷◌, map, flat_map}

-- n numbers from k on: k, k + 1, ..
unfoldable pub from : ℕ → ℕ → List ℕ
from k zero = []
from k (suc n) = k ∷ from (suc k) n

-- every list of moves, one below each number of moves, in lexicographic order
unfoldable pub choices : List ℕ → List (List ℕ)
choices [] = [] ∷ []
choices (n ∷ ns) = flat_map (λ m. map (λ l. m ∷ l) (choices ns)) (from 0 n)

-- x, unless y costs less
unfoldable pub unless_less : {A : Type 0} → (A → ℕ) → A → A → A
unless_less f x y = cond (leb (f x) (f y)) x y

-- of a list, the first whose cost is least; d, if there is none
unfoldable pub least : {A : Type 0} → (A → ℕ) → A → List A → A
least f d [] = d
least f d (x ∷ []) = x
least f d (x ∷ y ∷ ys) = unless_less f x (least f d (y ∷ ys))

-- of all lists of moves, the first whose cost is least
unfoldable pub best : (List ℕ → ℕ) → List ℕ → List ℕ
best f ns = least f [] (choices ns)

-- l has a move below each number of moves
abbrev pub Fits : List ℕ → List ℕ → Type 0
Fits [] [] = Unit {0}
Fits [] (m ∷ l) = ⊥
Fits (n ∷ ns) [] = ⊥
Fits (n ∷ ns) (m ∷ l) = (m < n) × Fits ns l
