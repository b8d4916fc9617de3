-- The finder's pass: each free node by rising index, with every triple near it.
use Rattle.std.specs.Prelude.{◌||◌, ◌&&◌, ◌∷◌, ◌++◌, ◌+◌, ◌-◌, ◌*◌}
use Rattle.graph.specs.All.{Bool, false, not, cond, List, [], map, ℕ, zero, suc, ltb, eqb, get_or, Graph, node, word, index, is_edge, is_xor}
use Rattle.hidden.specs.Truth.{Triple, triple, truth}
use Rattle.hidden.specs.Majority.{is_majority, made}

-- the index i is reachable from the index u within k words downward; an input has no words
unfoldable pub reaches : Graph → ℕ → ℕ → ℕ → Bool
reaches g zero u i = false
reaches g (suc k) u i =
    let by : ℕ → Bool = λ j. is_edge g j && (eqb (index (word g j)) i || reaches g k (index (word g j)) i) in
    let v = u - (g.I + 1) in
    let some = by (3 * v) || by (3 * v + 1) || by (3 * v + 2) in
    ltb g.I u && some

-- those of the indices 1 to n that are reachable within three words, rising
unfoldable pub near_below : Graph → ℕ → ℕ → List ℕ
near_below g u zero = []
near_below g u (suc n) = let l = near_below g u n in cond (reaches g 3 u (suc n)) (l ++ (suc n ∷ [])) l

unfoldable pub near : Graph → ℕ → List ℕ
near g u = near_below g u (u - 1)

-- every pair and every triple of a list, in its order, the first compared first
unfoldable pub pairs : ℕ → List ℕ → List Triple
pairs x [] = []
pairs x (y ∷ ys) = map (λ z. triple x y z) ys ++ pairs x ys

unfoldable pub triples : List ℕ → List Triple
triples [] = []
triples (x ∷ xs) = pairs x xs ++ triples xs

-- g with the index u made the first majority that one of the triples gives
unfoldable pub first_made : Graph → ℕ → List Triple → Graph
first_made g u [] = g
first_made g u (t ∷ ts) = let rest = first_made g u ts in cond (is_majority (truth g t u)) (made g t u) rest

-- node v is locked
unfoldable pub is_locked : List ℕ → ℕ → Bool
is_locked ls v = eqb (get_or ls v 0) 1

-- node v is a majority of three different indices other than 0
unfoldable pub is_plain : Graph → ℕ → Bool
is_plain g v =
    let i : ℕ → ℕ = λ k. index (word g (3 * v + k)) in
    not (is_xor g v) && not (eqb (i 0) 0 || eqb (i 1) 0 || eqb (i 2) 0 || eqb (i 0) (i 1) || eqb (i 0) (i 2) || eqb (i 1) (i 2))

-- g after the finder's first n nodes
unfoldable pub passed : Graph → List ℕ → ℕ → Graph
passed g ls zero = g
passed g ls (suc n) =
    let h = passed g ls n in
    let tried = first_made h (node h n) (triples (near h (node h n))) in
    cond (is_locked ls n || is_plain h n) h tried
