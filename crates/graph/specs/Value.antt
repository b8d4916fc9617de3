-- What a graph computes. Bits are 0 and 1; an assignment a gives input k + 1 the bit a k % 2.
use Rattle.std.specs.Prelude.{◌+◌, ◌*◌, ◌%◌, ◌∷◌, ◌++◌}
use Rattle.graph.specs.Words.{ℕ, zero, suc, min, max, cond, List, [], get_or}
use Rattle.graph.specs.{Finite.tab, Graph.Graph, Graph.word, Graph.output, Graph.index, Graph.complement, Graph.is_xor}

abbrev pub Assignment : Type 0
Assignment = ℕ → ℕ

-- ⟨xyz⟩ is xy or xz or yz
unfoldable pub majority : ℕ → ℕ → ℕ → ℕ
majority x y z = max (max (min x y) (min x z)) (min y z)

unfoldable pub exclusive : ℕ → ℕ → ℕ
exclusive x y = (x + y) % 2

-- the value of the literal x, where vs has the value of index i at place i: an odd one is the opposite of its index
unfoldable pub literal_value : List ℕ → ℕ → ℕ
literal_value vs x = (get_or vs (index x) 0 + complement x) % 2

-- the value of node v, from the values of lower indices
unfoldable pub node_value : Graph → List ℕ → ℕ → ℕ
node_value g vs v =
    let l : ℕ → ℕ = λ k. literal_value vs (word g (3 * v + k)) in
    cond (is_xor g v) (exclusive (l 0) (l 1)) (majority (l 0) (l 1) (l 2))

-- the values of the constant, the inputs and the first n nodes, by index
unfoldable pub values : Graph → Assignment → ℕ → List ℕ
values g a zero = 0 ∷ tab g.I (λ k. a k % 2)
values g a (suc n) = let vs = values g a n in vs ++ (node_value g vs n ∷ [])

-- the value of an index
unfoldable pub value : Graph → Assignment → ℕ → ℕ
value g a i = get_or (values g a g.N) i 0

-- the value of an output, counted from 0: that of its literal
unfoldable pub output_value : Graph → Assignment → ℕ → ℕ
output_value g a j = literal_value (values g a g.N) (output g j)
