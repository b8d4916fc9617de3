-- Roots, and the fanout-free tree of a root.
use Rattle.std.specs.Prelude.{◌*◌, ◌/◌, ◌&&◌, ◌∷◌}
use Rattle.graph.specs.All.{ℕ, zero, suc, Bool, not, cond, List, [], eqb, Graph, node, named, node_readers, readers}

-- a node is a root unless it has just one reader and that reader is in the node table
unfoldable pub is_root : Graph → ℕ → Bool
is_root g u = not (eqb (readers g u) 1 && eqb (node_readers g u) 1)

-- the last of the first n numbers that passes the test
unfoldable pub last : ℕ → (ℕ → Bool) → ℕ
last zero t = 0
last (suc n) t = cond (t n) n (last n t)

-- the place of the last word of the node table that names u: of a node that is no root, its only reader
unfoldable pub place : Graph → ℕ → ℕ
place g u = last (3 * g.N) (named g u)

-- the node that this word belongs to
unfoldable pub reader : Graph → ℕ → ℕ
reader g u = node g (place g u / 3)

-- the root that u leads to through non-roots only: from reader to reader, up to the first root, in at most f steps
unfoldable pub root_in : Graph → ℕ → ℕ → ℕ
root_in g zero u = u
root_in g (suc f) u = let r = root_in g f (reader g u) in cond (is_root g u) u r

unfoldable pub root_of : Graph → ℕ → ℕ
root_of g u = root_in g g.N u

-- those of the first n nodes that lead to r, by falling index
unfoldable pub members : Graph → ℕ → ℕ → List ℕ
members g r zero = []
members g r (suc n) = let l = members g r n in cond (eqb (root_of g (node g n)) r) (node g n ∷ l) l

-- the tree of the root r, by falling index
unfoldable pub tree : Graph → ℕ → List ℕ
tree g r = members g r g.N
