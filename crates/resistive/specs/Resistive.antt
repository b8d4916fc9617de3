-- The call on a tree for resistive memory (M-109). It wants majorities with just one complemented input; edges from the constant are inputs.
use Rattle.std.specs.Prelude.{◌+◌, ◌-◌, ◌*◌, ◌≤◌, ◌<◌, ◌&&◌, ◌≡◌, ◌⊎◌}
use Rattle.graph.specs.All.{ℕ, min, Bool, not, cond, List, map, eqb, count, if_equal, Graph, node, is_xor, node_adds, C, Outcome, guarded}
use Rattle.choice.specs.All.{best, Fits}
use Rattle.moves.specs.All.{moves_at, root_of, tree, moved, rewrite_by, tree_number}

-- how many inputs of node v are complemented
unfoldable pub odd_inputs : Graph → ℕ → ℕ
odd_inputs g v = node_adds g (3 * v + 0) + node_adds g (3 * v + 1) + node_adds g (3 * v + 2)

-- node v is a majority with just one
unfoldable pub single : Graph → ℕ → Bool
single g v = not (is_xor g v) && eqb (odd_inputs g v) 1

-- how many of them h has in the tree of r, a tree of g: h is g after moves, which leave trees as they are
unfoldable pub singles : Graph → ℕ → Graph → ℕ
singles g r h = count g.N (λ v. eqb (root_of g (node g v)) r && single h v)

-- less for more of them, and for as many by C, which is at most 3 × 100,000 + 4,096 and so below 304,097
unfoldable pub key : Graph → ℕ → Graph → ℕ
key g r h = (g.N - singles g r h) * 304097 + C h

-- the moves of a kind (true for an XOR) that leave its readers unturned are its first: so many
unfoldable pub still_moves : Bool → ℕ
still_moves x = cond x 2 1

-- how many moves index u has here, with the locks ls: the root r only such, any other node as in every call
unfoldable pub still_at : Graph → List ℕ → ℕ → ℕ → ℕ
still_at g ls r u = if_equal u r (min (moves_at g ls u) (still_moves (is_xor g (u - (g.I + 1))))) (moves_at g ls u)

-- of all lists of such moves at the tree of r, the first with the least key
unfoldable pub best_still : Graph → List ℕ → ℕ → List ℕ
best_still g ls r = best (λ ms. key g r (moved g (tree g r) ms)) (map (still_at g ls r) (tree g r))

-- the call, with s words of scratch: refused as the tree call is
unfoldable pub resistive_call : Graph → List ℕ → ℕ → ℕ → Outcome
resistive_call g ls s r = guarded (tree_number g ls s r) g (rewrite_by g (tree g r) (best_still g ls r))

-- of h, a graph after such moves: any other has fewer such majorities, or as many and at least the same C
abbrev pub MostSingle : Graph → List ℕ → ℕ → Graph → Type 0
MostSingle g ls r h =
    (ms : List ℕ) → Fits (map (still_at g ls r) (tree g r)) ms
    → (singles g r (moved g (tree g r) ms) < singles g r h) ⊎ ((singles g r (moved g (tree g r) ms) ≡ singles g r h) × (C h ≤ C (moved g (tree g r) ms)))
