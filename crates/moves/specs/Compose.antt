-- Choices one after the other, and the index of a root: what proofs and inner functions say, and no promise to a caller.
use Rattle.std.specs.Prelude.{◌+◌, ◌-◌, ◌*◌, ◌/◌, ◌%◌, ◌<◌, ◌≡◌}
use Rattle.graph.specs.All.{ℕ, Bool, true, cond, Graph, node, is_xor}
use Rattle.moves.specs.{Rows.kind_moves, Apply.Choice, Tree.is_root}

-- two moves of one kind, made one after the other, are one move
unfoldable pub combined : Bool → ℕ → ℕ → ℕ
combined x m n = cond x ((m + n) % 2 + 2 * ((m / 2 + n / 2) % 2)) ((m + n) % 2)

-- every move is one that its node's kind has
abbrev pub Permitted : Graph → Choice → Type 0
Permitted g m = (v : ℕ) → v < g.N → m (node g v) < kind_moves g (node g v)

-- two choices, made one after the other, are one choice
unfoldable pub compose : Graph → Choice → Choice → Choice
compose g m n u = combined (is_xor g (u - (g.I + 1))) (m u) (n u)

pub record IsRoot (g : Graph) (r : ℕ) : Type 0 where
  pub after_inputs : g.I < r
  pub within : r < g.I + 1 + g.N
  pub root : is_root g r ≡ true
