-- What the call for resistive memory promises beside its definition (M-109).
use Rattle.std.specs.Prelude.{◌<◌, ◌≡◌}
use Rattle.graph.specs.All.{ℕ, Bool, true, List, pos, Graph, node, others_of, Admitted}
use Rattle.moves.specs.All.{arity, flag, is_root, tree, moved, rewrite_by}
use Rattle.resistive.specs.Resistive.{still_moves, best_still, MostSingle}
use Rattle.resistive.specs.Worked.{Worked}

-- the moves of a kind that leave the readers unturned, by document 01's table, are just its first so many
pub record StillFirst (x : Bool) (k : ℕ) : Type 0 where
  pub still : k < still_moves x → flag x k 3 ≡ 0
  pub only : k < arity x → flag x k 3 ≡ 0 → k < still_moves x

-- what the moves at the tree of r save on edges other than its own words: nothing
abbrev pub NoOthers : Graph → List ℕ → ℕ → Type 0
NoOthers g ls r = others_of (rewrite_by g (tree g r) (best_still g ls r)).answer ≡ pos 0

pub record Promises : Type 0 where
  pub most_single : (g : Graph) (ls : List ℕ) (r : ℕ) → Admitted g → MostSingle g ls r (moved g (tree g r) (best_still g ls r))
  pub still_first : (x : Bool) (k : ℕ) → StillFirst x k
  pub no_others : (g : Graph) (ls : List ℕ) (v : ℕ) → Admitted g → v < g.N → is_root g (node g v) ≡ true → NoOthers g ls (node g v)
  pub worked : Worked
