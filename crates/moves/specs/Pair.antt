-- Deciding a pair by what its combinations of moves save: what the inner functions compute, and no promise to a caller.
use Rattle.std.specs.Prelude.{◌≡◌, ℕ, ◌/◌, ◌%◌, ◌<◌, true, false, List, ℤ, pos, int_lt}
use Rattle.graph.specs.Finite.{difference}
use Rattle.choice.specs.Inner.{FirstBelow}
use Rattle.moves.specs.Decide.{pair_cost}
use Rattle.moves.specs.declared.decide.NodeNumbers.{NodeNumbers}
use Rattle.moves.specs.declared.decide.Combination.{Combination}
use Rattle.moves.specs.declared.decide.BestPair.{BestPair}

-- move a at the node p and move k at the node n whose words w name it: what no moves leave, less what these leave
unfoldable pub pair_saving : NodeNumbers → NodeNumbers → List ℕ → ℕ → ℕ → ℤ
pair_saving p n w a k = difference (pair_cost p n w 0 0) (pair_cost p n w a k)

-- (a, k) is the first pair below (m, n), by a and then by k, at which f is greatest
pub record FirstGreatest (f : ℕ → ℕ → ℤ) (m n a k : ℕ) : Type 0 where
  pub below : a < m
  pub fits : k < n
  pub none_greater : (b l : ℕ) → b < m → l < n → int_lt (f a k) (f b l) ≡ false
  pub first : (b l : ℕ) → b < a → l < n → int_lt (f b l) (f a k) ≡ true
  pub second : (l : ℕ) → l < k → int_lt (f a l) (f a k) ≡ true

-- combinations by number, the named node's move counting first: what number c leaves, and what it saves
unfoldable pub cost_numbered : NodeNumbers → NodeNumbers → List ℕ → ℕ → ℕ
cost_numbered p n w c = pair_cost p n w (c / n.moves) (c % n.moves)

unfoldable pub saving_numbered : NodeNumbers → NodeNumbers → List ℕ → ℕ → ℤ
saving_numbered p n w c = pair_saving p n w (c / n.moves) (c % n.moves)

-- b is the first of the combinations below number c that leave least, with what it saves
pub record GreatestBelow (p n : NodeNumbers) (w : List ℕ) (c : ℕ) (b : Combination) : Type 0 where
  pub found : FirstBelow (cost_numbered p n w) c b.number
  pub saving : b.saving ≡ saving_numbered p n w b.number

-- r has the first of the pairs of moves that save most, and what it saves
pub record Won (p n : NodeNumbers) (w : List ℕ) (r : BestPair) : Type 0 where
  pub greatest : FirstGreatest (pair_saving p n w) p.moves n.moves r.named r.node
  pub saving : pos r.saving ≡ pair_saving p n w r.named r.node
