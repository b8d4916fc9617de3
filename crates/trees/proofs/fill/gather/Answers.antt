-- `gather` meets its contract. From the laws on stores.
use mathlib.Core.Path.{◌≡◌, ap}
use mathlib.Core.List.{List}
use Prim.Native.Nat.{ℕ, ◌+◌, ◌*◌, ◌≤◌}
use native.Mathlib.Omega.{arith}
use lib.ListN.{get_or}
use Rattle.graph.specs.Inner.{three_bits}
use Rattle.graph.proofs.Literals.{bit_of_le_lem}
use Rattle.trees.specs.Filling.{flags_of}
use Rattle.trees.proofs.Noting.{gathered_at}
use Rattle.trees.proofs.fill.gather.Goals as goal
use Rattle.trees.proofs.fill.gather.Goals.{After-three_at, Start}
use Rattle.graph.specs.Tables.{lent_table}

abbrev table : Start → List ℕ
table s = lent_table s.args.table.now

few : (l : List ℕ) (v : ℕ) → three_bits l v ≤ 7
unfolding three_bits
few l v = omega (arith, bit_of_le_lem (get_or l (3 * v) 0), bit_of_le_lem (get_or l (3 * v + 1) 0), bit_of_le_lem (get_or l (3 * v + 2) 0))

flags : (c : After-three_at) → 2 * c.three_at.result ≡ flags_of (table (goal.at.After-three_at c).Start) c.args.v
unfolding flags_of
flags c = ap (λ (x : ℕ). 2 * x) c.three_at.ensures

pub overflow_mul-three_at : goal.overflow_mul-three_at
overflow_mul-three_at c = omega (arith, c.three_at.ensures, few (table (goal.at.overflow_mul-three_at c).Start) c.args.v)

pub returns : goal.returns
returns c =
    gathered_at (table (goal.at.returns c).Start) c.args.v _ _ _ _ _ _ _ _ _ c.read-a.ensures c.read-b.ensures c.read-p.ensures c.store.ensures c.only_place.ensures c.store-2.ensures (flags (goal.at.returns c).After-three_at) c.store-3.ensures
