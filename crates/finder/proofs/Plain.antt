-- Which nodes are plain, by what is read. From the definition.
use mathlib.Core.Path.{◌≡◌}
use mathlib.Core.Bool.{Bool, true, false, not, ◌||◌}
use mathlib.Core.List.{List}
use Prim.Native.Nat.{ℕ, ◌+◌, ◌*◌}
use native.Mathlib.Omega.{arith}
use lib.Dec.{eqb}
use lib.ListN.{get_or}
use Rattle.graph.specs.Graph.{mark, index, is_xor}
use Rattle.evaluation.specs.Inner.{nodes_of}
use Rattle.hidden.specs.Find.{is_plain}

module _ (i n : ℕ) (ns : List ℕ) (v : ℕ) where
  pub plain_xor : eqb (get_or ns (3 * v + 2) 0) mark ≡ true → false ≡ is_plain (nodes_of i n ns) v
  unfolding is_plain is_xor
  plain_xor e = rw e

  pub plain_majority : (x y z : ℕ) (r : Bool) → eqb (get_or ns (3 * v + 2) 0) mark ≡ false → x ≡ index (get_or ns (3 * v) 0) → y ≡ index (get_or ns (3 * v + 1) 0) → z ≡ index (get_or ns (3 * v + 2) 0)
      → r ≡ not (eqb x 0 || eqb y 0 || eqb z 0 || eqb x y || eqb x z || eqb y z) → r ≡ is_plain (nodes_of i n ns) v
  unfolding is_plain is_xor
  plain_majority x y z r e a b c q =
      let d : 3 * v + 0 ≡ 3 * v = omega arith in
      rw (e, d, ← a, ← b, ← c) q
