-- Which words of a node table are edges. From the tests of numbers.
use Rattle.std.proofs.Common.{◌≡◌, ℕ, ◌+◌, ◌*◌, ◌%◌, Bool, true, false, ◌&&◌, eqb, refl, arith, eq-eqb, ne_eqb, eqb-true}
use mathlib.Core.Bool.{and-false}
use borrow.Author.Tests.{not-false}
use Rattle.graph.specs.Graph.{Graph, mark, word, is_xor, is_edge}

pub edge_early : (g : Graph) (j : ℕ) → (j % 3 ≡ 2 → ⊥) → is_edge g j ≡ true
unfolding is_edge
edge_early g j n = rw (ne_eqb (j % 3) 2 n)

pub edge_third : (g : Graph) (j : ℕ) → j % 3 ≡ 2 → (word g j ≡ mark → ⊥) → is_edge g j ≡ true
unfolding is_edge
edge_third g j e n = rw (eq-eqb (j % 3) 2 e, ne_eqb (word g j) mark n)

-- the third word of node v, by its kind
module _ (g : Graph) (v : ℕ) where
  pub third_majority : is_xor g v ≡ false → is_edge g (3 * v + 2) ≡ true
  unfolding is_edge is_xor
  third_majority e = rw (e, and-false)

  pub third_xor : is_xor g v ≡ true → is_edge g (3 * v + 2) ≡ false
  unfolding is_edge is_xor
  third_xor e = rw (e, eq-eqb ((3 * v + 2) % 3) 2 (omega arith))

both_true : (a b : Bool) → a && b ≡ true → (a ≡ true) × (b ≡ true)
both_true true b e = (refl, e)
both_true false b e = (e, cc)

-- what is no edge is the mark
pub edge_none : (g : Graph) (j : ℕ) → is_edge g j ≡ false → (j % 3 ≡ 2) × (word g j ≡ mark)
unfolding is_edge
edge_none g j e =
    let b = both_true (eqb (j % 3) 2) (eqb (word g j) mark) (not-false _ e) in
    (eqb-true (j % 3) 2 b.0, eqb-true (word g j) mark b.1)
