-- The lines of an output and of a node, by the words that were read and what scratch has. From the laws on ANDs.
use Prim.Native.Nat.{ℕ, suc, ◌+◌, ◌-◌, ◌*◌, ◌/◌, ◌≤◌}
use mathlib.Core.Path.{◌≡◌, sym, ◌∙◌}
use mathlib.Core.Bool.{true, false}
use mathlib.Core.List.{[]}
use native.Mathlib.Nat.{add-zero}
use native.Mathlib.Omega.{arith}
use borrow.Author.Tests.{eq-eqb, ne_eqb}
use Rattle.graph.specs.Graph.{Graph, mark, word, output, is_xor}
use Rattle.aiger.specs.Export.{gates_of, exported, xor_gates, majority_gates, ended, threes}
use Rattle.aiger.proofs.Gates.{before_suc, of_xor, of_majority, base, gates_xor, gates_majority}
use Rattle.aiger_export.specs.Inner.{node_literal, output_line, node_lines}

pub output_is : (g : Graph) (j x y : ℕ) → x ≡ output g j → y ≡ exported g x → ended y 10 [] ≡ output_line g j
unfolding output_line
output_is g j x y ex ey = rw (ey, ex)

-- the words x, y and z of node v, the first two as p and q in the export
pub record Read (g : Graph) (v s x y z p q : ℕ) : Type 0 where
  pub last : s ≡ node_literal g v
  pub one : x ≡ word g (3 * v)
  pub one_is : p ≡ exported g x
  pub two : y ≡ word g (3 * v + 1)
  pub two_is : q ≡ exported g y
  pub three : z ≡ word g (3 * v + 2)

module _ (g : Graph) (v s x y z p q : ℕ) (r : Read g v s x y z p q) where
  read_xor : z ≡ mark → is_xor g v ≡ true
  unfolding is_xor
  read_xor e = eq-eqb _ _ (sym r.three ∙ e)

  pub read_majority : (z ≡ mark → ⊥) → is_xor g v ≡ false
  unfolding is_xor
  read_majority e = ne_eqb _ _ (λ m. e (r.three ∙ m))

  -- its first AND, by its last and how many there are
  first_is : (k : ℕ) → gates_of g v ≡ suc k → (k ≤ s / 2) × (s / 2 - k ≡ base g v)
  unfolding node_literal
  first_is k e = let l = r.last in let n = before_suc g v in (omega arith, omega arith)

  pub xor_first : z ≡ mark → (2 ≤ s / 2) × (s / 2 - 2 ≡ base g v)
  xor_first e = first_is 2 (of_xor g v (read_xor e))

  pub majority_first : (z ≡ mark → ⊥) → (3 ≤ s / 2) × (s / 2 - 3 ≡ base g v)
  majority_first e = first_is 3 (of_majority g v (read_majority e))

  -- its lines
  pub xor_is : z ≡ mark → threes (xor_gates (s / 2 - 2) p q) ≡ node_lines g v
  unfolding node_lines
  xor_is e =
      let z : 3 * v + 0 ≡ 3 * v = add-zero _ in
      rw (gates_xor g v (read_xor e), z, (xor_first e).1, r.one_is, r.one, r.two_is, r.two)

  pub majority_is : (z ≡ mark → ⊥) → (t : ℕ) → t ≡ exported g z → threes (majority_gates (s / 2 - 3) p q t) ≡ node_lines g v
  unfolding node_lines
  majority_is e t et =
      let z : 3 * v + 0 ≡ 3 * v = add-zero _ in
      rw (gates_majority g v (read_majority e), z, (majority_first e).1, r.one_is, r.one, r.two_is, r.two, et, r.three)
