-- What the key counts: of a tree's majorities, those with just one complemented input and those without; and C, which is below what one of them weighs.
use mathlib.Core.Path.{◌≡◌, refl, ◌∙◌}
use mathlib.Core.Bool.{Bool, true, false, not, cond, ◌&&◌}
use Prim.Native.Nat.{ℕ, ◌+◌, ◌-◌, ◌*◌, ◌≤◌}
use native.Mathlib.Omega.{arith}
use lib.Dec.{eqb}
use Rattle.graph.specs.Admission.{Admitted}
use Rattle.graph.specs.Count.{C}
use Rattle.graph.specs.Finite.{count}
use Rattle.graph.specs.Graph.{Graph, is_xor, node}
use Rattle.graph.proofs.Adds.{C_le}
use Rattle.graph.proofs.Finite.{sum_same, sum_le}
use Rattle.moves.specs.Apply.{Choice, apply}
use Rattle.moves.specs.Tree.{root_of}
use Rattle.moves.proofs.Apply.{same_xor, admitted}
use Rattle.moves.proofs.Count.{sum_add}
use Rattle.resistive.specs.Resistive.{odd_inputs, single, singles, key}
use Rattle.resistive.specs.Family.{missed, misses, miss_key}

one_of : (z x b : Bool) → cond (z && (not x && b)) 1 0 + cond (z && (not x && not b)) 1 0 ≡ cond (z && not x) 1 0
one_of true true b = refl
one_of true false true = refl
one_of true false false = refl
one_of false x b = refl

one_or_none : (b : Bool) → cond b 1 0 ≤ 1
one_or_none true = omega arith
one_or_none false = omega arith

-- the tree's majorities
pub majorities : Graph → ℕ → ℕ
majorities g r = count g.N (λ v. eqb (root_of g (node g v)) r && not (is_xor g v))

majorities_few : (g : Graph) (r : ℕ) → majorities g r ≤ g.N
unfolding majorities count
majorities_few g r =
    sum_le (λ v. cond (eqb (root_of g (node g v)) r && not (is_xor g v)) 1 0) (λ v. one_or_none (eqb (root_of g (node g v)) r && not (is_xor g v))) g.N

module _ (g : Graph) (r : ℕ) (adm : Admitted g) (d : Choice) where
  both_kinds : singles g r (apply g d) + misses g r (apply g d) ≡ majorities g r
  unfolding singles misses majorities count single missed
  both_kinds =
      let s : ℕ → ℕ = λ v. cond (eqb (root_of g (node g v)) r && (not (is_xor (apply g d) v) && eqb (odd_inputs (apply g d) v) 1)) 1 0 in
      let m : ℕ → ℕ = λ v. cond (eqb (root_of g (node g v)) r && (not (is_xor (apply g d) v) && not (eqb (odd_inputs (apply g d) v) 1))) 1 0 in
      omega (
        arith,
        sum_add g.N s m,
        sum_same g.N (λ v. s v + m v) (λ v. cond (eqb (root_of g (node g v)) r && not (is_xor g v)) 1 0)
            (λ v l. one_of (eqb (root_of g (node g v)) r) (is_xor (apply g d) v) (eqb (odd_inputs (apply g d) v) 1) ∙ rw (same_xor g d adm v)),
      )

  pub key_by_misses : miss_key g r d + (g.N - majorities g r) * 304097 ≡ key g r (apply g d)
  unfolding miss_key key
  key_by_misses = omega (arith, both_kinds, majorities_few g r)

  pub singles_few : singles g r (apply g d) ≤ g.N
  singles_few = omega (arith, both_kinds, majorities_few g r)

  pub C_few : C (apply g d) ≤ 304096
  C_few = let a = admitted g d adm in omega (arith, C_le (apply g d), a.few_nodes, a.few_outputs)
