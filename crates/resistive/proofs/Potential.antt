-- The potential of the programme for resistive memory: a decided node counts with its family, what is undecided below it at its
-- least. With nothing undecided it is the key.
use mathlib.Core.Path.{◌≡◌, refl, ap}
use mathlib.Core.Bool.{Bool, true, false, not, cond, ◌&&◌}
use mathlib.Core.Logic.{⊎_elim}
use Prim.Native.Nat.{ℕ, zero, suc, ◌+◌, ◌*◌, ◌/◌, ◌<◌}
use native.Mathlib.Omega.{arith}
use lib.Dec.{eqb}
use Rattle.graph.specs.Admission.{Admitted}
use Rattle.graph.specs.Count.{node_adds, output_adds, C}
use Rattle.graph.specs.Finite.{sum, count, if_equal}
use Rattle.graph.specs.Graph.{Graph, is_edge, is_xor, node, word, turned_by}
use Rattle.graph.proofs.Cases.{true_or_false}
use Rattle.graph.proofs.Finite.{sum_same}
use Rattle.moves.specs.Apply.{Choice, seen, apply}
use Rattle.moves.specs.Rows.{flag}
use Rattle.moves.specs.Tree.{root_of}
use Rattle.moves.proofs.Apply.{same_xor}
use Rattle.moves.proofs.Changed.{own_at, node_adds_lem}
use Rattle.moves.proofs.Count.{sum_add}
use Rattle.moves.proofs.Potential.{undecided, undecided_no}
use Rattle.resistive.specs.Resistive.{odd_inputs}
use Rattle.resistive.specs.Family.{missed, misses, miss_key, edge_bit, weight, local_key, turned, family}
use Rattle.resistive.proofs.Lowest.{turned_fixed, turned_mark}

-- node v, once d has decided the tree's nodes from n on
unfoldable pub node_key : Graph → (ℕ → ℕ → ℕ) → (ℕ → ℕ) → ℕ → ℕ → Choice → ℕ → ℕ
node_key g c tn r n d v = cond (undecided g r n (node g v)) 0 (family g (eqb (root_of g (node g v)) r) (undecided g r n) (seen g d) c tn v (d (node g v)))

unfoldable pub Ψ : Graph → (ℕ → ℕ → ℕ) → (ℕ → ℕ) → ℕ → ℕ → Choice → ℕ
Ψ g c tn r n d = sum g.N (node_key g c tn r n d) + sum g.O (output_adds (apply g d))

-- a sum over words is one over nodes
pub sum_thirds : (n : ℕ) (f : ℕ → ℕ) → sum (3 * n) f ≡ sum n (λ v. f (3 * v + 0) + f (3 * v + 1) + f (3 * v + 2))
unfolding sum
sum_thirds zero f = refl
sum_thirds (suc n) f =
    let e : 3 * suc n ≡ suc (suc (suc (3 * n))) = omega arith in
    let e₀ : 3 * n ≡ 3 * n + 0 = omega arith in
    let e₁ : suc (3 * n) ≡ 3 * n + 1 = omega arith in
    let e₂ : suc (suc (3 * n)) ≡ 3 * n + 2 = omega arith in
    rw e (omega (arith, sum_thirds n f, ap f e₀, ap f e₁, ap f e₂))

-- a count, each worth 304,097
pub count_times : (n : ℕ) (t : ℕ → Bool) → count n t * 304097 ≡ sum n (λ v. cond (t v) 304097 0)
unfolding count sum
count_times zero t = refl
count_times (suc n) t =
    ⊎_elim
    (λ (e : t n ≡ true). rw e (omega (arith, count_times n t)))
    (λ (e : t n ≡ false). rw e (omega (arith, count_times n t)))
    (true_or_false (t n))

penalty : (z x b : Bool) → ◌≡◌ {A = ℕ} (cond (z && not x) (cond b 0 304097) 0) (cond (z && (not x && not b)) 304097 0)
penalty false x b = refl
penalty true true b = refl
penalty true false true = refl
penalty true false false = refl

module _ (g : Graph) (c : ℕ → ℕ → ℕ) (tn : ℕ → ℕ) (r : ℕ) (adm : Admitted g) (d : Choice) where
  -- how the word at place j is turned by what it names
  abbrev shown_to : ℕ → ℕ
  shown_to j = cond (is_edge g j) (seen g d (word g j / 2)) 0

  turned_done : (j : ℕ) (h : ℕ → ℕ) → turned g (undecided g r 0) (seen g d) c tn j h ≡ h (shown_to j)
  turned_done j h =
      ⊎_elim
      (λ (e : is_edge g j ≡ true).
      rw e (turned_fixed g (undecided g r 0) (seen g d) c tn j h e (undecided_no g r 0 (word g j / 2) (λ x. omega (arith, x.low, x.high)))))
      (λ (e : is_edge g j ≡ false). rw e (turned_mark g (undecided g r 0) (seen g d) c tn j h e))
      (true_or_false (is_edge g j))

  module _ (v : ℕ) (h : v < g.N) where
    -- how often word i + 1 is turned
    abbrev times : ℕ → ℕ
    times i = flag (is_xor g v) (d (node g v)) i + shown_to (3 * v + i)

    edge_bit_lem : (i : ℕ) → i < 3 → edge_bit g (3 * v + i) (times i) ≡ node_adds (apply g d) (3 * v + i)
    unfolding edge_bit
    edge_bit_lem i l =
        rw (node_adds_lem g d adm (3 * v + i) (omega arith), own_at g d v i l)
        (⊎_elim
        (λ (e : is_edge g (3 * v + i) ≡ true).
        rw e
        (let a : word g (3 * v + i) + (flag (is_xor g v) (d (node g v)) i + seen g d (word g (3 * v + i) / 2))
        ≡ word g (3 * v + i) + flag (is_xor g v) (d (node g v)) i + seen g d (word g (3 * v + i) / 2) = omega arith in
        rw a))
        (λ (e : is_edge g (3 * v + i) ≡ false). rw e)
        (true_or_false (is_edge g (3 * v + i))))

    local_key_lem : (z : Bool) → local_key g z v (times 0) (times 1) (times 2) ≡ cond (z && missed (apply g d) v) 304097 0 + odd_inputs (apply g d) v
    unfolding local_key weight missed odd_inputs if_equal
    local_key_lem z =
        rw (edge_bit_lem 0 (omega arith), edge_bit_lem 1 (omega arith), edge_bit_lem 2 (omega arith), same_xor g d adm v)
        (omega (arith, penalty z (is_xor g v) (eqb (node_adds (apply g d) (3 * v + 0) + node_adds (apply g d) (3 * v + 1) + node_adds (apply g d) (3 * v + 2)) 1)))

    node_key_lem : node_key g c tn r 0 d v ≡ cond (eqb (root_of g (node g v)) r && missed (apply g d) v) 304097 0 + odd_inputs (apply g d) v
    unfolding node_key family
    node_key_lem =
        rw (undecided_no g r 0 (node g v) (λ x. omega (arith, x.low)), turned_done (3 * v + 0), turned_done (3 * v + 1), turned_done (3 * v + 2))
        (local_key_lem (eqb (root_of g (node g v)) r))

  -- nothing undecided: the key
  pub Ψ_zero : Ψ g c tn r 0 d ≡ miss_key g r d
  unfolding Ψ miss_key misses C apply turned_by odd_inputs
  Ψ_zero =
      let miss : ℕ → ℕ = λ v. cond (eqb (root_of g (node g v)) r && missed (apply g d) v) 304097 0 in
      let words : ℕ → ℕ = λ v. node_adds (apply g d) (3 * v + 0) + node_adds (apply g d) (3 * v + 1) + node_adds (apply g d) (3 * v + 2) in
      omega (
        arith,
        sum_same g.N (node_key g c tn r 0 d) (λ v. miss v + words v) node_key_lem,
        sum_add g.N miss words,
        sum_thirds g.N (node_adds (apply g d)),
        count_times g.N (λ v. eqb (root_of g (node g v)) r && missed (apply g d) v),
      )
