-- The choice that words 1 and 2 of the nodes tell: at each node its move is told by the words as that choice itself has turned their readers, the
-- kinds have its moves, and which of a node's words it turns as they are to be turned. From the laws of flags and of a changed choice.
use mathlib.Core.Path.{◌≡◌, refl, sym, ap, ap₂, ◌∙◌}
use mathlib.Core.Bool.{Bool, true, false, cond}
use mathlib.Core.Logic.{⊎_elim, ◌≢◌}
use Prim.Native.Nat.{ℕ, zero, suc, ◌+◌, ◌*◌, ◌/◌, ◌%◌, ◌≤◌, ◌<◌}
use native.Mathlib.Omega.{arith}
use borrow.Author.Tests.{eq-eqb}
use lib.Dec.{eqb}
use Rattle.graph.specs.Admission.{Admitted}
use Rattle.graph.specs.Finite.{if_less}
use Rattle.graph.specs.Graph.{Graph, node, word, index, is_xor, is_edge}
use Rattle.graph.proofs.Cases.{true_or_false}
use Rattle.graph.proofs.Edge.{edge_early, third_majority, third_xor}
use Rattle.moves.specs.Apply.{Choice, own, seen}
use Rattle.moves.specs.Compose.{Permitted}
use Rattle.moves.specs.Rows.{rows, first_row, arity, flag}
use Rattle.moves.proofs.Changed.{at_same, at_other, own_at}
use Rattle.moves.proofs.Count.{last_or_below}
use Rattle.moves.proofs.Moves.{kind_moves_lem}
use Rattle.order.specs.Inner.{tells}
use Rattle.order.proofs.Telling.{seen_same}
use Rattle.compare.specs.Telling.{wanted, told_to, told, fits}

-- the move told of a kind: it is one, and how often it turns each word and the readers
pub tells_had : (x : Bool) (a b : ℕ) → a ≤ 1 → b ≤ 1 → tells x a b < arity x
unfolding tells arity
tells_had true a b p q = omega arith
tells_had false a b p q = omega arith

by_bit : (P : ℕ → Type 0) → P 0 → P 1 → (a : ℕ) → a ≤ 1 → P a
by_bit P p q zero h = p
by_bit P p q (suc zero) h = q
by_bit P p q (suc (suc a)) h = absurd (omega arith)

module _ (a b : ℕ) (p : a ≤ 1) (q : b ≤ 1) where
  pub xor_turns : (flag true (tells true a b) 0 ≡ a) × (flag true (tells true a b) 1 ≡ b) × (flag true (tells true a b) 3 ≡ (a + b) % 2)
  unfolding tells flag rows first_row arity if_less
  xor_turns =
      by_bit (λ x. (flag true (tells true x b) 0 ≡ x) × (flag true (tells true x b) 1 ≡ b) × (flag true (tells true x b) 3 ≡ (x + b) % 2))
      (by_bit (λ y. (flag true (tells true 0 y) 0 ≡ 0) × (flag true (tells true 0 y) 1 ≡ y) × (flag true (tells true 0 y) 3 ≡ (0 + y) % 2)) (refl, refl, refl) (refl, refl, refl) b q)
      (by_bit (λ y. (flag true (tells true 1 y) 0 ≡ 1) × (flag true (tells true 1 y) 1 ≡ y) × (flag true (tells true 1 y) 3 ≡ (1 + y) % 2)) (refl, refl, refl) (refl, refl, refl) b q)
      a p

  pub majority_turns : (flag false (tells false a b) 0 ≡ a) × (flag false (tells false a b) 1 ≡ a) × (flag false (tells false a b) 2 ≡ a) × (flag false (tells false a b) 3 ≡ a)
  unfolding tells flag rows first_row arity if_less
  majority_turns =
      by_bit (λ x. (flag false (tells false x b) 0 ≡ x) × (flag false (tells false x b) 1 ≡ x) × (flag false (tells false x b) 2 ≡ x) × (flag false (tells false x b) 3 ≡ x))
      (refl, refl, refl, refl) (refl, refl, refl, refl) a p

first_turn : (x : Bool) (a b : ℕ) → a ≤ 1 → b ≤ 1 → flag x (tells x a b) 0 ≡ a
first_turn true a b p q = (xor_turns a b p q).0
first_turn false a b p q = (majority_turns a b p q).0

second_turn : (x : Bool) (a b : ℕ) → a ≤ 1 → b ≤ 1 → eqb (flag x (tells x a b) 1) b ≡ cond x true (eqb a b)
second_turn true a b p q = eq-eqb _ _ (xor_turns a b p q).1
second_turn false a b p q = ap (λ (o : ℕ). eqb o b) (majority_turns a b p q).1

module _ (g : Graph) (w : ℕ → ℕ) where
  told_here : (v : ℕ) → told_to g w (suc v) (node g v) ≡ tells (is_xor g v) (wanted g w (told_to g w v) (3 * v)) (wanted g w (told_to g w v) (3 * v + 1))
  unfolding told_to
  told_here v = at_same (told_to g w v) (node g v) _

  told_other : (v u : ℕ) → u ≢ node g v → told_to g w (suc v) u ≡ told_to g w v u
  unfolding told_to
  told_other v u n = at_other (told_to g w v) (node g v) _ u n

  -- a move that was told is not told anew
  told_on : (n v : ℕ) → v < n → told_to g w n (node g v) ≡ told_to g w (suc v) (node g v)
  told_on zero v h = absurd (omega arith)
  told_on (suc n) v h =
      ⊎_elim
      (λ (e : v ≡ n). rw e)
      (λ (l : v < n). told_other n (node g v) (λ z. omega arith) ∙ told_on n v l)
      (last_or_below h)

  pub wanted_le : (m : Choice) (j : ℕ) → wanted g w m j ≤ 1
  unfolding wanted
  wanted_le m j = omega arith

  -- what is wanted of a word hangs on whether the readers of its index are turned
  pub wanted_same : (m n : Choice) (j : ℕ) → seen g m (index (word g j)) ≡ seen g n (index (word g j)) → wanted g w m j ≡ wanted g w n j
  unfolding wanted
  wanted_same m n j e = ap (λ (s : ℕ). (w j + s) % 2) e

  pub fits_edge : (m : Choice) (j : ℕ) → is_edge g j ≡ true → fits g w m j ≡ eqb (own g m j) (wanted g w m j)
  unfolding fits
  fits_edge m j e = rw e

  pub fits_mark : (m : Choice) (j : ℕ) → is_edge g j ≡ false → fits g w m j ≡ true
  unfolding fits
  fits_mark m j e = rw e

  module _ (adm : Admitted g) (v : ℕ) (h : v < g.N) where
    -- the words of a node name indices below its own
    pub edge_below : (k : ℕ) → k < 3 → is_edge g (3 * v + k) ≡ true → index (word g (3 * v + k)) < node g v
    edge_below k l e = let q : (3 * v + k) / 3 ≡ v = omega arith in omega (arith, adm.below (3 * v + k) (omega arith) e)

    pub early : (k : ℕ) → k < 2 → is_edge g (3 * v + k) ≡ true
    early k l = edge_early g (3 * v + k) (λ z. omega arith)

    early_wanted : (k : ℕ) → k < 2 → wanted g w (told_to g w v) (3 * v + k) ≡ wanted g w (told g w) (3 * v + k)
    early_wanted k l =
        wanted_same (told_to g w v) (told g w) (3 * v + k)
        (seen_same g (told_to g w v) (told g w) v (omega arith) (λ u i. told_on v u i ∙ sym (told_on g.N u (omega arith))) (index (word g (3 * v + k))) (edge_below k (omega arith) (early k l)))

    pub told_is : told g w (node g v) ≡ tells (is_xor g v) (wanted g w (told g w) (3 * v)) (wanted g w (told g w) (3 * v + 1))
    told_is =
        let z : 3 * v + 0 ≡ 3 * v = omega arith in
        told_on g.N v h ∙ told_here v ∙ ap₂ (tells (is_xor g v)) (rw z at (early_wanted 0 (omega arith))) (early_wanted 1 (omega arith))

    abbrev a : ℕ
    a = wanted g w (told g w) (3 * v)

    abbrev b : ℕ
    b = wanted g w (told g w) (3 * v + 1)

    abbrev c : ℕ
    c = wanted g w (told g w) (3 * v + 2)

    own_told : (k : ℕ) → k < 3 → own g (told g w) (3 * v + k) ≡ flag (is_xor g v) (tells (is_xor g v) a b) k
    own_told k l = own_at g (told g w) v k l ∙ ap (λ (m : ℕ). flag (is_xor g v) m k) told_is

    -- whether the told move turns the node's words as they are to be turned: word 1 always, an XOR's word 2 too
    pub first_fits : fits g w (told g w) (3 * v) ≡ true
    first_fits =
        let z : 3 * v + 0 ≡ 3 * v = omega arith in
        fits_edge (told g w) (3 * v) (rw z at (early 0 (omega arith)))
        ∙ eq-eqb (own g (told g w) (3 * v)) a (rw z at (own_told 0 (omega arith)) ∙ first_turn (is_xor g v) a b (wanted_le (told g w) (3 * v)) (wanted_le (told g w) (3 * v + 1)))

    pub second_fits : fits g w (told g w) (3 * v + 1) ≡ cond (is_xor g v) true (eqb a b)
    second_fits =
        fits_edge (told g w) (3 * v + 1) (early 1 (omega arith))
        ∙ ap (λ (o : ℕ). eqb o b) (own_told 1 (omega arith))
        ∙ second_turn (is_xor g v) a b (wanted_le (told g w) (3 * v)) (wanted_le (told g w) (3 * v + 1))

    pub third_fits : fits g w (told g w) (3 * v + 2) ≡ cond (is_xor g v) true (eqb a c)
    third_fits =
        ⊎_elim
        (λ (e : is_xor g v ≡ true). rw e (fits_mark (told g w) (3 * v + 2) (third_xor g v e)))
        (λ (e : is_xor g v ≡ false).
        let q : flag (is_xor g v) (tells (is_xor g v) a b) 2 ≡ a = rw e (majority_turns a b (wanted_le (told g w) (3 * v)) (wanted_le (told g w) (3 * v + 1))).2 in
        rw e (fits_edge (told g w) (3 * v + 2) (third_majority g v e) ∙ ap (λ (o : ℕ). eqb o c) (own_told 2 (omega arith) ∙ q)))
        (true_or_false (is_xor g v))

  pub told_permitted : Admitted g → Permitted g (told g w)
  told_permitted adm v h =
      rw (told_is adm v h, kind_moves_lem g v) (tells_had (is_xor g v) _ _ (wanted_le (told g w) (3 * v)) (wanted_le (told g w) (3 * v + 1)))
