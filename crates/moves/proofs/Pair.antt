-- A pair's saving from the numbers of both nodes is C before less C after, for any two moves; the first pair that leaves least is the
-- first that saves most, and there is one such pair. From the law of two moves and the laws of differences.
use Rattle.std.proofs.Common.{◌≡◌, ℕ, ◌+◌, ◌-◌, ◌*◌, ◌/◌, ◌%◌, ◌<◌, ◌≤◌, Bool, true, false, ltb, List, ℤ, pos, nat_abs, sym, refl, ap, ◌∙◌, ⊎_elim, arith, w64, to_z, of_z, ltb-false, ltb-true, le-ltb, lt-ltb}
use lib.Signed.{lt_z}
use Rattle.graph.specs.Admission.{Admitted}
use Rattle.graph.specs.Count.{C}
use Rattle.graph.specs.Finite.{difference}
use Rattle.graph.specs.Graph.{Graph, node}
use Rattle.graph.proofs.Cases.{lt_or_le}
use Rattle.graph.proofs.Difference.{at_least, same_difference, greater_is, read_back}
use Rattle.choice.specs.Inner.{FirstBelow}
use Rattle.moves.specs.Apply.{none, at, put, apply}
use Rattle.moves.specs.Call.{moved, moved_c}
use Rattle.moves.specs.Decide.{MovesOf, given, others, cost_given, pair_cost, Counted, FirstPair, numbers_of, naming}
use Rattle.moves.specs.Pair.{pair_saving, FirstGreatest, cost_numbered, saving_numbered, GreatestBelow}
use Rattle.moves.specs.Promises.{PairSaving, OneWinner}
use Rattle.moves.specs.Rows.{arity, flag}
use Rattle.moves.specs.declared.decide.NodeNumbers.{NodeNumbers}
use Rattle.moves.specs.declared.decide.Combination.{Combination}
use Rattle.moves.proofs.Deciding.{cost_le, given_numbers}
use Rattle.moves.proofs.Moves.{moves_some}
use Rattle.moves.proofs.NodeBest.{pair_cost_is, zeros_are}
use Rattle.moves.proofs.Scan.{scan_one, scan_keep, scan_take}

pub pair_saving_lem : (g : Graph) (ls : List ℕ) → Admitted g → (p v : ℕ) → p < v → v < g.N → (a k : ℕ) → PairSaving g ls p v a k
unfolding pair_saving moved_c moved put
pair_saving_lem g ls adm p v l h a k =
    same_difference (pair_cost (numbers_of g ls p) (numbers_of g ls v) (naming g v (node g p)) 0 0) (pair_cost (numbers_of g ls p) (numbers_of g ls v) (naming g v (node g p)) a k) (C g)
    (C (apply g (at (at none (node g p) a) (node g v) k)))
    (omega (arith, pair_cost_is g ls adm p v l h 0 0, pair_cost_is g ls adm p v l h a k, zeros_are g ls adm p v l h))

module _ (p n : NodeNumbers) (w : List ℕ) where
  pub from_costs : (a k x y : ℕ) → x ≡ pair_cost p n w 0 0 → y ≡ pair_cost p n w a k → difference x y ≡ pair_saving p n w a k
  unfolding pair_saving
  from_costs a k x y e f = rw (e, f)

  -- more is saved where less is left
  pub saves_more : (b l c j : ℕ) → lt_z (pair_saving p n w b l) (pair_saving p n w c j) ≡ ltb (pair_cost p n w c j) (pair_cost p n w b l)
  unfolding pair_saving
  saves_more b l c j = greater_is (pair_cost p n w 0 0) (pair_cost p n w b l) (pair_cost p n w c j)

  -- the winner by what is left and the winner by what is saved are one
  module _ (r s a k : ℕ) where
    pub greatest_of_least : FirstPair (pair_cost p n w) r s a k → FirstGreatest (pair_saving p n w) r s a k
    greatest_of_least h =
        record {
          below = h.below;
          fits = h.fits;
          none_greater = λ b l i j. saves_more a k b l ∙ le-ltb _ _ (h.low b l i j);
          first = λ b l i j. saves_more b l a k ∙ lt-ltb _ _ (h.first b l i j);
          second = λ l i. saves_more a l a k ∙ lt-ltb _ _ (h.second l i);
        }

    pub least_of_greatest : FirstGreatest (pair_saving p n w) r s a k → FirstPair (pair_cost p n w) r s a k
    least_of_greatest h =
        record {
          below = h.below;
          fits = h.fits;
          low = λ b l i j. ltb-false _ _ (sym (saves_more a k b l) ∙ h.none_greater b l i j);
          first = λ b l i j. ltb-true _ _ (sym (saves_more b l a k) ∙ h.first b l i j);
          second = λ l i. ltb-true _ _ (sym (saves_more a l a k) ∙ h.second l i);
        }

-- there is one first least pair
one_pair : (f : ℕ → ℕ → ℕ) (r s a k b l : ℕ) → FirstPair f r s a k → FirstPair f r s b l → (a ≡ b) × (k ≡ l)
one_pair f r s a k b l x y = (same, omega (arith, second_no_less x y same, second_no_less y x (sym same)))
  where
    first_no_less : {a k b l : ℕ} → FirstPair f r s a k → FirstPair f r s b l → a ≤ b
    first_no_less {a} {k} {b} {l} x y = ⊎_elim (λ (h : b < a). absurd (omega (arith, x.first b l h y.fits, y.low a k x.below x.fits))) (λ (h : a ≤ b). h) (lt_or_le b a)

    second_no_less : {a k b l : ℕ} → FirstPair f r s a k → FirstPair f r s b l → a ≡ b → k ≤ l
    second_no_less {a} {k} {b} {l} x y e = ⊎_elim (λ (h : l < k). absurd (omega (arith, x.second l h, y.low a k x.below x.fits, ap (λ c. f c l) e))) (λ (h : k ≤ l). h) (lt_or_le l k)

    same : a ≡ b
    same = omega (arith, first_no_less x y, first_no_less y x)

-- deciding by two answers and deciding by all savings end in the same moves
pub one_winner : (p n : NodeNumbers) (w : List ℕ) (r s a k b l : ℕ) → OneWinner p n w r s a k b l
one_winner p n w r s a k b l x y = one_pair (pair_cost p n w) r s a k b l x (least_of_greatest p n w r s b l y)

-- the combinations one by one are those by the first move and then by the second
module _ (f : ℕ → ℕ → ℕ) (r s c : ℕ) (quotient : (b l : ℕ) → l < s → (s * b + l) / s ≡ b) (rest : (b l : ℕ) → l < s → (s * b + l) % s ≡ l)
    (within : (b l : ℕ) → b < r → l < s → s * b + l < r * s) (below : c / s < r) (fits : c % s < s) (before : (b l : ℕ) → b < c / s → l < s → s * b + l < c)
    (before-second : (l : ℕ) → l < c % s → s * (c / s) + l < c) where
  in_order_lem : FirstBelow (λ i. f (i / s) (i % s)) (r * s) c → FirstPair f r s (c / s) (c % s)
  in_order_lem h =
      record {
        below = below;
        fits = fits;
        low = λ b l i j. rw (quotient b l j, rest b l j) at (h.low (s * b + l) (within b l i j));
        first = λ b l i j. rw (quotient b l j, rest b l j) at (h.first (s * b + l) (before b l i j));
        second = λ l i. let j : l < s = omega arith in rw (quotient (c / s) l j, rest (c / s) l j) at (h.first (s * (c / s) + l) (before-second l i));
      }

-- each number of moves that a node can have: 1, 2 and 4
by_moves : (P : ℕ → Type 0) → P 1 → P 2 → P 4 → (x : Bool) (s : ℕ) → MovesOf x s → P s
unfolding arity
by_moves P one two four true s h = ⊎_elim (λ (e : s ≡ 1). rw e one) (λ (e : s ≡ 4). rw e four) h
by_moves P one two four false s h = ⊎_elim (λ (e : s ≡ 1). rw e one) (λ (e : s ≡ 2). rw e two) h

module _ (f : ℕ → ℕ → ℕ) (r c : ℕ) where
  by_number_lem : (x : Bool) (s : ℕ) → MovesOf x s → FirstBelow (λ i. f (i / s) (i % s)) (r * s) c → FirstPair f r s (c / s) (c % s)
  by_number_lem =
      by_moves (λ s. FirstBelow (λ i. f (i / s) (i % s)) (r * s) c → FirstPair f r s (c / s) (c % s))
      (λ h.
      in_order_lem f r 1 c (λ b l i. omega arith) (λ b l i. omega arith) (λ b l i j. omega arith) (omega (arith, h.below)) (omega arith) (λ b l i j. omega arith)
      (λ l i. omega arith) h)
      (λ h.
      in_order_lem f r 2 c (λ b l i. omega arith) (λ b l i. omega arith) (λ b l i j. omega arith) (omega (arith, h.below)) (omega arith) (λ b l i j. omega arith)
      (λ l i. omega arith) h)
      (λ h.
      in_order_lem f r 4 c (λ b l i. omega arith) (λ b l i. omega arith) (λ b l i j. omega arith) (omega (arith, h.below)) (omega arith) (λ b l i j. omega arith)
      (λ l i. omega arith) h)

halves : (r c : ℕ) (x : Bool) (s : ℕ) → MovesOf x s → c < r * s → (c / s < r) × (c % s < s)
halves r c = by_moves (λ s. c < r * s → (c / s < r) × (c % s < s)) (λ h. (omega arith, omega arith)) (λ h. (omega arith, omega arith)) (λ h. (omega arith, omega arith))

product : (x y : Bool) (r s : ℕ) → MovesOf x r → MovesOf y s → (1 ≤ r * s) × (r * s ≤ 16)
product x y r s h k =
    by_moves (λ r. (1 ≤ r * s) × (r * s ≤ 16))
    (by_moves (λ s. (1 ≤ 1 * s) × (1 * s ≤ 16)) (omega arith) (omega arith) (omega arith) y s k)
    (by_moves (λ s. (1 ≤ 2 * s) × (2 * s ≤ 16)) (omega arith) (omega arith) (omega arith) y s k)
    (by_moves (λ s. (1 ≤ 4 * s) × (4 * s ≤ 16)) (omega arith) (omega arith) (omega arith) y s k)
    x r h

-- the numbers are low, so that a saving that went through memory or a field is the same
module _ (p n : NodeNumbers) (w : List ℕ) (i : Counted p) (j : Counted n) where
  pair_low : (a k : ℕ) → pair_cost p n w a k < 1000000
  unfolding pair_cost cost_given others
  pair_low a k =
      let f : ℕ = flag p.xor a 3 in
      let z : List ℕ = given n.costs w f in
      let b = given_numbers n.costs w f n.readers n.odd j.numbers in
      omega (
        arith,
        cost_le p.xor p.costs p.readers p.odd a i.numbers,
        cost_le n.xor z n.readers n.odd k b,
        b.bits 1,
        b.bits 3,
        b.bits 5,
        i.numbers.few,
        j.numbers.few,
      )

  numbered_back : (c : ℕ) (z : ℤ) → z ≡ saving_numbered p n w c → to_z w64 (of_z w64 z) ≡ saving_numbered p n w c
  unfolding saving_numbered pair_saving
  numbered_back c z e =
      read_back (pair_cost p n w 0 0) (pair_cost p n w (c / n.moves) (c % n.moves)) (omega (arith, pair_low 0 0)) (omega (arith, pair_low (c / n.moves) (c % n.moves))) z e

  numbered_more : (b c : ℕ) → lt_z (saving_numbered p n w b) (saving_numbered p n w c) ≡ ltb (cost_numbered p n w c) (cost_numbered p n w b)
  unfolding saving_numbered cost_numbered
  numbered_more b c = saves_more p n w (b / n.moves) (b % n.moves) (c / n.moves) (c % n.moves)

  -- one more combination, by the machine's test
  module _ (c : ℕ) (b : Combination) (h : GreatestBelow p n w c b) (z : ℤ) (e : z ≡ saving_numbered p n w c) where
    test_is : lt_z (to_z w64 (of_z w64 b.saving)) (to_z w64 (of_z w64 z)) ≡ ltb (cost_numbered p n w c) (cost_numbered p n w b.number)
    test_is = rw (numbered_back b.number b.saving h.saving, numbered_back c z e) (numbered_more b.number c)

    pub taken : lt_z (to_z w64 (of_z w64 b.saving)) (to_z w64 (of_z w64 z)) ≡ true → GreatestBelow p n w (c + 1) (record { number = c; saving = to_z w64 (of_z w64 z) })
    taken t = record { found = scan_take (cost_numbered p n w) h.found (ltb-true _ _ (sym test_is ∙ t)); saving = numbered_back c z e }

    pub kept : lt_z (to_z w64 (of_z w64 b.saving)) (to_z w64 (of_z w64 z)) ≡ false → GreatestBelow p n w (c + 1) b
    kept t = record { found = scan_keep (cost_numbered p n w) h.found (ltb-false _ _ (sym test_is ∙ t)); saving = h.saving }

  -- the first of all
  pub started : (z : ℤ) → z ≡ saving_numbered p n w 0 → GreatestBelow p n w 1 (record { number = 0; saving = to_z w64 (of_z w64 z) })
  started z e = record { found = scan_one (cost_numbered p n w); saving = numbered_back 0 z e }

  -- a combination's number has moves of both nodes
  pub some_moves : 0 < n.moves
  some_moves = moves_some n.xor n.moves j.has

  pub numbered_fits : (c : ℕ) → c < p.moves * n.moves → (c / n.moves < p.moves) × (c % n.moves < n.moves)
  numbered_fits c h = halves p.moves c n.xor n.moves j.has h

  pub combinations : (1 ≤ p.moves * n.moves) × (p.moves * n.moves ≤ 16)
  combinations = product p.xor n.xor p.moves n.moves i.has j.has

  -- the first combination that leaves least, of all: its moves save most, and no less than nothing
  module _ (b : Combination) (h : GreatestBelow p n w (p.moves * n.moves) b) where
    first_least : FirstPair (pair_cost p n w) p.moves n.moves (b.number / n.moves) (b.number % n.moves)
    unfolding cost_numbered
    first_least = by_number_lem (pair_cost p n w) p.moves b.number n.xor n.moves j.has h.found

    pub won : FirstGreatest (pair_saving p n w) p.moves n.moves (b.number / n.moves) (b.number % n.moves)
    won = greatest_of_least p n w p.moves n.moves _ _ first_least

    saved : ℕ
    saved = pair_cost p n w 0 0 - pair_cost p n w (b.number / n.moves) (b.number % n.moves)

    saves : to_z w64 (of_z w64 b.saving) ≡ pos saved
    unfolding saved saving_numbered pair_saving
    saves =
        let m = first_least in
        numbered_back b.number b.saving h.saving
        ∙ at_least (pair_cost p n w 0 0) (pair_cost p n w (b.number / n.moves) (b.number % n.moves)) _ (omega (arith, m.low 0 0 (omega (arith, m.below)) (omega (arith, m.fits))))

    saved_low : saved < 4294967296
    unfolding saved
    saved_low = omega (arith, pair_low 0 0)

    pub not_negative : (to_z w64 (of_z w64 b.saving) ≡ pos (nat_abs (to_z w64 (of_z w64 b.saving)))) × (nat_abs (to_z w64 (of_z w64 b.saving)) < 4294967296)
    not_negative = rw saves (refl, saved_low)

    pub won_saving : (r : ℕ) → r ≡ nat_abs (to_z w64 (of_z w64 b.saving)) → pos r ≡ pair_saving p n w (b.number / n.moves) (b.number % n.moves)
    unfolding saving_numbered
    won_saving r e = ap pos e ∙ sym not_negative.0 ∙ numbered_back b.number b.saving h.saving
