-- What a pair of moves saves on other edges: both nodes' odd readers, less those among the upper node's words that name the lower. From
-- the law of other edges, and by the numbers of both nodes.
use Rattle.std.proofs.Common.{◌≡◌, ℕ, zero, suc, ◌+◌, ◌*◌, ◌/◌, ◌%◌, ◌<◌, ◌≤◌, true, false, cond, eqb, ◌≢◌, List, [], ◌∷◌, sym, refl, ap, ◌∙◌, ⊎_elim, arith, eq-eqb, ne_eqb}
use Rattle.graph.specs.Finite.{if_equal, difference}
use Rattle.graph.specs.Graph.{Graph, node, word, output, is_edge, is_xor}
use Rattle.graph.specs.Count.{adds, node_adds, named, output_named}
use Rattle.graph.specs.Admission.{Admitted}
use Rattle.graph.specs.Answer.{others_of}
use Rattle.graph.specs.Turned.{turned_by}
use Rattle.graph.proofs.Cases.{true_or_false, eq_or_ne, cond_same}
use Rattle.graph.proofs.Difference.{same_difference}
use Rattle.graph.proofs.Finite.{sum_same}
use Rattle.graph.proofs.Turn.{turn_bit}
use Rattle.moves.specs.Apply.{Choice, none, at, put, apply, seen}
use Rattle.moves.specs.Call.{moved, best_at, rewrite, among, split}
use Rattle.moves.specs.Cost.{shown}
use Rattle.moves.specs.Decide.{word_after, own_costs, numbers_of, naming}
use Rattle.moves.specs.Outside.{outside_word, outside_output, odd_outside, odd_read, odd_between, odd_by, between_by, pair_odd, PairOdds}
use Rattle.moves.specs.Rows.{flag}
use Rattle.moves.specs.declared.gains.Odds.{Odds}
use Rattle.moves.proofs.Changed.{at_same, at_other, seen_none, out_adds}
use Rattle.moves.proofs.Compose.{seen_node}
use Rattle.moves.proofs.Count.{sum_add, sum_but_node, clash}
use Rattle.moves.proofs.Flags.{flag_bit}
use Rattle.moves.proofs.Kept.{apply_idle}
use Rattle.moves.proofs.Outside.{among_none, among_here, among_later, Only, put_only, none_only, edge_adds, mark_adds, word_outside, word_inside, output_outside, others_are}
use Rattle.moves.proofs.Readers.{names, named_by_lem}
use Rattle.moves.proofs.Shown.{all_readers}
use Rattle.moves.proofs.Split.{rewrite_others}

-- a word that names u, and one that does not
module _ (g : Graph) (u t j : ℕ) where
  read_here : is_edge g j ≡ true → word g j / 2 ≡ u → odd_read g u t j ≡ (word g j + t) % 2
  unfolding odd_read
  read_here e q = rw (named_by_lem g u j e q)

  not_read : (is_edge g j ≡ true → word g j / 2 ≢ u) → odd_read g u t j ≡ 0
  unfolding odd_read
  not_read h =
      ⊎_elim
      (λ (e : named g u j ≡ true). let m = names g u j e in absurd (h m.0 m.1))
      (λ (e : named g u j ≡ false). rw e)
      (true_or_false (named g u j))

module _ (g : Graph) (p v : ℕ) (l : p < v) where
  abbrev both : List ℕ
  both = node g p ∷ node g v ∷ []

  both_first : among both (node g p) ≡ true
  both_first = among_here (node g v ∷ []) (node g p) (node g p) refl

  both_second : among both (node g v) ≡ true
  both_second = among_later (node g v ∷ []) (node g p) (node g v) (λ z. omega arith) ∙ among_here [] (node g v) (node g v) refl

  both_other : (w : ℕ) → w ≢ node g p → w ≢ node g v → among both w ≡ false
  both_other w a b = among_later (node g v ∷ []) (node g p) w a ∙ among_later [] (node g v) w b ∙ among_none w

module _ (g : Graph) (adm : Admitted g) (p v : ℕ) (l : p < v) (h : v < g.N) (m : Choice) (only : Only (node g p ∷ node g v ∷ []) m) where
  abbrev us : List ℕ
  us = node g p ∷ node g v ∷ []

  abbrev f : ℕ
  f = seen g m (node g p)

  abbrev e : ℕ
  e = seen g m (node g v)

  away_edge : (j : ℕ) → j < 3 * g.N → among us (node g (j / 3)) ≡ false → is_edge g j ≡ true
      → cond (among us (word g j / 2)) (node_adds (apply g m) j) 0 ≡ odd_read g (node g p) f j + odd_read g (node g v) e j
  away_edge j k t i =
      ⊎_elim
      (λ (a : word g j / 2 ≡ node g p).
      rw (edge_adds g adm us m only j k t i, a, both_first g p v l) (omega (arith, read_here g (node g p) f j i a, not_read g (node g v) e j (λ y z. omega arith))))
      (λ (a : word g j / 2 ≢ node g p).
      ⊎_elim
      (λ (b : word g j / 2 ≡ node g v).
      rw (edge_adds g adm us m only j k t i, b, both_second g p v l) (omega (arith, read_here g (node g v) e j i b, not_read g (node g p) f j (λ y z. a z))))
      (λ (b : word g j / 2 ≢ node g v).
      rw (both_other g p v l _ a b) (omega (arith, not_read g (node g p) f j (λ y z. a z), not_read g (node g v) e j (λ y z. b z))))
      (eq_or_ne (word g j / 2) (node g v)))
      (eq_or_ne (word g j / 2) (node g p))

  away_mark : (j : ℕ) → is_edge g j ≡ false → cond (among us (word g j / 2)) (node_adds (apply g m) j) 0 ≡ odd_read g (node g p) f j + odd_read g (node g v) e j
  away_mark j i =
      rw (
        mark_adds g adm us m only j i,
        cond_same {A = ℕ} (among us (word g j / 2)) 0,
        not_read g (node g p) f j (λ y z. clash y i),
        not_read g (node g v) e j (λ y z. clash y i),
      )

  -- words but those of v
  away_word : (j : ℕ) → j < 3 * g.N → j / 3 ≢ v → outside_word (apply g m) us j ≡ odd_read g (node g p) f j + odd_read g (node g v) e j
  away_word j k d =
      ⊎_elim
      (λ (q : j / 3 ≡ p).
      word_inside g adm us m only j (rw q (both_first g p v l)) ∙
      omega (arith, not_read g (node g p) f j (λ i z. omega (arith, adm.below j k i)), not_read g (node g v) e j (λ i z. omega (arith, adm.below j k i))))
      (λ (q : j / 3 ≢ p).
      let t : among us (node g (j / 3)) ≡ false = both_other g p v l (node g (j / 3)) (λ z. q (omega arith)) (λ z. d (omega arith)) in
      word_outside g adm us m only j t ∙ ⊎_elim (away_edge j k t) (away_mark j) (true_or_false (is_edge g j)))
      (eq_or_ne (j / 3) p)

  upper_word : (i : ℕ) → i < 3 → (outside_word (apply g m) us (3 * v + i) ≡ 0) × (odd_read g (node g v) e (3 * v + i) ≡ 0)
  upper_word i k =
      let q : (3 * v + i) / 3 ≡ v = omega arith in
      (word_inside g adm us m only (3 * v + i) (rw q (both_second g p v l)), not_read g (node g v) e (3 * v + i) (λ y z. omega (arith, adm.below (3 * v + i) (omega arith) y)))

  pair_output : (j : ℕ) → j < g.O → outside_output (apply g m) us j ≡ cond (output_named g (node g p) j) ((output g j + f) % 2) 0 + cond (output_named g (node g v) j) ((output g j + e) % 2) 0
  unfolding output_named
  pair_output j k =
      output_outside g adm us m only j ∙
      ⊎_elim
      (λ (a : output g j / 2 ≡ node g p).
      rw (out_adds g m adm j k, a, both_first g p v l, eq-eqb (node g p) (node g p) refl, ne_eqb (node g p) (node g v) (λ z. omega arith)) (omega arith))
      (λ (a : output g j / 2 ≢ node g p).
      ⊎_elim
      (λ (b : output g j / 2 ≡ node g v).
      rw (out_adds g m adm j k, b, both_second g p v l, eq-eqb (node g v) (node g v) refl, ne_eqb (node g v) (node g p) (λ z. omega arith)) (omega arith))
      (λ (b : output g j / 2 ≢ node g v). rw (both_other g p v l (output g j / 2) a b, ne_eqb (output g j / 2) (node g p) a, ne_eqb (output g j / 2) (node g v) b))
      (eq_or_ne (output g j / 2) (node g v)))
      (eq_or_ne (output g j / 2) (node g p))

  outside_turned : odd_outside (apply g m) (node g p ∷ node g v ∷ []) + odd_between g (node g p) f v ≡ shown g (node g p) f + shown g (node g v) e
  unfolding odd_outside odd_between shown odd_read apply turned_by
  outside_turned =
      omega (
        arith,
        sum_but_node (3 * g.N) (outside_word (apply g m) us) (λ j. odd_read g (node g p) f j + odd_read g (node g v) e j) v (omega arith) away_word,
        sum_add (3 * g.N) (odd_read g (node g p) f) (odd_read g (node g v) e),
        sum_same g.O _ _ pair_output,
        sum_add g.O (λ j. cond (output_named g (node g p) j) ((output g j + f) % 2) 0) (λ j. cond (output_named g (node g v) j) ((output g j + e) % 2) 0),
        upper_word 0 (omega arith),
        upper_word 1 (omega arith),
        upper_word 2 (omega arith),
      )

-- as the graph stands
pub outside_pair : (g : Graph) → Admitted g → (p v : ℕ) → p < v → v < g.N
    → odd_outside g (node g p ∷ node g v ∷ []) + odd_between g (node g p) 0 v ≡ shown g (node g p) 0 + shown g (node g v) 0
outside_pair g adm p v l h =
    rw (apply_idle g none adm (λ u. refl), seen_none g none (node g p) refl, seen_none g none (node g v) refl) at (outside_turned g adm p v l h none (none_only (node g p ∷ node g v ∷ [])))

-- from the numbers of both nodes
sum_three : {a b c x y z : ℕ} → a ≡ x → b ≡ y → c ≡ z → a + b + c ≡ x + y + z
sum_three p q r = λ i. p i + q i + r i

module _ (g : Graph) (v u : ℕ) where
  word_between : (i t : ℕ) → if_equal (if_equal (word g (3 * v + i) / 2) u 1 0) 0 0 (word_after g v i t) ≡ odd_read g u t (3 * v + i)
  unfolding if_equal word_after adds
  word_between i t =
      ⊎_elim
      (λ (a : is_edge g (3 * v + i) ≡ true).
      ⊎_elim
      (λ (q : word g (3 * v + i) / 2 ≡ u). rw (a, q, eq-eqb u u refl, turn_bit t (word g (3 * v + i))) (sym (read_here g u t (3 * v + i) a q)))
      (λ (q : word g (3 * v + i) / 2 ≢ u). rw (ne_eqb (word g (3 * v + i) / 2) u q) (sym (not_read g u t (3 * v + i) (λ y z. q z))))
      (eq_or_ne (word g (3 * v + i) / 2) u))
      (λ (a : is_edge g (3 * v + i) ≡ false).
      rw (a, cond_same {A = ℕ} (eqb (cond (eqb (word g (3 * v + i) / 2) u) 1 0) 0) 0) (sym (not_read g u t (3 * v + i) (λ y z. clash y a))))
      (true_or_false (is_edge g (3 * v + i)))

  between_is : (ls : List ℕ) (t : ℕ) → t ≤ 1 → between_by (numbers_of g ls v) (naming g v u) t ≡ odd_between g u t v
  unfolding between_by numbers_of naming own_costs odd_between
  between_is ls zero l = sum_three (word_between 0 0) (word_between 1 0) (word_between 2 0)
  between_is ls (suc zero) l = sum_three (word_between 0 1) (word_between 1 1) (word_between 2 1)
  between_is ls (suc (suc t)) l = absurd (omega arith)

pub odd_is : (g : Graph) (ls : List ℕ) (v t : ℕ) → t ≤ 1 → odd_by (numbers_of g ls v) t ≡ shown g (node g v) t
unfolding odd_by numbers_of
odd_is g ls v t l = all_readers g (node g v) t l

module _ (g : Graph) (ls : List ℕ) (adm : Admitted g) (p v : ℕ) (l : p < v) (h : v < g.N) where
  by_numbers : (m : Choice) → Only (node g p ∷ node g v ∷ []) m → (f e : ℕ) → f ≤ 1 → e ≤ 1 → seen g m (node g p) ≡ f → seen g m (node g v) ≡ e
      → odd_outside (apply g m) (node g p ∷ node g v ∷ []) + between_by (numbers_of g ls v) (naming g v (node g p)) f ≡ odd_by (numbers_of g ls p) f + odd_by (numbers_of g ls v) e
  by_numbers m only f e i j a b =
      let t : odd_outside (apply g m) (node g p ∷ node g v ∷ []) + odd_between g (node g p) f v ≡ shown g (node g p) f + shown g (node g v) e = rw (← a, ← b) (outside_turned g adm p v l h m only) in
      omega (arith, t, between_is g v (node g p) ls f i, odd_is g ls p f i, odd_is g ls v e j)

  -- M-104: a pair call's others, from the numbers of both nodes before it
  pub pair_others : (a k : ℕ) (o : Odds) → PairOdds (numbers_of g ls p) (numbers_of g ls v) (naming g v (node g p)) a k o
      → (split (node g p ∷ node g v ∷ []) g (moved g (node g p ∷ node g v ∷ []) (a ∷ k ∷ []))).others ≡ difference o.before o.after
  unfolding moved put pair_odd numbers_of
  pair_others a k o r =
      let us : List ℕ = node g p ∷ node g v ∷ [] in
      let m : Choice = at (at none (node g p) a) (node g v) k in
      let only : Only us m = put_only us (a ∷ k ∷ []) in
      let f : seen g m (node g p) ≡ flag (is_xor g p) a 3 =
      seen_node g m p (omega arith) ∙ ap (λ (z : ℕ). flag (is_xor g p) z 3) (at_other (at none (node g p) a) (node g v) k (node g p) (λ z. omega arith) ∙ at_same none (node g p) a) in
      let e : seen g m (node g v) ≡ flag (is_xor g v) k 3 = seen_node g m v h ∙ ap (λ (z : ℕ). flag (is_xor g v) z 3) (at_same (at none (node g p) a) (node g v) k) in
      let x = rw (apply_idle g none adm (λ u. refl)) at (by_numbers none (none_only us) 0 0 (omega arith) (omega arith) (seen_none g none (node g p) refl) (seen_none g none (node g v) refl)) in
      let y = by_numbers m only (flag (is_xor g p) a 3) (flag (is_xor g v) k 3) (flag_bit (is_xor g p) a 3 (omega arith)) (flag_bit (is_xor g v) k 3 (omega arith)) f e in
      others_are g adm us m only ∙ same_difference (odd_outside g us) (odd_outside (apply g m) us) o.before o.after (omega (arith, r.before, r.after, x, y))

  pub pair_best_others : (a k : ℕ) → a ∷ k ∷ [] ≡ best_at g ls (node g p ∷ node g v ∷ []) → (o : Odds) → PairOdds (numbers_of g ls p) (numbers_of g ls v) (naming g v (node g p)) a k o
      → others_of (rewrite g ls (node g p ∷ node g v ∷ [])).answer ≡ difference o.before o.after
  pair_best_others a k e o r = rewrite_others g ls (node g p ∷ node g v ∷ []) ∙ rw (← e) (pair_others a k o r)
