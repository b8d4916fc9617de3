-- Readers counted by their literals alone: below the mark's index, a word names u just where its literal does. From the
-- laws on tests and sums.
use Rattle.std.proofs.Common.{◌≡◌, ℕ, ◌+◌, ◌*◌, ◌/◌, ◌%◌, ◌<◌, ◌≤◌, Bool, true, false, cond, not, ◌&&◌, eqb, ◌≢◌, List, get_or, sym, refl, ap, ◌∙◌, ⊎_elim, add-one, arith, ne_eqb, eqb-true}
use Rattle.graph.specs.Count.{named, output_named, node_readers, readers}
use Rattle.graph.specs.Finite.{if_equal, sum, count}
use Rattle.graph.specs.Graph.{Graph, mark, is_edge, word, output}
use Rattle.moves.specs.Cost.{shown}
use Rattle.moves.specs.Decide.{Tallied, Read}
use Rattle.graph.proofs.Cases.{true_or_false}
use Rattle.graph.proofs.Finite.{sum_same, sum_le}
use Rattle.graph.proofs.Tests.{equal, unequal}

pub if_bit : (a b x : ℕ) → x ≤ 1 → if_equal a b x 0 ≤ 1
unfolding if_equal
if_bit a b x h = go (eqb a b)
  where
    go : (t : Bool) → cond t x 0 ≤ 1
    go true = h
    go false = omega arith

module _ (l : List ℕ) (u : ℕ) where
  pub tally_zero : Tallied l 0 u 0 0
  unfolding sum
  tally_zero = record { names = refl; odd = refl }

  -- a word more, which names u or does not
  pub tally_here : (n c d b : ℕ) → Tallied l n u c d → get_or l n 0 / 2 ≡ u → b ≡ get_or l n 0 % 2 → Tallied l (n + 1) u (c + 1) (d + b)
  unfolding sum
  tally_here n c d b t e f =
      let x = get_or l n 0 in
      rw add-one (record { names = omega (arith, t.names, equal {A = ℕ} {k = 1} (x / 2) u 1 0 e refl); odd = omega (arith, t.odd, equal {A = ℕ} {k = b} (x / 2) u (x % 2) 0 e f) })

  pub tally_past : (n c d : ℕ) → Tallied l n u c d → get_or l n 0 / 2 ≢ u → Tallied l (n + 1) u c d
  unfolding sum
  tally_past n c d t e =
      let x = get_or l n 0 in
      rw add-one (record { names = omega (arith, t.names, unequal {A = ℕ} {k = 0} (x / 2) u 1 0 e refl); odd = omega (arith, t.odd, unequal {A = ℕ} {k = 0} (x / 2) u (x % 2) 0 e refl) })

  pub tally_le : (n c d : ℕ) → Tallied l n u c d → (c ≤ n) × (d ≤ n)
  tally_le n c d t =
      omega (
        arith,
        t.names,
        t.odd,
        sum_le (λ j. if_equal (get_or l j 0 / 2) u 1 0) (λ j. if_bit (get_or l j 0 / 2) u 1 (omega arith)) n,
        sum_le (λ j. if_equal (get_or l j 0 / 2) u (get_or l j 0 % 2) 0) (λ j. if_bit (get_or l j 0 / 2) u (get_or l j 0 % 2) (omega arith)) n,
      )

and_right : (a b : Bool) → not (a && b) ≡ false → b ≡ true
and_right true true e = refl
and_right true false e = sym e
and_right false b e = absurd (clash e)
  where
    clash : true ≡ false → ⊥
    clash q = let z : ◌≡◌ {A = ℕ} 1 0 = ap (λ (x : Bool). cond x 1 0) q in omega arith

module _ (g : Graph) (u : ℕ) (low : u < 2147483647) where
  marked : (j : ℕ) → is_edge g j ≡ false → word g j ≡ mark
  unfolding is_edge
  marked j e = eqb-true (word g j) mark (and_right (eqb (j % 3) 2) (eqb (word g j) mark) e)

  pub names_by : (j p q : ℕ) → cond (named g u j) p q ≡ if_equal (word g j / 2) u p q
  unfolding named if_equal
  names_by j p q =
      ⊎_elim
      (λ (e : is_edge g j ≡ true). rw e)
      (λ (e : is_edge g j ≡ false). rw (e, ne_eqb (word g j / 2) u (λ z. omega (arith, marked j e))))
      (true_or_false (is_edge g j))

  node_count : sum (3 * g.N) (λ j. if_equal (get_or g.nodes j 0 / 2) u 1 0) ≡ node_readers g u
  unfolding node_readers count
  node_count = sum_same (3 * g.N) _ _ (λ j h. sym (names_by j 1 0))

  out_count : sum g.O (λ j. if_equal (get_or g.outputs j 0 / 2) u 1 0) ≡ count g.O (output_named g u)
  unfolding count output_named if_equal
  out_count = refl

  node_odd : sum (3 * g.N) (λ j. if_equal (get_or g.nodes j 0 / 2) u (get_or g.nodes j 0 % 2) 0) ≡ sum (3 * g.N) (λ j. cond (named g u j) ((word g j + 0) % 2) 0)
  node_odd = sum_same (3 * g.N) _ _ (λ j h. let e : (word g j + 0) % 2 ≡ word g j % 2 = omega arith in rw e (sym (names_by j (word g j % 2) 0)))

  out_odd : sum g.O (λ j. if_equal (get_or g.outputs j 0 / 2) u (get_or g.outputs j 0 % 2) 0) ≡ sum g.O (λ j. cond (output_named g u j) ((output g j + 0) % 2) 0)
  unfolding output_named if_equal
  out_odd = sum_same g.O _ _ (λ j h. let e : (output g j + 0) % 2 ≡ output g j % 2 = omega arith in rw e)

  pub read_is : (c d c' d' : ℕ) → Tallied g.nodes (3 * g.N) u c d → Tallied g.outputs g.O u c' d' → Read g u (c + c') c (d + d')
  unfolding readers shown
  read_is c d c' d' a b =
      record {
        all = omega (arith, a.names, b.names, node_count, out_count);
        in_nodes = a.names ∙ node_count;
        odd = omega (arith, a.odd, b.odd, node_odd, out_odd);
      }
