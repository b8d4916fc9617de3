-- The state after the sweeps at the start is in order, and stands for the graph itself. From the laws on noting, on tallies and on
-- links.
use mathlib.Core.Path.{◌≡◌, refl, sym, ap, ◌∙◌}
use mathlib.Core.Bool.{true, false, not, cond, ◌&&◌}
use mathlib.Core.List.{List}
use mathlib.Core.Logic.{⊎_elim, ◌≢◌}
use Prim.Native.Nat.{ℕ, zero, suc, ◌+◌, ◌-◌, ◌*◌, ◌/◌, ◌%◌, ◌≤◌, ◌<◌}
use native.Mathlib.Omega.{arith}
use borrow.Author.Tests.{eq-eqb, ne_eqb, eqb-true}
use lib.Dec.{eqb}
use lib.ListN.{length, get_or}
use Rattle.graph.specs.Finite.{if_equal, sum}
use Rattle.graph.specs.Graph.{Graph, graph_of, mark, node, word, output, is_edge, is_xor}
use Rattle.graph.specs.Inner.{three_bits}
use Rattle.graph.specs.Literals.{bit, bit_of}
use Rattle.graph.specs.Count.{named, readers}
use Rattle.graph.specs.Admission.{Admitted}
use Rattle.graph.proofs.Cases.{true_or_false, lt_or_le, eq_or_ne}
use Rattle.graph.proofs.Finite.{sum_le}
use Rattle.graph.proofs.Literals.{bit_mark, bit_of_le_lem}
use Rattle.graph.proofs.Turned.{by_never, by_same, up_to_zero}
use Rattle.graph.proofs.Words.{edge_low, edge_bit_lem}
use Rattle.moves.specs.Tree.{last, is_root, place}
use Rattle.moves.specs.Cost.{shown}
use Rattle.moves.specs.Decide.{Read}
use Rattle.moves.proofs.Tally.{names_by, read_is, if_bit}
use Rattle.state.specs.State.{field, bit_in, kept_bit, pending_at, due_in, due, output_due, stands, Ordered}
use Rattle.state.proofs.Stands.{kept_at_lem, pending_low, pending_high, pending_node, due_edge, due_mark, due_past}
use Rattle.trees.specs.Filling.{Cleared, Noting, Notes, GatheredTo, flags_of, only_place}
use Rattle.trees.specs.Linking.{Rising, LowKept, Linking}
use Rattle.trees.proofs.LinkSteps.{linking_all, placed_rising}

-- what field 2 keeps of the table's bits
module _ (l : List ℕ) (v : ℕ) where
  flags_low : (x y z : ℕ) → x ≤ 1 → y ≤ 1 → z ≤ 1 → (bit 0 (2 * (x + 2 * y + 4 * z)) ≡ 0) × (bit 1 (2 * (x + 2 * y + 4 * z)) ≡ x) × (bit 2 (2 * (x + 2 * y + 4 * z)) ≡ y) × (bit 3 (2 * (x + 2 * y + 4 * z)) ≡ z)
  unfolding bit
  flags_low x y z p q r = (omega arith, omega arith, omega arith, omega arith)

  abbrev at : ℕ → ℕ
  at k = bit_of (get_or l (3 * v + k) 0)

  flags_are : (bit 0 (flags_of l v) ≡ 0) × (bit 1 (flags_of l v) ≡ bit_of (get_or l (3 * v) 0)) × (bit 2 (flags_of l v) ≡ at 1) × (bit 3 (flags_of l v) ≡ at 2)
  unfolding flags_of three_bits
  flags_are = flags_low (bit_of (get_or l (3 * v) 0)) (at 1) (at 2) (bit_of_le_lem _) (bit_of_le_lem _) (bit_of_le_lem _)

-- nothing pending, and each word's bit kept: the graph itself
module _ (i n o : ℕ) (ns os sc : List ℕ) (adm : Admitted (graph_of i n o ns os)) (kept : (v : ℕ) → v < n → field sc v 2 ≡ flags_of ns v) where
  abbrev g : Graph
  g = graph_of i n o ns os

  none_pending : (u : ℕ) → pending_at i n sc u ≡ 0
  none_pending u =
      ⊎_elim
      (λ (p : i < u).
      ⊎_elim
      (λ (q : u < node g n). pending_node i n sc u p q ∙ ap (bit 0) (kept (u - (i + 1)) (omega arith)) ∙ (flags_are ns (u - (i + 1))).0)
      (λ (q : node g n ≤ u). pending_high i n sc u q)
      (lt_or_le u (node g n)))
      (λ (p : u ≤ i). pending_low i n sc u p)
      (lt_or_le i u)

  -- by its place among the node's words
  kept_by : (k j : ℕ) → k < 3 → j ≡ 3 * (j / 3) + k → j < 3 * n → bit_in sc (j / 3) (1 + k) ≡ bit_of (word g j)
  kept_by zero j h e l = ap (bit 1) (kept (j / 3) (omega arith)) ∙ (flags_are ns (j / 3)).1 ∙ ap (λ (x : ℕ). bit_of (word g x)) (omega arith)
  kept_by (suc zero) j h e l = ap (bit 2) (kept (j / 3) (omega arith)) ∙ (flags_are ns (j / 3)).2 ∙ ap (λ (x : ℕ). bit_of (word g x)) (omega arith)
  kept_by (suc (suc zero)) j h e l = ap (bit 3) (kept (j / 3) (omega arith)) ∙ (flags_are ns (j / 3)).3 ∙ ap (λ (x : ℕ). bit_of (word g x)) (omega arith)
  kept_by (suc (suc (suc k))) j h e l = absurd (omega arith)

  kept_bit_lem : (j : ℕ) → j < 3 * n → kept_bit sc j ≡ bit_of (word g j)
  kept_bit_lem j h = kept_by (j % 3) j (omega arith) (omega arith) h

  pub marks_kept : (v : ℕ) → v < n → is_xor g v ≡ true → bit_in sc v 3 ≡ 0
  unfolding is_xor
  marks_kept v h x =
      sym (kept_at_lem sc v 2 (omega arith)) ∙ kept_bit_lem (3 * v + 2) (omega arith) ∙ bit_mark (word g (3 * v + 2)) (eqb-true (word g (3 * v + 2)) mark x)

  -- what is due goes by twos
  due_even : (j : ℕ) → due g sc j % 2 ≡ 0
  due_even j =
      ⊎_elim
      (λ (h : j < 3 * n).
      ⊎_elim
      (λ (e : is_edge g j ≡ true). rw (due_edge g sc j h e, none_pending (word g j / 2)) (omega (arith, kept_bit_lem j h, edge_bit_lem (word g j) (edge_low g adm j h e))))
      (λ (e : is_edge g j ≡ false). rw (due_mark g sc j e))
      (true_or_false (is_edge g j)))
      (λ (h : 3 * n ≤ j). rw (due_past g sc j h))
      (lt_or_le j (3 * n))

  pub stands_itself : stands g sc ≡ g
  unfolding stands output_due
  stands_itself =
      by_same g (due g sc) (output_due g sc) (λ j. 0) (λ j. 0) due_even (λ j. ap (λ x. x % 2) (up_to_zero o (due_in i n sc os) j (none_pending (output g j / 2)))) ∙ by_never g (λ j. 0) (λ j. 0) (λ j. refl) (λ j. refl)

-- the last word whose literal names u is the last that names it
last_same : (g : Graph) (u : ℕ) → u < 2147483647 → (n : ℕ) → last n (λ j. eqb (get_or g.nodes j 0 / 2) u) ≡ last n (named g u)
unfolding last if_equal
last_same g u l zero = refl
last_same g u l (suc n) = rw (last_same g u l n) (sym (if_named n (last n (named g u))))
  where
    if_named : (a b : ℕ) → cond (named g u a) a b ≡ cond (eqb (get_or g.nodes a 0 / 2) u) a b
    if_named a b = names_by g u l a a b

only_if : (a b p : ℕ) → only_place a b p ≡ cond (not (eqb (a + b) 1 && eqb a 1)) mark p
unfolding only_place if_equal
only_if a b p =
    ⊎_elim
    (λ (e : a ≡ 1).
    ⊎_elim
    (λ (d : b ≡ 0). rw (eq-eqb a 1 e, eq-eqb b 0 d, eq-eqb (a + b) 1 (omega arith)))
    (λ (d : b ≢ 0). rw (eq-eqb a 1 e, ne_eqb b 0 d, ne_eqb (a + b) 1 (λ z. d (omega arith))))
    (eq_or_ne b 0))
    (λ (e : a ≢ 1).
    rw (ne_eqb a 1 e)
    (⊎_elim (λ (t : eqb (a + b) 1 ≡ true). rw t) (λ (t : eqb (a + b) 1 ≡ false). rw t) (true_or_false (eqb (a + b) 1))))
    (eq_or_ne a 1)

-- before each table
pub first_noting : (i n : ℕ) (sc : List ℕ) → i ≤ 4096 → n ≤ 100000 → 8 * n ≤ length sc → Cleared n sc → Noting i n 4 sc
first_noting i n sc a b l z =
    let f : (v k : ℕ) → v < n → k < 8 → field sc v k ≡ 0 = λ v k h j. z (8 * v + k) (omega arith) in
    record {
      counting =
          record {
            few_inputs = a;
            few_nodes = b;
            long = l;
            above = omega arith;
            fits = omega arith;
            low = λ v h. omega (arith, f v 4 h (omega arith));
            odd_low = λ v h. omega (arith, f v 1 h (omega arith));
          };
      none = λ v h. f v 4 h (omega arith);
      no_place = λ v h. f v 5 h (omega arith);
    }

module _ (i n : ℕ) (l : List ℕ) (w : ℕ) (sc₁ sc₂ : List ℕ) (z : Cleared n sc₁) (ns : Notes i n 4 l sc₁ sc₂ w) (few : w ≤ 300000) where
  odd_few : (v : ℕ) → v < n → field sc₂ v 1 ≤ 300000
  odd_few v h =
      omega (
        arith,
        ns.odd v h,
        z (8 * v + 1) (omega arith),
        sum_le (λ j. if_equal (get_or l j 0 / 2) (i + 1 + v) (get_or l j 0 % 2) 0) (λ j. if_bit (get_or l j 0 / 2) (i + 1 + v) (get_or l j 0 % 2) (omega arith)) w,
      )

  pub count_few : (v : ℕ) → v < n → field sc₂ v 4 ≤ 300000
  count_few v h =
      omega (
        arith,
        ns.counted v h,
        sum_le (λ j. if_equal (get_or l j 0 / 2) (i + 1 + v) 1 0) (λ j. if_bit (get_or l j 0 / 2) (i + 1 + v) 1 (omega arith)) w,
      )

  pub second_noting : i ≤ 4096 → n ≤ 100000 → 8 * n ≤ length sc₂ → Noting i n 6 sc₂
  second_noting a b e =
      let f : (v k : ℕ) → v < n → 6 ≤ k → k < 8 → field sc₂ v k ≡ 0 = λ v k h d j. ns.kept (8 * v + k) (omega arith) (omega arith) (omega arith) ∙ z (8 * v + k) (omega arith) in
      record {
        counting =
            record {
              few_inputs = a;
              few_nodes = b;
              long = e;
              above = omega arith;
              fits = omega arith;
              low = λ v h. omega (arith, f v 6 h (omega arith) (omega arith));
              odd_low = odd_few;
            };
        none = λ v h. f v 6 h (omega arith) (omega arith);
        no_place = λ v h. f v 7 h (omega arith) (omega arith);
      }

-- the counts before they are gathered
pub gather_few : (i n : ℕ) (l k : List ℕ) (w x : ℕ) (sc₁ sc₂ sc₃ : List ℕ) → Cleared n sc₁ → Notes i n 4 l sc₁ sc₂ w → Notes i n 6 k sc₂ sc₃ x → w ≤ 300000 → x ≤ 300000
    → (v : ℕ) → v < n → (field sc₃ v 4 ≤ 1000000) × (field sc₃ v 6 ≤ 1000000)
gather_few i n l k w x sc₁ sc₂ sc₃ z ns os a b v h =
    let c₄ = count_few i n l w sc₁ sc₂ z ns a v h in
    let k₄ = os.kept (8 * v + 4) (omega arith) (omega arith) (omega arith) in
    let c₆ = sum_le (λ j. if_equal (get_or k j 0 / 2) (i + 1 + v) 1 0) (λ j. if_bit (get_or k j 0 / 2) (i + 1 + v) 1 (omega arith)) x in
    (omega arith, omega (arith, os.counted v h))

-- all sweeps
module _ (i n o : ℕ) (ps qs : List ℕ) (adm : Admitted (graph_of i n o ps qs)) (sc₁ sc₂ sc₃ sc₄ : List ℕ) (z : Cleared n sc₁)
    (ns : Notes i n 4 ps sc₁ sc₂ (3 * n)) (os : Notes i n 6 qs sc₂ sc₃ o) (ga : GatheredTo ps n sc₃ sc₄ n) where
  abbrev k : Graph
  k = graph_of i n o ps qs

  module _ (v : ℕ) (h : v < n) where
    odd_sum : ℕ
    odd_sum = sum (3 * n) (λ j. if_equal (get_or ps j 0 / 2) (node k v) (get_or ps j 0 % 2) 0)

    out_odd_sum : ℕ
    out_odd_sum = sum o (λ j. if_equal (get_or qs j 0 / 2) (node k v) (get_or qs j 0 % 2) 0)

    four : field sc₃ v 4 ≡ field sc₂ v 4
    four = os.kept (8 * v + 4) (omega arith) (omega arith) (omega arith)

    read : Read k (node k v) (field sc₃ v 4 + field sc₃ v 6) (field sc₃ v 4) (odd_sum + out_odd_sum)
    unfolding odd_sum out_odd_sum
    read =
        read_is k (node k v) (omega (arith, adm.few_inputs, adm.few_nodes)) (field sc₃ v 4) odd_sum (field sc₃ v 6) out_odd_sum
        (record { names = four ∙ ns.counted v h; odd = refl }) (record { names = os.counted v h; odd = refl })

    pub placed_four : field sc₄ v 3 ≡ cond (is_root k (node k v)) mark (place k (node k v))
    unfolding is_root place
    placed_four =
        ga.only v h ∙ only_if (field sc₃ v 4) (field sc₃ v 6) (field sc₃ v 5) ∙
        rw (
          read.all,
          read.in_nodes,
          os.kept (8 * v + 5) (omega arith) (omega arith) (omega arith) ∙ ns.placed v h ∙ last_same k (node k v) (omega (arith, adm.few_inputs, adm.few_nodes)) (3 * n),
        )

  pub rising_four : Rising n sc₄
  rising_four = placed_rising k adm sc₄ placed_four

  module _ (sc₅ : List ℕ) (lk : LowKept sc₄ sc₅) where
    module _ (v : ℕ) (h : v < n) where
      reads_are : field sc₅ v 0 ≡ readers k (node k v)
      reads_are = lk (8 * v + 0) (omega arith) ∙ ga.all v h ∙ (read v h).all

      odd_is : field sc₅ v 1 ≡ shown k (node k v) 0
      unfolding odd_sum out_odd_sum
      odd_is =
          lk (8 * v + 1) (omega arith) ∙ ga.kept (8 * v + 1) (omega arith) (omega arith) (omega arith) ∙ os.odd v h ∙
          omega (arith, ns.odd v h, z (8 * v + 1) (omega arith), (read v h).odd)

      flags_kept : field sc₅ v 2 ≡ flags_of ps v
      flags_kept = lk (8 * v + 2) (omega arith) ∙ ga.flags v h

    pub filled : 8 * n ≤ length sc₅ → Linking k sc₅ 0 → Ordered k sc₅ × (stands k sc₅ ≡ k)
    filled l links =
        let s = stands_itself i n o ps qs sc₅ adm flags_kept in (
          record {
            admitted = adm;
            long = l;
            reads = reads_are;
            odd = λ v h. rw s (odd_is v h);
            marks = marks_kept i n o ps qs sc₅ adm flags_kept;
            placed = λ v h. lk (8 * v + 3) (omega arith) ∙ placed_four v h;
            linked = linking_all k sc₅ links;
          },
          s,
        )
