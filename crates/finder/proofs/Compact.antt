-- Nodes moved together: one node more, and places cleared. From the laws on ranks.
use mathlib.Core.Path.{◌≡◌, refl, sym, ap, ◌∙◌}
use mathlib.Core.Bool.{Bool, true, false, true≢false, cond}
use mathlib.Core.Logic.{⊎_elim, ◌≢◌, inl, inr}
use mathlib.Core.List.{List}
use Prim.Native.Nat.{ℕ, zero, suc, ◌+◌, ◌-◌, ◌*◌, ◌/◌, ◌%◌, ◌≤◌, ◌<◌}
use native.Mathlib.Omega.{arith}
use native.Mathlib.Nat.{eq-or-lt_of_le}
use borrow.Author.Tests.{ne_eqb, eqb-true}
use lib.Dec.{eqb}
use lib.ListN.{length, get_or, set, length-set}
use lib.Seq.{get_or-set_same, get_or-set_other}
use Rattle.graph.specs.Graph.{Graph, mark}
use Rattle.graph.specs.Inner.{IsWord}
use Rattle.graph.proofs.Cases.{true_or_false, lt_or_le}
use Rattle.graph.proofs.Tests.{less, no_less}
use Rattle.hidden.specs.Drop.{kept, new_word}
use Rattle.finder.specs.Numbering.{rank_of}
use Rattle.finder.specs.Compacting.{renumber_by, Holds, NodeHolds, moved_word, moved_node, Left, Taken, Shifted, Compacted, Moves, Cleared}
use Rattle.finder.proofs.Ranks.{rank_kept, rank_passed, rank_low, rank_below}

-- places cleared
pub cleared_none : (a : ℕ) (xs : List ℕ) → Cleared a a xs xs
cleared_none a xs = record { same = refl; zero = λ j h k. absurd (omega arith); below = λ j h. refl; above = λ j h. refl }

pub cleared_more : (a j : ℕ) (xs xs' : List ℕ) → Cleared a j xs xs' → a ≤ j → j < length xs → Cleared a (j + 1) xs (set xs' j 0)
cleared_more a j xs xs' c h b =
    record {
      same = length-set xs' j 0 ∙ c.same;
      zero = λ k p q.
          ⊎_elim
          (λ (e : k ≡ j). rw e (get_or-set_same xs' j 0 0 (omega (arith, c.same))))
          (λ (n : k < j). get_or-set_other xs' j k 0 0 (λ z. omega arith) ∙ c.zero k p n)
          (eq-or-lt_of_le (omega arith));
      below = λ k p. get_or-set_other xs' j k 0 0 (λ z. omega arith) ∙ c.below k p;
      above = λ k p. get_or-set_other xs' j k 0 0 (λ z. omega arith) ∙ c.above k (omega arith);
    }

-- three words stored
module _ (i : ℕ) (sc ns : List ℕ) (v t : ℕ) where
  pub length_moved : length (moved_node i sc ns v t) ≡ length ns
  unfolding moved_node
  length_moved = simp length-set

  pub moved_other : (j : ℕ) → 3 * t ≢ j → 3 * t + 1 ≢ j → 3 * t + 2 ≢ j → get_or (moved_node i sc ns v t) j 0 ≡ get_or ns j 0
  unfolding moved_node
  moved_other j a b c =
      get_or-set_other (set (set ns (3 * t) (moved_word i sc ns (3 * v + 0))) (3 * t + 1) (moved_word i sc ns (3 * v + 1))) (3 * t + 2) j (moved_word i sc ns (3 * v + 2)) 0 (λ z. c (sym z))
      ∙ get_or-set_other (set ns (3 * t) (moved_word i sc ns (3 * v + 0))) (3 * t + 1) j (moved_word i sc ns (3 * v + 1)) 0 (λ z. b (sym z))
      ∙ get_or-set_other ns (3 * t) j (moved_word i sc ns (3 * v + 0)) 0 (λ z. a (sym z))

  pub moved_at : 3 * t + 2 < length ns → (k : ℕ) → k < 3 → get_or (moved_node i sc ns v t) (3 * t + k) 0 ≡ moved_word i sc ns (3 * v + k)
  unfolding moved_node
  moved_at h zero b =
      let e : 3 * t + 0 ≡ 3 * t = omega arith in
      rw e (get_or-set_other (set (set ns (3 * t) (moved_word i sc ns (3 * v + 0))) (3 * t + 1) (moved_word i sc ns (3 * v + 1))) (3 * t + 2) (3 * t) (moved_word i sc ns (3 * v + 2)) 0 (λ z. omega arith)
      ∙ get_or-set_other (set ns (3 * t) (moved_word i sc ns (3 * v + 0))) (3 * t + 1) (3 * t) (moved_word i sc ns (3 * v + 1)) 0 (λ z. omega arith)
      ∙ get_or-set_same ns (3 * t) (moved_word i sc ns (3 * v + 0)) 0 (omega arith))
  moved_at h (suc zero) b =
      get_or-set_other (set (set ns (3 * t) (moved_word i sc ns (3 * v + 0))) (3 * t + 1) (moved_word i sc ns (3 * v + 1))) (3 * t + 2) (3 * t + 1) (moved_word i sc ns (3 * v + 2)) 0 (λ z. omega arith)
      ∙ get_or-set_same (set ns (3 * t) (moved_word i sc ns (3 * v + 0))) (3 * t + 1) (moved_word i sc ns (3 * v + 1)) 0 (omega (arith, length-set ns (3 * t) (moved_word i sc ns (3 * v + 0))))
  moved_at h (suc (suc zero)) b =
      get_or-set_same (set (set ns (3 * t) (moved_word i sc ns (3 * v + 0))) (3 * t + 1) (moved_word i sc ns (3 * v + 1))) (3 * t + 2) (moved_word i sc ns (3 * v + 2)) 0
      (omega (arith, length-set ns (3 * t) (moved_word i sc ns (3 * v + 0)), length-set (set ns (3 * t) (moved_word i sc ns (3 * v + 0))) (3 * t + 1) (moved_word i sc ns (3 * v + 1))))
  moved_at h (suc (suc (suc k))) b = absurd (omega arith)

word_same : (i : ℕ) (sc ns ms : List ℕ) (j : ℕ) → get_or ns j 0 ≡ get_or ms j 0 → moved_word i sc ns j ≡ moved_word i sc ms j
unfolding moved_word
word_same i sc ns ms j e = rw e

module _ (g : Graph) (l : ℕ → Bool) (ls₀ : List ℕ) where
  pub compacted_none : Compacted g l ls₀ 0 0 g.nodes ls₀
  unfolding kept
  compacted_none =
      record {
        same = refl;
        same_locks = refl;
        count = refl;
        done = λ w k h. absurd (omega arith);
        due = λ j h. refl;
        locks_done = λ w h. absurd (omega arith);
        locks_due = λ j h. refl;
      }

  module _ (sc : List ℕ) (m : Moves g l sc) (v t : ℕ) (ns ls : List ℕ) (c : Compacted g l ls₀ v t ns ls) (h : v < g.N) where
    dead : get_or sc v 0 ≡ 0 → l v ≡ false
    dead e =
        ⊎_elim
        (λ (q : l v ≡ true). let z : get_or sc v 0 ≡ cond true (g.I + 1 + rank_of l v) 0 = rw q at (m.numbers v h) in absurd (omega (arith, e, z)))
        (λ (q : l v ≡ false). q)
        (true_or_false (l v))

    living : get_or sc v 0 ≢ 0 → l v ≡ true
    living e =
        ⊎_elim
        (λ (q : l v ≡ true). q)
        (λ (q : l v ≡ false). let z : get_or sc v 0 ≡ cond false (g.I + 1 + rank_of l v) 0 = rw q at (m.numbers v h) in absurd (e z))
        (true_or_false (l v))

    compacted_left : l v ≡ false → Compacted g l ls₀ (v + 1) t ns ls
    compacted_left e =
        record {
          same = c.same;
          same_locks = c.same_locks;
          count = c.count ∙ sym (rank_passed l v e);
          done = λ w k b q d. c.done w k (earlier w b q) q d;
          due = c.due;
          locks_done = λ w b q. c.locks_done w (earlier w b q) q;
          locks_due = c.locks_due;
        }
      where
        earlier : (w : ℕ) → w < v + 1 → l w ≡ true → w < v
        earlier w b q =
            ⊎_elim
            (λ (p : w ≡ v). absurd (true≢false (sym (rw p at q) ∙ e)))
            (λ (p : w < v). p)
            (eq-or-lt_of_le (omega arith))

    module _ (long : 3 * g.N ≤ length g.nodes) (room : g.N ≤ length ls₀) (e : l v ≡ true) where
      low : t ≤ v
      low = omega (arith, c.count, rank_low l v)

      new_word_lem : (k : ℕ) → k < 3 → get_or (moved_node g.I sc ns v t) (3 * t + k) 0 ≡ new_word g l (3 * v + k)
      new_word_lem k b =
          moved_at g.I sc ns v t (omega (arith, c.same, low)) k b
          ∙ word_same g.I sc ns g.nodes (3 * v + k) (c.due (3 * v + k) (omega (arith, low)))
          ∙ m.words v k h e b

      compacted_taken : Compacted g l ls₀ (v + 1) (t + 1) (moved_node g.I sc ns v t) (set ls t (get_or ls v 0))
      compacted_taken =
          record {
            same = length_moved g.I sc ns v t ∙ c.same;
            same_locks = length-set ls t (get_or ls v 0) ∙ c.same_locks;
            count = ap (λ (n : ℕ). n + 1) c.count ∙ sym (rank_kept l v e);
            done = λ w k b q d.
                ⊎_elim
                (λ (p : w ≡ v). rw (p, ← c.count) (new_word_lem k d))
                (λ (p : w < v).
                let r : rank_of l w < rank_of l v = rank_below l w v p q in
                moved_other g.I sc ns v t (3 * rank_of l w + k) (λ z. omega (arith, r, c.count)) (λ z. omega (arith, r, c.count)) (λ z. omega (arith, r, c.count)) ∙ c.done w k p q d)
                (eq-or-lt_of_le (omega arith));
            due = λ j b. moved_other g.I sc ns v t j (λ z. omega arith) (λ z. omega arith) (λ z. omega arith) ∙ c.due j (omega arith);
            locks_done = λ w b q.
                ⊎_elim
                (λ (p : w ≡ v). rw (p, ← c.count) (get_or-set_same ls t (get_or ls v 0) 0 (omega (arith, low, c.same_locks)) ∙ c.locks_due v low))
                (λ (p : w < v).
                let r : rank_of l w < rank_of l v = rank_below l w v p q in
                get_or-set_other ls t (rank_of l w) (get_or ls v 0) 0 (λ z. omega (arith, r, c.count)) ∙ c.locks_done w p q)
                (eq-or-lt_of_le (omega arith));
            locks_due = λ j b. get_or-set_other ls t j (get_or ls v 0) 0 (λ z. omega arith) ∙ c.locks_due j (omega arith);
          }

      taken : (r : ℕ) (ns' ls' : List ℕ) → Taken g.I sc v t r ns ls ns' ls' → Compacted g l ls₀ (v + 1) r ns' ls'
      taken r ns' ls' s = rw (s.count, s.words, s.locks) compacted_taken

    pub compacted_more : (r : ℕ) (ns' ls' : List ℕ) → 3 * g.N ≤ length g.nodes → g.N ≤ length ls₀ → Shifted g.I sc v t r ns ls ns' ls' → Compacted g l ls₀ (v + 1) r ns' ls'
    compacted_more r ns' ls' long room s =
        ⊎_elim
        (λ (q : Left sc v t r ns ls ns' ls'). rw (q.count, q.words, q.locks) (compacted_left (dead q.dead)))
        (λ (q : Taken g.I sc v t r ns ls ns' ls'). taken long room (living q.lives) r ns' ls' q)
        s

-- a literal by its number is a literal
pub renumber_low : (i : ℕ) (sc : List ℕ) (x : ℕ) → Holds i sc x → renumber_by i sc x / 2 < 2147483647
unfolding renumber_by
renumber_low i sc x h =
    ⊎_elim
    (λ (k : i < x / 2). rw (← less i (x / 2) (2 * get_or sc (x / 2 - (i + 1)) 0 + x % 2) x k refl) (half (get_or sc (x / 2 - (i + 1)) 0) (x % 2) (h.number k).1 (omega arith)))
    (λ (k : x / 2 ≤ i). rw (← no_less i (x / 2) (2 * get_or sc (x / 2 - (i + 1)) 0 + x % 2) x k refl) h.low)
    (lt_or_le i (x / 2))
  where
    half : (n b : ℕ) → n < 1000000 → b < 2 → (2 * n + b) / 2 < 2147483647
    half n b p q = omega arith

-- the words of one node
module _ (i : ℕ) (sc ns : List ℕ) (v : ℕ) where
  third : (3 * v + 2) % 3 ≡ 2
  third = omega arith

  pub third_stays : eqb (get_or ns (3 * v + 2) 0) mark ≡ true → mark ≡ moved_word i sc ns (3 * v + 2)
  unfolding moved_word
  third_stays e = rw (third, e) (sym (eqb-true (get_or ns (3 * v + 2) 0) mark e))

  pub third_moves : (x y : ℕ) → eqb (get_or ns (3 * v + 2) 0) mark ≡ false → x ≡ get_or ns (3 * v + 2) 0 → y ≡ renumber_by i sc x → y ≡ moved_word i sc ns (3 * v + 2)
  unfolding moved_word
  third_moves x y e q z = rw (third, e) (z ∙ ap (renumber_by i sc) q)

  pub other_moves : (k j x y : ℕ) → k < 2 → j ≡ 3 * v + k → x ≡ get_or ns j 0 → y ≡ renumber_by i sc x → y ≡ moved_word i sc ns (3 * v + k)
  unfolding moved_word
  other_moves k j x y b p q z = let e : eqb ((3 * v + k) % 3) 2 ≡ false = ne_eqb ((3 * v + k) % 3) 2 (λ p. omega arith) in rw (e, ← p) (z ∙ ap (renumber_by i sc) q)

  module _ (h : NodeHolds i sc ns v) where
    pub third_holds : (x : ℕ) → eqb (get_or ns (3 * v + 2) 0) mark ≡ false → x ≡ get_or ns (3 * v + 2) 0 → Holds i sc x
    third_holds x e q = rw q (h 2 (omega arith) (rw (third, e)))

    pub other_holds : (k j x : ℕ) → k < 2 → j ≡ 3 * v + k → x ≡ get_or ns j 0 → Holds i sc x
    other_holds k j x b p q = let e : eqb ((3 * v + k) % 3) 2 ≡ false = ne_eqb ((3 * v + k) % 3) 2 (λ p. omega arith) in rw (q, p) (h k (omega arith) (rw e))

    -- the third is the mark or a literal, and so is what becomes of it
    pub third_word : IsWord (get_or ns (3 * v + 2) 0)
    third_word n = (third_holds (get_or ns (3 * v + 2) 0) (ne_eqb (get_or ns (3 * v + 2) 0) mark n) refl).low

    pub moved_word_lem : IsWord (moved_word i sc ns (3 * v + 2))
    moved_word_lem n =
        ⊎_elim
        (λ (e : eqb (get_or ns (3 * v + 2) 0) mark ≡ true). absurd (n (sym (third_stays e))))
        (λ (e : eqb (get_or ns (3 * v + 2) 0) mark ≡ false).
        rw (← third_moves (get_or ns (3 * v + 2) 0) (renumber_by i sc (get_or ns (3 * v + 2) 0)) e refl refl) (renumber_low i sc (get_or ns (3 * v + 2) 0) (third_holds (get_or ns (3 * v + 2) 0) e refl)))
        (true_or_false (eqb (get_or ns (3 * v + 2) 0) mark))

-- what a loop over the nodes knows without the graph
pub record Shifting (n : ℕ) (ns₀ ls₀ : List ℕ) (v t : ℕ) (ns ls : List ℕ) : Type 0 where
  pub within : v ≤ n
  pub low : t ≤ v
  pub same : length ns ≡ length ns₀
  pub same_locks : length ls ≡ length ls₀
  pub due : (j : ℕ) → 3 * t ≤ j → get_or ns j 0 ≡ get_or ns₀ j 0

pub shifting_none : (n : ℕ) (ns ls : List ℕ) → Shifting n ns ls 0 0 ns ls
shifting_none n ns ls = record { within = omega arith; low = omega arith; same = refl; same_locks = refl; due = λ j h. refl }

module _ (n : ℕ) (ns₀ ls₀ : List ℕ) (v t : ℕ) (ns ls : List ℕ) (s : Shifting n ns₀ ls₀ v t ns ls) (h : v < n) where
  pub shifting_holds : (i : ℕ) (sc : List ℕ) → NodeHolds i sc ns₀ v → NodeHolds i sc ns v
  shifting_holds i sc d k b q =
      let e : get_or ns (3 * v + k) 0 ≡ get_or ns₀ (3 * v + k) 0 = s.due (3 * v + k) (omega (arith, s.low)) in
      rw e (d k b (rw e at q))

  pub shifting_room : n ≤ 100000 → n ≤ length ls₀ → (m : ℕ) → n ≤ m → (w₀ w : ℕ) → 3 * n ≤ w₀ → w ≡ w₀
      → (t ≤ v) × (v ≤ 100000) × (v < length ls) × (v < m) × (3 * v + 3 ≤ w)
  shifting_room f l m k w₀ w p e = (s.low, omega arith, omega (arith, s.same_locks), omega arith, omega arith)

  pub shifting_more : (i r : ℕ) (sc ns' ls' : List ℕ) → Shifted i sc v t r ns ls ns' ls' → Shifting n ns₀ ls₀ (v + 1) r ns' ls'
  shifting_more i r sc ns' ls' c =
      ⊎_elim
      (λ (q : Left sc v t r ns ls ns' ls').
      rw (q.count, q.words, q.locks) (record { within = omega arith; low = omega (arith, s.low); same = s.same; same_locks = s.same_locks; due = s.due }))
      (λ (q : Taken i sc v t r ns ls ns' ls').
      rw (q.count, q.words, q.locks) (record {
        within = omega arith;
        low = omega (arith, s.low);
        same = length_moved i sc ns v t ∙ s.same;
        same_locks = length-set ls t (get_or ls v 0) ∙ s.same_locks;
        due = λ j b. moved_other i sc ns v t j (λ z. omega arith) (λ z. omega arith) (λ z. omega arith) ∙ s.due j (omega arith);
      }))
      c

pub three_stored : (i : ℕ) (sc ns : List ℕ) (v t x y z : ℕ) (a b c : List ℕ) → x ≡ moved_word i sc ns (3 * v + 0) → y ≡ moved_word i sc ns (3 * v + 1) → z ≡ moved_word i sc ns (3 * v + 2)
    → a ≡ set ns (3 * t) x → b ≡ set a (3 * t + 1) y → c ≡ set b (3 * t + 2) z → c ≡ moved_node i sc ns v t
unfolding moved_node
three_stored i sc ns v t x y z a b c p q r d e f = rw (f, e, d, p, q, r)

pub left_at : (i : ℕ) (sc : List ℕ) (v t : ℕ) (ns ls : List ℕ) → get_or sc v 0 ≡ 0 → Shifted i sc v t t ns ls ns ls
left_at i sc v t ns ls e = inl (record { dead = e; count = refl; words = refl; locks = refl })

pub taken_at : (i : ℕ) (sc : List ℕ) (v t : ℕ) (ns ls ns' : List ℕ) → get_or sc v 0 ≢ 0 → ns' ≡ moved_node i sc ns v t → Shifted i sc v t (t + 1) ns ls ns' (set ls t (get_or ls v 0))
taken_at i sc v t ns ls ns' e q = inr (record { lives = e; count = refl; words = q; locks = refl })
