-- The words of a living node by the numbers in scratch are those of the definition. From the law that what a living node names lives.
use mathlib.Core.Path.{◌≡◌, refl, ap, ◌∙◌}
use mathlib.Core.Bool.{Bool, true, false, cond, not, ◌&&◌}
use mathlib.Core.Logic.{⊎_elim}
use mathlib.Core.List.{List}
use Prim.Native.Nat.{ℕ, ◌+◌, ◌-◌, ◌*◌, ◌/◌, ◌%◌, ◌≤◌, ◌<◌}
use native.Mathlib.Omega.{arith}
use borrow.Author.Tests.{lt-ltb, le-ltb}
use lib.Dec.{eqb}
use lib.ListN.{length, get_or, set, length-set}
use lib.Seq.{get_or-set_same, get_or-set_other}
use native.Mathlib.Nat.{eq-or-lt_of_le}
use Rattle.graph.specs.Finite.{if_less}
use Rattle.graph.specs.Graph.{Graph, mark, node, word, is_edge}
use Rattle.graph.specs.Admission.{Admitted}
use Rattle.graph.proofs.Cases.{true_or_false, lt_or_le}
use Rattle.hidden.specs.Drop.{renumbered, new_literal, new_word}
use Rattle.hidden.proofs.Keeping.{Closed}
use Rattle.finder.specs.Numbering.{rank_of, Numbers}
use Rattle.finder.specs.Compacting.{renumber_by, moved_word, Holds, OutputsMoved}

module _ (g : Graph) (l : ℕ → Bool) (sc : List ℕ) (m : Numbers g.I l g.N sc) where
  -- a literal whose index is no node's, or lives
  literal_moved : (x : ℕ) → x / 2 < node g g.N → (g.I < x / 2 → l (x / 2 - (g.I + 1)) ≡ true) → renumber_by g.I sc x ≡ new_literal g l x
  unfolding renumber_by new_literal renumbered if_less
  literal_moved x h s =
      ⊎_elim
      (λ (k : g.I < x / 2).
      let e : get_or sc (x / 2 - (g.I + 1)) 0 ≡ cond true (g.I + 1 + rank_of l (x / 2 - (g.I + 1))) 0 = rw (s k) at (m (x / 2 - (g.I + 1)) (omega arith)) in
      rw (lt-ltb g.I (x / 2) k, e))
      (λ (k : x / 2 ≤ g.I). rw (le-ltb g.I (x / 2) k) (omega arith))
      (lt_or_le g.I (x / 2))

  pub word_moved : Admitted g → Closed g l → (v k : ℕ) → v < g.N → l v ≡ true → k < 3 → moved_word g.I sc g.nodes (3 * v + k) ≡ new_word g l (3 * v + k)
  unfolding moved_word new_word is_edge
  word_moved adm c v k h e b =
      ⊎_elim
      (λ (t : (eqb ((3 * v + k) % 3) 2 && eqb (word g (3 * v + k)) mark) ≡ true). rw t)
      (λ (t : (eqb ((3 * v + k) % 3) 2 && eqb (word g (3 * v + k)) mark) ≡ false).
      let d : not (eqb ((3 * v + k) % 3) 2 && eqb (word g (3 * v + k)) mark) ≡ true = rw t in
      rw t (literal_moved (word g (3 * v + k)) (omega (arith, adm.below (3 * v + k) (omega arith) d)) (c.words v k h e b d)))
      (true_or_false (eqb ((3 * v + k) % 3) 2 && eqb (word g (3 * v + k)) mark))

  pub output_moved : (x : ℕ) → x / 2 < node g g.N → (g.I < x / 2 → l (x / 2 - (g.I + 1)) ≡ true) → renumber_by g.I sc x ≡ new_literal g l x
  output_moved x h s = literal_moved x h s

-- an output more
pub outputs_none : (i : ℕ) (sc os : List ℕ) → OutputsMoved i 0 sc os os
outputs_none i sc os = record { same = refl; done = λ j h. absurd (omega arith); due = λ j h. refl }

pub outputs_more : (i k x y w : ℕ) (sc os os' : List ℕ) → OutputsMoved i k sc os os' → k < length os → w ≡ k → x ≡ get_or os' w 0 → y ≡ renumber_by i sc x → OutputsMoved i (k + 1) sc os (set os' w y)
outputs_more i k x y w sc os os' m h q e z =
    record {
      same = length-set os' w y ∙ m.same;
      done = λ j b.
          ⊎_elim
          (λ (p : j ≡ k). rw (p, q) (get_or-set_same os' k y 0 (omega (arith, m.same)) ∙ z ∙ ap (renumber_by i sc) (e ∙ ap (λ (n : ℕ). get_or os' n 0) q ∙ m.due k (omega arith))))
          (λ (n : j < k). get_or-set_other os' w j y 0 (λ p. omega arith) ∙ m.done j n)
          (eq-or-lt_of_le (omega arith));
      due = λ j b. get_or-set_other os' w j y 0 (λ p. omega arith) ∙ m.due j (omega arith);
    }

-- what is due there is as it was, and so holds as it did
pub due_holds : (i k x w : ℕ) (sc os os' : List ℕ) → OutputsMoved i k sc os os' → w ≡ k → x ≡ get_or os' w 0 → Holds i sc (get_or os k 0) → Holds i sc x
due_holds i k x w sc os os' m q e h = let z : x ≡ get_or os k 0 = e ∙ ap (λ (n : ℕ). get_or os' n 0) q ∙ m.due k (omega arith) in rw z h
