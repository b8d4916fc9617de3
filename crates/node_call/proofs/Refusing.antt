-- The numbers that refuse a node or pair call, and a trial: what is known where there is none. From the laws on faults.
use mathlib.Core.Path.{◌≡◌, refl, sym, ◌∙◌}
use mathlib.Core.Bool.{Bool, true, false, cond, ◌&&◌}
use mathlib.Core.List.{List}
use mathlib.Core.Logic.{⊎_elim, ◌≢◌}
use Prim.Native.Nat.{ℕ, zero, suc, ◌+◌, ◌-◌, ◌*◌, ◌%◌, ◌≤◌, ◌<◌}
use native.Mathlib.Omega.{arith}
use borrow.Author.Tests.{leb-true, ne_eqb, lt-ltb, le-ltb}
use lib.Dec.{leb}
use lib.ListN.{length}
use Rattle.graph.specs.Admission.{Admitted, admission_number}
use Rattle.graph.specs.Finite.{first}
use Rattle.graph.specs.Graph.{Graph, node, is_edge, is_xor}
use Rattle.graph.proofs.Admit.{admitted, locks_admitted}
use Rattle.graph.proofs.Cases.{eq_or_ne}
use Rattle.graph.proofs.Tests.{none, both, passes}
use Rattle.moves.specs.Call.{is_node, node_fault, word_fault, move_number, node_number, pair_number, named_by, trial_number}
use Rattle.moves.specs.Rows.{moves_at}
use Rattle.moves.proofs.Known.{node_known, node_has}
use Rattle.moves.proofs.Readers.{both_true}

pub first_first : (a b c : ℕ) → first (first a b) c ≡ first a (first b c)
unfolding first
first_first zero b c = refl
first_first (suc a) b c = refl

three_words : (b : Bool) (k : ℕ) → k ≤ cond b 2 3 → k ≤ 3
three_words true k h = omega arith
three_words false k h = h

two_words : (b : Bool) (k : ℕ) → k ≤ cond b 2 3 → 2 < k → b ≡ false
two_words true k h l = absurd (omega arith)
two_words false k h l = refl

module _ (g : Graph) (ls : List ℕ) (u : ℕ) where
  -- what an accepted node is
  pub record Accepted : Type 0 where
    pub admitted : Admitted g
    pub enough : g.N ≤ length ls
    pub after : g.I < u
    pub before : u < node g g.N

  pub node_is : admission_number g ls ≡ 0 → node_fault g u ≡ 0 → Accepted
  node_is a e = let b = node_known g u e in record { admitted = admitted g ls a; enough = (locks_admitted g ls a).enough; after = b.0; before = b.1 }

  pub node_accepted : node_number g ls u ≡ 0 → Accepted
  unfolding node_number
  node_accepted e = let b = both (admission_number g ls) (node_fault g u) e in node_is b.0 b.1

  module _ (k : ℕ) where
    pub pair_is : pair_number g ls u k ≡ first (node_number g ls u) (word_fault g u k)
    unfolding pair_number node_number
    pair_is = sym (first_first (admission_number g ls) (node_fault g u) (word_fault g u k))

    -- what an accepted word is
    pub record AcceptedWord : Type 0 where
      pub at_node : Accepted
      pub from_one : 1 ≤ k
      pub to_last : k ≤ cond (is_xor g (u - (g.I + 1))) 2 3

    pub pair_accepted : pair_number g ls u k ≡ 0 → AcceptedWord
    unfolding word_fault
    pair_accepted e =
        let b = both (node_number g ls u) (word_fault g u k) (sym pair_is ∙ e) in
        let c = both_true (leb 1 k) (leb k (cond (is_xor g (u - (g.I + 1))) 2 3)) (passes (leb 1 k && leb k (cond (is_xor g (u - (g.I + 1))) 2 3)) 6 b.1) in
        record { at_node = node_accepted b.0; from_one = leb-true 1 k c.0; to_last = leb-true k _ c.1 }

    -- what refuses a trial, by the index that the word was seen to name
    module _ (a m : ℕ) where
      pub trial_is : (p r : ℕ) → p ≡ named_by g u k → pair_number g ls u k ≡ 0 → r ≡ first (cond (is_node g p) (move_number g ls p a) 0) (move_number g ls u m) → r ≡ trial_number g ls u k a m
      unfolding trial_number
      trial_is p r e z q = none _ _ z (rw (← e) q)

      -- what an accepted trial is
      pub record AcceptedTrial : Type 0 where
        pub at_word : AcceptedWord
        pub named_has : is_node g (named_by g u k) ≡ true → a < moves_at g ls (named_by g u k)
        pub node_has : m < moves_at g ls u

      pub trial_accepted : trial_number g ls u k a m ≡ 0 → AcceptedTrial
      unfolding trial_number
      trial_accepted e =
          let p : ℕ = named_by g u k in
          let b = both _ _ e in
          let c = both _ _ b.1 in
          record {
            at_word = pair_accepted b.0;
            named_has = λ t. node_has g ls p a (rw t at c.0);
            node_has = node_has g ls u m c.1;
          }

    -- the word is an edge, so it names an index below the node's
    module _ (w : AcceptedWord) where
      word_edge : is_edge g (3 * (u - (g.I + 1)) + (k - 1)) ≡ true
      unfolding is_edge is_xor
      word_edge =
          let v : ℕ = u - (g.I + 1) in
          let t = w.to_last in
          let q : (3 * v + (k - 1)) % 3 ≡ k - 1 = omega (arith, w.from_one, three_words (is_xor g v) k t) in
          rw q
          (⊎_elim
          (λ (e : k - 1 ≡ 2). rw (e, two_words (is_xor g v) k t (omega arith)))
          (λ (e : k - 1 ≢ 2). rw (ne_eqb (k - 1) 2 e))
          (eq_or_ne (k - 1) 2))

      pub named_below : named_by g u k < u
      unfolding named_by
      named_below =
          let v : ℕ = u - (g.I + 1) in
          let a = w.at_node in
          omega (arith, a.after, a.before, w.from_one, three_words (is_xor g v) k w.to_last, a.admitted.below (3 * v + (k - 1)) (omega (arith, a.after, a.before, w.from_one, three_words (is_xor g v) k w.to_last)) word_edge)

      pub named_low : named_by g u k < 2147483647
      named_low = let a = w.at_node in omega (arith, named_below, a.before, a.admitted.few_inputs, a.admitted.few_nodes)

      pub within_three : k ≤ 3
      within_three = three_words (is_xor g (u - (g.I + 1))) k w.to_last

-- the faults of both moves of a trial, from those at the indices by which the nodes were seen
module _ (g : Graph) (ls : List ℕ) (p u a m : ℕ) (i : g.I < u) where
  own_fault : move_number g ls (node g (u - (g.I + 1))) m ≡ move_number g ls u m
  own_fault = let v : node g (u - (g.I + 1)) ≡ u = omega arith in rw v

  pub no_node_named : (r : ℕ) → p ≤ g.I → r ≡ move_number g ls (node g (u - (g.I + 1))) m → r ≡ first (cond (is_node g p) (move_number g ls p a) 0) (move_number g ls u m)
  unfolding is_node first
  no_node_named r h e = rw (le-ltb g.I p h) (e ∙ own_fault)

  pub a_node_named : (r : ℕ) → g.I < p → p < node g g.N → r ≡ first (move_number g ls (node g (p - (g.I + 1))) a) (move_number g ls (node g (u - (g.I + 1))) m)
      → r ≡ first (cond (is_node g p) (move_number g ls p a) 0) (move_number g ls u m)
  unfolding is_node
  a_node_named r h b e =
      let v : node g (p - (g.I + 1)) ≡ p = omega arith in
      let f : r ≡ first (move_number g ls p a) (move_number g ls u m) = rw (v, own_fault) at e in
      rw (lt-ltb g.I p h, lt-ltb p (node g g.N) b) f
