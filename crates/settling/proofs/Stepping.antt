-- What the inner steps make of a state is what a round's steps make of the graph that it stands for. From the contracts of crate
-- state, and from what each step of a round does to the graph (Turns).
use mathlib.Core.Path.{◌≡◌, refl, sym, ap, ◌∙◌}
use mathlib.Core.Bool.{Bool, true, false, cond, ◌&&◌}
use mathlib.Core.List.{List, [], ◌∷◌}
use mathlib.Core.Logic.{⊎_elim}
use Prim.Native.Nat.{ℕ, zero, suc, ◌+◌, ◌-◌, ◌*◌, ◌≤◌, ◌<◌}
use native.Mathlib.Nat.{mul-le-mul, mul-suc}
use native.Mathlib.Omega.{arith}
use native.Mathlib.Numerals.{add-one}
use lib.Dec.{leb}
use lib.ListN.{length}
use lib.IntN.{ℤ, ◌+ℤ◌}
use Rattle.graph.specs.Answer.{Outcome, others_of}
use Rattle.graph.specs.Finite.{difference}
use Rattle.graph.specs.Graph.{Graph, node, is_xor, mark}
use Rattle.graph.specs.Turned.{turned_by}
use Rattle.graph.specs.Count.{C}
use Rattle.graph.proofs.Cases.{true_or_false}
use Rattle.graph.proofs.DifferenceSum.{differences_add}
use Rattle.moves.specs.Tree.{is_root, place, tree}
use Rattle.moves.specs.Call.{moved, best_at, rewrite, word_fault, pair_rewrite}
use Rattle.moves.proofs.TreeBest.{reader_node}
use Rattle.state.specs.State.{field, stands, Ordered}
use Rattle.state.specs.Step.{Made, Parted}
use Rattle.state.specs.declared.moving.Step.{Step}
use Rattle.trees.specs.Stepping.{TreeMade, tree_moved}
use Rattle.state.proofs.Alike.{alike_xor, alike_is_root}
use Rattle.state.proofs.Stands.{stands_alike}
use Rattle.rounds.specs.Round.{Progress, each, tree_at, node_at, pair_at, pairs_at}
use Rattle.settling.specs.Phase.{Room, Ready, Added, Phase}
use Rattle.settling.specs.declared.phases.Tally.{Tally}
use Rattle.rounds.proofs.Turns.{Goes, node_at_goes, tree_at_root, tree_at_inner, pair_at_word, pair_at_none}

-- steps one after the other
pub phase_then : (a b : Progress → Progress) (m n : ℕ) (g : Graph) (sc sc₁ sc₂ : List ℕ) (t t₁ t₂ : Tally) → Phase a m g sc t sc₁ t₁ → Phase b n g sc₁ t₁ sc₂ t₂
    → Phase (λ p. b (a p)) (m + n) g sc t sc₂ t₂
phase_then a b m n g sc sc₁ sc₂ t t₁ t₂ x y =
    record {
      ordered = y.ordered;
      long = y.long ∙ x.long;
      makes = λ p e. y.makes (a p) (x.makes p e);
      count = y.count;
      few = omega (arith, x.few, y.few);
      few_after = omega (arith, x.few_after, y.few_after);
    }

-- of at most so many calls
pub phase_most : (a : Progress → Progress) (m n : ℕ) (g : Graph) (sc sc₁ : List ℕ) (t t₁ : Tally) → m ≤ n → Phase a m g sc t sc₁ t₁ → Phase a n g sc t sc₁ t₁
phase_most a m n g sc sc₁ t t₁ l x =
    record {
      ordered = x.ordered;
      long = x.long;
      makes = x.makes;
      count = x.count;
      few = omega (arith, x.few);
      few_after = omega (arith, x.few_after);
    }

module _ (step : ℕ → Progress → Progress) (g : Graph) (sc : List ℕ) where
  pub each_none : (t : Tally) → Ordered g sc → t.count ≡ C (stands g sc) → Phase (each step 0) 0 g sc t sc t
  unfolding each
  each_none t o e = record { ordered = o; long = refl; makes = λ p q. q; count = e; few = omega arith; few_after = omega arith }

  pub each_more : (n a b : ℕ) (sc₁ sc₂ : List ℕ) (t t₁ t₂ : Tally) → Phase (each step n) a g sc t sc₁ t₁ → Phase (step n) b g sc₁ t₁ sc₂ t₂
      → Phase (each step (n + 1)) (a + b) g sc t sc₂ t₂
  unfolding each
  each_more n a b sc₁ sc₂ t t₁ t₂ x y = rw (add-one n) (phase_then (each step n) (step n) a b g sc sc₁ sc₂ t t₁ t₂ x y)

  -- one more node's calls, where each node has at most m
  pub calls_more : (n m : ℕ) (sc₁ sc₂ : List ℕ) (t t₁ t₂ : Tally) → Phase (each step n) (m * n) g sc t sc₁ t₁ → Phase (step n) m g sc₁ t₁ sc₂ t₂
      → Phase (each step (n + 1)) (m * (n + 1)) g sc t sc₂ t₂
  calls_more n m sc₁ sc₂ t t₁ t₂ x y =
      let e : m * (n + 1) ≡ m * n + m = rw (add-one n) (mul-suc m n) in
      rw e (each_more n (m * n) m sc₁ sc₂ t t₁ t₂ x y)

-- scratch and tally after the calls at v nodes
pub phase_ready : (made : Progress → Progress) (m v : ℕ) (g : Graph) (sc sc₁ : List ℕ) (t t₁ : Tally) → Phase made (m * v) g sc t sc₁ t₁ → Ordered g sc → Room t 200000000000000000 → m ≤ 3 → v ≤ g.N → Ready g t₁ sc₁
phase_ready made m v g sc sc₁ t t₁ x o r h l =
    let b : m * v ≤ 3 * 100000 = mul-le-mul {n₁ = m} {m₁ = v} {n₂ = 3} {m₂ = 100000} h (omega (arith, o.admitted.few_nodes)) in
    record {
      ordered = x.ordered;
      count = x.count;
      room = record { low = omega (arith, x.few, r.low); low_after = omega (arith, x.few_after, r.low_after) };
    }

pub first_ready : (g : Graph) (sc : List ℕ) (t : Tally) → Ordered g sc → t.count ≡ C (stands g sc) → Room t 200000000000000000 → Ready g t sc
first_ready g sc t o e r = record { ordered = o; count = e; room = record { low = omega (arith, r.low); low_after = omega (arith, r.low_after) } }

pub ready_room : (g : Graph) (t : Tally) (sc : List ℕ) → Ready g t sc → Room t 300000000000000000
ready_room g t sc r = let m = r.room in record { low = omega (arith, m.low); low_after = omega (arith, m.low_after) }

-- a step that makes no call
idle_phase : (made : Progress → Progress) (g : Graph) (sc : List ℕ) (t : Tally) → Ordered g sc → t.count ≡ C (stands g sc)
    → ((p : Progress) → p.graph ≡ stands g sc → made p ≡ p) → Phase made 1 g sc t sc t
idle_phase made g sc t o e h =
    record {
      ordered = o;
      long = refl;
      makes = λ p q. rw (h p q.graph) q;
      count = e;
      few = omega arith;
      few_after = omega arith;
    }

-- one step of a state in order
module _ (g : Graph) (sc : List ℕ) (o : Ordered g sc) where
  same_node : (p : Progress) → p.graph ≡ stands g sc → (v : ℕ) → node p.graph v ≡ node g v
  unfolding stands turned_by
  same_node p e v = ap (λ (x : Graph). x.I + 1 + v) e

  -- a call, once its outcome is said of the state's graph
  by_call : (made : Progress → Progress) (call : Graph → Outcome) (t : Tally) (sc' : List ℕ) (s : Step) (u : Tally) → Ordered g sc' → length sc' ≡ length sc
      → stands g sc' ≡ (call (stands g sc)).graph → s.count ≡ C (call (stands g sc)).graph → Parted (call (stands g sc)) s → Added t s u
      → ((p : Progress) → p.graph ≡ stands g sc → Goes p (made p) (call p.graph)) → Phase made 1 g sc t sc' u
  by_call made call t sc' s u q l st c d a f =
      record {
        ordered = q;
        long = l;
        makes = λ p e.
            let x = f p e.graph in
            let y : call p.graph ≡ call (stands g sc) = ap call e.graph in
            record {
              graph = x.graph ∙ ap (λ (z : Outcome). z.graph) y ∙ sym st;
              others =
                  x.others ∙
                  ap (λ (z : Outcome). p.others +ℤ others_of z.answer) y ∙
                  ap (λ (z : ℤ). z +ℤ others_of (call (stands g sc)).answer) e.others ∙
                  ap (λ (z : ℤ). difference t.before t.after +ℤ z) d.others ∙
                  differences_add t.before t.after s.before s.after ∙
                  rw (← a.before, ← a.after);
            };
        count = a.count ∙ c ∙ ap C (sym st);
        few = omega (arith, a.before, d.few);
        few_after = omega (arith, a.after, d.few_after);
      }

  same_fault : (p : Progress) → p.graph ≡ stands g sc → (v k : ℕ) → word_fault p.graph (node p.graph v) k ≡ word_fault g (node g v) k
  unfolding word_fault
  same_fault p e v k =
      let q : node p.graph v - (p.graph.I + 1) ≡ v = omega arith in
      let q' : node g v - (g.I + 1) ≡ v = omega arith in
      let x : is_xor p.graph v ≡ is_xor g v = ap (λ (y : Graph). is_xor y v) e ∙ alike_xor g (stands g sc) (stands_alike g sc o.admitted) v in
      rw (q, q', x)

  -- with the locks ls
  module _ (ls : List ℕ) where
    pub node_phase : (v : ℕ) (t : Tally) (sc' : List ℕ) (s : Step) (u : Tally)
        → Made sc g sc' (moved (stands g sc) (node g v ∷ []) (best_at (stands g sc) ls (node g v ∷ []))) s.count × Parted (rewrite (stands g sc) ls (node g v ∷ [])) s → Added t s u
        → Phase (node_at ls v) 1 g sc t sc' u
    unfolding rewrite
    node_phase v t sc' s u m a =
        by_call (node_at ls v) (λ x. rewrite x ls (node g v ∷ [])) t sc' s u m.0.became.ordered m.0.became.kept.long m.0.became.stands_for m.0.count m.1 a
        (λ p e. rw (sym (same_node p e v)) (node_at_goes ls p v))

    pub pair_phase : (v k : ℕ) → word_fault g (node g v) k ≡ 0 → (t : Tally) (sc' : List ℕ) (s : Step) (u : Tally)
        → Made sc g sc' (pair_rewrite (stands g sc) ls (node g v) k).graph s.count × Parted (pair_rewrite (stands g sc) ls (node g v) k) s → Added t s u
        → Phase (pair_at ls v k) 1 g sc t sc' u
    pair_phase v k w t sc' s u m a =
        by_call (pair_at ls v k) (λ x. pair_rewrite x ls (node g v) k) t sc' s u m.0.became.ordered m.0.became.kept.long m.0.became.stands_for m.0.count m.1 a
        (λ p e. rw (sym (same_node p e v)) (pair_at_word ls p v k (same_fault p e v k ∙ w)))

    pub pair_idle : (v k : ℕ) (t : Tally) → (word_fault g (node g v) k ≡ 0 → ⊥) → t.count ≡ C (stands g sc) → Phase (pair_at ls v k) 1 g sc t sc t
    pair_idle v k t w e = idle_phase (pair_at ls v k) g sc t o e (λ p q. pair_at_none ls p v k (λ z. w (sym (same_fault p q v k) ∙ z)))

-- which words a node has
module _ (g : Graph) (v : ℕ) where
  at_node : node g v - (g.I + 1) ≡ v
  at_node = omega arith

  early : (x : Bool) (k : ℕ) → 1 ≤ k → k ≤ 2 → ◌≡◌ {A = ℕ} (cond (leb 1 k && leb k (cond x 2 3)) 0 7) 0
  early x zero a b = absurd (omega arith)
  early true (suc zero) a b = refl
  early false (suc zero) a b = refl
  early true (suc (suc zero)) a b = refl
  early false (suc (suc zero)) a b = refl
  early x (suc (suc (suc k))) a b = absurd (omega arith)

  pub first_words : (k : ℕ) → 1 ≤ k → k ≤ 2 → word_fault g (node g v) k ≡ 0
  unfolding word_fault
  first_words k a b = early (is_xor g (node g v - (g.I + 1))) k a b

  pub third_word : is_xor g v ≡ false → word_fault g (node g v) 3 ≡ 0
  unfolding word_fault
  third_word x = rw (at_node, x)

  pub no_third_word : is_xor g v ≡ true → word_fault g (node g v) 3 ≡ 0 → ⊥
  unfolding word_fault
  no_third_word x z = omega (arith, rw (at_node, x) at z)

-- the words of a node in order
pub pairs_phase : (ls : List ℕ) (v : ℕ) (g : Graph) (sc sc₁ sc₂ sc₃ : List ℕ) (t t₁ t₂ t₃ : Tally) → Phase (pair_at ls v 1) 1 g sc t sc₁ t₁ → Phase (pair_at ls v 2) 1 g sc₁ t₁ sc₂ t₂
    → Phase (pair_at ls v 3) 1 g sc₂ t₂ sc₃ t₃ → Phase (pairs_at ls v) 3 g sc t sc₃ t₃
unfolding pairs_at
pairs_phase ls v g sc sc₁ sc₂ sc₃ t t₁ t₂ t₃ x y z =
    phase_then (λ p. pair_at ls v 2 (pair_at ls v 1 p)) (pair_at ls v 3) 2 1 g sc sc₂ sc₃ t t₂ t₃ (phase_then (pair_at ls v 1) (pair_at ls v 2) 1 1 g sc sc₁ sc₂ t t₁ t₂ x y) z

-- a node whose place of an only reader is the mark is a root
module _ (g : Graph) (sc : List ℕ) (o : Ordered g sc) (v : ℕ) (h : v < g.N) where
  pub marked_root : field sc v 3 ≡ mark → is_root g (node g v) ≡ true
  marked_root e =
      ⊎_elim (λ (t : is_root g (node g v) ≡ true). t)
      (λ (t : is_root g (node g v) ≡ false).
      let q : place g (node g v) ≡ mark = sym (rw t at (o.placed v h)) ∙ e in
      absurd (omega (arith, o.admitted.few_nodes, (reader_node g o.admitted (node g v) t).2)))
      (true_or_false (is_root g (node g v)))

  pub unmarked_inner : (field sc v 3 ≡ mark → ⊥) → is_root g (node g v) ≡ false
  unmarked_inner n =
      ⊎_elim (λ (t : is_root g (node g v) ≡ true). absurd (n (rw t at (o.placed v h)))) (λ (t : is_root g (node g v) ≡ false). t) (true_or_false (is_root g (node g v)))

  same_root : (p : Progress) → p.graph ≡ stands g sc → is_root p.graph (node p.graph v) ≡ is_root g (node g v)
  same_root p e =
      rw (same_node g sc o p e v) (ap (λ (y : Graph). is_root y (node g v)) e ∙ alike_is_root g (stands g sc) (stands_alike g sc o.admitted) (node g v))

  module _ (ls : List ℕ) where
    pub tree_idle : (t : Tally) → t.count ≡ C (stands g sc) → is_root g (node g v) ≡ false → Phase (tree_at ls v) 1 g sc t sc t
    tree_idle t e r = idle_phase (tree_at ls v) g sc t o e (λ p q. tree_at_inner ls p v (same_root p q ∙ r))

    pub tree_phase : is_root g (node g v) ≡ true → (t : Tally) (sc' : List ℕ) (s : Step) (u : Tally)
        → TreeMade sc g sc' (tree_moved (stands g sc) ls (node g v)) s.count × Parted (rewrite (stands g sc) ls (tree (stands g sc) (node g v))) s → Added t s u
        → Phase (tree_at ls v) 1 g sc t sc' u
    unfolding rewrite
    tree_phase r t sc' s u m a =
        by_call g sc o (tree_at ls v) (λ x. rewrite x ls (tree x (node g v))) t sc' s u m.0.ordered m.0.long m.0.stands_for m.0.count m.1 a
        (λ p e. rw (sym (same_node g sc o p e v)) (tree_at_root ls p v (same_root p e ∙ r)))
