-- Marking what lives: each visit keeps why a node is marked, and after the last the marks are those of the definition. From the law that no
-- other set of nodes goes by its rule.
use mathlib.Core.Path.{◌≡◌, refl, sym, ap, ◌∙◌}
use mathlib.Core.Bool.{Bool, true, false, true≢false, ◌&&◌, ◌||◌}
use mathlib.Core.Logic.{◌⊎◌, inl, inr, ⊎_elim, ◌≢◌}
use mathlib.Core.List.{List}
use Prim.Native.Nat.{ℕ, zero, suc, ◌+◌, ◌-◌, ◌*◌, ◌/◌, ◌%◌, ◌≤◌, ◌<◌}
use native.Mathlib.Omega.{arith}
use native.Mathlib.Nat.{eq-or-lt_of_le}
use borrow.Author.Tests.{eqb-true, eqb-false, eq-eqb}
use lib.Dec.{eqb}
use lib.ListN.{length, get_or, set, length-set}
use lib.Seq.{get_or-set_same, get_or-set_other}
use Rattle.graph.specs.Graph.{Graph, mark, node, word, output, is_edge, is_xor}
use Rattle.graph.proofs.Edge.{edge_early, edge_third, third_xor}
use Rattle.graph.specs.Count.{named, output_named}
use Rattle.graph.specs.Admission.{Admitted}
use Rattle.graph.proofs.Cases.{eq_or_ne, true_or_false}
use Rattle.hidden.specs.Find.{is_locked}
use Rattle.hidden.specs.Drop.{some, lives_by, live}
use Rattle.moves.proofs.Readers.{both_true}
use Rattle.hidden.proofs.Bools.{true_both, either_true, true_left, true_right, same_test}
use Rattle.hidden.proofs.Live.{some_true, some_found, lives_by_rule}
use Rattle.finder.specs.Living.{Marked, NodeNames, NodeMarked, ByOutput, ByNode, Why, Living, LockedMarked, Lives}

xor_is : (g : Graph) (v : ℕ) → word g (3 * v + 2) ≡ mark → is_xor g v ≡ true
unfolding is_xor
xor_is g v e = eq-eqb (word g (3 * v + 2)) mark e

-- marks are only ever set
module _ (sc sc' : List ℕ) (up : (w : ℕ) → get_or sc w 0 ≡ 1 → get_or sc' w 0 ≡ 1) where
  by_node_up : (g : Graph) (v : ℕ) → ByNode g sc v → ByNode g sc' v
  by_node_up g v b = record { reader = b.reader; within = b.within; marked = up b.reader b.marked; names = b.names }

  why_up : (g : Graph) (ls : List ℕ) (p q v : ℕ) → p ≤ q → Why g ls p sc v → Why g ls q sc' v
  why_up g ls p q v h y =
      ⊎_elim (λ (e : is_locked ls v ≡ true). inl e)
      (λ (z : ByOutput g p v ⊎ ByNode g sc v).
      ⊎_elim (λ (o : ByOutput g p v). inr (inl (record { j = o.j; within = omega (arith, o.within); names = o.names }))) (λ (n : ByNode g sc v). inr (inr (by_node_up g v n))) z)
      y

pub living_none : (g : Graph) (ls sc : List ℕ) → g.N ≤ length sc → ((v : ℕ) → v < g.N → get_or sc v 0 ≡ 0) → Living g ls g.N 0 sc
living_none g ls sc l z =
    record {
      long = l;
      bits = λ v h. rw (z v h) (omega arith);
      why = λ v h e. absurd (omega (arith, e, z v h));
      locks = λ v h k e. absurd (omega arith);
      outputs = λ j h. absurd (omega arith);
      words = λ v k h b. absurd (omega arith);
    }

-- an output more
module _ (g : Graph) (adm : Admitted g) (ls : List ℕ) (p u : ℕ) (sc sc' : List ℕ) (l : Living g ls g.N p sc) (within : p < g.O) (e : u ≡ output g p / 2) (m : Marked g.I u sc sc') where
  either : (w : ℕ) → (get_or sc' w 0 ≡ get_or sc w 0) ⊎ ((get_or sc' w 0 ≡ 1) × (node g w ≡ u))
  either w =
      ⊎_elim
      (λ (q : node g w ≡ u). let z : u - (g.I + 1) ≡ w = omega arith in inr (rw z at (m.new (omega arith)), q))
      (λ (n : node g w ≢ u). inl (m.old w n))
      (eq_or_ne (node g w) u)

  raised : (w : ℕ) → get_or sc w 0 ≡ 1 → get_or sc' w 0 ≡ 1
  raised w h = ⊎_elim (λ (q : get_or sc' w 0 ≡ get_or sc w 0). q ∙ h) (λ (q : (get_or sc' w 0 ≡ 1) × (node g w ≡ u)). q.0) (either w)

  pub living_output : Living g ls g.N (p + 1) sc'
  living_output =
      record {
        long = omega (arith, l.long, m.same);
        bits = λ v h.
            ⊎_elim (λ (q : get_or sc' v 0 ≡ get_or sc v 0). rw q (l.bits v h)) (λ (q : (get_or sc' v 0 ≡ 1) × (node g v ≡ u)). rw q.0 (omega arith)) (either v);
        why = λ v h k.
            ⊎_elim
            (λ (q : get_or sc' v 0 ≡ get_or sc v 0). why_up sc sc' raised g ls p (p + 1) v (omega arith) (l.why v h (sym q ∙ k)))
            (λ (q : (get_or sc' v 0 ≡ 1) × (node g v ≡ u)). inr (inl (record { j = p; within = omega arith; names = sym e ∙ sym q.1 })))
            (either v);
        locks = λ v h b. absurd (omega arith);
        outputs = λ j h k.
            ⊎_elim
            (λ (q : j ≡ p). rw q (rw e at (m.new (rw (e, ← q) k))))
            (λ (b : j < p). raised _ (l.outputs j b k))
            (eq-or-lt_of_le (omega arith));
        words = λ v k h b. absurd (omega arith);
      }

-- a node more: its lock, then what it names
module _ (g : Graph) (adm : Admitted g) (ls : List ℕ) (v : ℕ) (within : v < g.N) (sc sc₁ : List ℕ) (l : Living g ls (v + 1) g.O sc) (m : LockedMarked ls v sc sc₁) where
  up₁ : (w : ℕ) → get_or sc w 0 ≡ 1 → get_or sc₁ w 0 ≡ 1
  up₁ w h = ⊎_elim (λ (q : get_or sc₁ w 0 ≡ get_or sc w 0). q ∙ h) (λ (q : (get_or sc₁ w 0 ≡ 1) × (w ≡ v) × (is_locked ls v ≡ true)). q.0) (m.old w)

  other₁ : (w : ℕ) → w ≢ v → get_or sc₁ w 0 ≡ get_or sc w 0
  other₁ w n = ⊎_elim (λ (q : get_or sc₁ w 0 ≡ get_or sc w 0). q) (λ (q : (get_or sc₁ w 0 ≡ 1) × (w ≡ v) × (is_locked ls v ≡ true)). absurd (n q.1)) (m.old w)

  -- all but the words of v
  pub living_lock : Living g ls (v + 1) g.O sc₁ × (is_locked ls v ≡ true → get_or sc₁ v 0 ≡ 1)
  living_lock = (
    record {
      long = omega (arith, l.long, m.same);
      bits = λ w h.
          ⊎_elim (λ (q : get_or sc₁ w 0 ≡ get_or sc w 0). rw q (l.bits w h)) (λ (q : (get_or sc₁ w 0 ≡ 1) × (w ≡ v) × (is_locked ls v ≡ true)). rw q.0 (omega arith)) (m.old w);
      why = λ w h k.
          ⊎_elim
          (λ (q : get_or sc₁ w 0 ≡ get_or sc w 0). why_up sc sc₁ up₁ g ls g.O g.O w (omega arith) (l.why w h (sym q ∙ k)))
          (λ (q : (get_or sc₁ w 0 ≡ 1) × (w ≡ v) × (is_locked ls v ≡ true)). inl (rw q.1 q.2))
          (m.old w);
      locks = λ w h b e. up₁ w (l.locks w h b e);
      outputs = λ j h k. up₁ _ (l.outputs j h k);
      words = λ w k h b e. λ i d f. up₁ _ (l.words w k h b (sym (other₁ w (λ z. omega arith)) ∙ e) i d f);
    },
    m.new,
  )

module _ (g : Graph) (adm : Admitted g) (ls : List ℕ) (v : ℕ) (within : v < g.N) (sc : List ℕ) (l : Living g ls (v + 1) g.O sc) (lock : is_locked ls v ≡ true → get_or sc v 0 ≡ 1) where
  locks_here : (sc' : List ℕ) → ((w : ℕ) → get_or sc w 0 ≡ 1 → get_or sc' w 0 ≡ 1) → (w : ℕ) → w < g.N → v ≤ w → is_locked ls w ≡ true → get_or sc' w 0 ≡ 1
  locks_here sc' up w h b e =
      ⊎_elim (λ (q : v ≡ w). up w (rw q at (lock (rw q e)))) (λ (k : v < w). up w (l.locks w h (omega arith) e)) (eq-or-lt_of_le b)

  -- an unmarked node names nothing that has to be marked
  pub living_past : get_or sc v 0 ≢ 1 → Living g ls v g.O sc
  living_past n =
      record {
        long = l.long;
        bits = l.bits;
        why = l.why;
        locks = locks_here sc (λ w h. h);
        outputs = l.outputs;
        words = λ w k h b e i d f. ⊎_elim (λ (q : v ≡ w). absurd (n (rw q e))) (λ (z : v < w). l.words w k h (omega arith) e i d f) (eq-or-lt_of_le b);
      }

  module _ (sc' : List ℕ) (m : NodeMarked g v sc sc') (is : get_or sc v 0 ≡ 1) where
    up : (w : ℕ) → get_or sc w 0 ≡ 1 → get_or sc' w 0 ≡ 1
    up w h = ⊎_elim (λ (q : get_or sc' w 0 ≡ get_or sc w 0). q ∙ h) (λ (q : (get_or sc' w 0 ≡ 1) × NodeNames g v (node g w)). q.0) (m.old w)

    -- a node from v on is not named by v
    above : (w : ℕ) → v ≤ w → get_or sc' w 0 ≡ get_or sc w 0
    above w b =
        ⊎_elim (λ (q : get_or sc' w 0 ≡ get_or sc w 0). q)
        (λ (q : (get_or sc' w 0 ≡ 1) × NodeNames g v (node g w)).
        let n = q.1 in
        absurd (omega (arith, n.names, n.within, within, adm.below (3 * v + n.k) (omega (arith, n.within)) n.edge)))
        (m.old w)

    pub living_node : Living g ls v g.O sc'
    living_node =
        record {
          long = omega (arith, l.long, m.same);
          bits = λ w h. ⊎_elim (λ (q : get_or sc' w 0 ≡ get_or sc w 0). rw q (l.bits w h)) (λ (q : (get_or sc' w 0 ≡ 1) × NodeNames g v (node g w)). rw q.0 (omega arith)) (m.old w);
          why = λ w h k.
              ⊎_elim
              (λ (q : get_or sc' w 0 ≡ get_or sc w 0). why_up sc sc' up g ls g.O g.O w (omega arith) (l.why w h (sym q ∙ k)))
              (λ (q : (get_or sc' w 0 ≡ 1) × NodeNames g v (node g w)). inr (inr (record { reader = v; within = within; marked = up v is; names = q.1 })))
              (m.old w);
          locks = locks_here sc' up;
          outputs = λ j h k. up _ (l.outputs j h k);
          words = λ w k h b e i d f.
              ⊎_elim
              (λ (q : v ≡ w). rw q at (m.new k i (rw q d) (rw q f)))
              (λ (z : v < w). up _ (l.words w k h (omega arith) (sym (above w b) ∙ e) i d f))
              (eq-or-lt_of_le b);
        }

-- after the last visit
module _ (g : Graph) (adm : Admitted g) (ls sc : List ℕ) (l : Living g ls 0 g.O sc) where
  marks : ℕ → Bool
  marks w = eqb (get_or sc w 0) 1

  from_why : (v : ℕ) → v < g.N → Why g ls g.O sc v → lives_by g ls marks v ≡ true
  unfolding lives_by marks named output_named
  from_why v h y =
      ⊎_elim
      (λ (e : is_locked ls v ≡ true). true_left _ _ (true_left (is_locked ls v) _ e))
      (λ (z : ByOutput g g.O v ⊎ ByNode g sc v).
      ⊎_elim
      (λ (o : ByOutput g g.O v). true_left _ _ (true_right (is_locked ls v) _ (some_true g.O (output_named g (node g v)) o.j o.within (eq-eqb (output g o.j / 2) (node g v) o.names))))
      (λ (n : ByNode g sc v).
      let w : ℕ = n.reader in
      let k : ℕ = n.names.k in
      let d : (3 * w + k) / 3 ≡ w = omega (arith, n.names.within) in
      true_right (is_locked ls v || some g.O (output_named g (node g v))) _
      (some_true (3 * g.N) (λ j. named g (node g v) j && eqb (get_or sc (j / 3) 0) 1) (3 * w + k) (omega (arith, n.names.within, n.within))
      (true_both (named g (node g v) (3 * w + k)) (eqb (get_or sc ((3 * w + k) / 3) 0) 1)
      (true_both (is_edge g (3 * w + k)) (eqb (word g (3 * w + k) / 2) (node g v)) n.names.edge (eq-eqb (word g (3 * w + k) / 2) (node g v) n.names.names))
      (rw d (eq-eqb (get_or sc w 0) 1 n.marked)))))
      z)
      y

  to_mark : (v : ℕ) → v < g.N → lives_by g ls marks v ≡ true → get_or sc v 0 ≡ 1
  unfolding lives_by marks named output_named
  to_mark v h e =
      ⊎_elim
      (λ (q : (is_locked ls v || some g.O (output_named g (node g v))) ≡ true).
      ⊎_elim (λ (p : is_locked ls v ≡ true). l.locks v h (omega arith) p)
      (λ (p : some g.O (output_named g (node g v)) ≡ true).
      let f = some_found g.O (output_named g (node g v)) p in
      let x : output g f.place / 2 ≡ node g v = eqb-true (output g f.place / 2) (node g v) f.is in
      let y : output g f.place / 2 - (g.I + 1) ≡ v = omega (arith, x) in
      rw y at (l.outputs f.place f.within (omega (arith, x))))
      (either_true (is_locked ls v) (some g.O (output_named g (node g v))) q))
      (λ (q : some (3 * g.N) (λ j. named g (node g v) j && eqb (get_or sc (j / 3) 0) 1) ≡ true).
      let f = some_found (3 * g.N) (λ j. named g (node g v) j && eqb (get_or sc (j / 3) 0) 1) q in
      let j : ℕ = f.place in
      let a = both_true (is_edge g j && eqb (word g j / 2) (node g v)) (eqb (get_or sc (j / 3) 0) 1) f.is in
      let b = both_true (is_edge g j) (eqb (word g j / 2) (node g v)) a.0 in
      let w : ℕ = j / 3 in
      let k : ℕ = j % 3 in
      let d : 3 * w + k ≡ j = omega arith in
      let x : word g j / 2 ≡ node g v = eqb-true (word g j / 2) (node g v) b.1 in
      let y : word g (3 * w + k) / 2 - (g.I + 1) ≡ v = rw d (omega (arith, x)) in
      rw y at (l.words w k (omega (arith, f.within)) (omega arith) (eqb-true (get_or sc w 0) 1 a.1) (omega arith) (rw d b.0) (rw d (omega (arith, x)))))
      (either_true (is_locked ls v || some g.O (output_named g (node g v))) _ e)

  rule : (v : ℕ) → v < g.N → marks v ≡ lives_by g ls marks v
  unfolding marks
  rule v h =
      same_test (marks v) (lives_by g ls marks v) (λ e. from_why v h (l.why v h (eqb-true (get_or sc v 0) 1 e))) (λ e. eq-eqb (get_or sc v 0) 1 (to_mark v h e))

  pub living_is : Lives g ls sc
  unfolding marks
  living_is v h =
      let e : marks v ≡ live g ls v = (lives_by_rule g ls adm).live_only marks rule v h in
      ⊎_elim
      (λ (q : live g ls v ≡ true). rw q (eqb-true (get_or sc v 0) 1 (e ∙ q)))
      (λ (q : live g ls v ≡ false). let n = eqb-false (get_or sc v 0) 1 (e ∙ q) in rw q (below_one (get_or sc v 0) (l.bits v h) n))
      (true_or_false (live g ls v))
    where
      below_one : (x : ℕ) → x ≤ 1 → x ≢ 1 → x ≡ 0
      below_one x h n = omega arith

-- one mark
pub mark_set : (i u x w : ℕ) (sc : List ℕ) → i < u → w ≡ x → x ≡ u - i - 1 → u ≤ i + length sc → Marked i u sc (set sc w 1)
mark_set i u x w sc h q e k =
    let d : u - (i + 1) ≡ w = omega arith in
    record {
      same = length-set sc w 1;
      new = λ b. rw d (get_or-set_same sc w 1 0 (omega arith));
      old = λ v n. get_or-set_other sc w v 1 0 (λ z. n (omega arith));
    }

pub mark_none : (i u : ℕ) (sc : List ℕ) → u ≤ i → Marked i u sc sc
mark_none i u sc h = record { same = refl; new = λ b. absurd (omega arith); old = λ v n. refl }

pub lock_none : (ls : List ℕ) (v : ℕ) (sc : List ℕ) → get_or ls v 0 ≢ 1 → LockedMarked ls v sc sc
unfolding is_locked
lock_none ls v sc n = record { same = refl; new = λ e. absurd (n (eqb-true (get_or ls v 0) 1 e)); old = λ w. inl refl }

pub lock_set : (ls : List ℕ) (v : ℕ) (sc : List ℕ) → get_or ls v 0 ≡ 1 → v < length sc → LockedMarked ls v sc (set sc v 1)
unfolding is_locked
lock_set ls v sc e h =
    record {
      same = length-set sc v 1;
      new = λ z. get_or-set_same sc v 1 0 h;
      old = λ w.
          ⊎_elim
          (λ (q : w ≡ v). inr (rw q (get_or-set_same sc v 1 0 h), q, eq-eqb (get_or ls v 0) 1 e))
          (λ (n : w ≢ v). inl (get_or-set_other sc v w 1 0 n))
          (eq_or_ne w v);
    }

-- what the words of a node name
module _ (g : Graph) (u : ℕ) (sc sc' : List ℕ) (m : Marked g.I u sc sc') where
  marked_either : (w : ℕ) → (get_or sc' w 0 ≡ get_or sc w 0) ⊎ ((get_or sc' w 0 ≡ 1) × (u ≡ node g w))
  marked_either w =
      ⊎_elim
      (λ (q : node g w ≡ u). let z : u - (g.I + 1) ≡ w = omega arith in inr (rw z at (m.new (omega arith)), sym q))
      (λ (n : node g w ≢ u). inl (m.old w n))
      (eq_or_ne (node g w) u)

  marked_up : (w : ℕ) → get_or sc w 0 ≡ 1 → get_or sc' w 0 ≡ 1
  marked_up w h = ⊎_elim (λ (q : get_or sc' w 0 ≡ get_or sc w 0). q ∙ h) (λ (q : (get_or sc' w 0 ≡ 1) × (u ≡ node g w)). q.0) (marked_either w)

module _ (g : Graph) (v x y : ℕ) (sc sc₁ sc₂ : List ℕ) (ex : x ≡ word g (3 * v) / 2) (ey : y ≡ word g (3 * v + 1) / 2)
    (mx : Marked g.I x sc sc₁) (my : Marked g.I y sc₁ sc₂) where
  ex₀ : x ≡ word g (3 * v + 0) / 2
  ex₀ = let o : 3 * v ≡ 3 * v + 0 = omega arith in ex ∙ ap (λ (j : ℕ). word g j / 2) o

  named_first : g.I < word g (3 * v + 0) / 2 → get_or sc₂ (word g (3 * v + 0) / 2 - (g.I + 1)) 0 ≡ 1
  named_first h = marked_up g y sc₁ sc₂ my _ (rw ex₀ at (mx.new (rw ex₀ h)))

  named_second : g.I < word g (3 * v + 1) / 2 → get_or sc₂ (word g (3 * v + 1) / 2 - (g.I + 1)) 0 ≡ 1
  named_second h = rw ey at (my.new (rw ey h))

  two_old : (w : ℕ) → (get_or sc₂ w 0 ≡ get_or sc w 0) ⊎ ((get_or sc₂ w 0 ≡ 1) × NodeNames g v (node g w))
  two_old w =
      ⊎_elim
      (λ (q : get_or sc₂ w 0 ≡ get_or sc₁ w 0).
      ⊎_elim
      (λ (p : get_or sc₁ w 0 ≡ get_or sc w 0). inl (q ∙ p))
      (λ (p : (get_or sc₁ w 0 ≡ 1) × (x ≡ node g w)). inr (q ∙ p.0, record { k = 0; within = omega arith; edge = edge_early g (3 * v + 0) (omega arith); names = sym ex₀ ∙ p.1 }))
      (marked_either g x sc sc₁ mx w))
      (λ (q : (get_or sc₂ w 0 ≡ 1) × (y ≡ node g w)). inr (q.0, record { k = 1; within = omega arith; edge = edge_early g (3 * v + 1) (omega arith); names = sym ey ∙ q.1 }))
      (marked_either g y sc₁ sc₂ my w)

  pub named_two : word g (3 * v + 2) ≡ mark → NodeMarked g v sc sc₂
  named_two z =
      record {
        same = my.same ∙ mx.same;
        new = λ k h e b. pick k h e b;
        old = two_old;
      }
    where
      no_edge : is_edge g (3 * v + 2) ≡ false
      no_edge = third_xor g v (xor_is g v z)

      pick : (k : ℕ) → k < 3 → is_edge g (3 * v + k) ≡ true → g.I < word g (3 * v + k) / 2 → get_or sc₂ (word g (3 * v + k) / 2 - (g.I + 1)) 0 ≡ 1
      pick zero h e b = named_first b
      pick (suc zero) h e b = named_second b
      pick (suc (suc zero)) h e b = absurd (true≢false (sym e ∙ no_edge))
      pick (suc (suc (suc k))) h e b = absurd (omega arith)

  pub named_three : (z : ℕ) (sc₃ : List ℕ) → word g (3 * v + 2) ≢ mark → z ≡ word g (3 * v + 2) / 2 → Marked g.I z sc₂ sc₃ → NodeMarked g v sc sc₃
  named_three z sc₃ n ez mz =
      record {
        same = mz.same ∙ my.same ∙ mx.same;
        new = λ k h e b. pick k h e b;
        old = λ w.
            ⊎_elim
            (λ (q : get_or sc₃ w 0 ≡ get_or sc₂ w 0).
            ⊎_elim (λ (p : get_or sc₂ w 0 ≡ get_or sc w 0). inl (q ∙ p)) (λ (p : (get_or sc₂ w 0 ≡ 1) × NodeNames g v (node g w)). inr (q ∙ p.0, p.1)) (two_old w))
            (λ (q : (get_or sc₃ w 0 ≡ 1) × (z ≡ node g w)). inr (q.0, record { k = 2; within = omega arith; edge = edge_third g (3 * v + 2) (omega arith) n; names = sym ez ∙ q.1 }))
            (marked_either g z sc₂ sc₃ mz w);
      }
    where
      pick : (k : ℕ) → k < 3 → is_edge g (3 * v + k) ≡ true → g.I < word g (3 * v + k) / 2 → get_or sc₃ (word g (3 * v + k) / 2 - (g.I + 1)) 0 ≡ 1
      pick zero h e b = marked_up g z sc₂ sc₃ mz _ (named_first b)
      pick (suc zero) h e b = marked_up g z sc₂ sc₃ mz _ (named_second b)
      pick (suc (suc zero)) h e b = rw ez at (mz.new (rw ez b))
      pick (suc (suc (suc k))) h e b = absurd (omega arith)
