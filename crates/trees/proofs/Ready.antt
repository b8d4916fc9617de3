-- Scratch that has the places and links of a graph, and what is known of a tree's nodes from it. States in order give such
-- scratch, for the graph that they stand for; costs stored change nothing of that. From the laws on readers, roots and states.
use mathlib.Core.Path.{◌≡◌, refl, sym, ap, ◌∙◌}
use mathlib.Core.Bool.{true, false, not, ◌&&◌}
use mathlib.Core.List.{List}
use mathlib.Core.Logic.{⊎_elim, ◌≢◌}
use Prim.Native.Nat.{ℕ, ◌+◌, ◌-◌, ◌*◌, ◌/◌, ◌≤◌, ◌<◌}
use native.Mathlib.Omega.{arith}
use borrow.Author.Tests.{eq-eqb, ne_eqb, le-ltb, ltb-true, not-true}
use lib.Dec.{ltb}
use Rattle.graph.specs.Graph.{Graph, node, word, is_edge}
use Rattle.graph.specs.Count.{readers}
use Rattle.graph.specs.Turned.{turned_by}
use Rattle.graph.specs.Admission.{Admitted}
use Rattle.graph.proofs.Cases.{true_or_false, lt_or_le}
use Rattle.moves.specs.Tree.{is_root, root_of}
use Rattle.moves.specs.Cost.{inner}
use Rattle.moves.proofs.Readers.{both_true, root_of_inner, reader_is}
use Rattle.graph.specs.Literals.{bit}
use Rattle.state.specs.State.{field, stands, Linked, Ordered}
use Rattle.state.proofs.Alike.{alike_readers, alike_is_root, alike_place, alike_linked}
use Rattle.state.proofs.Stands.{stands_alike, stands_admitted, stands_same}
use Rattle.trees.specs.Linking.{Placed}
use Rattle.trees.specs.Costing.{inner_at, CostsOnly}
use Rattle.trees.proofs.LinkSteps.{placed_root, placed_low}

pub record Ready (h : Graph) (sc : List ℕ) : Type 0 where
  pub admitted : Admitted h
  pub reads : (v : ℕ) → v < h.N → field sc v 0 ≡ readers h (node h v)
  pub placed : Placed h sc
  pub linked : Linked h sc

pub stands_I : (g : Graph) (sc : List ℕ) → (stands g sc).I ≡ g.I
unfolding stands turned_by
stands_I g sc = refl

pub stands_N : (g : Graph) (sc : List ℕ) → (stands g sc).N ≡ g.N
unfolding stands turned_by
stands_N g sc = refl

pub ordered_ready : (g : Graph) (sc : List ℕ) → Ordered g sc → Ready (stands g sc) sc
ordered_ready g sc o =
    let a = stands_alike g sc o.admitted in
    record {
      admitted = stands_admitted g sc o.admitted;
      reads = λ v h. rw (alike_readers g (stands g sc) a (node (stands g sc) v), stands_I g sc) (o.reads v (rw (stands_N g sc) at h));
      placed = λ v h. rw (alike_is_root g (stands g sc) a (node (stands g sc) v), alike_place g (stands g sc) a (node (stands g sc) v), stands_I g sc) (o.placed v (rw (stands_N g sc) at h));
      linked = alike_linked g (stands g sc) a sc sc (record { long = refl; others = λ v f l p q. refl }) o.linked;
    }

-- and for the tables' own
pub ordered_itself : (g : Graph) (sc : List ℕ) → Ordered g sc → Ready g sc
ordered_itself g sc o = record { admitted = o.admitted; reads = o.reads; placed = o.placed; linked = o.linked }

-- the links and places are all that counts
pub linked_kept : (h : Graph) (sc sc' : List ℕ) → ((v f : ℕ) → 5 ≤ f → f < 8 → field sc' v f ≡ field sc v f) → Linked h sc → Linked h sc'
linked_kept h sc sc' k l =
    let five : (v : ℕ) → field sc' v 5 ≡ field sc v 5 = λ v. k v 5 (omega arith) (omega arith) in
    let six : (v : ℕ) → field sc' v 6 ≡ field sc v 6 = λ v. k v 6 (omega arith) (omega arith) in
    let seven : (v : ℕ) → field sc' v 7 ≡ field sc v 7 = λ v. k v 7 (omega arith) (omega arith) in
    record {
      lower = λ v b e. rw (five v) (l.lower v b (rw (five v) at e));
      no_lower = λ v b e x p. l.no_lower v b (rw (five v) at e) x p;
      higher = λ v b e. rw (six v) (l.higher v b (rw (six v) at e));
      no_higher = λ v b e. l.no_higher v b (rw (six v) at e);
      lowest = λ v b e. rw (seven v) (l.lowest v b e);
      no_lowest = λ v b e x p. l.no_lowest v b e x (rw (seven v) at p);
    }

pub ready_kept : (h : Graph) (sc sc' : List ℕ) → ((v f : ℕ) → f < 8 → f ≢ 1 → f ≢ 2 → f ≢ 4 → field sc' v f ≡ field sc v f) → Ready h sc → Ready h sc'
ready_kept h sc sc' k r =
    record {
      admitted = r.admitted;
      reads = λ v l. k v 0 (omega arith) (λ e. omega arith) (λ e. omega arith) (λ e. omega arith) ∙ r.reads v l;
      placed = λ v l. k v 3 (omega arith) (λ e. omega arith) (λ e. omega arith) (λ e. omega arith) ∙ r.placed v l;
      linked = linked_kept h sc sc' (λ v f a b. k v f b (λ e. omega arith) (λ e. omega arith) (λ e. omega arith)) r.linked;
    }

-- only costs differ
module _ (g : Graph) (sc sc' : List ℕ) (co : CostsOnly sc sc') where
  pub field_kept : (v f : ℕ) → f < 8 → f ≢ 4 → field sc' v f ≡ field sc v f
  field_kept v f l d = co.kept (8 * v + f) (λ e. d (omega arith))

  pub stands_costs : stands g sc' ≡ stands g sc
  stands_costs = stands_same g sc sc' (λ v. field_kept v 2 (omega arith) (λ e. omega arith))

  pub ordered_costs : Ordered g sc → Ordered g sc'
  ordered_costs o =
      record {
        admitted = o.admitted;
        long = omega (arith, o.long, co.same);
        reads = λ v h. field_kept v 0 (omega arith) (λ e. omega arith) ∙ o.reads v h;
        odd = λ v h. rw stands_costs (field_kept v 1 (omega arith) (λ e. omega arith) ∙ o.odd v h);
        marks = λ v h x. ap (bit 3) (field_kept v 2 (omega arith) (λ e. omega arith)) ∙ o.marks v h x;
        placed = λ v h. field_kept v 3 (omega arith) (λ e. omega arith) ∙ o.placed v h;
        linked = linked_kept g sc sc' (λ v f a b. field_kept v f b (λ e. omega arith)) o.linked;
      }

  pub ready_costs : (h : Graph) → Ready h sc → Ready h sc'
  ready_costs h = ready_kept h sc sc' (λ v f l p q d. field_kept v f l d)

-- non-roots as scratch tells them
module _ (h : Graph) (sc : List ℕ) (rd : Ready h sc) where
  pub inner_same : (u : ℕ) → u < node h h.N → inner_at h.I sc u ≡ inner h u
  unfolding inner_at inner
  inner_same u l =
      ⊎_elim
      (λ (a : h.I < u).
      let v : ℕ = u - (h.I + 1) in
      let q : node h v ≡ u = omega arith in
      ap (λ x. ltb h.I u && not x)
      (⊎_elim
      (λ (e : is_root h u ≡ true). eq-eqb _ _ (placed_root h rd.admitted sc rd.placed v (omega arith) (rw q e)) ∙ sym e)
      (λ (e : is_root h u ≡ false). ne_eqb _ _ (placed_low h rd.admitted sc rd.placed v (omega arith) (rw q e)) ∙ sym e)
      (true_or_false (is_root h u))))
      (λ (a : u ≤ h.I). rw (le-ltb h.I u a))
      (lt_or_le h.I u)

module _ (h : Graph) (adm : Admitted h) where
  -- a non-root that a word of v names is in v's tree, below it
  pub named_below : (v i : ℕ) → v < h.N → i < 3 → is_edge h (3 * v + i) ≡ true → word h (3 * v + i) / 2 < node h v
  named_below v i l k e = omega (arith, adm.below (3 * v + i) (omega arith) e)

  pub named_in : (v i : ℕ) → v < h.N → i < 3 → is_edge h (3 * v + i) ≡ true → inner h (word h (3 * v + i) / 2) ≡ true
      → (h.I < word h (3 * v + i) / 2) × (root_of h (word h (3 * v + i) / 2) ≡ root_of h (node h v))
  unfolding inner
  named_in v i l k e t =
      let u : ℕ = word h (3 * v + i) / 2 in
      let b = both_true (ltb h.I u) (not (is_root h u)) t in
      let n : is_root h u ≡ false = not-true _ b.1 in
      let a : h.I < u = ltb-true h.I u b.0 in
      let w = named_below v i l k e in
      (a, root_of_inner h adm u a (omega arith) n ∙ ap (root_of h) (reader_is h adm u v n i k l e refl))
