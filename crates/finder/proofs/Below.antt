-- A node made a majority keeps the truth values of all lower indices, and so the facts about them. By rising index.
use mathlib.Core.Path.{◌≡◌, refl, sym, ap, ◌∙◌}
use mathlib.Core.Bool.{Bool, true, false, ◌&&◌, ◌||◌}
use mathlib.Core.Logic.{⊎_elim, ◌≢◌}
use mathlib.Core.List.{List, [], ◌∷◌}
use Prim.Native.Nat.{ℕ, zero, suc, ◌+◌, ◌-◌, ◌*◌, ◌/◌, ◌≤◌, ◌<◌}
use native.Mathlib.Omega.{arith}
use native.Mathlib.Nat.{eq-or-lt_of_le}
use borrow.Author.Tests.{eqb-true, eq-eqb, ne_eqb}
use lib.Dec.{eqb}
use lib.ListN.{get_or}
use Rattle.graph.specs.Graph.{Graph, node, word, is_xor, is_edge}
use Rattle.graph.specs.Value.{node_value}
use Rattle.graph.proofs.Cases.{true_or_false, lt_or_le, eq_or_ne}
use Rattle.evaluation.specs.Inner.{nodes_of}
use Rattle.state.specs.State.{field}
use Rattle.hidden.specs.Truth.{Triple, leaks, node_byte, over, truth}
use Rattle.hidden.specs.Majority.{is_majority, majority_of, made}
use Rattle.hidden.specs.Find.{near, triples, first_made, is_locked, is_plain, passed}
use Rattle.moves.proofs.Readers.{both_true}
use Rattle.hidden.proofs.Bools.{true_left}
use Rattle.hidden.proofs.Over.{truth_at}
use Rattle.hidden.proofs.Rewired.{rewired_other}
use Rattle.hidden.proofs.Order.{none_left}
use Rattle.hidden.proofs.MajorityCall.{made_same}
use Rattle.hidden.proofs.Pass.{passed_same}
use Rattle.graph.specs.Admission.{Admitted}
use Rattle.trees.specs.Filling.{Stored}
use Rattle.majority_call.specs.Valuing.{is_valued, Facts}
use Rattle.finder.specs.Trying.{Sought}
use Rattle.finder.specs.Passing.{Clean, Becomes, Changed, Stepped}
use Rattle.finder.specs.Living.{NodeNames}
use Rattle.finder.specs.Signs.{Signed, SignSet}
use Rattle.finder.specs.Meeting.{Tells}
use Rattle.finder.specs.Ways.{Open, Led}
use Rattle.finder.proofs.Opens.{led_clean}
use Rattle.finder.proofs.Signatures.{signed_made, signed_framed, signed_kept}

made_other : (g : Graph) (t : Triple) (u j : ℕ) → j / 3 ≢ u - (g.I + 1) → word (made g t u) j ≡ word g j
unfolding made majority_of
made_other g t u j n = rewired_other g (u - (g.I + 1)) _ _ _ j n

pub first_other : (g : Graph) (u j : ℕ) → j / 3 ≢ u - (g.I + 1) → (ts : List Triple) → word (first_made g u ts) j ≡ word g j
unfolding first_made
first_other g u j n [] = refl
first_other g u j n (t ∷ ts) =
    ⊎_elim
    (λ (e : is_majority (truth g t u) ≡ true). rw e (made_other g t u j n))
    (λ (e : is_majority (truth g t u) ≡ false). rw e (first_other g u j n ts))
    (true_or_false (is_majority (truth g t u)))

module _ (i n : ℕ) (ns ms : List ℕ) (v : ℕ) (same : (j : ℕ) → j < 3 * v → get_or ms j 0 ≡ get_or ns j 0) where
  over_below : (t : Triple) (k : ℕ) → k ≤ v → over (nodes_of i n ms) t k ≡ over (nodes_of i n ns) t k
  unfolding over node_byte leaks is_edge node_value is_xor
  over_below t zero h = refl
  over_below t (suc k) h =
      let d : 3 * k + 0 ≡ 3 * k = omega arith in
      rw (over_below t k (omega arith), d, same (3 * k) (omega arith), same (3 * k + 1) (omega arith), same (3 * k + 2) (omega arith))

  pub truth_below : (t : Triple) → v ≤ n → (w : ℕ) → w < v → truth (nodes_of i n ms) t (i + 1 + w) ≡ truth (nodes_of i n ns) t (i + 1 + w)
  truth_below t h w b =
      truth_at (nodes_of i n ms) t v h (i + 1 + w) (omega arith) ∙ ap (λ (l : List ℕ). get_or l (i + 1 + w) 0) (over_below t v (omega arith)) ∙ sym (truth_at (nodes_of i n ns) t v h (i + 1 + w) (omega arith))

  pub facts_below : v ≤ n → (sc : List ℕ) → Facts (nodes_of i n ns) sc → ((w : ℕ) → v ≤ w → w < n → field sc w 2 ≡ 0) → ((w : ℕ) → v ≤ w → w < n → field sc w 0 ≡ 0) → Facts (nodes_of i n ms) sc
  unfolding is_valued
  facts_below h sc f empty high =
      record {
        valued = λ w t b p e.
            ⊎_elim
            (λ (q : w < v). f.valued w t b p e ∙ sym (truth_below t h w q))
            (λ (q : v ≤ w).
            let z = both_true (eqb (field sc w 2) t.one) (eqb (field sc w 3) t.two && eqb (field sc w 4) t.three) e in
            absurd (omega (arith, eqb-true (field sc w 2) t.one z.0, empty w q b)))
            (lt_or_le w v);
        way = λ w t b k a c d.
            ⊎_elim (λ (q : w < v). truth_below t h w q ∙ f.way w t b k a c d) (λ (q : v ≤ w). absurd (omega (arith, k, high w q b))) (lt_or_le w v);
      }

  -- what a lower node names
  pub names_still : (w j : ℕ) → w < v → NodeNames (nodes_of i n ns) w j → NodeNames (nodes_of i n ms) w j
  unfolding is_edge
  names_still w j h a =
      let e : get_or ms (3 * w + a.k) 0 ≡ get_or ns (3 * w + a.k) 0 = same (3 * w + a.k) (omega (arith, a.within)) in
      record { k = a.k; within = a.within; edge = rw e a.edge; names = rw e a.names }

-- what is kept of node v forgotten
facts_forget : (g : Graph) (v : ℕ) (sc sc' : List ℕ) → Facts g sc → Stored v 2 0 sc sc' → Facts g sc'
unfolding is_valued
facts_forget g v sc sc' f s =
    record {
      valued = λ w t b p e.
          ⊎_elim
          (λ (q : w ≡ v).
          let z = both_true (eqb (field sc' w 2) t.one) (eqb (field sc' w 3) t.two && eqb (field sc' w 4) t.three) e in
          let y : field sc' w 2 ≡ 0 = rw q s.new in
          absurd (omega (arith, eqb-true (field sc' w 2) t.one z.0, y)))
          (λ (q : w ≢ v).
          let two = s.old (8 * w + 2) (λ z. q (omega arith)) in
          let three = s.old (8 * w + 3) (λ z. omega arith) in
          let four = s.old (8 * w + 4) (λ z. omega arith) in
          s.old (8 * w + 5) (λ z. omega arith) ∙ f.valued w t b p (rw (two, three, four) at e))
          (eq_or_ne w v);
      way = λ w t b k. f.way w t b (rw (s.old (8 * w + 0) (λ z. omega arith)) at k);
    }

-- signatures of the same graph
signed_is : (g k : Graph) → g ≡ k → (n : ℕ) (sc : List ℕ) → Signed k n sc → Signed g n sc
signed_is g k e n sc s = rw e s

-- a signature stored
pub signed_clean : (g : Graph) (v : ℕ) (sc sc' : List ℕ) → Clean g v sc → SignSet g v sc sc' → Clean g v sc'
unfolding is_valued
signed_clean g v sc sc' c s =
    record {
      facts = record {
        valued = λ w t b p e. other w 5 (omega arith) ∙ c.facts.valued w t b p (rw (other w 2 (omega arith), other w 3 (omega arith), other w 4 (omega arith)) at e);
        way = λ w t b k. c.facts.way w t b (rw (other w 0 (omega arith)) at k);
      };
      room = omega (arith, c.room, s.same);
      empty = λ w b k. other w 2 (omega arith) ∙ c.empty w b k;
      high = λ w b k. other w 0 (omega arith) ∙ c.high w b k;
      names = λ w b k. rw (other w 0 (omega arith)) (c.names w b (rw (other w 0 (omega arith)) at k));
      opens = λ w b k. rw (other w 0 (omega arith)) (open_still (field sc w 0 / 2) (c.opens w b (rw (other w 0 (omega arith)) at k)));
    }
  where
    other : (w f : ℕ) → f < 7 → field sc' w f ≡ field sc w f
    other w f h = s.kept (8 * w + f) (λ e. omega arith)

    open_still : (u : ℕ) → Open g.I sc u → Open g.I sc' u
    open_still u o = record { some = o.some; way = λ k. rw (other (u - (g.I + 1)) 0 (omega arith)) (o.way k) }

module _ (i n : ℕ) (ns ls sc : List ℕ) (v : ℕ) (h : v < n) (adm : Admitted (nodes_of i n ns)) (c : Clean (nodes_of i n ns) v sc) (signed : Signed (nodes_of i n ns) (v + 1) sc) where
  pub changed_left : (is_locked ls v || is_plain (nodes_of i n ns) v) ≡ true → Changed (nodes_of i n ns) ls v ns sc
  changed_left e = record { table = rw e; admitted = adm; clean = c; signed = signed }

  module _ (f : ℕ) (t : Triple) (ns' sc' sc'' : List ℕ) (e : (is_locked ls v || is_plain (nodes_of i n ns) v) ≡ false)
      (s : Sought (nodes_of i n ns) v (triples (near (nodes_of i n ns) (i + 1 + v))) [] f t sc sc') (b : Becomes (nodes_of i n ns) v f t ns') (z : Stored v 2 0 sc' sc'') where
    ts : List Triple
    ts = triples (near (nodes_of i n ns) (i + 1 + v))

    new_table : nodes_of i n ns' ≡ first_made (nodes_of i n ns) (i + 1 + v) ts
    unfolding ts
    new_table =
        ⊎_elim (λ (q : f < 256). b.changed q ∙ sym (s.found q))
        (λ (q : 256 ≤ f). ap (nodes_of i n) (b.kept q) ∙ sym (none_left (nodes_of i n ns) (i + 1 + v)) ∙ s.left q)
        (lt_or_le f 256)

    lower : (j : ℕ) → j < 3 * v → get_or ns' j 0 ≡ get_or ns j 0
    lower j k = ap (λ (g : Graph). word g j) new_table ∙ first_other (nodes_of i n ns) (i + 1 + v) j (λ q. omega arith) ts

    empties : (w : ℕ) → v ≤ w → w < n → field sc'' w 2 ≡ 0
    empties w d k =
        ⊎_elim (λ (q : w ≡ v). rw q z.new)
        (λ (q : w ≢ v). z.old (8 * w + 2) (λ p. q (omega arith)) ∙ s.framed.above (8 * w + 2) (beyond w v d q) ∙ c.empty w d k)
        (eq_or_ne w v)
      where
        beyond : (w v : ℕ) → v ≤ w → w ≢ v → 8 * v + 6 ≤ 8 * w + 2
        beyond w v b q = ⊎_elim (λ (p : w < v). absurd (omega arith)) (λ (p : v ≤ w). ⊎_elim (λ (x : v ≡ w). absurd (q (sym x))) (λ (x : v < w). omega arith) (eq-or-lt_of_le p)) (lt_or_le w v)

    admitted_still : Admitted (nodes_of i n ns')
    admitted_still =
        ⊎_elim
        (λ (q : f < 256).
        let a = s.gives q in
        rw (b.changed q) (made_same (nodes_of i n ns) adm t (i + 1 + v) (omega arith) (omega arith) a.rising (ap is_majority (sym a.value) ∙ a.majority)).keeps.admitted)
        (λ (q : 256 ≤ f). rw (b.kept q) adm)
        (lt_or_le f 256)

    signed_still : Signed (nodes_of i n ns') (v + 1) sc''
    signed_still =
        let k = signed_kept (nodes_of i n ns) (v + 1) v 2 0 sc' sc'' (omega arith) z (signed_framed (nodes_of i n ns) (v + 1) v sc sc' s.framed signed) in
        ⊎_elim
        (λ (q : f < 256).
        let a = s.gives q in
        signed_is (nodes_of i n ns') (made (nodes_of i n ns) t (i + 1 + v)) (b.changed q) (v + 1) sc'' (signed_made (nodes_of i n ns) adm t v h a.rising (ap is_majority (sym a.value) ∙ a.majority) (v + 1) (omega arith) sc'' k))
        (λ (q : 256 ≤ f). rw (b.kept q) k)
        (lt_or_le f 256)

    first : (w : ℕ) → field sc'' w 0 ≡ field sc w 0
    first w = z.old (8 * w + 0) (λ p. omega arith) ∙ s.framed.first w

    highs : (w : ℕ) → v ≤ w → w < n → field sc'' w 0 ≡ 0
    highs w d k = first w ∙ c.high w d k

    open_still : (u : ℕ) → Open i sc u → Open i sc'' u
    open_still u o = record { some = o.some; way = λ k. rw (first (u - (i + 1))) (o.way k) }

    pub changed_tried : Changed (nodes_of i n ns) ls v ns' sc''
    unfolding ts
    changed_tried =
        record {
          table = rw e new_table;
          admitted = admitted_still;
          clean = record {
            facts = facts_below i n ns ns' v lower (omega arith) sc'' (facts_forget (nodes_of i n ns) v sc' sc'' s.facts z) empties highs;
            room = omega (arith, c.room, s.framed.same, z.same);
            empty = empties;
            high = highs;
            names = λ w p k. rw (first w) (names_still i n ns ns' v lower w (field sc w 0 / 2) p (c.names w p (rw (first w) at k)));
            opens = λ w p k. rw (first w) (open_still (field sc w 0 / 2) (c.opens w p (rw (first w) at k)));
          };
          signed = signed_still;
        }

-- a node made, or left
module _ (g : Graph) (v f : ℕ) (t : Triple) where
  pub becomes_made : (ns : List ℕ) → f < 256 → nodes_of g.I g.N ns ≡ made g t (node g v) → Becomes g v f t ns
  becomes_made ns h e = record { changed = λ k. e; kept = λ k. absurd (omega arith) }

-- by what is read
pub locked_here : (ls : List ℕ) (v w : ℕ) (p : Bool) → w ≡ v → get_or ls w 0 ≡ 1 → (is_locked ls v || p) ≡ true
unfolding is_locked
locked_here ls v w p e q = let z : get_or ls v 0 ≡ 1 = rw e at q in true_left (eqb (get_or ls v 0) 1) p (eq-eqb (get_or ls v 0) 1 z)

pub free_here : (g : Graph) (ls : List ℕ) (v w : ℕ) (r p : Bool) → w ≡ v → get_or ls w 0 ≢ 1 → r ≡ is_plain g w → r ≡ p → (is_locked ls v || is_plain g v) ≡ p
unfolding is_locked
free_here g ls v w r p e q a b = let z : get_or ls v 0 ≢ 1 = rw e at q in rw (ne_eqb (get_or ls v 0) 1 z) (ap (is_plain g) (sym e) ∙ sym a ∙ b)

-- with its way down
pub stepped : (g : Graph) (ls : List ℕ) (v : ℕ) (ns sc sc' : List ℕ) → v < g.N → Changed g ls v ns sc → Led (nodes_of g.I g.N ns) v sc sc' → Stepped g ls v ns sc'
stepped g ls v ns sc sc' h c l =
    record {
      table = c.table;
      clean = led_clean (nodes_of g.I g.N ns) c.admitted v h sc sc' c.clean l;
      signed = signed_kept (nodes_of g.I g.N ns) (v + 1) v 6 _ l.between sc' (omega arith) l.counted (signed_kept (nodes_of g.I g.N ns) (v + 1) v 0 _ sc l.between (omega arith) l.stored c.signed);
    }

-- the pass, node by node
pub passed_none : (g : Graph) (ls : List ℕ) → g ≡ passed g ls 0
unfolding passed
passed_none g ls = refl

module _ (i n : ℕ) (ns₀ ls ns : List ℕ) (v : ℕ) (e : nodes_of i n ns ≡ passed (nodes_of i n ns₀) ls v) where
  pub passed_next : (ns' sc' : List ℕ) → Stepped (nodes_of i n ns) ls v ns' sc' → nodes_of i n ns' ≡ passed (nodes_of i n ns₀) ls (v + 1)
  unfolding passed
  passed_next ns' sc' s = let q : v + 1 ≡ suc v = omega arith in rw (q, ← e) s.table

  pub passed_admitted : Admitted (nodes_of i n ns₀) → v ≤ n → Admitted (nodes_of i n ns)
  passed_admitted adm h = rw e (passed_same (nodes_of i n ns₀) ls adm v h).keeps.admitted

-- what scratch tells of ways, of every node
pub clean_tells : (g : Graph) (v : ℕ) (sc : List ℕ) → Clean g v sc → Tells g sc
clean_tells g v sc c w h k =
    ⊎_elim (λ (q : w < v). c.names w q k) (λ (q : v ≤ w). absurd (omega (arith, c.high w q h))) (lt_or_le w v)
