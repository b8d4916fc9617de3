-- The index from which a way leads on, of one node: chosen word by word; and what is stored of it keeps what scratch tells true. From the
-- laws on leaks.
use mathlib.Core.Path.{◌≡◌, refl, sym, ◌∙◌}
use mathlib.Core.Bool.{true}
use mathlib.Core.Logic.{⊎_elim, ◌≢◌, ◌⊎◌, inl, inr}
use mathlib.Core.List.{List, []}
use Prim.Native.Nat.{ℕ, ◌+◌, ◌-◌, ◌*◌, ◌/◌, ◌≤◌, ◌<◌}
use native.Mathlib.Omega.{arith}
use native.Mathlib.Nat.{eq-or-lt_of_le}
use Rattle.graph.specs.Admission.{Admitted}
use Rattle.graph.specs.Graph.{Graph, node, word, is_edge}
use Rattle.graph.specs.Inner.{Names}
use Rattle.graph.proofs.Cases.{lt_or_le, eq_or_ne}
use Rattle.graph.proofs.Edge.{edge_early}
use Rattle.state.specs.State.{field}
use Rattle.trees.specs.Filling.{Stored}
use Rattle.hidden.specs.Truth.{Triple, leak, truth}
use Rattle.hidden.proofs.Ways.{way_leaks, reader_leaks}
use Rattle.hidden.specs.Ways.{Reads}
use Rattle.majority_call.specs.Valuing.{is_valued, Facts}
use Rattle.finder.specs.Living.{NodeNames}
use Rattle.finder.specs.Ways.{Open, Chosen, Leading, Led}
use Rattle.finder.specs.Passing.{Clean}
use Rattle.finder.proofs.Named.{first_named, second_named}

-- by one test
pub open_input : (i : ℕ) (sc : List ℕ) (u : ℕ) → u ≢ 0 → u ≤ i → Open i sc u
open_input i sc u n h = record { some = omega arith; way = λ k. absurd (omega arith) }

pub open_node : (i : ℕ) (sc : List ℕ) (u w x : ℕ) → u ≢ 0 → w ≡ u - i - 1 → x ≡ field sc w 0 → 1 < x → Open i sc u
open_node i sc u w x n e q h = let p : u - (i + 1) ≡ w = omega arith in record { some = omega arith; way = λ k. rw (p, ← q) h }

pub chosen_open : (i : ℕ) (sc : List ℕ) (was u r : ℕ) → Open i sc u → (r ≡ was) ⊎ (r ≡ u) → Chosen i sc was u r
chosen_open i sc was u r o c = ⊎_elim (λ (e : r ≡ was). inl e) (λ (e : r ≡ u). inr (e, o)) c

module _ (g : Graph) (sc : List ℕ) (v : ℕ) where
  pub leading_none : Leading g sc v 0
  leading_none = record { below = omega arith; names = λ n. absurd (n refl); opens = λ n. absurd (n refl) }

  -- one word more
  pub leading_more : (was j u r : ℕ) → Leading g sc v was → (k : ℕ) → k < 3 → j ≡ 3 * v + k → is_edge g j ≡ true → u ≡ word g j / 2 → u < node g v → Chosen g.I sc was u r → Leading g sc v r
  leading_more was j u r l k b p e q h c =
      ⊎_elim (λ (z : r ≡ was). rw z l)
      (λ (z : (r ≡ u) × Open g.I sc u).
      rw z.0 (record { below = h; names = λ n. record { k = k; within = b; edge = rw (← p) e; names = rw (← p) (sym q) }; opens = λ n. z.1 }))
      c

-- by what is read of two words
module _ (g : Graph) (adm : Admitted g) (sc : List ℕ) (v : ℕ) (h : v < g.N) where
  pub leading_first : (x r : ℕ) → Names (word g (3 * v)) x → Chosen g.I sc 0 x r → Leading g sc v r
  leading_first x r n e =
      let k = first_named g adm v x h n in
      leading_more g sc v 0 (3 * v) x r (leading_none g sc v) 0 (omega arith) (omega arith) (edge_early g (3 * v) (omega arith)) k.0 k.1 e

  pub leading_second : (x y r q : ℕ) → Names (word g (3 * v)) x → Chosen g.I sc 0 x r → Names (word g (3 * v + 1)) y → Chosen g.I sc r y q → Leading g sc v q
  leading_second x y r q n e o f =
      let k = second_named g adm v y h o in
      leading_more g sc v r (3 * v + 1) y q (leading_first x r n e) 1 (omega arith) refl (edge_early g (3 * v + 1) (omega arith)) k.0 k.1 f

-- an open index leaks over all that is above it
module _ (g : Graph) (adm : Admitted g) (sc : List ℕ) (f : Facts g sc) (u : ℕ) (h : u < node g g.N) (o : Open g.I sc u) (t : Triple) where
  pub open_leaks : u < t.one → t.one < t.two → t.two < t.three → truth g t u ≡ leak
  open_leaks a b c =
      ⊎_elim
      (λ (k : g.I < u).
      let e : node g (u - (g.I + 1)) ≡ u = omega arith in
      rw e at (f.way (u - (g.I + 1)) t (omega arith) (o.way k) (rw e a) b c))
      (λ (k : u ≤ g.I). way_leaks g adm t u [] (o.some, k) (record { one = λ e. omega arith; two = λ e. omega arith; three = λ e. omega arith }))
      (lt_or_le g.I u)

pub names_reads : (g : Graph) (v j : ℕ) → v < g.N → NodeNames g v j → Reads g (node g v) j
names_reads g v j h n = record { v = v; within = h; is = refl; k = n.k; word_of = n.within; edge = n.edge; names = n.names }

names_below : (g : Graph) (adm : Admitted g) (v j : ℕ) → v < g.N → NodeNames g v j → j < node g v
names_below g adm v j h n = omega (arith, n.names, n.within, adm.below (3 * v + n.k) (omega (arith, n.within)) n.edge)

-- what is stored of node v
module _ (g : Graph) (adm : Admitted g) (v : ℕ) (h : v < g.N) (sc sc' : List ℕ) (c : Clean g v sc) (low : ℕ) (lead : Leading g sc v low) (s : Stored v 0 (2 * low) sc sc') where
  other : (w f : ℕ) → f < 8 → (w ≢ v) ⊎ (0 < f) → field sc' w f ≡ field sc w f
  other w f b d = s.old (8 * w + f) (λ z. ⊎_elim (λ (n : w ≢ v). n (omega arith)) (λ (p : 0 < f). omega arith) d)

  open_still : (u : ℕ) → u < node g v → Open g.I sc u → Open g.I sc' u
  open_still u b o = record { some = o.some; way = λ k. rw (other (u - (g.I + 1)) 0 (omega arith) (inl (λ z. omega arith))) (o.way k) }

  here : field sc' v 0 ≡ 2 * low
  here = s.new

  stored_clean : Clean g (v + 1) sc'
  unfolding is_valued
  stored_clean =
      record {
        facts = record {
          valued = λ w t b p e.
              let two = other w 2 (omega arith) (inr (omega arith)) in
              let three = other w 3 (omega arith) (inr (omega arith)) in
              let four = other w 4 (omega arith) (inr (omega arith)) in
              other w 5 (omega arith) (inr (omega arith)) ∙ c.facts.valued w t b p (rw (two, three, four) at e);
          way = λ w t b k.
              ⊎_elim
              (λ (q : w ≡ v). rw q (leaks_here t (rw q at k)))
              (λ (n : w ≢ v). c.facts.way w t b (rw (other w 0 (omega arith) (inl n)) at k))
              (eq_or_ne w v);
        };
        room = omega (arith, c.room, s.same);
        empty = λ w b k. other w 2 (omega arith) (inr (omega arith)) ∙ c.empty w (omega arith) k;
        high = λ w b k. other w 0 (omega arith) (inl (λ z. omega arith)) ∙ c.high w (omega arith) k;
        names = λ w b k. ⊎_elim (λ (q : w ≡ v). rw q (names_here (rw q at k))) (λ (p : w < v). names_old w p k) (eq-or-lt_of_le (omega arith));
        opens = λ w b k. ⊎_elim (λ (q : w ≡ v). rw q (opens_here (rw q at k))) (λ (p : w < v). opens_old w p k) (eq-or-lt_of_le (omega arith));
      }
    where
      some : 1 < field sc' v 0 → low ≢ 0
      some k e = omega (arith, here)

      half : field sc' v 0 / 2 ≡ low
      half = omega (arith, here)

      leaks_here : (t : Triple) → 1 < field sc' v 0 → node g v < t.one → t.one < t.two → t.two < t.three → truth g t (node g v) ≡ leak
      leaks_here t k a b d =
          let n = lead.names (some k) in
          reader_leaks g adm t (node g v) low (names_reads g v low h n) (record { one = λ e. omega arith; two = λ e. omega arith; three = λ e. omega arith })
          (open_leaks g adm sc c.facts low (omega (arith, lead.below)) (lead.opens (some k)) t (omega (arith, lead.below)) b d)

      names_here : 1 < field sc' v 0 → NodeNames g v (field sc' v 0 / 2)
      names_here k = rw half (lead.names (some k))

      opens_here : 1 < field sc' v 0 → Open g.I sc' (field sc' v 0 / 2)
      opens_here k = rw half (open_still low lead.below (lead.opens (some k)))

      names_old : (w : ℕ) → w < v → 1 < field sc' w 0 → NodeNames g w (field sc' w 0 / 2)
      names_old w p k = let e = other w 0 (omega arith) (inl (λ z. omega arith)) in rw e (c.names w p (rw e at k))

      opens_old : (w : ℕ) → w < v → 1 < field sc' w 0 → Open g.I sc' (field sc' w 0 / 2)
      opens_old w p k =
          let e = other w 0 (omega arith) (inl (λ z. omega arith)) in
          let q = rw e at k in
          rw e (open_still (field sc w 0 / 2) (omega (arith, names_below g adm w (field sc w 0 / 2) (omega arith) (c.names w p q))) (c.opens w p q))

-- field 6 may be anything
counted_clean : (g : Graph) (n v x : ℕ) (sc sc' : List ℕ) → Clean g n sc → Stored v 6 x sc sc' → Clean g n sc'
unfolding is_valued
counted_clean g n v x sc sc' c s =
    record {
      facts = record {
        valued = λ w t b p e. other w 5 (omega arith) (λ z. omega arith) ∙ c.facts.valued w t b p (rw (other w 2 (omega arith) (λ z. omega arith), other w 3 (omega arith) (λ z. omega arith), other w 4 (omega arith) (λ z. omega arith)) at e);
        way = λ w t b k. c.facts.way w t b (rw (first w) at k);
      };
      room = omega (arith, c.room, s.same);
      empty = λ w b k. other w 2 (omega arith) (λ z. omega arith) ∙ c.empty w b k;
      high = λ w b k. first w ∙ c.high w b k;
      names = λ w b k. rw (first w) (c.names w b (rw (first w) at k));
      opens = λ w b k. let o = c.opens w b (rw (first w) at k) in rw (first w) (record { some = o.some; way = λ q. rw (first (field sc w 0 / 2 - (g.I + 1))) (o.way q) });
    }
  where
    other : (w f : ℕ) → f < 8 → f ≢ 6 → field sc' w f ≡ field sc w f
    other w f b d = s.old (8 * w + f) (λ z. d (omega arith))

    first : (w : ℕ) → field sc' w 0 ≡ field sc w 0
    first w = other w 0 (omega arith) (λ z. omega arith)

pub led_clean : (g : Graph) (adm : Admitted g) (v : ℕ) → v < g.N → (sc sc' : List ℕ) → Clean g v sc → Led g v sc sc' → Clean g (v + 1) sc'
led_clean g adm v h sc sc' c l = counted_clean g (v + 1) v l.words l.between sc' (stored_clean g adm v h sc l.between c l.low l.leading l.stored) l.counted
