-- The stack in scratch: a link stored below it makes it longer, a value stored at its lowest node leaves it, and each value stored leaves
-- one node less without. From the definitions.
use mathlib.Core.Path.{◌≡◌, refl, sym, ◌∙◌}
use mathlib.Core.Bool.{true, false, cond, ◌&&◌}
use mathlib.Core.Logic.{⊎_elim, inl, inr, ◌⊎◌, ◌≢◌}
use mathlib.Core.List.{List, [], ◌∷◌}
use Prim.Native.Nat.{ℕ, ◌+◌, ◌-◌, ◌*◌, ◌≤◌, ◌<◌}
use native.Mathlib.Omega.{arith}
use borrow.Author.Tests.{eqb-true, eq-eqb}
use lib.Dec.{eqb}
use Rattle.graph.specs.Finite.{count}
use Rattle.graph.specs.Graph.{Graph, node}
use Rattle.graph.proofs.Cases.{eq_or_ne, lt_or_le}
use Rattle.graph.proofs.Finite.{sum_but_one}
use Rattle.state.specs.State.{field}
use Rattle.trees.specs.Filling.{Stored}
use Rattle.hidden.specs.Truth.{Triple, triple, truth}
use Rattle.moves.proofs.Readers.{both_true}
use Rattle.hidden.specs.Ways.{Misses}
use Rattle.majority_call.specs.Valuing.{is_valued, Facts, Asked, unknown, Looked, Linked, Stack, Framed, Descended, Stored4, Valued, Truth, unvalued}

-- by its three fields
pub valued_same : (sc sc' : List ℕ) (t : Triple) (w : ℕ) → field sc' w 2 ≡ field sc w 2 → field sc' w 3 ≡ field sc w 3 → field sc' w 4 ≡ field sc w 4 → is_valued sc' t w ≡ is_valued sc t w
unfolding is_valued
valued_same sc sc' t w p q r = rw (p, q, r)

valued_is : (sc : List ℕ) (t : Triple) (w : ℕ) → field sc w 2 ≡ t.one → field sc w 3 ≡ t.two → field sc w 4 ≡ t.three → is_valued sc t w ≡ true
unfolding is_valued
valued_is sc t w p q r = rw (eq-eqb (field sc w 2) t.one p, eq-eqb (field sc w 3) t.two q, eq-eqb (field sc w 4) t.three r)

valued_only : (sc : List ℕ) (s t : Triple) (w : ℕ) → is_valued sc s w ≡ true → field sc w 2 ≡ t.one → field sc w 3 ≡ t.two → field sc w 4 ≡ t.three → s ≡ t
unfolding is_valued
valued_only sc s t w e p q r =
    let a = both_true (eqb (field sc w 2) s.one) (eqb (field sc w 3) s.two && eqb (field sc w 4) s.three) e in
    let b = both_true (eqb (field sc w 3) s.two) (eqb (field sc w 4) s.three) a.1 in
    let x = sym (eqb-true (field sc w 2) s.one a.0) ∙ p in
    let y = sym (eqb-true (field sc w 3) s.two b.0) ∙ q in
    let z = sym (eqb-true (field sc w 4) s.three b.1) ∙ r in
    λ i. record { one = x i; two = y i; three = z i }

-- a stack in which nothing changed
linked_same : (i : ℕ) (sc sc' : List ℕ) (t : Triple) (u v : ℕ) (ps : List ℕ) → field sc' v 1 ≡ field sc v 1
    → ((w : ℕ) → v < w → (field sc' w 1 ≡ field sc w 1) × (is_valued sc' t w ≡ is_valued sc t w)) → Linked i sc t u v ps → Linked i sc' t u v ps
linked_same i sc sc' t u v [] e h l = l
linked_same i sc sc' t u v (p ∷ ps) e h l =
    let s = h p l.0 in
    (l.0, e ∙ l.1, s.1 ∙ l.2, l.3, linked_same i sc sc' t u p ps s.0 (λ w k. h w (omega (arith, l.0))) l.4)

pub framed_none : (v : ℕ) (sc : List ℕ) → Framed v sc sc
framed_none v sc = record { same = refl; above = λ j h. refl; first = λ w. refl; last = λ w f h k. refl }

pub framed_then : (u v : ℕ) (sc sc₁ sc₂ : List ℕ) → v ≤ u → Framed u sc sc₁ → Framed v sc₁ sc₂ → Framed u sc sc₂
framed_then u v sc sc₁ sc₂ h a b =
    record {
      same = b.same ∙ a.same;
      above = λ j k. b.above j (omega arith) ∙ a.above j k;
      first = λ w. b.first w ∙ a.first w;
      last = λ w f k l. b.last w f k l ∙ a.last w f k l;
    }

pub descended_none : (g : Graph) (t : Triple) (v : ℕ) (sc : List ℕ) → is_valued sc t v ≡ false → Misses t (node g v) → Descended g t v v sc sc
descended_none g t v sc e a =
    record { within = omega arith; framed = framed_none v sc; slots = λ w f h k. refl; free = e; apart = a; stack = λ u s. s }

pub descended_next : (g : Graph) (t : Triple) (s v n m : ℕ) (sc₀ sc sc' : List ℕ) → Descended g t s v sc₀ sc → n < v → is_valued sc t n ≡ false → Misses t (node g n)
    → m ≡ v → Stored n 1 m sc sc' → Descended g t s n sc₀ sc'
descended_next g t s v n m sc₀ sc sc' d h e a q st =
    let slots : (w f : ℕ) → 2 ≤ f → f < 8 → field sc' w f ≡ field sc w f = λ w f k l. st.old (8 * w + f) (λ z. omega arith) in
    let value : (w : ℕ) → is_valued sc' t w ≡ is_valued sc t w = λ w. valued_same sc sc' t w (slots w 2 (omega arith) (omega arith)) (slots w 3 (omega arith) (omega arith)) (slots w 4 (omega arith) (omega arith)) in
    let link : (w : ℕ) → v ≤ w → field sc' w 1 ≡ field sc w 1 = λ w k. st.old (8 * w + 1) (λ z. omega arith) in
    record {
      within = omega (arith, d.within);
      framed = framed_then s s sc₀ sc sc' (omega arith) d.framed
          (record {
            same = st.same;
            above = λ j k. st.old j (λ z. omega (arith, z, k, h, d.within));
            first = λ w. st.old (8 * w + 0) (λ z. omega arith);
            last = λ w f k l. slots w f (omega arith) l;
          });
      slots = λ w f k l. slots w f k l ∙ d.slots w f k l;
      free = value n ∙ e;
      apart = a;
      stack = λ u k.
          let l = d.stack u k in
          record {
            waiting = v ∷ l.waiting;
            linked = (h, st.new ∙ q, value v ∙ d.free, d.apart, linked_same g.I sc sc' t u v l.waiting (link v (omega arith)) (λ w b. (link w (omega arith), value w)) l.linked);
          };
    }

pub descended_facts : (g : Graph) (t : Triple) (s v : ℕ) (sc₀ sc : List ℕ) → Descended g t s v sc₀ sc → Facts g sc₀ → Facts g sc
descended_facts g t s v sc₀ sc d f =
    record {
      valued = λ w r h p e.
          d.slots w 5 (omega arith) (omega arith)
          ∙ f.valued w r h p (sym (valued_same sc₀ sc r w (d.slots w 2 (omega arith) (omega arith)) (d.slots w 3 (omega arith) (omega arith)) (d.slots w 4 (omega arith) (omega arith))) ∙ e);
      way = λ w r h p. f.way w r h (rw (d.framed.first w) at p);
    }

-- a value stored at the lowest node
module _ (g : Graph) (t : Triple) (s b x : ℕ) (sc₀ sc sc' : List ℕ) (d : Descended g t s b sc₀ sc) (f : Facts g sc) (e : x ≡ truth g t (node g b)) (st : Stored4 b t x sc sc') where
  other : (w k : ℕ) → w ≢ b → k < 8 → field sc' w k ≡ field sc w k
  other w k n h =
      st.kept (8 * w + k) (⊎_elim (λ (l : w < b). inl (omega arith)) (λ (l : b < w). inr (omega arith)) (less_or w b n))
    where
      less_or : (a b : ℕ) → a ≢ b → (a < b) ⊎ (b < a)
      less_or a b n = ⊎_elim (λ (l : a < b). inl l) (λ (l : b ≤ a). inr (omega arith)) (lt_or_le a b)

  other_valued : (r : Triple) (w : ℕ) → w ≢ b → is_valued sc' r w ≡ is_valued sc r w
  other_valued r w n = valued_same sc sc' r w (other w 2 n (omega arith)) (other w 3 n (omega arith)) (other w 4 n (omega arith))

  slots_valued : (w : ℕ) → is_valued sc t w ≡ is_valued sc₀ t w
  slots_valued w = valued_same sc₀ sc t w (d.slots w 2 (omega arith) (omega arith)) (d.slots w 3 (omega arith) (omega arith)) (d.slots w 4 (omega arith) (omega arith))

  zeroth : (w : ℕ) → field sc' w 0 ≡ field sc w 0
  zeroth w = ⊎_elim (λ (q : w ≡ b). st.kept (8 * w + 0) (inl (omega arith))) (λ (n : w ≢ b). other w 0 n (omega arith)) (eq_or_ne w b)

  late : (w k : ℕ) → 6 ≤ k → k < 8 → field sc' w k ≡ field sc w k
  late w k h l = ⊎_elim (λ (q : w ≡ b). st.kept (8 * w + k) (inr (omega arith))) (λ (n : w ≢ b). other w k n l) (eq_or_ne w b)

  new_facts : Facts g sc'
  new_facts =
      record {
        valued = λ w r h p q.
            ⊎_elim
            (λ (z : w ≡ b).
            let m : is_valued sc' r b ≡ true = rw z at q in
            let y : r ≡ t = valued_only sc' r t b m st.two st.three st.four in
            rw (z, y) (st.five ∙ e))
            (λ (n : w ≢ b). other w 5 n (omega arith) ∙ f.valued w r h p (sym (other_valued r w n) ∙ q))
            (eq_or_ne w b);
        way = λ w r h p. f.way w r h (rw (zeroth w) at p);
      }

  pub valued_now : Valued g t s b sc₀ sc'
  valued_now =
      record {
        within = d.within;
        framed = framed_then s s sc₀ sc sc' (omega arith) d.framed
            (record { same = st.same; above = λ j k. st.kept j (inr (omega (arith, d.within))); first = zeroth; last = late });
        was = sym (slots_valued b) ∙ d.free;
        now = valued_is sc' t b st.two st.three st.four;
        others = λ w n. other_valued t w n ∙ slots_valued w;
        facts = new_facts;
        stack = λ u k.
            let l = d.stack u k in
            record {
              waiting = l.waiting;
              linked = linked_same g.I sc sc' t u b l.waiting (st.kept (8 * b + 1) (inl (omega arith))) (λ w h. (other w 1 (λ z. omega arith) (omega arith), other_valued t w (λ z. omega arith))) l.linked;
            };
      }

-- four stores
pub stored_four : (b one two three x : ℕ) (sc sc₁ sc₂ sc₃ sc₄ : List ℕ) → Stored b 2 one sc sc₁ → Stored b 3 two sc₁ sc₂ → Stored b 4 three sc₂ sc₃ → Stored b 5 x sc₃ sc₄
    → Stored4 b (triple one two three) x sc sc₄
stored_four b one two three x sc sc₁ sc₂ sc₃ sc₄ p q r s =
    record {
      two = s.old (8 * b + 2) (λ z. omega arith) ∙ r.old (8 * b + 2) (λ z. omega arith) ∙ q.old (8 * b + 2) (λ z. omega arith) ∙ p.new;
      three = s.old (8 * b + 3) (λ z. omega arith) ∙ r.old (8 * b + 3) (λ z. omega arith) ∙ q.new;
      four = s.old (8 * b + 4) (λ z. omega arith) ∙ r.new;
      five = s.new;
      kept = λ j h.
          let n : (k : ℕ) → 2 ≤ k → k < 6 → j ≢ 8 * b + k = λ k a l z. ⊎_elim (λ (y : j < 8 * b + 2). omega arith) (λ (y : 8 * b + 6 ≤ j). omega arith) h in
          s.old j (n 5 (omega arith) (omega arith)) ∙ r.old j (n 4 (omega arith) (omega arith)) ∙ q.old j (n 3 (omega arith) (omega arith)) ∙ p.old j (n 2 (omega arith) (omega arith));
      same = s.same ∙ r.same ∙ q.same ∙ p.same;
    }

-- one node less without a value
pub unvalued_less : (sc sc' : List ℕ) (t : Triple) (n b : ℕ) → b < n → is_valued sc t b ≡ false → is_valued sc' t b ≡ true → ((w : ℕ) → w ≢ b → is_valued sc' t w ≡ is_valued sc t w)
    → unvalued sc' t n < unvalued sc t n
unfolding unvalued count
unvalued_less sc sc' t n b h was now others =
    let f : ℕ → ℕ = λ v. cond (cond (is_valued sc' t v) false true) 1 0 in
    let k : ℕ → ℕ = λ v. cond (cond (is_valued sc t v) false true) 1 0 in
    let fb : ◌≡◌ {A = ℕ} (f b) 0 = rw now in
    let kb : ◌≡◌ {A = ℕ} (k b) 1 = rw was in
    omega (arith, fb, kb, sum_but_one n f k b h (λ w l d. rw (others w d)))

-- the loop: from one value to the next, up to u
pub record Rising (g : Graph) (t : Triple) (u v : ℕ) (sc₀ sc : List ℕ) : Type 0 where
  pub framed : Framed u sc₀ sc
  pub facts : Facts g sc
  pub is : is_valued sc t v ≡ true
  pub stack : Stack g.I sc t u v

linked_le : (i : ℕ) (sc : List ℕ) (t : Triple) (u v : ℕ) (ps : List ℕ) → Linked i sc t u v ps → v ≤ u
linked_le i sc t u v [] l = omega arith
linked_le i sc t u v (p ∷ ps) l = omega (arith, l.0, linked_le i sc t u p ps l.4)

pub stack_le : (i : ℕ) (sc : List ℕ) (t : Triple) (u v : ℕ) → Stack i sc t u v → v ≤ u
stack_le i sc t u v s = linked_le i sc t u v s.waiting s.linked

-- who waits for v
pub record Waits (i : ℕ) (sc : List ℕ) (t : Triple) (u p : ℕ) : Type 0 where
  pub free : is_valued sc t p ≡ false
  pub apart : Misses t (i + 1 + p)
  pub stack : Stack i sc t u p

waits_in : (i : ℕ) (sc : List ℕ) (t : Triple) (u v : ℕ) (ps : List ℕ) → Linked i sc t u v ps → v ≢ u → Waits i sc t u (field sc v 1)
waits_in i sc t u v [] l n = absurd (n l)
waits_in i sc t u v (p ∷ ps) l n = rw l.1 (record { free = l.2; apart = l.3; stack = record { waiting = ps; linked = l.4 } })

pub waits : (i : ℕ) (sc : List ℕ) (t : Triple) (u v : ℕ) → Stack i sc t u v → v ≢ u → Waits i sc t u (field sc v 1)
waits i sc t u v s n = waits_in i sc t u v s.waiting s.linked n

pub rising_first : (g : Graph) (t : Triple) (u v : ℕ) (sc sc' : List ℕ) → Valued g t u v sc sc' → Rising g t u v sc sc'
rising_first g t u v sc sc' r = record { framed = r.framed; facts = r.facts; is = r.now; stack = r.stack u (record { waiting = []; linked = refl }) }

pub rising_next : (g : Graph) (t : Triple) (u v p w : ℕ) (sc₀ sc sc' : List ℕ) → Rising g t u v sc₀ sc → Stack g.I sc t u p → Valued g t p w sc sc' → Rising g t u w sc₀ sc'
rising_next g t u v p w sc₀ sc sc' r s x =
    record {
      framed = framed_then u p sc₀ sc sc' (stack_le g.I sc t u p s) r.framed x.framed;
      facts = x.facts;
      is = x.now;
      stack = x.stack u s;
    }

-- on the way down
pub record Going (g : Graph) (t : Triple) (s v : ℕ) (sc₀ sc : List ℕ) (seen : ℕ) : Type 0 where
  pub down : Descended g t s v sc₀ sc
  pub facts : Facts g sc
  pub looked : Looked g sc t v seen

-- the node to go to
pub record Lower (g : Graph) (t : Triple) (v n : ℕ) (sc : List ℕ) : Type 0 where
  pub below : n < v
  pub free : is_valued sc t n ≡ false
  pub apart : Misses t (node g n)

pub lower : (g : Graph) (t : Triple) (s v : ℕ) (sc₀ sc : List ℕ) (seen : ℕ) → Going g t s v sc₀ sc seen → unknown ≤ seen → Lower g t v (seen - unknown - g.I - 1) sc
lower g t s v sc₀ sc seen d h =
    let n = d.looked.next h in
    let p : seen - unknown - g.I - 1 ≡ seen - (g.I + 513) = omega (arith, n.0) in
    let q : node g (seen - unknown - g.I - 1) ≡ seen - unknown = omega (arith, n.0) in
    record { below = omega (arith, n.0, n.1); free = rw p n.2; apart = rw q n.3 }

pub asked_going : (g : Graph) (t : Triple) (sc sc' : List ℕ) → Asked g sc t → Facts g sc' → Asked g sc' t
asked_going g t sc sc' a f = record { facts = f; positive = a.positive; second = a.second; third = a.third }

pub going_first : (g : Graph) (t : Triple) (v : ℕ) (sc : List ℕ) (seen : ℕ) → Facts g sc → is_valued sc t v ≡ false → Misses t (node g v) → Looked g sc t v seen → Going g t v v sc sc seen
going_first g t v sc seen f e a l = record { down = descended_none g t v sc e a; facts = f; looked = l }

-- after a link
pub linked_down : (g : Graph) (t : Triple) (s v n m : ℕ) (sc₀ sc sc' : List ℕ) (seen : ℕ) → Going g t s v sc₀ sc seen → Lower g t v n sc → m ≡ v → Stored n 1 m sc sc' → Facts g sc₀
    → Descended g t s n sc₀ sc' × Facts g sc'
linked_down g t s v n m sc₀ sc sc' seen d l q st f =
    let e = descended_next g t s v n m sc₀ sc sc' d.down l.below l.free l.apart q st in
    (e, descended_facts g t s n sc₀ sc' e f)

-- an index above the triple
pub apart_above : (t : Triple) (x : ℕ) → t.one < t.two → t.two < t.three → t.three < x → Misses t x
apart_above t x p q h = record { one = λ e. omega arith; two = λ e. omega arith; three = λ e. omega arith }

-- the node that waits, by what is read of it
pub waiting_at : (g : Graph) (t : Triple) (u v x p : ℕ) (sc₀ sc : List ℕ) → Rising g t u v sc₀ sc → v ≢ u → x ≡ field sc v 1 → p ≡ x → Waits g.I sc t u p
waiting_at g t u v x p sc₀ sc r n e q = rw (q ∙ e) (waits g.I sc t u v r.stack n)

pub rising_less : (g : Graph) (t : Triple) (u p w : ℕ) (sc sc' : List ℕ) → Stack g.I sc t u p → Valued g t p w sc sc' → unvalued sc' t (u + 1) < unvalued sc t (u + 1)
rising_less g t u p w sc sc' s x =
    unvalued_less sc sc' t (u + 1) w (omega (arith, x.within, stack_le g.I sc t u p s)) x.was x.now x.others

pub truth_was : (g : Graph) (t : Triple) (u r : ℕ) (sc : List ℕ) → Facts g sc → u < g.N → 0 < t.one → true ≡ is_valued sc t u → r ≡ field sc u 5 → Truth g t u r sc sc
truth_was g t u r sc f h p e q = record { value = q ∙ f.valued u t h p (sym e); framed = framed_none u sc; facts = f }

pub truth_now : (g : Graph) (t : Triple) (u v r : ℕ) (sc₀ sc : List ℕ) → Rising g t u v sc₀ sc → v ≡ u → u < g.N → 0 < t.one → r ≡ field sc u 5 → Truth g t u r sc₀ sc
truth_now g t u v r sc₀ sc d z h p q = record { value = q ∙ d.facts.valued u t h p (rw z at d.is); framed = d.framed; facts = d.facts }

-- the loop begins where one node is valued
pub rising_begin : (g : Graph) (t : Triple) (u v : ℕ) (sc sc' : List ℕ) → Valued g t u v sc sc' → Rising g t u v sc' sc'
rising_begin g t u v sc sc' r = let f = rising_first g t u v sc sc' r in record { framed = framed_none u sc'; facts = f.facts; is = f.is; stack = f.stack }

pub rising_whole : (g : Graph) (t : Triple) (u v w : ℕ) (sc sc₁ sc₂ : List ℕ) → Valued g t u w sc sc₁ → Rising g t u v sc₁ sc₂ → Rising g t u v sc sc₂
rising_whole g t u v w sc sc₁ sc₂ x r = record { framed = framed_then u u sc sc₁ sc₂ (omega arith) x.framed r.framed; facts = r.facts; is = r.is; stack = r.stack }
