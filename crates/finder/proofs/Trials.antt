-- Trials one after the other: what is left gives the same, until one is a majority. From the laws on the finder's order.
use mathlib.Core.Path.{◌≡◌, refl, sym, ap, ◌∙◌}
use mathlib.Core.Bool.{true, false}
use mathlib.Core.List.{List, [], ◌∷◌}
use Prim.Native.Nat.{ℕ, suc, ◌+◌, ◌-◌, ◌*◌, ◌≤◌, ◌<◌}
use native.Mathlib.Omega.{arith}
use lib.ListN.{length, get_or, take}
use lib.Seq.{get_or-take, length-take-le}
use Rattle.graph.specs.Admission.{Admitted}
use Rattle.graph.specs.Graph.{Graph, node}
use Rattle.hidden.specs.Truth.{Triple, triple, leak, truth}
use Rattle.hidden.specs.Class.{classes}
use Rattle.hidden.specs.Majority.{is_majority}
use Rattle.hidden.specs.Find.{reaches, near, first_made, triples}
use Rattle.hidden.specs.Inner.{Rising, left₁, left₂, left₃}
use Rattle.hidden.proofs.Order.{left_none, left_lowest, left_second, left_seconds, left_third, left_thirds, passed_over, taken}
use Rattle.majority_call.specs.Valuing.{Facts, Framed}
use Rattle.finder.specs.Nearness.{Grown}
use Rattle.finder.specs.Signs.{Signed}
use Rattle.finder.specs.Trying.{Ready, SignsRead, Tried, Sought}
use Rattle.finder.proofs.Near.{near_is, place_low}
use Rattle.finder.proofs.Signatures.{sign_framed, sign_room, signed_framed}

-- one triple
pub no_leak : is_majority leak ≡ false
unfolding is_majority classes
no_leak = refl

module _ (g : Graph) (t : Triple) (v f : ℕ) (sc sc' : List ℕ) (e : f ≡ truth g t (node g v)) (framed : Framed v sc sc') (facts : Facts g sc') where
  tried_none : is_majority f ≡ false → Tried g t v 256 sc sc'
  tried_none z =
      record { value = λ h. absurd (omega arith); majority = λ h. absurd (omega arith); none = λ h. ap is_majority (sym e) ∙ z; framed = framed; facts = facts }

  pub tried_leak : f ≡ leak → Tried g t v 256 sc sc'
  tried_leak z = tried_none (ap is_majority z ∙ no_leak)

  pub tried_other : is_majority f ≡ false → Tried g t v 256 sc sc'
  tried_other z = tried_none z

  pub tried_majority : f < 256 → is_majority f ≡ true → Tried g t v f sc sc'
  tried_majority b z = record { value = λ h. e; majority = λ h. z; none = λ h. absurd (omega arith); framed = framed; facts = facts }

framed_none : (v : ℕ) (sc : List ℕ) → Framed v sc sc
framed_none v sc = record { same = refl; above = λ j h. refl; first = λ w. refl; last = λ w f h k. refl }

framed_both : (v : ℕ) (sc sc' sc'' : List ℕ) → Framed v sc sc' → Framed v sc' sc'' → Framed v sc sc''
framed_both v sc sc' sc'' a b =
    record { same = b.same ∙ a.same; above = λ j h. b.above j h ∙ a.above j h; first = λ w. b.first w ∙ a.first w; last = λ w f h k. b.last w f h k ∙ a.last w f h k }

-- between two trials: what is left gives the same
pub record Going (g : Graph) (v : ℕ) (ts left : List Triple) (sc₀ sc : List ℕ) : Type 0 where
  pub still : first_made g (node g v) left ≡ first_made g (node g v) ts
  pub framed : Framed v sc₀ sc
  pub facts : Facts g sc

module _ (g : Graph) (v : ℕ) (ts : List Triple) (sc₀ : List ℕ) where
  pub going_none : (left : List Triple) → ts ≡ left → Facts g sc₀ → Going g v ts left sc₀ sc₀
  going_none left e f = record { still = ap (first_made g (node g v)) (sym e); framed = framed_none v sc₀; facts = f }

  module _ (left : List Triple) (sc : List ℕ) (a : Going g v ts left sc₀ sc) where
    pub going_ready : (m : ℕ) (list : List ℕ) → Ready g v m list sc₀ → Ready g v m list sc
    going_ready m list r =
        record { admitted = r.admitted; room = omega (arith, r.room, a.framed.same); within = r.within; facts = a.facts; signed = signed_framed g (v + 1) v sc₀ sc a.framed r.signed; few = r.few; listed = r.listed; rising = r.rising }

    pub going_read : (one two w x y : ℕ) → SignsRead g v one two w x y sc₀ → SignsRead g v one two w x y sc
    going_read one two w x y k =
        record {
          signed = signed_framed g (v + 1) v sc₀ sc a.framed k.signed;
          here = k.here ∙ sign_framed g.I v sc₀ sc a.framed (node g v);
          first = k.first ∙ sign_framed g.I v sc₀ sc a.framed one;
          second = k.second ∙ sign_framed g.I v sc₀ sc a.framed two;
        }

    -- one more
    module _ (t : Triple) (next : List Triple) (f : ℕ) (sc' : List ℕ) (e : left ≡ t ∷ next) (s : Tried g t v f sc sc') where
      here : first_made g (node g v) (t ∷ next) ≡ first_made g (node g v) ts
      here = ap (first_made g (node g v)) (sym e) ∙ a.still

      pub tried_on : 256 ≤ f → Going g v ts next sc₀ sc'
      tried_on q =
          record {
            still = sym (passed_over g (node g v) t next (s.none q)) ∙ here;
            framed = framed_both v sc₀ sc sc' a.framed s.framed;
            facts = s.facts;
          }

      pub tried_found : (rest : List Triple) → Rising t (node g v) → f < 256 → Sought g v ts rest f t sc₀ sc'
      tried_found rest r q =
          record {
            gives = λ z. record { value = s.value q; majority = s.majority q; rising = r };
            found = λ z. sym here ∙ taken g (node g v) t next (ap is_majority (sym (s.value q)) ∙ s.majority q);
            left = λ z. absurd (omega arith);
            framed = framed_both v sc₀ sc sc' a.framed s.framed;
            facts = s.facts;
          }

    -- several more
    module _ (now next : List Triple) (f : ℕ) (t : Triple) (sc' : List ℕ) (e : left ≡ now) (s : Sought g v now next f t sc sc') where
      same : first_made g (node g v) now ≡ first_made g (node g v) ts
      same = ap (first_made g (node g v)) (sym e) ∙ a.still

      pub going_on : (then : List Triple) → next ≡ then → 256 ≤ f → Going g v ts then sc₀ sc'
      going_on then p q =
          record { still = ap (first_made g (node g v)) (sym p) ∙ s.left q ∙ same; framed = framed_both v sc₀ sc sc' a.framed s.framed; facts = s.facts }

      pub going_found : (rest : List Triple) → f < 256 → Sought g v ts rest f t sc₀ sc'
      going_found rest q =
          record {
            gives = λ z. s.gives q;
            found = λ z. sym same ∙ s.found q;
            left = λ z. absurd (omega arith);
            framed = framed_both v sc₀ sc sc' a.framed s.framed;
            facts = s.facts;
          }

    pub going_end : (rest : List Triple) (t : Triple) → left ≡ rest → Sought g v ts rest 256 t sc₀ sc
    going_end rest t p =
        record { gives = λ z. absurd (omega arith); found = λ z. absurd (omega arith); left = λ z. ap (first_made g (node g v)) (sym p) ∙ a.still; framed = a.framed; facts = a.facts }

-- the places of a list
module _ (m : ℕ) (list : List ℕ) (long : m ≤ length list) where
  len : length (take m list) ≡ m
  len = length-take-le m list long

  pub third_step : (a b c : ℕ) → a < b → b < c → c < m → left₃ (take m list) a b c ≡ triple (get_or list a 0) (get_or list b 0) (get_or list c 0) ∷ left₃ (take m list) a b (c + 1)
  third_step a b c h k l =
      let q : c + 1 ≡ suc c = omega arith in
      rw (q, ← get_or-take m list a 0 (omega arith), ← get_or-take m list b 0 (omega arith), ← get_or-take m list c 0 l) (left_third (take m list) a b c (omega (arith, len)))

  pub thirds_end : (a b c : ℕ) → c ≡ m → left₃ (take m list) a b c ≡ left₂ (take m list) a (suc b)
  thirds_end a b c e = ap (left₃ (take m list) a b) (e ∙ sym len) ∙ left_thirds (take m list) a b

  pub thirds_begin : (a b : ℕ) → left₃ (take m list) a b (suc b) ≡ left₃ (take m list) a b (b + 1)
  thirds_begin a b = let q : b + 1 ≡ suc b = omega arith in rw q

  pub second_step : (a b : ℕ) → b < m → left₂ (take m list) a b ≡ left₃ (take m list) a b (suc b)
  second_step a b h = left_second (take m list) a b (omega (arith, len))

  pub seconds_next : (a b : ℕ) → left₂ (take m list) a (suc b) ≡ left₂ (take m list) a (b + 1)
  seconds_next a b = let q : b + 1 ≡ suc b = omega arith in rw q

  pub seconds_begin : (a : ℕ) → a < m → left₁ (take m list) a ≡ left₂ (take m list) a (a + 1)
  seconds_begin a h = let q : a + 1 ≡ suc a = omega arith in rw q (left_lowest (take m list) a (omega (arith, len)))

  pub seconds_end : (a b : ℕ) → b ≡ m → left₂ (take m list) a b ≡ left₁ (take m list) (suc a)
  seconds_end a b e = ap (left₂ (take m list) a) (e ∙ sym len) ∙ left_seconds (take m list) a

  pub firsts_next : (a : ℕ) → left₁ (take m list) (suc a) ≡ left₁ (take m list) (a + 1)
  firsts_next a = let q : a + 1 ≡ suc a = omega arith in rw q

  pub firsts_end : (a : ℕ) → a ≡ m → left₁ (take m list) a ≡ []
  firsts_end a e = ap (left₁ (take m list)) (e ∙ sym len) ∙ left_none (take m list)

-- each has a signature
pub listed_room : (g : Graph) (v m : ℕ) (list sc : List ℕ) → Ready g v m list sc → (a : ℕ) → a < m
    → (g.I ≤ 4096) × (get_or list a 0 ≤ g.I + 100000) × (8 * (get_or list a 0 - g.I) ≤ length sc)
listed_room g v m list sc r a h =
    sign_room g r.admitted v r.within (get_or list a 0) (length sc) r.room (omega (arith, (place_low (node g v) m list r.listed r.rising a h).1))

-- the list of what is near
module _ (g : Graph) (v w r : ℕ) (xs xs' : List ℕ) (e : w ≡ v) (a : Grown 39 (node g v) (reaches g 3 (node g v)) 0 r xs xs') where
  pub near_ready : (sc : List ℕ) → Admitted g → 8 * g.N ≤ length sc → v < g.N → Facts g sc → Signed g (v + 1) sc → length xs ≡ 39 → Ready g w r xs' sc
  near_ready sc d room h f s n =
      rw e (record {
        admitted = d;
        room = room;
        within = h;
        facts = f;
        signed = s;
        few = omega (arith, a.few);
        listed = omega (arith, a.few, a.same);
        rising = (near_is g 39 (node g v) r xs xs' (omega arith) a).1;
      })

  pub sought_near : (f : ℕ) (t : Triple) (sc sc' : List ℕ) → Sought g w (triples (take r xs')) [] f t sc sc' → Sought g v (triples (near g (node g v))) [] f t sc sc'
  sought_near f t sc sc' s = let n = (near_is g 39 (node g v) r xs xs' (omega arith) a).0 in rw (← n) (rw e at s)
