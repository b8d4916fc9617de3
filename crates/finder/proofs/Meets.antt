-- Ways as words of places: a triple at none of the places of a way leaks. From the laws on leaks and on bits.
use mathlib.Core.Path.{◌≡◌, refl, sym, ap, ◌∙◌}
use mathlib.Core.Bool.{Bool, true, false, true≢false}
use mathlib.Core.Logic.{⊎_elim, ◌≢◌, ◌⊎◌, inl, inr}
use mathlib.Core.List.{List, []}
use Prim.Native.Nat.{ℕ, ◌+◌, ◌-◌, ◌*◌, ◌/◌, ◌%◌, ◌^◌, ◌≤◌, ◌<◌}
use native.Mathlib.Nat.{div-eq_of_lt, eq-or-lt_of_le}
use native.Mathlib.Omega.{arith}
use borrow.Author.Tests.{eq-eqb, eqb-true, eqb-false, ltb-true, ltb-false}
use mir.Val.{bool_byte}
use lib.Bits.{bit_and, bit_or, bit_xor}
use lib.Dec.{eqb, ltb}
use lib.ListN.{length, get_or}
use lib.Pow.{pow-lt, shl_exact, shr-shr}
use Rattle.graph.specs.Admission.{Admitted}
use Rattle.graph.specs.Finite.{if_equal}
use Rattle.graph.specs.Graph.{Graph, mark, node, word, is_edge}
use Rattle.graph.specs.Inner.{Names}
use Rattle.graph.specs.Turned.{only}
use Rattle.graph.specs.Literals.{bit}
use Rattle.graph.proofs.Bits.{bit_le, bit_shifted, bit_xor_lem}
use Rattle.graph.proofs.Cases.{eq_or_ne, lt_or_le, true_or_false}
use Rattle.graph.proofs.Edge.{edge_none}
use Rattle.graph.proofs.Tests.{equal, unequal}
use Rattle.evaluation.proofs.Bits.{bit_and_lem, bit_or_lem, bit_ones, bit_zero}
use Rattle.state.specs.State.{field}
use Rattle.hidden.specs.Truth.{Triple, leak, truth}
use Rattle.hidden.specs.Ways.{Misses}
use Rattle.hidden.specs.Majority.{is_majority}
use Rattle.hidden.specs.Inner.{Rising}
use Rattle.hidden.proofs.Ways.{way_leaks, reader_leaks}
use Rattle.finder.specs.Living.{NodeNames}
use Rattle.finder.specs.Ways.{Open}
use Rattle.std.proofs.Common.{Option, None, Some}
use Rattle.finder.specs.declared.following.Head.{Head}
use Rattle.finder.specs.Meeting.{three_of, Apart, Rises, Places, PlacesOf, Lacks, Unmet, AtLeast, Allows, Bars, AllBar, Missed, NamesOr, Ends, Tells, Listed, Followed, Comes, HeadComes, Come, Put, Added}
use Rattle.finder.proofs.Barring.{In}
use Rattle.finder.proofs.Named.{word_named}
use Rattle.finder.proofs.Near.{place_low, places_rise, three_rise}
use Rattle.finder.proofs.Opens.{open_leaks, names_reads}

-- a bit of a joined word
pub or_first : (k p q : ℕ) → bit k p ≡ 1 → bit k (bit_or p q) ≡ 1
or_first k p q e = omega (arith, bit_or_lem k p q, bit_le k q)

pub or_second : (k p q : ℕ) → bit k q ≡ 1 → bit k (bit_or p q) ≡ 1
or_second k p q e = omega (arith, bit_or_lem k p q, bit_le k p)

bit_own : (c : ℕ) → c < 64 → bit c (1 * 2 ^ c % 18446744073709551616) ≡ 1
unfolding only
bit_own c h =
    ap (bit c) (shl_exact {a = 1} 1 c 64 (omega arith) (omega arith)) ∙ bit_shifted c c 1 (omega arith) ∙ sym (equal c c 1 0 refl refl)

only_own : (k c : ℕ) → c < 64 → bit k (1 * 2 ^ c % 18446744073709551616) ≡ 1 → k ≡ c
unfolding only
only_own k c h e =
    let z : ◌≡◌ {A = ℕ} (if_equal k c 1 0) 1 = sym (ap (bit k) (shl_exact {a = 1} 1 c 64 (omega arith) (omega arith)) ∙ bit_shifted k c 1 (omega arith)) ∙ e in
    ⊎_elim (λ (q : k ≡ c). q) (λ (n : k ≢ c). absurd (omega (arith, z, unequal {A = ℕ} k c 1 0 n refl))) (eq_or_ne k c)

or_either : (k p q : ℕ) → bit k (bit_or p q) ≡ 1 → (bit k p ≡ 1) ⊎ (bit k q ≡ 1)
or_either k p q e = ⊎_elim (λ (z : bit k p ≡ 1). inl z) (λ (n : bit k p ≢ 1). inr (omega (arith, bit_or_lem k p q, bit_le k p, bit_le k q))) (eq_or_ne (bit k p) 1)

pub put_place : (c : ℕ) (here : Bool) → c < 64
    → (here ≡ true → bit c (bool_byte here * 2 ^ c % 18446744073709551616) ≡ 1) × ((k : ℕ) → bit k (bool_byte here * 2 ^ c % 18446744073709551616) ≡ 1 → (k ≡ c) × (here ≡ true))
put_place c true h = (λ z. bit_own c h, λ k e. (only_own k c h e, refl))
put_place c false h =
    let nothing : 0 * 2 ^ c % 18446744073709551616 ≡ 0 = omega arith in
    (λ e. absurd (true≢false (sym e)), λ k e. absurd (omega (arith, e, ap (bit k) nothing, bit_zero k)))

-- of the first c of a rising list, n are below x
pub record Before (l : List ℕ) (x n c : ℕ) : Type 0 where
  pub few : n ≤ c
  pub lower : (k : ℕ) → k < n → get_or l k 0 < x
  pub higher : (k : ℕ) → n ≤ k → k < c → x ≤ get_or l k 0

module _ (m : ℕ) (l : List ℕ) (rise : Rises m l) (x n : ℕ) where
  pub before_next : (c r : ℕ) → c < m → Before l x n c → (ltb (get_or l c 0) x ≡ true → r ≡ n + 1) × (ltb (get_or l c 0) x ≡ false → r ≡ n) → Before l x r (c + 1)
  before_next c r h b t =
      ⊎_elim
      (λ (e : ltb (get_or l c 0) x ≡ true).
      let low = ltb-true (get_or l c 0) x e in
      let q : n ≡ c = ⊎_elim (λ (z : n < c). absurd (omega (arith, low, rise n c z h, b.higher n (omega arith) z))) (λ (z : c ≤ n). omega (arith, b.few)) (lt_or_le n c) in
      rw (t.0 e) (record {
        few = omega (arith, b.few);
        lower = λ k z. ⊎_elim (λ (y : k ≡ c). rw y low) (λ (y : k < c). b.lower k (omega arith)) (eq-or-lt_of_le (omega arith));
        higher = λ k z y. absurd (omega arith);
      }))
      (λ (e : ltb (get_or l c 0) x ≡ false).
      rw (t.1 e) (record {
        few = omega (arith, b.few);
        lower = b.lower;
        higher = λ k z y. ⊎_elim (λ (w : k ≡ c). rw w (ltb-false (get_or l c 0) x e)) (λ (w : k < c). b.higher k z w) (eq-or-lt_of_le (omega arith));
      }))
      (true_or_false (ltb (get_or l c 0) x))

  pub before_all : (c : ℕ) → n ≡ m → Before l x n c → PlacesOf l m x 0
  before_all d e b = record { all = λ c h q. absurd (omega (arith, q, b.lower c (omega arith))); only = λ c h q. absurd (omega (arith, bit_zero c)) }

  pub before_some : (c : ℕ) → m ≤ c → n < m → Before l x n c → (p : ℕ) → (eqb (get_or l n 0) x ≡ true → bit n p ≡ 1) × ((k : ℕ) → bit k p ≡ 1 → (k ≡ n) × (eqb (get_or l n 0) x ≡ true)) → PlacesOf l m x p
  before_some d w s b p t =
      record {
        all = λ c h q.
            ⊎_elim (λ (z : c < n). absurd (omega (arith, q, b.lower c z)))
            (λ (z : n ≤ c).
            ⊎_elim (λ (y : n ≡ c). rw (← y) (t.0 (eq-eqb (get_or l n 0) x (rw y q)))) (λ (y : n < c). absurd (omega (arith, q, rise n c y h, b.higher n (omega arith) (omega arith)))) (eq-or-lt_of_le z))
            (lt_or_le c n);
        only = λ c h q. let e = t.1 c q in rw e.0 (eqb-true (get_or l n 0) x e.1);
      }

off : (k p q : ℕ) → (bit k p ≡ 1 → bit k q ≡ 1) → bit k q ≡ 0 → bit k p ≡ 0
off k p q f e = ⊎_elim (λ (z : bit k p ≡ 1). absurd (omega (arith, f z))) (λ (n : bit k p ≢ 1). omega (arith, bit_le k p)) (eq_or_ne (bit k p) 1)

-- fewer places
apart_fewer : (m p q a b c : ℕ) → ((k : ℕ) → bit k p ≡ 1 → bit k q ≡ 1) → Apart m q a b c → Apart m p a b c
apart_fewer m p q a b c f t =
    record { second = t.second; third = t.third; within = t.within; one = off a p q (f a) t.one; two = off b p q (f b) t.two; three = off c p q (f c) t.three }

places_miss : (l : List ℕ) (m u p a b c : ℕ) → Places l m u p → Apart m p a b c → Misses (three_of l a b c) u
places_miss l m u p a b c s t =
    record {
      one = λ e. omega (arith, t.one, s a (omega (arith, t.second, t.third, t.within)) (sym e));
      two = λ e. omega (arith, t.two, s b (omega (arith, t.third, t.within)) (sym e));
      three = λ e. omega (arith, t.three, s c t.within (sym e));
    }

pub bars_all : (g : Graph) (l : List ℕ) (m u : ℕ) → m ≤ 39 → Bars g l m 18446744073709551615 u
bars_all g l m u h a b c t = absurd (omega (arith, t.three, bit_ones c (omega (arith, t.within))))

-- what stands in the list
module _ (g : Graph) (v m : ℕ) (list : List ℕ) (f : Listed g v m list) where
  listed_low : (k : ℕ) → k < m → get_or list k 0 < node g v
  listed_low k h = (place_low (node g v) m list f.listed f.rising k h).1

  pub listed_rise : Rises m list
  listed_rise = places_rise (node g v) m list f.listed f.rising

  first_low : (k : ℕ) → k < m → get_or list 0 0 ≤ get_or list k 0
  first_low k h =
      ⊎_elim (λ (e : k ≡ 0). rw e (omega arith)) (λ (n : k ≢ 0). omega (arith, listed_rise 0 k (omega arith) h)) (eq_or_ne k 0)

  pub comes_none : Comes g v m list (node g v) 0
  comes_none =
      record {
        some = omega arith;
        below = omega (arith, f.within);
        leads = record {
          misses = λ a b c t. record {
            one = λ e. omega (arith, listed_low a (omega (arith, t.second, t.third, t.within)));
            two = λ e. omega (arith, listed_low b (omega (arith, t.third, t.within)));
            three = λ e. omega (arith, listed_low c t.within);
          };
          leaks = λ a b c t e. e;
        };
      }

  -- a word further
  module _ (u mask : ℕ) (h : g.I < u) (k : Comes g v m list u mask) (w : ℕ) (is : w ≡ u - g.I - 1) where
    at : node g w ≡ u
    at = omega arith

    pub inside : w < g.N
    inside = omega (arith, k.below, h, is)

    pub comes_on : (x : ℕ) → NamesOr g w x → 0 < x → (p : ℕ) → Places list m x p → Comes g v m list x (bit_or mask p)
    comes_on x o z p s =
        ⊎_elim (λ (e : x ≡ 0). absurd (omega arith))
        (λ (n : NodeNames g w x).
        record {
          some = z;
          below = omega (arith, inside, n.names, n.within, f.admitted.below (3 * w + n.k) (omega (arith, inside, n.within)) n.edge);
          leads = record {
            misses = λ a b c t. places_miss list m x p a b c s (apart_fewer m p (bit_or mask p) a b c (λ j e. or_second j mask p e) t);
            leaks = λ a b c t e.
                let r = apart_fewer m mask (bit_or mask p) a b c (λ j e. or_first j mask p e) t in
                k.leads.leaks a b c r (rw (← at) (reader_leaks g f.admitted (three_of list a b c) (node g w) x (names_reads g w x inside n) (rw at (k.leads.misses a b c r)) e));
          };
        })
        o

pub comes_end : (g : Graph) (v m : ℕ) (list sc : List ℕ) (f : Followed g v m list sc) (x mask : ℕ) → Comes g v m list x mask → Ends g.I list sc x → Bars g list m mask (node g v)
comes_end g v m list sc f x mask k e a b c t =
    k.leads.leaks a b c t
    (⊎_elim
    (λ (q : (0 < x) × (x ≤ g.I)). way_leaks g f.near.admitted (three_of list a b c) x [] q (k.leads.misses a b c t))
    (λ (q : (x < get_or list 0 0) × Open g.I sc x).
    open_leaks g f.near.admitted sc f.facts x k.below q.1 (three_of list a b c)
    (omega (arith, q.0, first_low g v m list f.near a (omega (arith, t.second, t.third, t.within))))
    (listed_rise g v m list f.near a b t.second (omega (arith, t.third, t.within)))
    (listed_rise g v m list f.near b c t.third t.within))
    e)

-- one way that has not gone far, and ways put one behind the other
pub come_one : (g : Graph) (v m : ℕ) (list : List ℕ) → Listed g v m list → (hs ms : List ℕ) → 0 < length hs → 0 < length ms → get_or hs 0 0 ≡ node g v → get_or ms 0 0 ≡ 0 → Come g v m list 1 hs ms
come_one g v m list f hs ms a b p q =
    record { listed = a; words = b; each = λ k h. let e : k ≡ 0 = omega arith in rw (e, p, q) (comes_none g v m list f) }

module _ (g : Graph) (v m : ℕ) (list : List ℕ) (n : ℕ) where
  still : (r : ℕ) (head : Option Head) (hs hs' ms ms' : List ℕ) → Come g v m list n hs ms → Put n head r hs hs' ms ms' → (k : ℕ) → k < n → Comes g v m list (get_or hs' k 0) (get_or ms' k 0)
  still r head hs hs' ms ms' c p k h = rw ((p.kept k h).0, (p.kept k h).1) (c.each k h)

  pub come_put : (head : Option Head) (r : ℕ) (hs hs' ms ms' : List ℕ) → n < length hs → n < length ms → Come g v m list n hs ms → HeadComes g v m list head
      → Put n head r hs hs' ms ms' → Come g v m list r hs' ms' × (n ≤ r) × (r ≤ n + 1)
  come_put None r hs hs' ms ms' a b c new p =
      let q : r ≡ n = p.behind in (
        record { listed = omega (arith, q, p.same); words = omega (arith, q, p.same_words); each = λ k h. still r None hs hs' ms ms' c p k (omega (arith, q)) },
        omega (arith, q),
        omega (arith, q),
      )
  come_put (Some x) r hs hs' ms ms' a b c new p =
      let q = p.behind in (
        record {
          listed = omega (arith, q.0, p.same);
          words = omega (arith, q.0, p.same_words);
          each = λ k h. ⊎_elim (λ (z : k < n). still r (Some x) hs hs' ms ms' c p k z) (λ (z : n ≤ k). let e : k ≡ n = omega (arith, q.0) in rw (e, q.1, q.2) new) (lt_or_le k n);
        },
        omega (arith, q.0),
        omega (arith, q.0),
      )

-- what is read of a node
module _ (g : Graph) (adm : Admitted g) (w : ℕ) (h : w < g.N) where
  pub named_or : (k x : ℕ) → k < 3 → eqb (word g (3 * w + k)) mark ≡ false → Names (word g (3 * w + k)) x → NamesOr g w x
  named_or k x l e n =
      let q : is_edge g (3 * w + k) ≡ true = edged (is_edge g (3 * w + k)) refl in
      inr (record { k = k; within = l; edge = q; names = sym (word_named g adm (3 * w + k) x (omega arith) q n).0 })
    where
      edged : (b : Bool) → is_edge g (3 * w + k) ≡ b → b ≡ true
      edged true p = refl
      edged false p = absurd (eqb-false (word g (3 * w + k)) mark e (edge_none g (3 * w + k) p).1)

  pub told_or : (sc : List ℕ) (x : ℕ) → Tells g sc → x ≡ field sc w 0 → NamesOr g w (x / 2)
  told_or sc x t e =
      ⊎_elim (λ (z : 1 < field sc w 0). inr (rw e (t w h z))) (λ (z : field sc w 0 ≤ 1). inl (omega arith)) (lt_or_le 1 (field sc w 0))

-- words put one behind the other
pub bars_added : (g : Graph) (l : List ℕ) (m n mask r u : ℕ) (ws ws' : List ℕ) → AllBar g l m n ws u → Bars g l m mask u → Added n mask r ws ws' → AllBar g l m r ws' u
bars_added g l m n mask r u ws ws' b new d k h =
    ⊎_elim (λ (q : k < n). rw (d.kept k q) (b k q)) (λ (q : n ≤ k). rw (d.new k q h) new) (lt_or_le k n)

-- the places that are left for a third
pub missed_up : (n p : ℕ) (ws : List ℕ) (a b c : ℕ) → n ≤ p → Missed n ws a b c → Missed p ws a b c
missed_up n p ws a b c h t = record { k = t.k; within = omega (arith, t.within); one = t.one; two = t.two; three = t.three }

pub missed_here : (n : ℕ) (ws : List ℕ) (a b c : ℕ) → (bit a (get_or ws n 0) ≡ 0) × (bit b (get_or ws n 0) ≡ 0) × (bit c (get_or ws n 0) ≡ 0) → Missed (n + 1) ws a b c
missed_here n ws a b c t = record { k = n; within = omega arith; one = t.0; two = t.1; three = t.2 }

pub missed_leaks : (g : Graph) (l : List ℕ) (m n u : ℕ) (ws : List ℕ) → AllBar g l m n ws u → (a b c : ℕ) → a < b → b < c → c < m → Missed n ws a b c → truth g (three_of l a b c) u ≡ leak
missed_leaks g l m n u ws s a b c h k q t = s t.k t.within a b c (record { second = h; third = k; within = q; one = t.one; two = t.two; three = t.three })

pub unmet_up : (allowed n p : ℕ) (ws : List ℕ) (a b c : ℕ) → n ≤ p → Unmet allowed n ws a b c → Unmet allowed p ws a b c
unmet_up allowed n p ws a b c h u = ⊎_elim (λ (l : Lacks allowed a b c). inl l) (λ (t : Missed n ws a b c). inr (missed_up n p ws a b c h t)) u

-- three that meet a word have one of its places that are allowed
pub unmet_here : (allowed n : ℕ) (ws : List ℕ) → AtLeast 1 (bit_and (get_or ws n 0) allowed) allowed (n + 1) ws
unmet_here allowed n ws a b c =
    ⊎_elim (λ (p : bit a allowed ≡ 0). inl (inl (inl p)))
    (λ (p : bit a allowed ≢ 0).
    ⊎_elim (λ (q : bit b allowed ≡ 0). inl (inl (inr (inl q))))
    (λ (q : bit b allowed ≢ 0).
    ⊎_elim (λ (r : bit c allowed ≡ 0). inl (inl (inr (inr r))))
    (λ (r : bit c allowed ≢ 0).
    ⊎_elim (λ (z : 0 < bit a w + bit b w + bit c w). inr z)
    (λ (z : bit a w + bit b w + bit c w ≤ 0). inl (inr (missed_here n ws a b c (same a p (omega arith), same b q (omega arith), same c r (omega arith)))))
    (lt_or_le 0 (bit a w + bit b w + bit c w)))
    (eq_or_ne (bit c allowed) 0))
    (eq_or_ne (bit b allowed) 0))
    (eq_or_ne (bit a allowed) 0)
  where
    w : ℕ
    w = bit_and (get_or ws n 0) allowed

    same : (k : ℕ) → bit k allowed ≢ 0 → bit k w ≡ 0 → bit k (get_or ws n 0) ≡ 0
    same k p e = omega (arith, bit_and_lem k (get_or ws n 0) allowed, bit_le k allowed, bit_le k (get_or ws n 0))

-- words apart: three that meet them all have one of each
both_places : (k p q : ℕ) → bit_and p q ≡ 0 → bit k (bit_or p q) ≡ bit k p + bit k q
both_places k p q e =
    let z : bit k (bit_and p q) ≡ 0 = ap (bit k) e ∙ bit_zero k in
    omega (arith, z, bit_and_lem k p q, bit_or_lem k p q, bit_le k p, bit_le k q)

pub least_none : (allowed n : ℕ) (ws : List ℕ) → AtLeast 0 0 allowed n ws
least_none allowed n ws a b c = inr (omega arith)

pub least_more : (allowed n : ℕ) (ws : List ℕ) (r seen r' seen' : ℕ) → AtLeast r seen allowed n ws
    → (bit_and seen (bit_and (get_or ws n 0) allowed) ≡ 0 → r' ≡ r + 1) × ((bit_and seen (bit_and (get_or ws n 0) allowed) ≡ 0 → ⊥) → r' ≡ r)
    → (bit_and seen (bit_and (get_or ws n 0) allowed) ≡ 0 → seen' ≡ bit_or seen (bit_and (get_or ws n 0) allowed)) × ((bit_and seen (bit_and (get_or ws n 0) allowed) ≡ 0 → ⊥) → seen' ≡ seen)
    → AtLeast r' seen' allowed (n + 1) ws
least_more allowed n ws r seen r' seen' f p q a b c =
    ⊎_elim (λ (u : Unmet allowed n ws a b c). inl (unmet_up allowed n (n + 1) ws a b c (omega arith) u))
    (λ (h : r ≤ bit a seen + bit b seen + bit c seen).
    ⊎_elim
    (λ (e : bit_and seen w ≡ 0).
    ⊎_elim (λ (u : Unmet allowed (n + 1) ws a b c). inl u)
    (λ (o : 1 ≤ bit a w + bit b w + bit c w). inr (rw (p.0 e, q.0 e) (omega (arith, o, h, both_places a seen w e, both_places b seen w e, both_places c seen w e))))
    (unmet_here allowed n ws a b c))
    (λ (e : bit_and seen w ≢ 0). inr (rw (p.1 e, q.1 e) h))
    (eq_or_ne (bit_and seen w) 0))
    (f a b c)
  where
    w : ℕ
    w = bit_and (get_or ws n 0) allowed

pub least_end : (allowed n : ℕ) (ws : List ℕ) (r seen : ℕ) → 3 < r → AtLeast r seen allowed n ws → (a b c : ℕ) → Unmet allowed n ws a b c
least_end allowed n ws r seen h f a b c =
    ⊎_elim (λ (u : Unmet allowed n ws a b c). u) (λ (o : r ≤ bit a seen + bit b seen + bit c seen). absurd (omega (arith, o, bit_le a seen, bit_le b seen, bit_le c seen))) (f a b c)

pub unmet_none : (allowed n : ℕ) (ws : List ℕ) → bit_and (get_or ws n 0) allowed ≡ 0 → (a b c : ℕ) → Unmet allowed (n + 1) ws a b c
unmet_none allowed n ws e a b c =
    ⊎_elim (λ (u : Unmet allowed (n + 1) ws a b c). u)
    (λ (o : 1 ≤ bit a (bit_and (get_or ws n 0) allowed) + bit b (bit_and (get_or ws n 0) allowed) + bit c (bit_and (get_or ws n 0) allowed)).
    let z : 1 ≤ bit a 0 + bit b 0 + bit c 0 = rw e at o in absurd (omega (arith, z, bit_zero a, bit_zero b, bit_zero c)))
    (unmet_here allowed n ws a b c)

-- without the places that a way does not meet
pub narrow : (met mask a b c : ℕ) → bit a mask ≡ 0 → bit b mask ≡ 0 → bit c (bit_and met mask) ≡ 0 → (bit c met ≡ 0) ⊎ ((bit a mask ≡ 0) × (bit b mask ≡ 0) × (bit c mask ≡ 0))
narrow met mask a b c p q e =
    ⊎_elim (λ (z : bit c met ≡ 0). inl z) (λ (n : bit c met ≢ 0). inr (p, q, omega (arith, bit_and_lem c met mask, bit_le c met, bit_le c mask))) (eq_or_ne (bit c met) 0)

-- where no bit above b is set
pub none_above : (w b : ℕ) → w / 2 ^ b < 2 → (c : ℕ) → b < c → bit c w ≡ 0
unfolding bit
none_above w b h c l =
    let e : b + (c - b) ≡ c = omega arith in
    let q : w / 2 ^ b < 2 ^ (c - b) = omega (arith, pow-lt {i = 0} {j = c - b} (omega arith)) in
    rw (← e) (ap (λ (x : ℕ). x % 2) (sym (shr-shr w b (c - b)) ∙ div-eq_of_lt q))

-- the places that are allowed
pub allows_all : (g : Graph) (v m : ℕ) (l : List ℕ) → m ≤ 39 → Allows g v m l 18446744073709551615
allows_all g v m l h a b c p q k s =
    ⊎_elim (λ (e : bit a 18446744073709551615 ≡ 0). absurd (omega (arith, bit_ones a (omega arith))))
    (λ (r : (bit b 18446744073709551615 ≡ 0) ⊎ (bit c 18446744073709551615 ≡ 0)).
    ⊎_elim (λ (e : bit b 18446744073709551615 ≡ 0). absurd (omega (arith, bit_ones b (omega arith)))) (λ (e : bit c 18446744073709551615 ≡ 0). absurd (omega (arith, bit_ones c (omega arith)))) r)
    s

-- but for those of indices that are in no triple with a majority
module _ (g : Graph) (v m : ℕ) (l : List ℕ) (f : Listed g v m l) where
  abbrev pub NoneHas : ℕ → Type 0
  NoneHas u = (t : Triple) → Rising t (node g v) → In t u → is_majority (truth g t (node g v)) ≡ false

  allows_without : (w : ℕ) → ((d : ℕ) → d < m → bit d w ≡ 1 → NoneHas (get_or l d 0)) → Allows g v m l (bit_xor 18446744073709551615 w)
  allows_without w n a b c h k q s =
      let r = three_rise (node g v) m l f.listed f.rising a b c h k q in
      ⊎_elim (λ e. n a (omega arith) (out a (omega arith) e) (three_of l a b c) r (inl refl))
      (λ z. ⊎_elim (λ e. n b (omega arith) (out b (omega arith) e) (three_of l a b c) r (inr (inl refl))) (λ e. n c q (out c q e) (three_of l a b c) r (inr (inr refl))) z)
      s
    where
      out : (d : ℕ) → d < m → bit d (bit_xor 18446744073709551615 w) ≡ 0 → bit d w ≡ 1
      out d z e = omega (arith, bit_xor_lem d 18446744073709551615 w, bit_ones d (omega (arith, z, f.few)), bit_le d w)

  pub allows_one : (i x : ℕ) → PlacesOf l m i x → NoneHas i → Allows g v m l (bit_xor 18446744073709551615 x)
  allows_one i x p n = allows_without x (λ d z e. rw (p.only d z e) n)

  pub allows_two : (i j x y : ℕ) → PlacesOf l m i x → PlacesOf l m j y → NoneHas i → NoneHas j → Allows g v m l (bit_xor 18446744073709551615 (bit_or x y))
  allows_two i j x y p q n o =
      allows_without (bit_or x y) (λ d z e. ⊎_elim (λ (k : bit d x ≡ 1). rw (p.only d z k) n) (λ (k : bit d y ≡ 1). rw (q.only d z k) o) (or_either d x y e))
