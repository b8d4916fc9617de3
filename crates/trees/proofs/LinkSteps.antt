-- One more node linked: the links of the nodes from v on, from those of the nodes above it. From the laws on readers and roots.
use mathlib.Core.Path.{◌≡◌, refl, sym, ap, ◌∙◌}
use mathlib.Core.Bool.{true, false}
use mathlib.Core.List.{List}
use mathlib.Core.Logic.{⊎_elim, ◌≢◌}
use Prim.Native.Nat.{ℕ, ◌+◌, ◌*◌, ◌/◌, ◌≤◌, ◌<◌}
use native.Mathlib.Omega.{arith}
use native.Mathlib.Nat.{eq-or-lt_of_le}
use Rattle.graph.specs.Graph.{Graph, mark, node}
use Rattle.graph.specs.Admission.{Admitted}
use Rattle.graph.proofs.Cases.{true_or_false, eq_or_ne, lt_or_le}
use Rattle.graph.proofs.Tests.{equal, unequal}
use Rattle.moves.specs.Tree.{is_root, place, root_of}
use Rattle.moves.proofs.Count.{clash}
use Rattle.moves.proofs.Readers.{single, root_of_root, root_of_inner, root_of_above}
use Rattle.moves.proofs.TreeBest.{reader_node}
use Rattle.state.specs.State.{field, Neighbours, Linked}
use Rattle.trees.specs.Filling.{Stored}
use Rattle.trees.specs.Linking.{Placed, Rising, Bounded, root_at, RootLinked, BelowLinked, LinkedAt, Linking, LowKept}

-- three and five stores
pub root_stored : (v : ℕ) (sc sc₁ sc₂ sc₃ : List ℕ) (m : ℕ) → m ≡ v → Stored v 5 mark sc sc₁ → Stored v 6 mark sc₁ sc₂ → Stored v 7 m sc₂ sc₃ → RootLinked v sc sc₃
root_stored v sc sc₁ sc₂ sc₃ m e a b d =
    record {
      five = d.old (8 * v + 5) (omega arith) ∙ b.old (8 * v + 5) (omega arith) ∙ a.new;
      six = d.old (8 * v + 6) (omega arith) ∙ b.new;
      seven = d.new ∙ e;
      kept = λ j k l q. d.old j q ∙ b.old j l ∙ a.old j k;
    }

pub below_stored : (v r h h' r' v₁ v₂ w : ℕ) (sc sc₁ sc₂ sc₃ sc₄ sc₅ : List ℕ) → v < h → v < r → h' ≡ h → w ≡ h → r' ≡ r → v₁ ≡ v → v₂ ≡ v
    → Stored v 5 mark sc sc₁ → Stored v 6 h' sc₁ sc₂ → Stored v 7 r' sc₂ sc₃ → Stored w 5 v₁ sc₃ sc₄ → Stored r 7 v₂ sc₄ sc₅ → BelowLinked v r h sc sc₅
below_stored v r h h' r' v₁ v₂ w sc sc₁ sc₂ sc₃ sc₄ sc₅ o p e₁ e₅ e₂ e₃ e₄ a b d f g =
    record {
      five = g.old (8 * v + 5) (omega arith) ∙ f.old (8 * v + 5) (omega arith) ∙ d.old (8 * v + 5) (omega arith) ∙ b.old (8 * v + 5) (omega arith) ∙ a.new;
      six = g.old (8 * v + 6) (omega arith) ∙ f.old (8 * v + 6) (omega arith) ∙ d.old (8 * v + 6) (omega arith) ∙ b.new ∙ e₁;
      seven = g.old (8 * v + 7) (omega arith) ∙ f.old (8 * v + 7) (omega arith) ∙ d.new ∙ e₂;
      lower = g.old (8 * h + 5) (omega arith) ∙ (rw e₅ at f.new) ∙ e₃;
      lowest = g.new ∙ e₄;
      kept = λ j k l q y z. g.old j z ∙ f.old j (rw e₅ y) ∙ d.old j q ∙ b.old j l ∙ a.old j k;
    }

module _ (sc : List ℕ) (w : ℕ) where
  pub root_at_root : field sc w 3 ≡ mark → root_at sc w ≡ w
  unfolding root_at
  root_at_root e = sym (equal _ _ _ _ e refl)

  pub root_at_other : field sc w 3 ≢ mark → root_at sc w ≡ field sc w 7
  unfolding root_at
  root_at_other e = sym (unequal _ _ _ _ e refl)

-- the root of a node's reader is a node above it
pub root_above : (n : ℕ) (sc : List ℕ) (v : ℕ) → v < n → Rising n sc → Bounded n sc (v + 1) → field sc v 3 ≢ mark
    → (v < root_at sc (field sc v 3 / 3)) × (root_at sc (field sc v 3 / 3) < n)
root_above n sc v h ri bd d =
    let w : ℕ = field sc v 3 / 3 in
    let a = ri v h d in
    ⊎_elim
    (λ (e : field sc w 3 ≡ mark). rw (root_at_root sc w e) a)
    (λ (e : field sc w 3 ≢ mark). rw (root_at_other sc w e) (let b = bd w (omega arith) a.1 in (omega arith, b.1)))
    (eq_or_ne (field sc w 3) mark)

module _ (g : Graph) (adm : Admitted g) (sc : List ℕ) (ps : Placed g sc) where
  pub placed_root : (v : ℕ) → v < g.N → is_root g (node g v) ≡ true → field sc v 3 ≡ mark
  placed_root v h e = ps v h ∙ rw e

  pub placed_other : (v : ℕ) → v < g.N → is_root g (node g v) ≡ false → field sc v 3 ≡ place g (node g v)
  placed_other v h e = ps v h ∙ rw e

  pub placed_low : (v : ℕ) → v < g.N → is_root g (node g v) ≡ false → field sc v 3 ≢ mark
  placed_low v h e q = omega (arith, placed_other v h e, (single g (node g v) e).at.below, adm.few_nodes)

  pub root_if : (v : ℕ) → v < g.N → field sc v 3 ≡ mark → is_root g (node g v) ≡ true
  root_if v h e =
      ⊎_elim (λ (t : is_root g (node g v) ≡ true). t) (λ (t : is_root g (node g v) ≡ false). absurd (placed_low v h t e)) (true_or_false (is_root g (node g v)))

  pub other_if : (v : ℕ) → v < g.N → field sc v 3 ≢ mark → is_root g (node g v) ≡ false
  other_if v h d =
      ⊎_elim (λ (t : is_root g (node g v) ≡ true). absurd (d (placed_root v h t))) (λ (t : is_root g (node g v) ≡ false). t) (true_or_false (is_root g (node g v)))

  pub placed_rising : Rising g.N sc
  placed_rising v h d =
      let e = other_if v h d in
      let r = reader_node g adm (node g v) e in
      rw (placed_other v h e) (omega arith)

-- a root
module _ (g : Graph) (adm : Admitted g) (sc sc' : List ℕ) (v : ℕ) (h : v < g.N) (lk : Linking g sc (v + 1)) where
  module _ (rt : is_root g (node g v) ≡ true) (st : RootLinked v sc sc') where
    own : root_of g (node g v) ≡ node g v
    own = root_of_root g adm (node g v) rt

    apart : (u f : ℕ) → v < u → f < 8 → field sc' u f ≡ field sc u f
    apart u f l k = st.kept (8 * u + f) (omega arith) (omega arith) (omega arith)

    pub root_linking : Linking g sc' v
    root_linking =
        record {
          lower = λ u a b d.
              ⊎_elim
              (λ (e : v ≡ u). absurd (d (rw (← e) st.five)))
              (λ (l : v < u). let q = apart u 5 l (omega arith) in rw q (lk.lower u (omega arith) b (λ z. d (q ∙ z))))
              (eq-or-lt_of_le a);
          no_lower = λ u a b d x i j.
              ⊎_elim
              (λ (e : v ≡ x). rw (← e, own) (λ z. omega (arith, root_of_above g adm (node g u))))
              (λ (l : v < x). lk.no_lower u (omega arith) b (sym (apart u 5 (omega arith) (omega arith)) ∙ d) x (omega arith) j)
              (eq-or-lt_of_le i);
          higher = λ u a b d.
              ⊎_elim
              (λ (e : v ≡ u). absurd (d (rw (← e) st.six)))
              (λ (l : v < u). let q = apart u 6 l (omega arith) in rw q (lk.higher u (omega arith) b (λ z. d (q ∙ z))))
              (eq-or-lt_of_le a);
          no_higher = λ u a b d.
              ⊎_elim
              (λ (e : v ≡ u). rw (← e) rt)
              (λ (l : v < u). lk.no_higher u (omega arith) b (sym (apart u 6 l (omega arith)) ∙ d))
              (eq-or-lt_of_le a);
          lowest = λ u a b t.
              ⊎_elim
              (λ (e : v ≡ u). rw (← e, st.seven) (omega arith, own))
              (λ (l : v < u). rw (apart u 7 l (omega arith)) (lk.lowest u (omega arith) b t))
              (eq-or-lt_of_le a);
          no_lowest = λ u a b t x i j.
              ⊎_elim
              (λ (e : v ≡ u). absurd (omega (arith, rw (← e) at j, st.seven)))
              (λ (l : v < u).
              ⊎_elim
              (λ (e : v ≡ x). rw (← e, own) (λ z. omega arith))
              (λ (k : v < x). lk.no_lowest u (omega arith) b t x (omega arith) (rw (apart u 7 l (omega arith)) at j))
              (eq-or-lt_of_le i))
              (eq-or-lt_of_le a);
          rooted = λ u a b t.
              ⊎_elim
              (λ (e : v ≡ u). absurd (clash rt (rw e t)))
              (λ (l : v < u). rw (apart u 7 l (omega arith)) (lk.rooted u (omega arith) b t))
              (eq-or-lt_of_le a);
        }

  -- a node below the lowest so far of the tree of r
  module _ (bd : Bounded g.N sc (v + 1)) (nr : is_root g (node g v) ≡ false) (r : ℕ) (vr : v < r) (rn : r < g.N)
      (er : node g r ≡ root_of g (node g v)) (tr : is_root g (node g r) ≡ true) (st : BelowLinked v r (field sc r 7) sc sc') where
    low : ℕ
    low = field sc r 7

    low_high : (v < low) × (low < g.N)
    unfolding low
    low_high = let b = bd r (omega arith) rn in (omega arith, b.1)

    low_in : root_of g (node g low) ≡ node g r
    unfolding low
    low_in = (lk.lowest r (omega arith) rn tr).1

    none_between : (x : ℕ) → v < x → x < low → root_of g (node g x) ≢ node g r
    unfolding low
    none_between x i j = lk.no_lowest r (omega arith) rn tr x (omega arith) j

    near : Neighbours g v low
    near =
        record {
          rising = low_high.0;
          within = low_high.1;
          same = low_in ∙ er;
          between = λ x i j z. none_between x i j (z ∙ sym er);
        }

    five_other : (u : ℕ) → v < u → u ≢ low → field sc' u 5 ≡ field sc u 5
    unfolding low
    five_other u l d = st.kept (8 * u + 5) (omega arith) (omega arith) (omega arith) (λ q. d (omega arith)) (omega arith)

    five_low : field sc' low 5 ≡ v
    unfolding low
    five_low = st.lower

    six_own : field sc' v 6 ≡ low
    unfolding low
    six_own = st.six

    six_other : (u : ℕ) → v < u → field sc' u 6 ≡ field sc u 6
    six_other u l = st.kept (8 * u + 6) (omega arith) (omega arith) (omega arith) (omega arith) (omega arith)

    seven_other : (u : ℕ) → v < u → u ≢ r → field sc' u 7 ≡ field sc u 7
    seven_other u l d = st.kept (8 * u + 7) (omega arith) (omega arith) (omega arith) (omega arith) (λ q. d (omega arith))

    -- the one node that had no lower neighbour in this tree was its lowest
    only_low : (u : ℕ) → v < u → u < g.N → u ≢ low → field sc u 5 ≡ mark → root_of g (node g u) ≢ node g r
    only_low u l b d m z =
        ⊎_elim
        (λ (k : u < low). none_between u l k z)
        (λ (k : low ≤ u). lk.no_lower u (omega arith) b m low (omega (arith, low_high)) (omega arith) (low_in ∙ sym z))
        (lt_or_le u low)

    pub below_linking : Linking g sc' v
    below_linking =
        record {
          lower = λ u a b d.
              ⊎_elim
              (λ (e : v ≡ u). absurd (d (rw (← e) st.five)))
              (λ (l : v < u).
              ⊎_elim
              (λ (e : u ≡ low). rw (e, five_low) near)
              (λ (n : u ≢ low). let q = five_other u l n in rw q (lk.lower u (omega arith) b (λ z. d (q ∙ z))))
              (eq_or_ne u low))
              (eq-or-lt_of_le a);
          no_lower = λ u a b d x i j.
              ⊎_elim
              (λ (e : u ≡ low). absurd (omega (arith, five_low, (rw e at d), adm.few_nodes)))
              (λ (n : u ≢ low).
              let m : field sc u 5 ≡ mark = sym (five_other u (omega arith) n) ∙ d in
              ⊎_elim
              (λ (e : v ≡ x). rw (← e) (λ z. only_low u (omega arith) b n m (sym z ∙ sym er)))
              (λ (l : v < x). lk.no_lower u (omega arith) b m x (omega arith) j)
              (eq-or-lt_of_le i))
              (eq_or_ne u low);
          higher = λ u a b d.
              ⊎_elim
              (λ (e : v ≡ u). rw (← e, six_own) near)
              (λ (l : v < u). let q = six_other u l in rw q (lk.higher u (omega arith) b (λ z. d (q ∙ z))))
              (eq-or-lt_of_le a);
          no_higher = λ u a b d.
              ⊎_elim
              (λ (e : v ≡ u). absurd (omega (arith, six_own, (rw (← e) at d), low_high, adm.few_nodes)))
              (λ (l : v < u). lk.no_higher u (omega arith) b (sym (six_other u l) ∙ d))
              (eq-or-lt_of_le a);
          lowest = λ u a b t.
              ⊎_elim
              (λ (e : v ≡ u). absurd (clash t (rw (← e) nr)))
              (λ (l : v < u).
              ⊎_elim
              (λ (e : u ≡ r). rw (e, st.lowest) (omega arith, sym er))
              (λ (n : u ≢ r). rw (seven_other u l n) (lk.lowest u (omega arith) b t))
              (eq_or_ne u r))
              (eq-or-lt_of_le a);
          no_lowest = λ u a b t x i j.
              ⊎_elim
              (λ (e : v ≡ u). absurd (clash t (rw (← e) nr)))
              (λ (l : v < u).
              ⊎_elim
              (λ (e : u ≡ r). absurd (omega (arith, (rw e at j), st.lowest)))
              (λ (n : u ≢ r).
              ⊎_elim
              (λ (e : v ≡ x). rw (← e, ← er) (λ z. n (omega arith)))
              (λ (k : v < x). lk.no_lowest u (omega arith) b t x (omega arith) (rw (seven_other u l n) at j))
              (eq-or-lt_of_le i))
              (eq_or_ne u r))
              (eq-or-lt_of_le a);
          rooted = λ u a b t.
              ⊎_elim
              (λ (e : v ≡ u). rw (← e, st.seven) (er, tr))
              (λ (l : v < u).
              ⊎_elim
              (λ (e : u ≡ r). absurd (clash tr (rw e at t)))
              (λ (n : u ≢ r). rw (seven_other u l n) (lk.rooted u (omega arith) b t))
              (eq_or_ne u r))
              (eq-or-lt_of_le a);
        }

-- node v linked
module _ (g : Graph) (adm : Admitted g) (sc sc' : List ℕ) (ps : Placed g sc) (v : ℕ) (h : v < g.N) (lk : Linking g sc (v + 1)) (bd : Bounded g.N sc (v + 1)) where
  -- the root found for v
  found : field sc v 3 ≢ mark → (node g (root_at sc (field sc v 3 / 3)) ≡ root_of g (node g v)) × (is_root g (node g (root_at sc (field sc v 3 / 3))) ≡ true)
  found d =
      let w : ℕ = field sc v 3 / 3 in
      let e = other_if g adm sc ps v h d in
      let a = placed_rising g adm sc ps v h d in
      let q : root_of g (node g v) ≡ root_of g (node g w) =
      root_of_inner g adm (node g v) (omega arith) (omega arith) e ∙ ap (root_of g) ((reader_node g adm (node g v) e).0 ∙ ap (λ z. node g (z / 3)) (sym (placed_other g adm sc ps v h e))) in
      ⊎_elim
      (λ (m : field sc w 3 ≡ mark).
      let t = root_if g adm sc ps w a.1 m in
      rw (root_at_root sc w m) (sym (q ∙ root_of_root g adm (node g w) t), t))
      (λ (m : field sc w 3 ≢ mark).
      let t = lk.rooted w (omega arith) a.1 (other_if g adm sc ps w a.1 m) in
      rw (root_at_other sc w m) (t.0 ∙ sym q, t.1))
      (eq_or_ne (field sc w 3) mark)

  pub linked_step : LinkedAt v sc sc' → Linking g sc' v
  linked_step st =
      ⊎_elim
      (λ (e : field sc v 3 ≡ mark). root_linking g adm sc sc' v h lk (root_if g adm sc ps v h e) (st.root e))
      (λ (d : field sc v 3 ≢ mark).
      let f = found d in
      let a = root_above g.N sc v h (placed_rising g adm sc ps) bd d in
      below_linking g adm sc sc' v h lk bd (other_if g adm sc ps v h d) (root_at sc (field sc v 3 / 3)) a.0 a.1 f.0 f.1 (st.other d))
      (eq_or_ne (field sc v 3) mark)

-- what the step keeps, whatever the graph
module _ (n : ℕ) (sc sc' : List ℕ) (v : ℕ) (h : v < n) (ri : Rising n sc) (bd : Bounded n sc (v + 1)) (st : LinkedAt v sc sc') where
  pub step_kept : LowKept sc sc'
  step_kept j l =
      ⊎_elim
      (λ (e : field sc v 3 ≡ mark). (st.root e).kept j (omega arith) (omega arith) (omega arith))
      (λ (d : field sc v 3 ≢ mark). (st.other d).kept j (omega arith) (omega arith) (omega arith) (omega arith) (omega arith))
      (eq_or_ne (field sc v 3) mark)

  pub step_bounded : Bounded n sc' v
  step_bounded u a b =
      ⊎_elim
      (λ (e : field sc v 3 ≡ mark).
      let s = st.root e in
      ⊎_elim
      (λ (q : v ≡ u). rw (← q, s.seven) (omega arith, h))
      (λ (l : v < u). let k = bd u (omega arith) b in rw (s.kept (8 * u + 7) (omega arith) (omega arith) (omega arith)) (omega arith, k.1))
      (eq-or-lt_of_le a))
      (λ (d : field sc v 3 ≢ mark).
      let s = st.other d in
      let r : ℕ = root_at sc (field sc v 3 / 3) in
      let o = root_above n sc v h ri bd d in
      ⊎_elim
      (λ (q : v ≡ u). rw (← q, s.seven) (omega arith, o.1))
      (λ (l : v < u).
      ⊎_elim
      (λ (q : u ≡ r). rw (q, s.lowest) (omega arith, h))
      (λ (n : u ≢ r). let k = bd u (omega arith) b in rw (s.kept (8 * u + 7) (omega arith) (omega arith) (omega arith) (omega arith) (λ z. n (omega arith))) (omega arith, k.1))
      (eq_or_ne u r))
      (eq-or-lt_of_le a))
      (eq_or_ne (field sc v 3) mark)

pub linking_none : (g : Graph) (sc : List ℕ) → Linking g sc g.N
linking_none g sc =
    record {
      lower = λ u a b. absurd (omega arith);
      no_lower = λ u a b. absurd (omega arith);
      higher = λ u a b. absurd (omega arith);
      no_higher = λ u a b. absurd (omega arith);
      lowest = λ u a b. absurd (omega arith);
      no_lowest = λ u a b. absurd (omega arith);
      rooted = λ u a b. absurd (omega arith);
    }

pub linking_all : (g : Graph) (sc : List ℕ) → Linking g sc 0 → Linked g sc
linking_all g sc lk =
    record {
      lower = λ u b. lk.lower u (omega arith) b;
      no_lower = λ u b d x. lk.no_lower u (omega arith) b d x (omega arith);
      higher = λ u b. lk.higher u (omega arith) b;
      no_higher = λ u b. lk.no_higher u (omega arith) b;
      lowest = λ u b. lk.lowest u (omega arith) b;
      no_lowest = λ u b t x. lk.no_lowest u (omega arith) b t x (omega arith);
    }
