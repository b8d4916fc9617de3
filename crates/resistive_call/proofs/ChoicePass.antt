-- The moves of a tree by falling index, each stored where the node's costs stood: it is the first least one under the moves stored
-- above it, and all together are M-109's choice. From the theorem on decided moves and the laws on states.
use mathlib.Core.Path.{◌≡◌, refl, sym, ap, ◌∙◌}
use mathlib.Core.Bool.{Bool, true, false, cond}
use mathlib.Core.List.{List}
use mathlib.Core.Logic.{⊎_elim, ◌≢◌}
use Prim.Native.Nat.{ℕ, suc, ◌+◌, ◌-◌, ◌*◌, ◌/◌, ◌≤◌, ◌<◌, min}
use native.Mathlib.Omega.{arith}
use borrow.Author.Tests.{eq-eqb, ne_eqb, lt-ltb}
use lib.Dec.{eqb}
use Rattle.graph.specs.Admission.{Admitted}
use Rattle.graph.specs.Finite.{if_equal}
use Rattle.graph.specs.Graph.{Graph, mark, node, word, is_edge, is_xor}
use Rattle.graph.proofs.Cases.{eq_or_ne, lt_or_le, true_or_false}
use Rattle.graph.proofs.Tests.{equal, unequal}
use Rattle.choice.proofs.Best.{first_shift}
use Rattle.moves.specs.Apply.{Choice, at, seen}
use Rattle.moves.specs.Cost.{inner}
use Rattle.moves.specs.Rows.{arity, flag, kind_moves, moves_at}
use Rattle.moves.specs.Tree.{is_root, place, root_of}
use Rattle.moves.proofs.Changed.{at_same, at_other}
use Rattle.moves.proofs.Compose.{seen_low, seen_node}
use Rattle.moves.proofs.Count.{clash}
use Rattle.moves.proofs.Flags.{flag_bit}
use Rattle.moves.proofs.Moves.{moves_no_more, moves_of, moves_row, node_row}
use Rattle.moves.proofs.Readers.{root_of_root, root_of_above, root_of_inner, not_root}
use Rattle.moves.proofs.TreeBest.{reader_node}
use Rattle.resistive.specs.Family.{below, family, family_by, stored, earlier, seen_in, reader_family, key_cost, key_turns, key_stored}
use Rattle.resistive.specs.Resistive.{still_moves, still_at}
use Rattle.resistive.proofs.Still.{still_root, still_other, still_at_few}
use Rattle.resistive.proofs.Deciding.{keys_best, reader_local}
use Rattle.state.specs.State.{field}
use Rattle.trees.specs.Deciding.{moves_in, ReaderDecided}
use Rattle.trees.proofs.DecidePass.{moves_at_lem}
use Rattle.trees.proofs.LinkSteps.{placed_root, placed_other, placed_low, other_if}
use Rattle.trees.proofs.Passes.{FallenFrom, LooksUp}
use Rattle.trees.proofs.Ready.{Ready, ready_costs, named_below, named_in}
use Rattle.resistive_call.specs.Keys.{turn_at, word_keys, score_by, reader_by, beside_at, moves_here, KeyedBelow, FamiliesLow, StillDecided}
use Rattle.resistive_call.proofs.Families.{by_turn}
use Rattle.resistive_call.proofs.KeyPass.{below_is}
use Rattle.resistive_call.proofs.Words.{words_low, family_now, turn_own, turn_other}
use Rattle.choice.specs.Inner.{FirstBelow}

-- the same first least move, the scores being the same
first_like : (f e : ℕ → ℕ) (n m : ℕ) → ((k : ℕ) → k < n → f k ≡ e k) → FirstBelow e n m → FirstBelow f n m
first_like f e n m same = first_shift f e 0 0 n m (λ k l. omega (arith, same k l))

first_in : (f : ℕ → ℕ) (n n' m m' : ℕ) → n ≡ n' → m ≡ m' → FirstBelow f n m → FirstBelow f n' m'
first_in f n n' m m' p q t = rw (← p, ← q) t

moves_as : (h : Graph) (sc : List ℕ) (u : ℕ) → moves_in h.I sc u ≡ field sc (u - (h.I + 1)) 4
unfolding moves_in
moves_as h sc u = refl

inner_yes : (h : Graph) (u : ℕ) → h.I < u → is_root h u ≡ false → inner h u ≡ true
unfolding inner
inner_yes h u l e = rw (lt-ltb h.I u l, e)

seen_in_lem : (h : Graph) (r : ℕ) (m : Choice) (u : ℕ) → root_of h u ≡ r → seen_in h r m u ≡ seen h m u
unfolding seen_in
seen_in_lem h r m u e = rw (eq-eqb (root_of h u) r e)

seen_out : (h : Graph) (r : ℕ) (m : Choice) (u : ℕ) → root_of h u ≢ r → seen_in h r m u ≡ 0
unfolding seen_in
seen_out h r m u e = rw (ne_eqb (root_of h u) r e)

seen_input : (h : Graph) (r : ℕ) (m : Choice) (u : ℕ) → u ≤ h.I → seen_in h r m u ≡ 0
unfolding seen_in
seen_input h r m u e = rw (seen_low h m u e) (same (eqb (root_of h u) r))
  where
    same : (b : Bool) → ◌≡◌ {A = ℕ} (cond b 0 0) 0
    same true = refl
    same false = refl

beside_root : (h : Graph) (sc : List ℕ) (v s : ℕ) → field sc v 3 ≡ mark → beside_at h sc v s ≡ 0
unfolding beside_at
beside_root h sc v s e = sym (equal (field sc v 3) mark 0 _ e refl)

beside_other : (h : Graph) (sc : List ℕ) (v s p : ℕ) → field sc v 3 ≢ mark → field sc v 3 ≡ p → beside_at h sc v s ≡ family_by (is_xor h (p / 3)) (word_keys h sc v s (p / 3)) (field sc (p / 3) 4)
unfolding beside_at reader_by
beside_other h sc v s p d e = sym (unequal (field sc v 3) mark 0 _ d refl) ∙ rw e

score_at : (x : Bool) (z : List ℕ) (s t k : ℕ) → score_by x z s t k ≡ family_by x z k + if_equal (flag x k 3) 0 s t
unfolding score_by
score_at x z s t k = refl

none_turn : (f : ℕ) → ◌≡◌ {A = ℕ} (if_equal f 0 0 0) 0
unfolding if_equal
none_turn f = same (eqb f 0)
  where
    same : (b : Bool) → ◌≡◌ {A = ℕ} (cond b 0 0) 0
    same true = refl
    same false = refl

-- what a move of node v is weighed by
abbrev score_of : Graph → List ℕ → ℕ → Choice → ℕ → ℕ → ℕ
score_of h ls r m v k = below h (key_cost h ls) (key_turns h ls) v k + reader_family h (key_cost h ls) (key_turns h ls) r m v (flag (is_xor h v) k 3)

-- x is the first least move of node v, those above it being d's
pub record ChoiceRight (h : Graph) (ls : List ℕ) (r : ℕ) (d : Choice) (v x : ℕ) : Type 0 where
  pub top : v ≡ r → FirstBelow (below h (key_cost h ls) (key_turns h ls) v) (still_at h ls (node h r) (node h v)) x
  pub rest : v ≢ r → FirstBelow (score_of h ls (node h r) d v) (still_at h ls (node h r) (node h v)) x

module _ (h : Graph) (ls sc₁ : List ℕ) (rd : Ready h sc₁) (r : ℕ) (rn : r < h.N) (rt : is_root h (node h r) ≡ true) where
  adm : Admitted h
  adm = rd.admitted

  pub choices_look : LooksUp h r (ChoiceRight h ls r)
  choices_look d d' v x b t same m =
      record {
        top = m.top;
        rest = λ z.
            let no = not_root h adm (node h r) (node h v) t (λ q. z (omega arith)) in
            first_like (score_of h ls (node h r) d' v) (score_of h ls (node h r) d v) (still_at h ls (node h r) (node h v)) x
            (λ k l. sym (ap (λ y. below h (key_cost h ls) (key_turns h ls) v k + y) (reader_local h adm (key_cost h ls) (key_turns h ls) (node h r) v b t no d d' same (flag (is_xor h v) k 3))))
            (m.rest z);
      }

  -- a decided node has one of its moves
  pub choices_fit : (n : ℕ) (sc : List ℕ) → FallenFrom h (ChoiceRight h ls r) sc₁ r n sc → (v : ℕ) → n ≤ v → v < h.N → root_of h (node h v) ≡ node h r → field sc v 4 < moves_at h ls (node h v)
  choices_fit n sc mf v k l t =
      let m = mf.done v k l t in
      ⊎_elim
      (λ (e : v ≡ r). omega (arith, (m.top e).below, still_at_few h ls (node h r) (node h v)))
      (λ (e : v ≢ r). omega (arith, (m.rest e).below, still_at_few h ls (node h r) (node h v)))
      (eq_or_ne v r)

  -- all decided
  pub choices_all : (sc : List ℕ) → FallenFrom h (ChoiceRight h ls r) sc₁ r 0 sc → StillDecided h ls (node h r) sc
  choices_all sc mf =
      record {
        permitted = λ v l t. choices_fit 0 sc mf v (omega arith) l t;
        best =
            keys_best h ls (node h r) adm (record { after_inputs = omega arith; within = omega arith; root = rt }) (moves_in h.I sc)
            (record {
              top = λ v e. let q : v ≡ r = omega arith in rw (q, moves_at_lem h sc r) ((mf.done r (omega arith) rn (root_of_root h adm (node h r) rt)).top refl);
              rest = λ v l t z. rw (moves_at_lem h sc v) ((mf.done v (omega arith) l t).rest (λ q. z (rw q)));
            });
      }

  -- node v of the tree, all above it decided
  module _ (kd : KeyedBelow h ls sc₁ (node h r) r) (v : ℕ) (vr : v ≤ r) (here : root_of h (node h v) ≡ node h r) (sc : List ℕ) (mf : FallenFrom h (ChoiceRight h ls r) sc₁ r (suc v) sc) where
    inside : v < h.N
    inside = omega arith

    ready : Ready h sc
    ready = ready_costs h sc₁ sc mf.only h rd

    no_root : v ≢ r → is_root h (node h v) ≡ false
    no_root z = not_root h adm (node h r) (node h v) here (λ q. z (omega arith))

    -- what is below v and named by a node of the tree has its costs
    costed : (w : ℕ) → w < h.N → root_of h (node h w) ≡ node h r → (i t : ℕ) → i < 3 → t < 2 → is_edge h (3 * w + i) ≡ true → inner h (word h (3 * w + i) / 2) ≡ true
        → word h (3 * w + i) / 2 < node h v → stored (field sc (word h (3 * w + i) / 2 - (h.I + 1)) 4) t ≡ key_stored h ls (word h (3 * w + i) / 2) t
    costed w wn wt i t l k e y a =
        let u : ℕ = word h (3 * w + i) / 2 in
        let b = named_in h adm w i wn l e y in
        let x : ℕ = u - (h.I + 1) in
        let q : node h x ≡ u = omega arith in
        ap (λ (y : ℕ). stored y t) (mf.under x (omega arith)) ∙ (rw q at (kd x t (omega arith) k (rw q (b.1 ∙ wt))))

    -- its reader
    abbrev p : ℕ
    p = place h (node h v) / 3

    above : is_root h (node h v) ≡ false → (field sc v 3 ≡ place h (node h v)) × (v < p) × (p < h.N) × (root_of h (node h p) ≡ node h r)
    above s =
        let a = reader_node h adm (node h v) s in
        (placed_other h adm sc ready.placed v inside s, omega arith, a.2, ap (root_of h) (sym a.0) ∙ sym (root_of_inner h adm (node h v) (omega arith) (omega arith) s) ∙ here)

    reader_fits : is_root h (node h v) ≡ false → field sc p 4 < kind_moves h (node h p)
    reader_fits s = let a = above s in omega (arith, choices_fit (suc v) sc mf p a.1 a.2 a.3, moves_no_more h ls (node h p))

    pub reader_decided : ReaderDecided h sc v
    reader_decided d =
        let s = other_if h adm sc ready.placed v inside d in
        rw (above s).0 (reader_fits s)

    pub families_low : FamiliesLow h sc v
    families_low =
        record {
          own = words_low h ls sc ready v v inside (costed v inside here);
          reader = λ d. let s = other_if h adm sc ready.placed v inside d in let a = above s in rw a.0 (words_low h ls sc ready v p a.2 (costed p a.2 a.3));
        }

    own_is : (k : ℕ) → k < arity (is_xor h v) → below h (key_cost h ls) (key_turns h ls) v k ≡ family_by (is_xor h v) (word_keys h sc v 0 v) k
    own_is = below_is h ls sc ready v inside (costed v inside here)

    has_row : (k : ℕ) → k < moves_at h ls (node h v) → k < arity (is_xor h v)
    has_row k l = moves_row (is_xor h v) (moves_at h ls (node h v)) k (moves_of h ls v) l

    -- the reader's family, v turned s times
    module _ (no : is_root h (node h v) ≡ false) (s : ℕ) (sl : s ≤ 1) where
      abbrev m : Choice
      m = moves_in h.I sc

      abbrev σ : ℕ → ℕ
      σ = at (seen_in h (node h r) m) (node h v) s

      still : (i : ℕ) → i < 3 → is_edge h (3 * p + i) ≡ true → inner h (word h (3 * p + i) / 2) ≡ false → σ (word h (3 * p + i) / 2) ≡ 0
      still i l e y =
          let u : ℕ = word h (3 * p + i) / 2 in
          let a = above no in
          let lo = named_below h adm p i a.2 l e in
          let q : u ≢ node h v = λ z. clash (rw z (inner_yes h (node h v) (omega arith) no)) y in
          at_other (seen_in h (node h r) m) (node h v) s u q ∙
          ⊎_elim
          (λ (b : h.I < u).
          ⊎_elim
          (λ (z : is_root h u ≡ true).
          seen_out h (node h r) m u (λ w. omega (arith, root_of_root h adm u z, root_of_above h adm (node h p), a.3, lo)))
          (λ (z : is_root h u ≡ false). absurd (clash (inner_yes h u b z) y))
          (true_or_false (is_root h u)))
          (λ (b : u ≤ h.I). seen_input h (node h r) m u b)
          (lt_or_le h.I u)

      set : (i : ℕ) → i < 3 → is_edge h (3 * p + i) ≡ true → inner h (word h (3 * p + i) / 2) ≡ true → node h v ≤ word h (3 * p + i) / 2
          → (σ (word h (3 * p + i) / 2) ≡ turn_at h sc v s (word h (3 * p + i) / 2)) × (σ (word h (3 * p + i) / 2) ≤ 1)
      set i l e y c =
          let u : ℕ = word h (3 * p + i) / 2 in
          let a = above no in
          let lo = named_below h adm p i a.2 l e in
          ⊎_elim
          (λ (q : u ≡ node h v).
          let z : σ u ≡ s = ap σ q ∙ at_same (seen_in h (node h r) m) (node h v) s in
          (z ∙ sym (turn_own h sc v s u q), omega arith))
          (λ (q : u ≢ node h v).
          let b = named_in h adm p i a.2 l e y in
          let x : ℕ = u - (h.I + 1) in
          let n : node h x ≡ u = omega arith in
          let z : σ u ≡ flag (is_xor h x) (field sc x 4) 3 =
          at_other (seen_in h (node h r) m) (node h v) s u q ∙ seen_in_lem h (node h r) m u (b.1 ∙ a.3) ∙
          (rw n at (seen_node h m x (omega arith))) ∙ ap (λ y. flag (is_xor h x) y 3) (moves_as h sc u) in
          (z ∙ sym (turn_other h sc v s u q), omega (arith, z, flag_bit (is_xor h x) (field sc x 4) 3 (omega arith))))
          (eq_or_ne u (node h v))

      reader_is : beside_at h sc v s ≡ reader_family h (key_cost h ls) (key_turns h ls) (node h r) m v s
      unfolding reader_family
      reader_is =
          let a = above no in
          beside_other h sc v s (place h (node h v)) (placed_low h adm sc ready.placed v inside no) a.0 ∙
          sym (family_now h ls sc ready v p a.2 (costed p a.2 a.3) s σ still set (field sc p 4) (node_row h p (field sc p 4) (reader_fits no))) ∙
          ap (family h true (earlier h v) σ (key_cost h ls) (key_turns h ls) p) (sym (moves_at_lem h sc p))

    -- the move found
    module _ (k : ℕ) (fb : FirstBelow (score_by (is_xor h v) (word_keys h sc v 0 v) (beside_at h sc v 0) (beside_at h sc v 1))
        (moves_here h ls sc v) k) where
      found_root : v ≡ r → FirstBelow (below h (key_cost h ls) (key_turns h ls) v) (still_at h ls (node h r) (node h v)) k
      unfolding moves_here
      found_root z =
          let e : field sc v 3 ≡ mark = placed_root h adm sc ready.placed v inside (rw z rt) in
          let q : node h v - (h.I + 1) ≡ v = omega arith in
          let n : moves_here h ls sc v ≡ still_at h ls (node h r) (node h v) =
          sym (equal (field sc v 3) mark (min (moves_at h ls (node h v)) (still_moves (is_xor h v))) (moves_at h ls (node h v)) e refl) ∙
          ap (λ x. min (moves_at h ls (node h v)) (still_moves (is_xor h x))) (sym q) ∙ sym (still_root h ls (node h v)) ∙ ap (λ x. still_at h ls (node h x) (node h v)) z in
          first_like (below h (key_cost h ls) (key_turns h ls) v) (score_by (is_xor h v) (word_keys h sc v 0 v) (beside_at h sc v 0) (beside_at h sc v 1)) (still_at h ls (node h r) (node h v)) k
          (λ j l.
          let row = has_row j (omega (arith, still_at_few h ls (node h r) (node h v))) in
          omega (
            arith,
            own_is j row,
            score_at (is_xor h v) (word_keys h sc v 0 v) (beside_at h sc v 0) (beside_at h sc v 1) j,
            ap (λ y. if_equal (flag (is_xor h v) j 3) 0 y (beside_at h sc v 1)) (beside_root h sc v 0 e) ∙ ap (if_equal (flag (is_xor h v) j 3) 0 0) (beside_root h sc v 1 e) ∙ none_turn (flag (is_xor h v) j 3),
          ))
          (first_in _ _ _ k k n refl fb)

      found_other : v ≢ r → FirstBelow (score_of h ls (node h r) (moves_in h.I sc) v) (still_at h ls (node h r) (node h v)) k
      unfolding moves_here
      found_other z =
          let no = no_root z in
          let d : field sc v 3 ≢ mark = placed_low h adm sc ready.placed v inside no in
          let n : moves_here h ls sc v ≡ still_at h ls (node h r) (node h v) =
          sym (unequal (field sc v 3) mark (min (moves_at h ls (node h v)) (still_moves (is_xor h v))) (moves_at h ls (node h v)) d refl) ∙
          sym (still_other h ls (node h r) (node h v) (λ q. z (omega arith))) in
          first_like (score_of h ls (node h r) (moves_in h.I sc) v) (score_by (is_xor h v) (word_keys h sc v 0 v) (beside_at h sc v 0) (beside_at h sc v 1)) (still_at h ls (node h r) (node h v)) k
          (λ j l.
          let row = has_row j (omega (arith, still_at_few h ls (node h r) (node h v))) in
          let f : ℕ = flag (is_xor h v) j 3 in
          let fl = flag_bit (is_xor h v) j 3 (omega arith) in
          omega (
            arith,
            own_is j row,
            score_at (is_xor h v) (word_keys h sc v 0 v) (beside_at h sc v 0) (beside_at h sc v 1) j,
            by_turn f (beside_at h sc v) fl,
            reader_is no f fl,
          ))
          (first_in _ _ _ k k n refl fb)

      pub choice_right : ChoiceRight h ls r (moves_in h.I sc) v k
      choice_right = record { top = found_root; rest = found_other }
