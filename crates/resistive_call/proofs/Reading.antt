-- What the code reads of scratch and tables is what the numbers of a node's words are made of. From the laws on tests.
use mathlib.Core.Path.{◌≡◌, refl, sym, ap, ◌∙◌}
use mathlib.Core.Bool.{Bool, true, false}
use mathlib.Core.List.{List, [], ◌∷◌}
use mathlib.Core.Logic.{⊎_elim, ◌≢◌}
use Prim.Native.Nat.{ℕ, zero, suc, ◌+◌, ◌-◌, ◌/◌, ◌%◌, ◌≤◌, ◌<◌, min}
use native.Mathlib.Omega.{arith}
use borrow.Author.Tests.{eq-eqb, ne_eqb, lt-ltb, le-ltb}
use lib.ListN.{get_or}
use Rattle.graph.specs.Finite.{if_equal, if_less}
use Rattle.graph.specs.Graph.{Graph, mark, node, word, is_edge, is_xor}
use Rattle.graph.proofs.Cases.{eq_or_ne, lt_or_le}
use Rattle.graph.proofs.Tests.{equal, unequal}
use Rattle.choice.specs.Inner.{FirstBelow}
use Rattle.moves.specs.Decide.{MovesOf}
use Rattle.moves.specs.Rows.{rows, first_row, arity, flag, kind_moves, moves_at}
use Rattle.moves.proofs.Flags.{flag_past}
use Rattle.moves.proofs.Readers.{single}
use Rattle.moves.proofs.Moves.{node_row, moves_of}
use Rattle.resistive.specs.Family.{stored, family_by}
use Rattle.resistive.specs.Resistive.{still_moves}
use Rattle.state.specs.State.{field, Ordered}
use Rattle.trees.specs.Costing.{inner_at}
use Rattle.trees.specs.Deciding.{ReaderDecided}
use Rattle.trees.proofs.LinkSteps.{placed_other, other_if}
use Rattle.resistive_call.proofs.Families.{arity_xor, arity_majority}
use Rattle.resistive_call.proofs.Words.{turn_own, turn_other, cost_out, cost_below, cost_above}
use Rattle.resistive_call.specs.Keys.{turn_at, turn_cost, word_key, word_at, word_keys, Low, CostsLow, score_by, key_by, reader_by, beside_at, moves_here, FamiliesLow}

pub stored_same : (x t : ℕ) → x % 2 ≡ t → ◌≡◌ {A = ℕ} 0 (stored x t)
unfolding stored
stored_same x t e = equal (x % 2) t 0 (x / 2) e refl

pub stored_other : (x t : ℕ) → x % 2 ≢ t → x / 2 ≡ stored x t
unfolding stored
stored_other x t e = unequal (x % 2) t 0 (x / 2) e refl

-- which moves turn the readers
xor_turns : (m : ℕ) → m < 4 → flag true m 3 ≡ m / 2
unfolding flag rows first_row arity if_less
xor_turns zero h = refl
xor_turns (suc zero) h = refl
xor_turns (suc (suc zero)) h = refl
xor_turns (suc (suc (suc zero))) h = refl
xor_turns (suc (suc (suc (suc m)))) h = absurd (omega arith)

majority_turns : (m : ℕ) → m < 2 → flag false m 3 ≡ m
unfolding flag rows first_row arity if_less
majority_turns zero h = refl
majority_turns (suc zero) h = refl
majority_turns (suc (suc m)) h = absurd (omega arith)

pub turned_xor : (x : Bool) (m : ℕ) → x ≡ true → m / 2 ≡ 1 → 1 ≡ flag x m 3
turned_xor x m e q = rw e (omega (arith, xor_turns m (omega arith)))

pub unturned_xor : (x : Bool) (m : ℕ) → x ≡ true → m / 2 ≢ 1 → 0 ≡ flag x m 3
unturned_xor x m e q =
    rw e
    (⊎_elim
    (λ (l : m < 4). let z : m / 2 ≡ 0 = ⊎_elim (λ (y : m / 2 ≡ 0). y) (λ (y : m / 2 ≢ 0). absurd (q (omega arith))) (eq_or_ne (m / 2) 0) in omega (arith, xor_turns m l))
    (λ (l : 4 ≤ m). sym (flag_past true m 3 (omega (arith, arity_xor))))
    (lt_or_le m 4))

pub turned_majority : (x : Bool) (m : ℕ) → x ≡ false → m ≡ 1 → 1 ≡ flag x m 3
turned_majority x m e q = rw e (omega (arith, majority_turns m (omega arith)))

pub unturned_majority : (x : Bool) (m : ℕ) → x ≡ false → m ≢ 1 → 0 ≡ flag x m 3
unturned_majority x m e q =
    rw e
    (⊎_elim
    (λ (l : m < 2). let z : m ≡ 0 = ⊎_elim (λ (y : m ≡ 0). y) (λ (y : m ≢ 0). absurd (q (omega arith))) (eq_or_ne m 0) in omega (arith, majority_turns m l))
    (λ (l : 2 ≤ m). sym (flag_past false m 3 (omega (arith, arity_majority))))
    (lt_or_le m 2))

-- a turn that is settled, as a stored word has it
fixed_is : (s t : ℕ) → s ≤ 1 → t < 2 → stored (608200 + s) t ≡ if_equal t s 0 304100
unfolding stored if_equal
fixed_is zero zero a b = refl
fixed_is zero (suc zero) a b = refl
fixed_is (suc zero) zero a b = refl
fixed_is (suc zero) (suc zero) a b = refl
fixed_is zero (suc (suc t)) a b = absurd (omega arith)
fixed_is (suc zero) (suc (suc t)) a b = absurd (omega arith)
fixed_is (suc (suc s)) t a b = absurd (omega arith)

-- what both turns of index u cost
module _ (h : Graph) (sc : List ℕ) (v s u : ℕ) where
  inner_input : u ≤ h.I → inner_at h.I sc u ≡ false
  unfolding inner_at
  inner_input l = rw (le-ltb h.I u l)

  pub turns_input : u ≤ h.I → (t : ℕ) → t < 2 → stored 608200 t ≡ turn_cost h sc v s u t
  turns_input l t k = fixed_is 0 t (omega arith) k ∙ sym (cost_out h sc v s u t (inner_input l))

  module _ (w : ℕ) (l : h.I < u) (e : w ≡ u - (h.I + 1)) where
    inner_root : field sc w 3 ≡ mark → inner_at h.I sc u ≡ false
    unfolding inner_at
    inner_root m = rw (lt-ltb h.I u l, ← e, eq-eqb (field sc w 3) mark m)

    inner_node : field sc w 3 ≢ mark → inner_at h.I sc u ≡ true
    unfolding inner_at
    inner_node m = rw (lt-ltb h.I u l, ← e, ne_eqb (field sc w 3) mark m)

    pub turns_root : field sc w 3 ≡ mark → (t : ℕ) → t < 2 → stored 608200 t ≡ turn_cost h sc v s u t
    turns_root m t k = fixed_is 0 t (omega arith) k ∙ sym (cost_out h sc v s u t (inner_root m))

    pub turns_below : field sc w 3 ≢ mark → w < v → (x : ℕ) → x ≡ field sc w 4 → (t : ℕ) → t < 2 → stored x t ≡ turn_cost h sc v s u t
    turns_below m k x p t i =
        ap (λ (y : ℕ). stored y t) (p ∙ ap (λ (y : ℕ). field sc y 4) e) ∙ sym (cost_below h sc v s u t (inner_node m) (omega arith))

    turns_decided : field sc w 3 ≢ mark → v ≤ w → (f : ℕ) → f ≤ 1 → turn_at h sc v s u ≡ f → (t : ℕ) → t < 2 → stored (608200 + f) t ≡ turn_cost h sc v s u t
    turns_decided m k f a q t i =
        fixed_is f t a i ∙ ap (λ (y : ℕ). if_equal t y 0 304100) (sym q) ∙ sym (cost_above h sc v s u t (inner_node m) (omega arith))

    pub turns_own : field sc w 3 ≢ mark → w ≡ v → s ≤ 1 → (t : ℕ) → t < 2 → stored (608200 + s) t ≡ turn_cost h sc v s u t
    turns_own m k a = turns_decided m (omega arith) s a (turn_own h sc v s u (omega arith))

    pub turns_above : field sc w 3 ≢ mark → v ≤ w → w ≢ v → (x f : ℕ) (y : Bool) → x ≡ field sc w 4 → y ≡ is_xor h w → f ≡ flag y x 3 → f ≤ 1 → (t : ℕ) → t < 2
        → stored (608200 + f) t ≡ turn_cost h sc v s u t
    turns_above m k d x f y ex ey ef a =
        let own : f ≡ flag (is_xor h w) (field sc w 4) 3 = ef ∙ ap (λ (i : ℕ). flag y i 3) ex ∙ ap (λ (i : Bool). flag i (field sc w 4) 3) ey in
        turns_decided m k f a (turn_other h sc v s u (λ z. d (omega arith)) ∙ sym (own ∙ ap (λ (i : ℕ). flag (is_xor h i) (field sc i 4) 3) e))

-- the numbers of a word
module _ (h : Graph) (sc : List ℕ) (v s j : ℕ) where
  pub key_edge : is_edge h j ≡ true → (x c : ℕ) → x ≡ word h j → ((t : ℕ) → t < 2 → stored c t ≡ turn_cost h sc v s (x / 2) t) → (b p r : ℕ) → p ≡ (x + b) % 2 → r ≡ stored c p
      → r ≡ word_at h sc v s j b
  unfolding word_key
  key_edge i x c ex costs b p r ep er = rw (i, ← ex) (er ∙ ap (stored c) ep ∙ costs ((x + b) % 2) (omega arith))

  pub key_mark : is_edge h j ≡ false → (b : ℕ) → word_at h sc v s j b ≡ if_equal b 0 0 304100
  unfolding word_key
  key_mark i b = rw i

  pub mark_even : is_edge h j ≡ false → word_at h sc v s j 0 ≡ 0
  unfolding if_equal
  mark_even i = key_mark i 0

  pub mark_odd : is_edge h j ≡ false → word_at h sc v s j 1 ≡ 304100
  unfolding if_equal
  mark_odd i = key_mark i 1

module _ (h : Graph) (sc : List ℕ) (v s : ℕ) where
  pub low_as : (w : ℕ) (z : List ℕ) → z ≡ word_keys h sc v s w → CostsLow h sc v w → Low z
  low_as w z e l i = rw e (l s i)

pub low_two : (m a b : ℕ) → a ≤ m → b ≤ m → (i : ℕ) → get_or (a ∷ b ∷ []) i 0 ≤ m
low_two m a b p q zero = p
low_two m a b p q (suc zero) = q
low_two m a b p q (suc (suc i)) = omega arith

-- the reader's family
module _ (h : Graph) (sc : List ℕ) (w : ℕ) (x : Bool) (m : ℕ) (ex : x ≡ is_xor h w) (em : m ≡ field sc w 4) where
  pub row_as : field sc w 4 < kind_moves h (node h w) → m < arity x
  row_as l = rw (ex, em) (node_row h w (field sc w 4) l)

  pub reader_as : (v s : ℕ) (z : List ℕ) (r : ℕ) → z ≡ word_keys h sc v s w → r ≡ family_by x z m → r ≡ reader_by h sc v w s
  unfolding reader_by
  reader_as v s z r ez q = rw (← ex, ← ez, ← em) q

module _ (h : Graph) (ls sc : List ℕ) (v : ℕ) (x : Bool) (n : ℕ) (ex : x ≡ is_xor h v) (en : n ≡ moves_at h ls (node h v)) where
  -- the moves that a node has, as they are read
  pub moves_some : MovesOf x n
  moves_some = rw (ex, en) (moves_of h ls v)

  module _ (z : List ℕ) (ez : z ≡ word_keys h sc v 0 v) where
    pub key_as : (r : ℕ) → r ≡ key_by x n z → r ≡ key_by (is_xor h v) (moves_at h ls (node h v)) (word_keys h sc v 0 v)
    key_as r q = rw (← ex, ← en, ← ez) q

    abbrev Found : ℕ → Type 0
    Found k = FirstBelow (score_by (is_xor h v) (word_keys h sc v 0 v) (beside_at h sc v 0) (beside_at h sc v 1)) (moves_here h ls sc v) k

    pub found_root : (k c p : ℕ) → p ≡ field sc v 3 → p ≡ mark → c ≡ min n (still_moves x) → FirstBelow (score_by x z 0 0) c k → Found k
    unfolding beside_at moves_here
    found_root k c p ep m ec f =
        let e : field sc v 3 ≡ mark = sym ep ∙ m in
        let a : if_equal (field sc v 3) mark (min (moves_at h ls (node h v)) (still_moves (is_xor h v))) (moves_at h ls (node h v)) ≡ min n (still_moves x) =
        sym (equal (field sc v 3) mark _ _ e (rw (← ex, ← en))) in
        let b : (s : ℕ) → if_equal (field sc v 3) mark 0 (reader_by h sc v (field sc v 3 / 3) s) ≡ 0 = λ s. sym (equal (field sc v 3) mark 0 _ e refl) in
        rw (a, b 0, b 1, ← ex, ← ez, ← ec) f

    pub found_other : (k p w : ℕ) (y : List ℕ) → p ≡ field sc v 3 → p ≢ mark → w ≡ p / 3 → y ≡ reader_by h sc v w 0 ∷ reader_by h sc v w 1 ∷ [] → FirstBelow (score_by x z (get_or y 0 0) (get_or y 1 0)) n k → Found k
    unfolding beside_at moves_here
    found_other k p w y ep m ew ey f =
        let d : field sc v 3 ≢ mark = λ q. m (ep ∙ q) in
        let c : if_equal (field sc v 3) mark (min (moves_at h ls (node h v)) (still_moves (is_xor h v))) (moves_at h ls (node h v)) ≡ n =
        sym (unequal (field sc v 3) mark _ _ d en) in
        let q : field sc v 3 / 3 ≡ w = ap (λ i. i / 3) (sym ep) ∙ sym ew in
        let i : (s : ℕ) → if_equal (field sc v 3) mark 0 (reader_by h sc v (field sc v 3 / 3) s) ≡ reader_by h sc v w s =
        λ s. sym (unequal (field sc v 3) mark 0 _ d refl) ∙ ap (λ j. reader_by h sc v j s) q in
        rw (c, i 0, i 1, ← ap (λ (l : List ℕ). get_or l 0 0) ey, ← ap (λ (l : List ℕ). get_or l 1 0) ey, ← ex, ← ez) f

-- the reader of a node, as it is read
module _ (g : Graph) (sc : List ℕ) (o : Ordered g sc) (v : ℕ) (l : v < g.N) (p : ℕ) (e : p ≡ field sc v 3) (d : p ≢ mark) where
  pub reader_now : (w : ℕ) → w ≡ p / 3 → ReaderDecided g sc v → FamiliesLow g sc v
      → (w < g.N) × (field sc v 3 ≢ mark) × (field sc w 4 < kind_moves g (node g w)) × CostsLow g sc v w
  reader_now w q rd fl =
      let d' : field sc v 3 ≢ mark = λ z. d (e ∙ z) in
      let s = other_if g o.admitted sc o.placed v l d' in
      let z : w ≡ field sc v 3 / 3 = q ∙ ap (λ y. y / 3) e in
      (omega (arith, placed_other g o.admitted sc o.placed v l s, (single g (node g v) s).at.below), d', rw z (rd d'), rw z (fl.reader d'))
