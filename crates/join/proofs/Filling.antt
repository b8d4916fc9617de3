-- Words that are put one node after another, and the words of a node of the second by their places. From the tests of numbers.
use mathlib.Core.Path.{◌≡◌, refl, sym, ap, ◌∙◌}
use mathlib.Core.Bool.{true, not, ◌&&◌, and-false}
use mathlib.Core.List.{List, [], ◌∷◌, ◌++◌, append_assoc}
use mathlib.Core.Logic.{⊎_elim, ◌≢◌}
use Prim.Native.Nat.{ℕ, suc, ◌+◌, ◌*◌, ◌/◌, ◌%◌, ◌≤◌, ◌<◌}
use native.Mathlib.Omega.{arith}
use native.Mathlib.Numerals.{add-one}
use borrow.Author.Tests.{eq-eqb, ne_eqb}
use lib.Dec.{eqb}
use lib.ListN.{length, get_or}
use Rattle.graph.specs.Finite.{tab, if_equal}
use Rattle.graph.specs.Graph.{mark}
use Rattle.graph.specs.Inner.{begun, word_put, words_put}
use Rattle.graph.specs.Literals.{literals, held, filled}
use Rattle.graph.proofs.Cases.{eq_or_ne}
use Rattle.graph.proofs.Filled.{put_tab}
use Rattle.graph.proofs.Finite.{length_tab, tab_last}
use Rattle.graph.proofs.Literals.{held_literals}
use Rattle.graph.proofs.Tests.{equal, unequal}
use Rattle.join.specs.Filling.{met_by, met_word_by, Stand}

-- slices of the same lengths hold as many
pub room_kept : (us bs vs ds : List ℕ) (n : ℕ) → length vs ≡ length us → length ds ≡ length bs → n ≤ held (literals us bs) → n ≤ held (literals vs ds)
room_kept us bs vs ds n p q h = omega (arith, held_literals us bs, held_literals vs ds)

-- words put behind others
puts_append : (j : ℕ) (ws vs l : List ℕ) → words_put j (ws ++ vs) l ≡ words_put (j + length ws) vs (words_put j ws l)
puts_append j [] vs l = let e : j + 0 ≡ j = omega arith in rw e
puts_append j (x ∷ ws) vs l =
    let e : suc j + length ws ≡ j + suc (length ws) = omega arith in
    rw e at (puts_append (suc j) ws vs (word_put j x l))

-- the words of one node more
tab_three : (k : ℕ) (f : ℕ → ℕ) → tab (3 * (k + 1)) f ≡ tab (3 * k) f ++ (f (3 * k) ∷ f (3 * k + 1) ∷ f (3 * k + 2) ∷ [])
tab_three k f =
    let n : ℕ = 3 * k in
    let s₁ : n + 1 ≡ suc n = omega arith in
    let s₂ : n + 2 ≡ suc (suc n) = omega arith in
    let s₃ : 3 * (k + 1) ≡ suc (suc (suc n)) = omega arith in
    rw (s₁, s₂, s₃, tab_last (suc (suc n)) f, tab_last (suc n) f, tab_last n f)
    (append_assoc (tab n f ++ (f n ∷ [])) (f (suc n) ∷ []) (f (suc (suc n)) ∷ [])
    ∙ append_assoc (tab n f) (f n ∷ []) (f (suc n) ∷ f (suc (suc n)) ∷ []))

-- nothing is put yet
pub none_put : (us bs : List ℕ) (s got : ℕ) (f : ℕ → ℕ) → literals us (begun (s + 0) got bs) ≡ words_put s (tab 0 f) (literals us (begun s got bs))
unfolding tab
none_put us bs s got f = let e : s + 0 ≡ s = omega arith in rw e

-- the words of all nodes up to the next, from place s on
pub node_next : (s at k n n' r : ℕ) (f : ℕ → ℕ) (l₀ l us bs : List ℕ) → at ≡ s + 3 * k → n ≡ n' → l ≡ words_put s (tab (3 * k) f) l₀
    → literals us (begun n' r bs) ≡ words_put at (f (3 * k) ∷ f (3 * k + 1) ∷ f (3 * k + 2) ∷ []) l → literals us (begun n r bs) ≡ words_put s (tab (3 * (k + 1)) f) l₀
node_next s at k n n' r f l₀ l us bs p q e e' =
    let m = length_tab (3 * k) f in
    ap (λ (i : ℕ). literals us (begun i r bs)) q
    ∙ e'
    ∙ rw (p, e, tab_three k f) (sym (rw m at (puts_append s (tab (3 * k) f) (f (3 * k) ∷ f (3 * k + 1) ∷ f (3 * k + 2) ∷ []) l₀)))

-- the words of nodes of the second: which can be met
module _ (ms : List ℕ) where
  is_early : (j : ℕ) → (j % 3 ≡ 2 → ⊥) → not (eqb (j % 3) 2 && eqb (get_or ms j 0) mark) ≡ true
  is_early j n = rw (ne_eqb (j % 3) 2 n)

  module _ (m : ℕ) (s : Stand m ms) (j : ℕ) (l : j < 3 * m) where
    pub early_low : (j % 3 ≡ 2 → ⊥) → get_or ms j 0 / 2 ≤ 104096
    early_low n = s.low j l (is_early j n)

    pub third_low : get_or ms j 0 ≢ mark → get_or ms j 0 / 2 ≤ 104096
    third_low n = s.low j l (rw (ne_eqb (get_or ms j 0) mark n, and-false))

-- and what they are, met
module _ (ms os : List ℕ) (base i : ℕ) where
  early_is : (j x y : ℕ) → (j % 3 ≡ 2 → ⊥) → x ≡ get_or ms j 0 → y ≡ met_by os base i x → y ≡ met_word_by ms os base i j
  early_is j x y n e q = rw (is_early ms j n) (q ∙ ap (met_by os base i) e)

  third_is : (j x y : ℕ) → j % 3 ≡ 2 → x ≡ get_or ms j 0 → y ≡ if_equal x mark mark (met_by os base i x) → y ≡ met_word_by ms os base i j
  third_is j x y t e q =
      ⊎_elim
      (λ (p : get_or ms j 0 ≡ mark). rw (eq-eqb (j % 3) 2 t, eq-eqb (get_or ms j 0) mark p) (q ∙ sym (equal x mark mark (met_by os base i x) (e ∙ p) refl)))
      (λ (p : get_or ms j 0 ≢ mark). rw (eq-eqb (j % 3) 2 t, ne_eqb (get_or ms j 0) mark p) (q ∙ sym (unequal x mark mark (met_by os base i x) (λ z. p (sym e ∙ z)) refl) ∙ ap (met_by os base i) e))
      (eq_or_ne (get_or ms j 0) mark)

  pub node_met : (v at a b d x y z : ℕ) (l l' : List ℕ) → a ≡ get_or ms (3 * v + 0) 0 → x ≡ met_by os base i a → b ≡ get_or ms (3 * v + 1) 0 → y ≡ met_by os base i b
      → d ≡ get_or ms (3 * v + 2) 0 → z ≡ if_equal d mark mark (met_by os base i d) → l' ≡ words_put at (x ∷ y ∷ z ∷ []) l
      → l' ≡ words_put at (met_word_by ms os base i (3 * v) ∷ met_word_by ms os base i (3 * v + 1) ∷ met_word_by ms os base i (3 * v + 2) ∷ []) l
  node_met v at a b d x y z l l' ea ex eb ey ed ez e =
      let q : 3 * v + 0 ≡ 3 * v = omega arith in
      let p₀ = early_is (3 * v) a x (omega arith) (rw q at ea) ex in
      let p₁ = early_is (3 * v + 1) b y (omega arith) eb ey in
      let p₂ = third_is (3 * v + 2) d z (omega arith) ed ez in
      rw (p₀, p₁, p₂) at e

-- the first of them
pub stand_less : (k m : ℕ) (ms : List ℕ) → k ≤ m → Stand m ms → Stand k ms
stand_less k m ms h s =
    record {
      few = omega (arith, s.few);
      readable = λ v l. s.readable v (omega arith);
      low = λ j l e. s.low j (omega arith) e;
    }

-- one word more
pub place_next : (f : ℕ → ℕ) (l₀ l l' : List ℕ) (j x : ℕ) → j < length l₀ → l ≡ filled (tab j f) l₀ → x ≡ f j → l' ≡ word_put j x l → l' ≡ filled (tab (j + 1) f) l₀
place_next f l₀ l l' j x h e p r = r ∙ rw (add-one j, e, p) (put_tab j f l₀ h)

-- one output more
pub output_next : (ps os : List ℕ) (base i : ℕ) (l₀ l l' : List ℕ) (j x y : ℕ) → j < length l₀
    → l ≡ filled (tab j (λ k. met_by os base i (get_or ps k 0))) l₀ → x ≡ get_or ps j 0 → y ≡ met_by os base i x → l' ≡ word_put j y l
    → l' ≡ filled (tab (j + 1) (λ k. met_by os base i (get_or ps k 0))) l₀
output_next ps os base i l₀ l l' j x y h e p q r = place_next (λ k. met_by os base i (get_or ps k 0)) l₀ l l' j y h e (q ∙ ap (met_by os base i) p) r
