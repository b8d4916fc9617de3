-- What the loop over the calls keeps: what the calls that are left make of the graph and its locks as they stand is what all make of the start. From the
-- laws on one call and on runs of stores.
use mathlib.Core.Path.{◌≡◌, refl, sym, ap, ◌∙◌, subst}
use mathlib.Core.List.{List, [], ◌∷◌, ◌++◌}
use Prim.Native.Nat.{ℕ, suc, ◌+◌, ◌*◌, ◌/◌, ◌≤◌, ◌<◌}
use native.Mathlib.Omega.{arith}
use native.Mathlib.Nat.{zero-add}
use lib.IntN.{ℤ, pos}
use lib.ListN.{length, get_or, drop, set, length-set}
use lib.Seq.{sets, sets-eq}
use Rattle.promises.specs.Demand.{Call, Locked, step, left, run}
use Rattle.replay.specs.Replay.{Lent, lent, call_of, decode, answers_of}
use Rattle.replay.specs.Inner.{Tells}
use Rattle.replay.specs.declared.calls.CallAnswer.{CallAnswer}
use Rattle.replay.proofs.One.{tells_alike}

-- a run of stores from the front
front : (vs t : List ℤ) (k : ℕ) → length vs ≡ k → k ≤ length t → sets t 0 vs ≡ vs ++ drop k t
front vs t k e h = sets-eq vs t 0 (omega arith) ∙ ap (λ (j : ℕ). vs ++ drop j t) (zero-add (length vs) ∙ e)

length_answers : (d : Locked) (t : Lent) (ws : List ℕ) → length (answers_of d (decode t ws)) ≡ 3 * (length ws / 3)
length_answers d t [] = refl
length_answers d t (k ∷ []) = refl
length_answers d t (k ∷ u ∷ []) = refl
length_answers d t (k ∷ u ∷ w ∷ ws) = omega (arith, length_answers (left (step d (call_of t k u w))) t ws)

three_stores : (l : List ℤ) (at : ℕ) (x y z : ℤ) (vs : List ℤ) → sets (set (set (set l at x) (at + 1) y) (at + 2) z) (at + 3) vs ≡ sets l at (x ∷ y ∷ z ∷ vs)
three_stores l at x y z vs =
    let q₁ : at + 1 ≡ suc at = omega arith in
    let q₂ : at + 2 ≡ suc (suc at) = omega arith in
    let q₃ : at + 3 ≡ suc (suc (suc at)) = omega arith in
    rw (q₁, q₂, q₃) refl

answers_step : (d h : Locked) (c : Call) (t : CallAnswer) (cs : List Call) → Tells d c h t → pos t.number ∷ t.own ∷ t.others ∷ answers_of h cs ≡ answers_of d (c ∷ cs)
answers_step d h c t cs q = λ i. pos (q.answer.number i) ∷ q.answer.own i ∷ q.answer.others i ∷ answers_of (q.leaves i) cs

-- a list of words opened at its first call
pub opened : (s s' : List ℕ) → 3 ≤ length s → s' ≡ drop 3 s → s ≡ get_or s 0 0 ∷ get_or s 1 0 ∷ get_or s 2 0 ∷ s'
opened [] s' h f = absurd (omega arith)
opened (x ∷ []) s' h f = absurd (omega arith)
opened (x ∷ u ∷ []) s' h f = absurd (omega arith)
opened (x ∷ u ∷ w ∷ s) s' h f = λ i. x ∷ u ∷ w ∷ sym f i

pub record CallsLeft (d₀ : Locked) (sc₀ us ms ws : List ℕ) (l₀ : List ℤ) (d : Locked) (sc : List ℕ) (l : List ℤ) (s : List ℕ) (at : ℕ) : Type 0 where
  pub long_scratch : length sc ≡ length sc₀
  pub long_answers : length l ≡ length l₀
  pub fits : at + 3 * (length s / 3) ≤ length l
  pub placed : at + length s ≡ length ws
  pub graph : run d (decode (lent sc₀ us ms) s) ≡ run d₀ (decode (lent sc₀ us ms) ws)
  pub answers : sets l at (answers_of d (decode (lent sc₀ us ms) s)) ≡ sets l₀ 0 (answers_of d₀ (decode (lent sc₀ us ms) ws))

module _ (d₀ : Locked) (sc₀ us ms ws : List ℕ) (l₀ : List ℤ) where
  pub calls_more : (d h : Locked) (sc sc' : List ℕ) (l : List ℤ) (s s' : List ℕ) (at : ℕ) (k u w : ℕ) (t : CallAnswer) (x y z : ℤ) → x ≡ pos t.number → y ≡ t.own → z ≡ t.others → s ≡ k ∷ u ∷ w ∷ s' → CallsLeft d₀ sc₀ us ms ws l₀ d sc l s at
      → Tells d (call_of (lent sc us ms) k u w) h t → length sc' ≡ length sc
      → CallsLeft d₀ sc₀ us ms ws l₀ h sc' (set (set (set l at x) (at + 1) y) (at + 2) z) s' (at + 3)
  calls_more d h sc sc' l s s' at k u w t x y z ex ey ez p c q e =
      let e₂ : length (set (set (set l at x) (at + 1) y) (at + 2) z) ≡ length l = simp length-set in
      let i : CallsLeft d₀ sc₀ us ms ws l₀ d sc l (k ∷ u ∷ w ∷ s') at = subst (λ (v : List ℕ). CallsLeft d₀ sc₀ us ms ws l₀ d sc l v at) p c in
      let b : at + 3 * (suc (suc (suc (length s'))) / 3) ≤ length l = i.fits in
      let n = tells_alike d h sc sc₀ us ms k u w t i.long_scratch q in
      record {
        long_scratch = e ∙ i.long_scratch;
        long_answers = e₂ ∙ i.long_answers;
        fits = omega (arith, b, e₂);
        placed = omega (arith, i.placed);
        graph = ap (λ (x : Locked). run x (decode (lent sc₀ us ms) s')) n.leaves ∙ i.graph;
        answers =
            three_stores l at x y z (answers_of h (decode (lent sc₀ us ms) s'))
            ∙ (λ j. sets l at (ex j ∷ ey j ∷ ez j ∷ answers_of h (decode (lent sc₀ us ms) s')))
            ∙ ap (λ (vs : List ℤ). sets l at vs) (answers_step d h (call_of (lent sc₀ us ms) k u w) t (decode (lent sc₀ us ms) s') n)
            ∙ i.answers;
      }

  pub calls_none : (d : Locked) (sc : List ℕ) (l : List ℤ) (s : List ℕ) (at : ℕ) → length s < 3 → 3 * (length ws / 3) ≤ length l₀ → CallsLeft d₀ sc₀ us ms ws l₀ d sc l s at
      → record { graph : d ≡ run d₀ (decode (lent sc₀ us ms) ws); answers : l ≡ answers_of d₀ (decode (lent sc₀ us ms) ws) ++ drop (3 * (length ws / 3)) l₀ }
  calls_none d sc l [] at m r i = record { graph = i.graph; answers = i.answers ∙ front (answers_of d₀ (decode (lent sc₀ us ms) ws)) l₀ _ (length_answers d₀ (lent sc₀ us ms) ws) r }
  calls_none d sc l (k ∷ []) at m r i = record { graph = i.graph; answers = i.answers ∙ front (answers_of d₀ (decode (lent sc₀ us ms) ws)) l₀ _ (length_answers d₀ (lent sc₀ us ms) ws) r }
  calls_none d sc l (k ∷ u ∷ []) at m r i = record { graph = i.graph; answers = i.answers ∙ front (answers_of d₀ (decode (lent sc₀ us ms) ws)) l₀ _ (length_answers d₀ (lent sc₀ us ms) ws) r }
  calls_none d sc l (k ∷ u ∷ w ∷ s) at m r i = absurd (omega arith)
