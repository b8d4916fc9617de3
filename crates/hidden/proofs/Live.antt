-- Which nodes live: those that are locked, that an output reads, or that a living node reads; so whatever they read lives. By falling index.
use mathlib.Core.Path.{◌≡◌, refl, sym, ap, ap₂, ◌∙◌}
use mathlib.Core.Bool.{Bool, true, false, true≢false, cond, ◌&&◌, ◌||◌}
use mathlib.Core.Logic.{◌⊎◌, inl, inr, ⊎_elim}
use mathlib.Core.List.{List, [], ◌∷◌}
use Prim.Native.Nat.{ℕ, zero, suc, ◌+◌, ◌-◌, ◌*◌, ◌/◌, ◌≤◌, ◌<◌}
use native.Mathlib.Omega.{arith}
use native.Mathlib.Decide.{le_ind}
use native.Mathlib.Nat.{eq-or-lt_of_le}
use borrow.Author.Tests.{eqb-true, eq-eqb}
use lib.Dec.{eqb}
use lib.ListN.{length, get_or, length-append, get_or-append}
use lib.Seq.{get_or_at}
use Rattle.graph.specs.Admission.{Admitted}
use Rattle.graph.specs.Graph.{Graph, word, output, is_edge}
use Rattle.graph.specs.Count.{named, output_named}
use Rattle.graph.proofs.Cases.{true_or_false}
use Rattle.hidden.specs.Find.{is_locked}
use Rattle.hidden.specs.Drop.{some, lives_by, lives, live}
use Rattle.hidden.specs.Promises.{LivesByRule}
use Rattle.moves.proofs.Readers.{both_true}
use Rattle.hidden.proofs.Bools.{true_both, either_true, true_left, true_right}
use Rattle.hidden.proofs.Keeping.{Closed}

-- one of several
pub some_true : (n : ℕ) (t : ℕ → Bool) (j : ℕ) → j < n → t j ≡ true → some n t ≡ true
unfolding some
some_true zero t j h e = absurd (omega arith)
some_true (suc n) t j h e =
    ⊎_elim (λ (q : j ≡ n). true_left (t n) (some n t) (rw q at e)) (λ (l : j < n). true_right (t n) (some n t) (some_true n t j l e)) (eq-or-lt_of_le (omega arith))

pub record Found (n : ℕ) (t : ℕ → Bool) : Type 0 where
  pub place : ℕ
  pub within : place < n
  pub is : t place ≡ true

pub some_found : (n : ℕ) (t : ℕ → Bool) → some n t ≡ true → Found n t
unfolding some
some_found zero t e = absurd (true≢false (sym e))
some_found (suc n) t e =
    ⊎_elim (λ (q : t n ≡ true). record { place = n; within = omega arith; is = q })
    (λ (q : some n t ≡ true). let f = some_found n t q in record { place = f.place; within = omega (arith, f.within); is = f.is })
    (either_true (t n) (some n t) e)

pub some_same : (n : ℕ) (t s : ℕ → Bool) → ((j : ℕ) → j < n → t j ≡ s j) → some n t ≡ some n s
unfolding some
some_same zero t s h = refl
some_same (suc n) t s h = ap₂ (λ (a b : Bool). a || b) (h n (omega arith)) (some_same n t s (λ j l. h j (omega arith)))

one_is : (b : Bool) → eqb (cond b 1 0) 1 ≡ b
one_is true = refl
one_is false = refl

module _ (g : Graph) (ls : List ℕ) where
  -- as known from the last k nodes
  by : ℕ → ℕ → Bool
  by k w = eqb (get_or (lives g ls k) (g.N - suc w) 0) 1

  length_lives : (k : ℕ) → length (lives g ls k) ≡ k
  unfolding lives by
  length_lives zero = refl
  length_lives (suc k) = omega (arith, length-append (lives g ls k) (cond (lives_by g ls (by k) (g.N - suc k)) 1 0 ∷ []), length_lives k)

  lives_old : (k m i : ℕ) → k ≤ m → i < k → get_or (lives g ls m) i 0 ≡ get_or (lives g ls k) i 0
  unfolding lives
  lives_old k m i h l =
      le_ind (λ (n : ℕ). get_or (lives g ls n) i 0 ≡ get_or (lives g ls k) i 0) refl
      (λ n (q : k ≤ n) s. get_or-append (lives g ls n) _ 0 i (rw (length_lives n) (omega arith)) ∙ s) m h

  lives_new : (k : ℕ) → get_or (lives g ls (suc k)) k 0 ≡ cond (lives_by g ls (by k) (g.N - suc k)) 1 0
  unfolding lives by
  lives_new k = get_or_at (lives g ls k) _ [] 0 k (length_lives k)

  named_above : Admitted g → (v j : ℕ) → j < 3 * g.N → named g (g.I + 1 + v) j ≡ true → v < j / 3
  unfolding named
  named_above adm v j h e =
      let b = both_true (is_edge g j) (eqb (word g j / 2) (g.I + 1 + v)) e in
      omega (arith, adm.below j h b.0, eqb-true (word g j / 2) (g.I + 1 + v) b.1)

  module _ (adm : Admitted g) (v : ℕ) (within : v < g.N) where
    k : ℕ
    k = g.N - suc v

    by_same : (j : ℕ) → j < 3 * g.N → (named g (g.I + 1 + v) j && by k (j / 3)) ≡ (named g (g.I + 1 + v) j && live g ls (j / 3))
    unfolding by live k
    by_same j h =
        ⊎_elim
        (λ (e : named g (g.I + 1 + v) j ≡ true).
        rw (lives_old (g.N - suc v) g.N (g.N - suc (j / 3)) (omega arith) (omega (arith, named_above adm v j h e))))
        (λ (e : named g (g.I + 1 + v) j ≡ false). rw e)
        (true_or_false (named g (g.I + 1 + v) j))

    -- the rule at each node
    pub live_is : live g ls v ≡ lives_by g ls (live g ls) v
    unfolding lives_by live k
    live_is =
        let e : g.N - suc (g.N - suc v) ≡ v = omega arith in
        ap (λ (n : ℕ). eqb n 1) (lives_old (suc k) g.N k (omega arith) (omega arith) ∙ lives_new k)
        ∙ one_is (lives_by g ls (by k) (g.N - suc k))
        ∙ ap (lives_by g ls (by k)) e
        ∙ ap (λ (b : Bool). is_locked ls v || some g.O (output_named g (g.I + 1 + v)) || b)
        (some_same (3 * g.N) (λ j. named g (g.I + 1 + v) j && by k (j / 3)) (λ j. named g (g.I + 1 + v) j && live g ls (j / 3)) by_same)

    pub locked_lives : is_locked ls v ≡ true → live g ls v ≡ true
    unfolding lives_by
    locked_lives e = live_is ∙ true_left _ _ (true_left (is_locked ls v) _ e)

    pub output_lives : (j : ℕ) → j < g.O → output g j / 2 ≡ g.I + 1 + v → live g ls v ≡ true
    unfolding lives_by output_named
    output_lives j h e =
        live_is ∙ true_left _ _ (true_right (is_locked ls v) _ (some_true g.O (output_named g (g.I + 1 + v)) j h (eq-eqb (output g j / 2) (g.I + 1 + v) e)))

    pub word_lives : (j : ℕ) → j < 3 * g.N → is_edge g j ≡ true → word g j / 2 ≡ g.I + 1 + v → live g ls (j / 3) ≡ true → live g ls v ≡ true
    unfolding lives_by named
    word_lives j h e q s =
        live_is ∙ true_right (is_locked ls v || some g.O (output_named g (g.I + 1 + v))) _
        (some_true (3 * g.N) (λ i. named g (g.I + 1 + v) i && live g ls (i / 3)) j h
        (true_both (named g (g.I + 1 + v) j) (live g ls (j / 3)) (true_both (is_edge g j) (eqb (word g j / 2) (g.I + 1 + v)) e (eq-eqb (word g j / 2) (g.I + 1 + v) q)) s))

    -- and back
    pub lives_why : live g ls v ≡ true
        → (is_locked ls v ≡ true) ⊎ (Found g.O (output_named g (g.I + 1 + v)) ⊎ Found (3 * g.N) (λ j. named g (g.I + 1 + v) j && live g ls (j / 3)))
    unfolding lives_by
    lives_why e =
        ⊎_elim
        (λ (q : (is_locked ls v || some g.O (output_named g (g.I + 1 + v))) ≡ true).
        ⊎_elim (λ (p : is_locked ls v ≡ true). inl p)
        (λ (p : some g.O (output_named g (g.I + 1 + v)) ≡ true). inr (inl (some_found _ _ p)))
        (either_true (is_locked ls v) (some g.O (output_named g (g.I + 1 + v))) q))
        (λ (q : some (3 * g.N) (λ j. named g (g.I + 1 + v) j && live g ls (j / 3)) ≡ true). inr (inr (some_found _ _ q)))
        (either_true (is_locked ls v || some g.O (output_named g (g.I + 1 + v))) _ (sym live_is ∙ e))

  pub live_closed : Admitted g → Closed g (live g ls)
  live_closed adm =
      record {
        words =
            λ v k h e c t p.
            let i : ℕ = word g (3 * v + k) / 2 in
            let d : (3 * v + k) / 3 ≡ v = omega arith in
            let b : i < g.I + 1 + v = omega (arith, adm.below (3 * v + k) (omega arith) t) in
            word_lives adm (i - (g.I + 1)) (omega arith) (3 * v + k) (omega arith) t (omega arith) (rw d e);
        outputs =
            λ j h p.
            let b = adm.output_below j h in
            output_lives adm (output g j / 2 - (g.I + 1)) (omega arith) j h (omega arith);
      }

  same_rule : Admitted g → (l m : ℕ → Bool) (v : ℕ) → ((w : ℕ) → w < g.N → v < w → l w ≡ m w) → lives_by g ls l v ≡ lives_by g ls m v
  unfolding lives_by
  same_rule adm l m v ih =
      ap (λ (b : Bool). is_locked ls v || some g.O (output_named g (g.I + 1 + v)) || b)
      (some_same (3 * g.N) (λ j. named g (g.I + 1 + v) j && l (j / 3)) (λ j. named g (g.I + 1 + v) j && m (j / 3))
      (λ j h.
      ⊎_elim
      (λ (e : named g (g.I + 1 + v) j ≡ true). rw (e, ih (j / 3) (omega arith) (named_above adm v j h e)))
      (λ (e : named g (g.I + 1 + v) j ≡ false). rw e)
      (true_or_false (named g (g.I + 1 + v) j))))

  -- no other set of nodes goes by the rule: from node n - d on
  live_from : Admitted g → (l : ℕ → Bool) → ((v : ℕ) → v < g.N → l v ≡ lives_by g ls l v) → (d v : ℕ) → v < g.N → g.N ≤ v + d → l v ≡ live g ls v
  live_from adm l rule zero v h b = absurd (omega arith)
  live_from adm l rule (suc d) v h b =
      rule v h ∙ same_rule adm l (live g ls) v (λ w k p. live_from adm l rule d w k (omega arith)) ∙ sym (live_is adm v h)

pub lives_by_rule : (g : Graph) (ls : List ℕ) → Admitted g → LivesByRule g ls
lives_by_rule g ls adm = record { live_is = live_is g ls adm; live_only = λ l rule v h. live_from g ls adm l rule g.N v h (omega arith) }
