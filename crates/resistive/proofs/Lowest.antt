-- The least of some values, and minima that are exchanged. Assumes nothing.
use mathlib.Core.Path.{◌≡◌, refl, sym, ap, ◌∙◌, fun_ext}
use mathlib.Core.Bool.{Bool, true, false}
use mathlib.Core.Logic.{⊎_elim}
use Prim.Native.Nat.{ℕ, ◌+◌, ◌/◌, ◌≤◌, ◌<◌}
use native.Mathlib.Omega.{arith}
use Rattle.graph.specs.Graph.{Graph, is_edge, word}
use Rattle.graph.proofs.Cases.{true_or_false}
use Rattle.choice.proofs.Best.{least_below}
use Rattle.moves.specs.Cost.{pick}
use Rattle.resistive.specs.Family.{lowest, turned}
use Rattle.choice.specs.Inner.{FirstBelow}

pub picked : (n : ℕ) (f : ℕ → ℕ) → 0 < n → FirstBelow f n (pick f n)
unfolding pick
picked n f h = least_below f n h

pub lowest_low : (n : ℕ) (f : ℕ → ℕ) → 0 < n → (t : ℕ) → t < n → lowest n f ≤ f t
unfolding lowest
lowest_low n f h t l = (picked n f h).low t l

pub lowest_met : (n : ℕ) (f : ℕ → ℕ) → lowest n f ≡ f (pick f n)
unfolding lowest
lowest_met n f = refl

-- minima are exchanged
pub lowest_swap : (m n : ℕ) (a b : ℕ → ℕ) (f : ℕ → ℕ → ℕ) → 0 < m → 0 < n
    → lowest m (λ x. a x + lowest n (λ t. b t + f x t)) ≡ lowest n (λ t. b t + lowest m (λ x. a x + f x t))
lowest_swap m n a b f hm hn =
    let F : ℕ → ℕ = λ x. a x + lowest n (λ t. b t + f x t) in
    let G : ℕ → ℕ = λ t. b t + lowest m (λ x. a x + f x t) in
    let x₀ : ℕ = pick F m in
    let t₀ : ℕ = pick (λ t. b t + f x₀ t) n in
    let t₁ : ℕ = pick G n in
    let x₁ : ℕ = pick (λ x. a x + f x t₁) m in
    omega (
      arith,
      lowest_met m F,
      lowest_met n (λ t. b t + f x₀ t),
      lowest_met n G,
      lowest_met m (λ x. a x + f x t₁),
      lowest_low m F hm x₁ (picked m (λ x. a x + f x t₁) hm).below,
      lowest_low n (λ t. b t + f x₁ t) hn t₁ (picked n G hn).below,
      lowest_low n G hn t₀ (picked n (λ t. b t + f x₀ t) hn).below,
      lowest_low m (λ x. a x + f x t₀) hm x₀ (picked m F hm).below,
    )

-- a way to weigh the values of a function that lets minima through
abbrev pub Through : ((ℕ → ℕ) → ℕ) → Type 0
Through A = (n : ℕ) (b : ℕ → ℕ) (f : ℕ → ℕ → ℕ) → 0 < n → A (λ x. lowest n (λ t. b t + f x t)) ≡ lowest n (λ t. b t + A (λ x. f x t))

module _ (g : Graph) (q : ℕ → Bool) (s : ℕ → ℕ) (c : ℕ → ℕ → ℕ) (n : ℕ → ℕ) where
  pub turned_free : (j : ℕ) (h : ℕ → ℕ) → is_edge g j ≡ true → q (word g j / 2) ≡ true → turned g q s c n j h ≡ lowest (n (word g j / 2)) (λ t. c (word g j / 2) t + h t)
  unfolding turned
  turned_free j h e f = rw (e, f)

  pub turned_fixed : (j : ℕ) (h : ℕ → ℕ) → is_edge g j ≡ true → q (word g j / 2) ≡ false → turned g q s c n j h ≡ h (s (word g j / 2))
  unfolding turned
  turned_fixed j h e f = rw (e, f)

  pub turned_mark : (j : ℕ) (h : ℕ → ℕ) → is_edge g j ≡ false → turned g q s c n j h ≡ h 0
  unfolding turned
  turned_mark j h e = rw e

  pub turned_through : ((u : ℕ) → 0 < n u) → (j : ℕ) → Through (turned g q s c n j)
  turned_through pos j m b f h =
      ⊎_elim
      (λ (e : is_edge g j ≡ true).
      ⊎_elim
      (λ (i : q (word g j / 2) ≡ true).
      turned_free j (λ x. lowest m (λ t. b t + f x t)) e i ∙
      lowest_swap (n (word g j / 2)) m (c (word g j / 2)) b f (pos (word g j / 2)) h ∙
      ap (lowest m) (fun_ext (λ t. ap (λ y. b t + y) (sym (turned_free j (λ x. f x t) e i)))))
      (λ (i : q (word g j / 2) ≡ false).
      turned_fixed j (λ x. lowest m (λ t. b t + f x t)) e i ∙
      ap (lowest m) (fun_ext (λ t. ap (λ y. b t + y) (sym (turned_fixed j (λ x. f x t) e i)))))
      (true_or_false (q (word g j / 2))))
      (λ (e : is_edge g j ≡ false).
      turned_mark j (λ x. lowest m (λ t. b t + f x t)) e ∙
      ap (lowest m) (fun_ext (λ t. ap (λ y. b t + y) (sym (turned_mark j (λ x. f x t) e)))))
      (true_or_false (is_edge g j))

-- only what the word names matters, and how it is turned only where it is not free
pub turned_same : (g : Graph) (q q' : ℕ → Bool) (s s' : ℕ → ℕ) (c : ℕ → ℕ → ℕ) (n : ℕ → ℕ) (j : ℕ)
    → (is_edge g j ≡ true → q (word g j / 2) ≡ q' (word g j / 2))
    → (is_edge g j ≡ true → q (word g j / 2) ≡ false → s (word g j / 2) ≡ s' (word g j / 2))
    → turned g q s c n j ≡ turned g q' s' c n j
turned_same g q q' s s' c n j a b =
    fun_ext
    (λ h.
    ⊎_elim
    (λ (e : is_edge g j ≡ true).
    ⊎_elim
    (λ (i : q (word g j / 2) ≡ true). turned_free g q s c n j h e i ∙ sym (turned_free g q' s' c n j h e (sym (a e) ∙ i)))
    (λ (i : q (word g j / 2) ≡ false). turned_fixed g q s c n j h e i ∙ ap h (b e i) ∙ sym (turned_fixed g q' s' c n j h e (sym (a e) ∙ i)))
    (true_or_false (q (word g j / 2))))
    (λ (e : is_edge g j ≡ false). turned_mark g q s c n j h e ∙ sym (turned_mark g q' s' c n j h e))
    (true_or_false (is_edge g j)))

-- three ways one inside the other, of which one is a minimum: it comes out
module _ (n : ℕ) (h : 0 < n) (b : ℕ → ℕ) (A B D : (ℕ → ℕ) → ℕ) (A' B' D' : ℕ → (ℕ → ℕ) → ℕ) (f : ℕ → ℕ → ℕ → ℕ) where
  abbrev Free : ((ℕ → ℕ) → ℕ) → Type 0
  Free X = (e : ℕ → ℕ) → X e ≡ lowest n (λ t. b t + e t)

  abbrev Set : (ℕ → (ℕ → ℕ) → ℕ) → Type 0
  Set X = (t : ℕ) (e : ℕ → ℕ) → X t e ≡ e t

  abbrev Still : ((ℕ → ℕ) → ℕ) → (ℕ → (ℕ → ℕ) → ℕ) → Type 0
  Still X X' = (t : ℕ) → X' t ≡ X

  abbrev Out : Type 0
  Out = A (λ x. B (λ y. D (λ z. f x y z))) ≡ lowest n (λ t. b t + A' t (λ x. B' t (λ y. D' t (λ z. f x y z))))

  pub out_first : Free A → Set A' → Still B B' → Still D D' → Out
  out_first a a' s u =
      a (λ x. B (λ y. D (λ z. f x y z))) ∙
      ap (lowest n) (fun_ext (λ t. ap (λ y. b t + y) (sym (a' t (λ x. B' t (λ y. D' t (λ z. f x y z))) ∙ rw (s t, u t)))))

  pub out_second : Through A → Free B → Set B' → Still A A' → Still D D' → Out
  out_second w a a' s u =
      ap A (fun_ext (λ x. a (λ y. D (λ z. f x y z)))) ∙
      w n b (λ x t. D (λ z. f x t z)) h ∙
      ap (lowest n)
      (fun_ext
      (λ t.
      ap (λ y. b t + y)
      (sym (rw (s t, u t) (ap A (fun_ext (λ x. a' t (λ y. D (λ z. f x y z)))))))))

  pub out_third : Through A → Through B → Free D → Set D' → Still A A' → Still B B' → Out
  out_third w w' a a' s u =
      ap A (fun_ext (λ x. ap B (fun_ext (λ y. a (λ z. f x y z))) ∙ w' n b (λ y t. f x y t) h)) ∙
      w n b (λ x t. B (λ y. f x y t)) h ∙
      ap (lowest n)
      (fun_ext
      (λ t.
      ap (λ y. b t + y)
      (sym (rw (s t, u t) (ap A (fun_ext (λ x. ap B (fun_ext (λ y. a' t (λ z. f x y z))))))))))
