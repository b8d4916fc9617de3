-- A run of stores: from the front, one after another, one below another, and the same one twice. Assumes nothing.
use Prim.Native.Nat.{ℕ, suc, ◌+◌, ◌≤◌, ◌<◌}
use mathlib.Core.Path.{◌≡◌, refl, ap, ◌∙◌}
use mathlib.Core.List.{List, [], ◌∷◌, ◌++◌}
use native.Mathlib.Omega.{arith}
use native.Mathlib.Nat.{zero-add}
use lib.ListN.{length, drop, set, length-append}
use lib.Seq.{sets, sets-eq, set-set, set_comm}

-- a run of stores from the front
pub front : (vs t : List ℕ) (k : ℕ) → length vs ≡ k → k ≤ length t → sets t 0 vs ≡ vs ++ drop k t
front vs t k e h = sets-eq vs t 0 (omega arith) ∙ ap (λ (j : ℕ). vs ++ drop j t) (zero-add (length vs) ∙ e)

pub sets_append : (a b t : List ℕ) (at at' : ℕ) → at' ≡ at + length a → sets (sets t at a) at' b ≡ sets t at (a ++ b)
sets_append [] b t at at' e = let q : at' ≡ at = omega arith in rw q
sets_append (x ∷ a) b t at at' e = sets_append a b (set t at x) (suc at) at' (omega arith)

-- what a second run leaves that follows the first
pub then : (t t₁ t₂ a b : List ℕ) (at at' : ℕ) → t₁ ≡ sets t at a → t₂ ≡ sets t₁ at' b → at' ≡ at + length a → t₂ ≡ sets t at (a ++ b)
then t t₁ t₂ a b at at' e₁ e₂ e = e₂ ∙ ap (λ (l : List ℕ). sets l at' b) e₁ ∙ sets_append a b t at at' e

-- the same with the place after each
pub in_a_row : (t t₁ t₂ a b : List ℕ) (at middle end : ℕ) → (middle ≡ at + length a) × (t₁ ≡ sets t at a)
    → (end ≡ middle + length b) × (t₂ ≡ sets t₁ middle b) → (end ≡ at + length (a ++ b)) × (t₂ ≡ sets t at (a ++ b))
in_a_row t t₁ t₂ a b at middle end h k =
    let e = h.0 in
    (omega (arith, length-append a b, k.0), then t t₁ t₂ a b at middle h.1 k.1 e)

-- a store below a run
set_below : (vs t : List ℕ) (i k x : ℕ) → i < k → set (sets t k vs) i x ≡ sets (set t i x) k vs
set_below [] t i k x h = refl
set_below (v ∷ vs) t i k x h = set_below vs (set t k v) i (suc k) x (omega arith) ∙ ap (λ (l : List ℕ). sets l (suc k) vs) (set_comm t k i v x (omega arith))

-- a run below a run
pub apart : (vs ws t : List ℕ) (i k : ℕ) → i + length ws ≤ k → sets (sets t k vs) i ws ≡ sets (sets t i ws) k vs
apart vs [] t i k h = refl
apart vs (w ∷ ws) t i k h = ap (λ (l : List ℕ). sets l (suc i) ws) (set_below vs t i k w (omega arith)) ∙ apart vs ws (set t i w) (suc i) k (omega arith)

pub twice : (vs t : List ℕ) (k : ℕ) → sets (sets t k vs) k vs ≡ sets t k vs
twice [] t k = refl
twice (v ∷ vs) t k =
    ap (λ (l : List ℕ). sets l (suc k) vs) (set_below vs (set t k v) k (suc k) v (omega arith) ∙ ap (λ (l : List ℕ). sets l (suc k) vs) (set-set t k v v))
    ∙ twice vs (set t k v) (suc k)
