-- A move made in four steps: its three words turned one after the other, then all readers. At the end the state stands for the graph with
-- the move applied. From the step law.
use mathlib.Core.Path.{◌≡◌, sym, ap, ◌∙◌}
use mathlib.Core.Bool.{false}
use mathlib.Core.List.{List}
use Prim.Native.Nat.{ℕ, ◌+◌, ◌*◌, ◌<◌}
use Rattle.graph.specs.Graph.{Graph, node, is_edge, is_xor}
use Rattle.moves.specs.Rows.{flag}
use Rattle.moves.specs.Apply.{none, at, apply}
use Rattle.state.specs.State.{stands, Ordered}
use Rattle.state.specs.Step.{word_turned, readers_turned, Became}
use Rattle.state.proofs.Alike.{Alike, alike_xor}
use Rattle.state.proofs.Stands.{stands_alike, stands_admitted}
use Rattle.state.proofs.Step.{step, mark_still}
use Rattle.state.proofs.Stores.{kept_then}

-- a mark is not turned
pub still : (g : Graph) (v m k f : ℕ) → k < 3 → f ≡ flag (is_xor g v) m k → is_edge g (3 * v + k) ≡ false → f ≡ 0
still g v m k f h e z = e ∙ mark_still g v k m h z

module _ (g : Graph) (sc : List ℕ) (o : Ordered g sc) (v m : ℕ) (l : v < g.N) (f₀ f₁ f₂ f₃ : ℕ) (e₀ : f₀ ≡ flag (is_xor g v) m 0) (e₁ : f₁ ≡ flag (is_xor g v) m 1) (e₂ : f₂ ≡ flag (is_xor g v) m 2) (e₃ : f₃ ≡ flag (is_xor g v) m 3)
    (s₁ s₂ s₃ s₄ : List ℕ) (b₁ : Became sc g s₁ (word_turned (stands g sc) (3 * v + 0) f₀)) (b₂ : Became s₁ g s₂ (word_turned (stands g s₁) (3 * v + 1) f₁))
    (b₃ : Became s₂ g s₃ (word_turned (stands g s₂) (3 * v + 2) f₂)) (b₄ : Became s₃ g s₄ (readers_turned (stands g s₃) (node g v) f₃)) where
  abbrev h : Graph
  h = stands g sc

  a : Alike g h
  a = stands_alike g sc o.admitted

  u : node g v ≡ node h v
  u = ap (λ i. i + 1 + v) (sym a.same_I)

  by : (k f : ℕ) → f ≡ flag (is_xor g v) m k → f ≡ flag (is_xor h v) m k
  by k f e = e ∙ ap (λ y. flag y m k) (sym (alike_xor g h a v))

  all : stands g s₄ ≡ apply h (at none (node g v) m)
  all =
      b₄.stands_for ∙
      ap (λ y. readers_turned y (node g v) f₃)
      (b₃.stands_for ∙ ap (λ y. word_turned y (3 * v + 2) f₂) (b₂.stands_for ∙ ap (λ y. word_turned y (3 * v + 1) f₁) b₁.stands_for)) ∙
      (λ i. readers_turned (word_turned (word_turned (word_turned h (3 * v + 0) (by 0 f₀ e₀ i)) (3 * v + 1) (by 1 f₁ e₁ i)) (3 * v + 2) (by 2 f₂ e₂ i)) (u i) (by 3 f₃ e₃ i)) ∙
      step h (stands_admitted g sc o.admitted) v m (rw a.same_N l) ∙
      ap (λ y. apply h (at none y m)) (sym u)

  pub made : Became sc g s₄ (apply (stands g sc) (at none (node g v) m))
  made = record { ordered = b₄.ordered; stands_for = all; kept = kept_then sc s₁ s₄ b₁.kept (kept_then s₁ s₂ s₄ b₂.kept (kept_then s₂ s₃ s₄ b₃.kept b₄.kept)) }
