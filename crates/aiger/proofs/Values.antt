-- Values over the list of all values: a node's from its words', an AND's from its two literals', and the ANDs of a majority and of an
-- XOR, complemented, from all bits. From the laws on values.
use Prim.Native.Nat.{ℕ, zero, suc, ◌+◌, ◌*◌, ◌/◌, ◌%◌, ◌<◌, ◌≤◌, min}
use mathlib.Core.Path.{◌≡◌, refl, ◌∙◌}
use mathlib.Core.Bool.{true, false}
use mathlib.Core.List.{List}
use native.Mathlib.Omega.{arith}
use native.Mathlib.Decide.{le_ind}
use native.Mathlib.Nat.{mod-add-mod, add-mod-mod}
use borrow.Author.Tests.{ne_eqb}
use lib.ListN.{get_or}
use Rattle.graph.specs.Graph.{Graph, turn, word, is_xor, mark}
use Rattle.graph.specs.Value.{majority, exclusive, literal_value, node_value, values}
use Rattle.graph.proofs.Turn.{turn_half, turn_bit}
use Rattle.graph.proofs.Values.{literal_bit, values_old, values_new}

-- the bits
maj_and : (y z : ℕ) → y < 2 → z < 2 → majority 0 y z ≡ min y z
unfolding majority
maj_and zero zero h k = refl
maj_and zero (suc zero) h k = refl
maj_and zero (suc (suc z)) h k = absurd (omega arith)
maj_and (suc zero) zero h k = refl
maj_and (suc zero) (suc zero) h k = refl
maj_and (suc zero) (suc (suc z)) h k = absurd (omega arith)
maj_and (suc (suc y)) z h k = absurd (omega arith)

xor_bits : (x y : ℕ) → x < 2 → y < 2 → (min ((min x ((y + 1) % 2) + 1) % 2) ((min ((x + 1) % 2) y + 1) % 2) + 1) % 2 ≡ exclusive x y
unfolding exclusive
xor_bits zero zero h k = refl
xor_bits zero (suc zero) h k = refl
xor_bits zero (suc (suc z)) h k = absurd (omega arith)
xor_bits (suc zero) zero h k = refl
xor_bits (suc zero) (suc zero) h k = refl
xor_bits (suc zero) (suc (suc z)) h k = absurd (omega arith)
xor_bits (suc (suc y)) z h k = absurd (omega arith)

abbrev Fourth : ℕ → ℕ → ℕ → ℕ
Fourth x y z = min ((min x ((min ((y + 1) % 2) ((z + 1) % 2) + 1) % 2) + 1) % 2) ((min y z + 1) % 2)

maj_bits : (x y z : ℕ) → x < 2 → y < 2 → z < 2 → (Fourth x y z + 1) % 2 ≡ majority x y z
unfolding majority
maj_bits zero zero zero h k l = refl
maj_bits zero zero (suc zero) h k l = refl
maj_bits zero (suc zero) zero h k l = refl
maj_bits zero (suc zero) (suc zero) h k l = refl
maj_bits (suc zero) zero zero h k l = refl
maj_bits (suc zero) zero (suc zero) h k l = refl
maj_bits (suc zero) (suc zero) zero h k l = refl
maj_bits (suc zero) (suc zero) (suc zero) h k l = refl
maj_bits zero zero (suc (suc z)) h k l = absurd (omega arith)
maj_bits zero (suc zero) (suc (suc z)) h k l = absurd (omega arith)
maj_bits (suc zero) zero (suc (suc z)) h k l = absurd (omega arith)
maj_bits (suc zero) (suc zero) (suc (suc z)) h k l = absurd (omega arith)
maj_bits zero (suc (suc y)) z h k l = absurd (omega arith)
maj_bits (suc zero) (suc (suc y)) z h k l = absurd (omega arith)
maj_bits (suc (suc x)) y z h k l = absurd (omega arith)

-- literals over a list of values
module _ (w : List ℕ) where
  lit_opposite : (x : ℕ) → literal_value w (turn 1 x) ≡ (literal_value w x + 1) % 2
  unfolding literal_value
  lit_opposite x = rw (turn_half 1 x) (simp (mod-add-mod, add-mod-mod, turn_bit) (omega arith))

  lit_own : (b : ℕ) → literal_value w (2 * b + 1) ≡ (get_or w b 0 + 1) % 2
  unfolding literal_value
  lit_own b =
      let e : (2 * b + 1) / 2 ≡ b = omega arith in
      let q : (2 * b + 1) % 2 ≡ 1 = omega arith in
      rw (e, q)

  -- index b is the AND of two literals
  abbrev pub And : ℕ → ℕ → ℕ → Type 0
  And b x y = get_or w b 0 ≡ min (literal_value w x) (literal_value w y)

  pub xor_value : (b x y : ℕ) → And b x (turn 1 y) → And (b + 1) (turn 1 x) y → And (b + 2) (2 * b + 1) (2 * (b + 1) + 1)
      → (get_or w (b + 2) 0 + 1) % 2 ≡ exclusive (literal_value w x) (literal_value w y)
  xor_value b x y p q r =
      rw (r, lit_own b, lit_own (b + 1), p, q, lit_opposite x, lit_opposite y) (xor_bits _ _ (literal_bit w x) (literal_bit w y))

  pub majority_value : (b x y z : ℕ) → And b (turn 1 y) (turn 1 z) → And (b + 1) x (2 * b + 1) → And (b + 2) y z → And (b + 3) (2 * (b + 1) + 1) (2 * (b + 2) + 1)
      → (get_or w (b + 3) 0 + 1) % 2 ≡ majority (literal_value w x) (literal_value w y) (literal_value w z)
  majority_value b x y z p q r s =
      rw (s, lit_own (b + 1), lit_own (b + 2), q, r, lit_own b, p, lit_opposite y, lit_opposite z)
      (maj_bits _ _ _ (literal_bit w x) (literal_bit w y) (literal_bit w z))

module _ (g : Graph) (a : ℕ → ℕ) where
  pub values_keep : (n m i : ℕ) → n ≤ m → i < g.I + 1 + n → get_or (values g a m) i 0 ≡ get_or (values g a n) i 0
  values_keep n m i l h =
      le_ind (λ (k : ℕ). get_or (values g a k) i 0 ≡ get_or (values g a n) i 0) refl (λ k q s. values_old g a k i (omega arith) ∙ s) m l

  lit_keep : (n m x : ℕ) → n ≤ m → x / 2 < g.I + 1 + n → literal_value (values g a m) x ≡ literal_value (values g a n) x
  unfolding literal_value
  lit_keep n m x l h = rw (values_keep n m (x / 2) l h)

  constant : (m : ℕ) → get_or (values g a m) 0 0 ≡ 0
  unfolding values
  constant m = values_keep 0 m 0 (omega arith) (omega arith)

  lit_zero : (m : ℕ) → literal_value (values g a m) 0 ≡ 0
  unfolding literal_value
  lit_zero m = rw (constant m)

  module _ (m v : ℕ) (h : v < m) where
    abbrev lit : ℕ → ℕ
    lit x = literal_value (values g a m) x

    abbrev Low : ℕ → Type 0
    Low k = word g (3 * v + k) / 2 < g.I + 1 + v

    node_now : get_or (values g a m) (g.I + 1 + v) 0 ≡ node_value g (values g a v) v
    node_now = values_keep (suc v) m (g.I + 1 + v) h (omega arith) ∙ values_new g a v

    pub node_xor : is_xor g v ≡ true → Low 0 → Low 1 → get_or (values g a m) (g.I + 1 + v) 0 ≡ exclusive (lit (word g (3 * v + 0))) (lit (word g (3 * v + 1)))
    unfolding node_value
    node_xor e l₀ l₁ =
        node_now ∙ rw (e, lit_keep v m (word g (3 * v + 0)) (omega arith) l₀, lit_keep v m (word g (3 * v + 1)) (omega arith) l₁)

    pub node_majority : is_xor g v ≡ false → Low 0 → Low 1 → Low 2
        → get_or (values g a m) (g.I + 1 + v) 0 ≡ majority (lit (word g (3 * v + 0))) (lit (word g (3 * v + 1))) (lit (word g (3 * v + 2)))
    unfolding node_value
    node_majority e l₀ l₁ l₂ =
        node_now
        ∙ rw (e, lit_keep v m (word g (3 * v + 0)) (omega arith) l₀, lit_keep v m (word g (3 * v + 1)) (omega arith) l₁, lit_keep v m (word g (3 * v + 2)) (omega arith) l₂)

    no_xor : (y : ℕ) → word g (3 * v + 2) ≡ y → y / 2 < g.I + 1 + v → g.I + 1 + v < 2147483648 → is_xor g v ≡ false
    unfolding is_xor
    no_xor y e l b = ne_eqb (word g (3 * v + 2)) mark (λ z. omega arith)

    -- a majority of the constant and two literals is their AND
    pub and_value : (x y : ℕ) → word g (3 * v + 0) ≡ 0 → word g (3 * v + 1) ≡ x → word g (3 * v + 2) ≡ y → x / 2 < g.I + 1 + v → y / 2 < g.I + 1 + v
        → g.I + 1 + v < 2147483648 → And (values g a m) (g.I + 1 + v) x y
    and_value x y e₀ e₁ e₂ lx ly b =
        node_majority (no_xor y e₂ ly b) (rw e₀ (omega arith)) (rw e₁ lx) (rw e₂ ly)
        ∙ rw (e₀, e₁, e₂, lit_zero m) (maj_and _ _ (literal_bit _ x) (literal_bit _ y))
