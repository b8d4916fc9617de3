-- What one test of `node_of` tells: an index is that of a node, or of none; and what is read of the nearest node. From their contracts.
use Rattle.std.proofs.Common.{◌≡◌, ℕ, ◌+◌, ◌-◌, ◌<◌, ◌≤◌, ◌≢◌, ◌⊎◌, sym, ap, ◌∙◌, inl, inr, ⊎_elim, arith}
use Rattle.graph.proofs.Cases.{lt_or_le}

-- what `node_of` gives of index u with i inputs, and `nearest` of v with n nodes
abbrev pub IsNodeOf : ℕ → ℕ → ℕ → Type 0
IsNodeOf i u v = (i < u → v ≡ u - (i + 1)) × (u ≤ i → 4294000000 ≤ v)

abbrev pub IsNearest : ℕ → ℕ → ℕ → Type 0
IsNearest n v w = (v < n → w ≡ v) × (n ≤ v → w ≡ n - 1)

module _ (i n u r : ℕ) (is : IsNodeOf i u r) where
  pub node_found : n ≤ 100000 → r < n → (i < u) × (r ≡ u - (i + 1))
  node_found few l = ⊎_elim (λ (a : i < u). (a, is.0 a)) (λ (a : u ≤ i). absurd (omega (arith, is.1 a))) (lt_or_le i u)

  pub node_missed : n ≤ r → (u ≤ i) ⊎ (i + 1 + n ≤ u)
  node_missed l = ⊎_elim (λ (a : i < u). inr (omega (arith, is.0 a))) (λ (a : u ≤ i). inl a) (lt_or_le i u)

-- what an index has, x, is read of node w, the nearest to v
pub record Nearby (n x : ℕ) (read : ℕ → ℕ) (v w : ℕ) : Type 0 where
  pub is_node_lem : w < n
  pub none : read w ≡ 0 → x ≡ 0
  pub elsewhere : w ≢ v → x ≡ 0
  pub there : w ≡ v → (v < n) × (x ≡ read w)

-- a node has what is read of it, and what is no node has nothing
pub nearby : (i n u v w x : ℕ) (read : ℕ → ℕ) → 0 < n → n ≤ 100000 → IsNodeOf i u v → IsNearest n v w → (i < u → u < i + 1 + n → x ≡ read (u - (i + 1)))
    → ((u ≤ i) ⊎ (i + 1 + n ≤ u) → x ≡ 0) → Nearby n x read v w
nearby i n u v w x read p few is near has lacks =
    ⊎_elim
    (λ (l : v < n).
    let f = node_found i n u v is few l in
    let e : x ≡ read w = has f.0 (omega (arith, f.1)) ∙ ap read (sym f.1 ∙ sym (near.0 l)) in
    record { is_node_lem = omega (arith, near.0 l); none = λ z. e ∙ z; elsewhere = λ q. absurd (q (near.0 l)); there = λ q. (l, e) })
    (λ (l : n ≤ v).
    let z = lacks (node_missed i n u v is l) in
    record { is_node_lem = omega (arith, near.1 l); none = λ q. z; elsewhere = λ q. z; there = λ q. absurd (omega (arith, near.1 l, q)) })
    (lt_or_le v n)
