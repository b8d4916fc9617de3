-- The bytes of a field: how many there are, and the stores that write them. From the laws on runs of stores.
use Prim.Native.Nat.{ℕ, ◌+◌, ◌-◌, ◌*◌, ◌≤◌}
use mathlib.Core.Path.{◌≡◌, refl, sym, ap, ◌∙◌}
use mathlib.Core.List.{List, [], ◌∷◌, ◌++◌}
use mathlib.Core.Logic.{⊎_elim, ◌≢◌}
use native.Mathlib.Omega.{arith}
use lib.ListN.{length, get_or}
use lib.Seq.{sets}
use Rattle.graph.specs.Graph.{mark}
use Rattle.graph.specs.Finite.{if_equal}
use Rattle.graph.proofs.Cases.{eq_or_ne}
use Rattle.graph.proofs.Tests.{equal, unequal}
use Rattle.tagged_file.specs.Write.{big, field_of, node_field, output_field, lock_field, node_field_at, output_field_at, lock_field_at, end_field}
use Rattle.tagged_file.proofs.Stores.{then, apart, twice}

pub end_is : end_field ≡ 5 ∷ 0 ∷ 0 ∷ []
unfolding end_field field_of big
end_is = refl

-- a node's field is that of an XOR or that of a majority
pub node_xor : (x y z : ℕ) → z ≡ mark → field_of 3 (big 4 x ++ big 4 y) ≡ node_field x y z
unfolding node_field
node_xor x y z e = equal _ _ _ _ e refl

pub node_majority : (x y z : ℕ) → (z ≡ mark → ⊥) → field_of 2 (big 4 x ++ (big 4 y ++ big 4 z)) ≡ node_field x y z
unfolding node_field
node_majority x y z e = unequal _ _ _ _ e refl

pub length_three : (tag x y z : ℕ) → length (field_of tag (big 4 x ++ (big 4 y ++ big 4 z))) ≡ 15
unfolding field_of big
length_three tag x y z = refl

pub length_two : (tag x y : ℕ) → length (field_of tag (big 4 x ++ big 4 y)) ≡ 11
unfolding field_of big
length_two tag x y = refl

pub length_xor : (x y z : ℕ) → z ≡ mark → 11 ≡ length (node_field x y z)
length_xor x y z e = sym (length_two 3 x y) ∙ ap length (node_xor x y z e)

pub length_majority : (x y z : ℕ) → (z ≡ mark → ⊥) → 15 ≡ length (node_field x y z)
length_majority x y z e = sym (length_three 2 x y z) ∙ ap length (node_majority x y z e)

pub length_single : (tag x : ℕ) → length (field_of tag (big 4 x)) ≡ 7
unfolding field_of big
length_single tag x = refl

module _ (t t₁ t₂ t₃ : List ℕ) (at : ℕ) where
  pub three_stored : (tag x y z : ℕ) (t₄ : List ℕ) → t₁ ≡ sets t at (tag ∷ 0 ∷ 12 ∷ []) → t₂ ≡ sets t₁ (at + 3) (big 4 x)
      → t₃ ≡ sets t₂ (at + 7) (big 4 y) → t₄ ≡ sets t₃ (at + 11) (big 4 z) → t₄ ≡ sets t at (field_of tag (big 4 x ++ (big 4 y ++ big 4 z)))
  unfolding field_of big
  three_stored tag x y z t₄ e₁ e₂ e₃ e₄ =
      let h : List ℕ = tag ∷ 0 ∷ 12 ∷ [] in
      let f₂ = then t t₁ t₂ h (big 4 x) at (at + 3) e₁ e₂ refl in
      let f₃ = then t t₂ t₃ (h ++ big 4 x) (big 4 y) at (at + 7) f₂ e₃ refl in
      then t t₃ t₄ ((h ++ big 4 x) ++ big 4 y) (big 4 z) at (at + 11) f₃ e₄ refl

  pub two_stored : (tag x y : ℕ) → t₁ ≡ sets t at (tag ∷ 0 ∷ 8 ∷ []) → t₂ ≡ sets t₁ (at + 3) (big 4 x) → t₃ ≡ sets t₂ (at + 7) (big 4 y)
      → t₃ ≡ sets t at (field_of tag (big 4 x ++ big 4 y))
  unfolding field_of big
  two_stored tag x y e₁ e₂ e₃ =
      let h : List ℕ = tag ∷ 0 ∷ 8 ∷ [] in
      then t t₂ t₃ (h ++ big 4 x) (big 4 y) at (at + 7) (then t t₁ t₂ h (big 4 x) at (at + 3) e₁ e₂ refl) e₃ refl

-- a node's field, part after part: the last number stands where the payload ends
module _ (x y z size : ℕ) (q : size ≡ if_equal z mark 8 12) where
  size_xor : z ≡ mark → size ≡ 8
  size_xor e = q ∙ sym (equal z mark 8 12 e refl)

  size_majority : z ≢ mark → size ≡ 12
  size_majority n = q ∙ sym (unequal z mark 8 12 n refl)

  pub node_length : (length (node_field x y z) ≡ 3 + size) × (8 ≤ size)
  node_length =
      ⊎_elim
      (λ (e : z ≡ mark). (omega (arith, length_xor x y z e, size_xor e), omega (arith, size_xor e)))
      (λ (n : z ≢ mark). (omega (arith, length_majority x y z n, size_majority n), omega (arith, size_majority n)))
      (eq_or_ne z mark)

  -- in the order of its bytes
  in_order_lem : (t t₁ t₂ t₃ t₄ : List ℕ) (at tag last : ℕ) → tag ≡ if_equal z mark 3 2 → last ≡ if_equal z mark y z → t₁ ≡ sets t at (tag ∷ 0 ∷ size ∷ [])
      → t₂ ≡ sets t₁ (at + 3) (big 4 x) → t₃ ≡ sets t₂ (at + 7) (big 4 y) → t₄ ≡ sets t₃ (at + size - 1) (big 4 last) → t₄ ≡ sets t at (node_field x y z)
  in_order_lem t t₁ t₂ t₃ t₄ at tag last p r e₁ e₂ e₃ e₄ =
      ⊎_elim
      (λ (e : z ≡ mark).
      let p₁ : tag ≡ 3 = p ∙ sym (equal z mark _ _ e refl) in
      let r₁ : last ≡ y = r ∙ sym (equal z mark _ _ e refl) in
      let d : at + size - 1 ≡ at + 7 = omega (arith, size_xor e) in
      let e₅ : t₄ ≡ t₃ = rw (d, r₁, e₃) at e₄ ∙ twice (big 4 y) t₂ (at + 7) ∙ sym e₃ in
      e₅ ∙ two_stored t t₁ t₂ t₃ at 3 x y (rw (p₁, size_xor e) at e₁) e₂ e₃ ∙ ap (sets t at) (node_xor x y z e))
      (λ (n : z ≢ mark).
      let p₁ : tag ≡ 2 = p ∙ sym (unequal z mark _ _ n refl) in
      let r₁ : last ≡ z = r ∙ sym (unequal z mark _ _ n refl) in
      let d : at + size - 1 ≡ at + 11 = omega (arith, size_majority n) in
      three_stored t t₁ t₂ t₃ at 2 x y z t₄ (rw (p₁, size_majority n) at e₁) e₂ e₃ (rw (d, r₁) at e₄) ∙ ap (sets t at) (node_majority x y z n))
      (eq_or_ne z mark)

  -- and with its head last
  pub node_stored : (t t₁ t₂ t₃ t₄ : List ℕ) (at tag last : ℕ) → tag ≡ if_equal z mark 3 2 → last ≡ if_equal z mark y z → t₁ ≡ sets t (at + 3) (big 4 x)
      → t₂ ≡ sets t₁ (at + 7) (big 4 y) → t₃ ≡ sets t₂ (at + size - 1) (big 4 last) → t₄ ≡ sets t₃ at (tag ∷ 0 ∷ size ∷ []) → t₄ ≡ sets t at (node_field x y z)
  node_stored t t₁ t₂ t₃ t₄ at tag last p r e₁ e₂ e₃ e₄ =
      let h : List ℕ = tag ∷ 0 ∷ size ∷ [] in
      let h₁ = sets t at h in
      let h₂ = sets h₁ (at + 3) (big 4 x) in
      let h₃ = sets h₂ (at + 7) (big 4 y) in
      let f₁ : sets t₁ at h ≡ h₂ = rw e₁ (apart (big 4 x) h t at (at + 3) (omega arith)) in
      let f₂ : sets t₂ at h ≡ h₃ = rw e₂ (apart (big 4 y) h t₁ at (at + 7) (omega arith) ∙ ap (λ (l : List ℕ). sets l (at + 7) (big 4 y)) f₁) in
      let f₃ : sets t₃ at h ≡ sets h₃ (at + size - 1) (big 4 last) =
      rw e₃ (apart (big 4 last) h t₂ at (at + size - 1) (omega (arith, node_length)) ∙ ap (λ (l : List ℕ). sets l (at + size - 1) (big 4 last)) f₂) in
      in_order_lem t h₁ h₂ h₃ t₄ at tag last p r refl refl refl (e₄ ∙ f₃)

pub single_stored : (t t₁ t₂ : List ℕ) (at tag x : ℕ) → t₁ ≡ sets t at (tag ∷ 0 ∷ 4 ∷ []) → t₂ ≡ sets t₁ (at + 3) (big 4 x)
    → t₂ ≡ sets t at (field_of tag (big 4 x))
unfolding field_of big
single_stored t t₁ t₂ at tag x e₁ e₂ = then t t₁ t₂ (tag ∷ 0 ∷ 4 ∷ []) (big 4 x) at (at + 3) e₁ e₂ refl

-- a node's field by the words that were read
pub node_at_lem : (ns : List ℕ) (v x y z : ℕ) → x ≡ get_or ns (3 * v) 0 → y ≡ get_or ns (3 * v + 1) 0 → z ≡ get_or ns (3 * v + 2) 0 → node_field x y z ≡ node_field_at ns v
unfolding node_field_at
node_at_lem ns v x y z p q r = rw (p, q, r)

-- a node's field has 11 or 15 bytes
module _ (ns : List ℕ) (v : ℕ) where
  length_node_at : (11 ≤ length (node_field_at ns v)) × (length (node_field_at ns v) ≤ 15)
  unfolding node_field_at
  length_node_at =
      let x = get_or ns (3 * v) 0 in
      let y = get_or ns (3 * v + 1) 0 in
      let z = get_or ns (3 * v + 2) 0 in
      ⊎_elim
      (λ (e : z ≡ mark). (omega (arith, length_xor x y z e), omega (arith, length_xor x y z e)))
      (λ (n : z ≢ mark). (omega (arith, length_majority x y z n), omega (arith, length_majority x y z n)))
      (eq_or_ne z mark)

  pub length_node_least : 11 ≤ length (node_field_at ns v)
  length_node_least = length_node_at.0

  pub length_node_most : length (node_field_at ns v) ≤ 15
  length_node_most = length_node_at.1

pub length_output_at : (os : List ℕ) (j : ℕ) → length (output_field_at os j) ≡ 7
unfolding output_field_at output_field
length_output_at os j = length_single 4 (get_or os j 0)

-- a lock takes a field or no bytes
pub lock_locked : (b u : ℕ) → b ≡ 1 → field_of 6 (big 4 u) ≡ lock_field b u
unfolding lock_field
lock_locked b u e = equal _ _ _ _ e refl

pub lock_free : (b u : ℕ) → (b ≡ 1 → ⊥) → [] ≡ lock_field b u
unfolding lock_field
lock_free b u n = unequal _ _ _ _ n refl

pub length_locked : (b u : ℕ) → b ≡ 1 → 7 ≡ length (lock_field b u)
length_locked b u e = sym (length_single 6 u) ∙ ap length (lock_locked b u e)

pub length_free : (b u : ℕ) → (b ≡ 1 → ⊥) → 0 ≡ length (lock_field b u)
length_free b u n = ap length (lock_free b u n)

module _ (i : ℕ) (ls : List ℕ) (v : ℕ) where
  pub locked_field : get_or ls v 0 ≡ 1 → lock_field_at i ls v ≡ field_of 6 (big 4 (i + v))
  unfolding lock_field_at
  locked_field e = sym (lock_locked (get_or ls v 0) (i + v) e)

  pub free_field : get_or ls v 0 ≢ 1 → lock_field_at i ls v ≡ []
  unfolding lock_field_at
  free_field n = sym (lock_free (get_or ls v 0) (i + v) n)

pub length_lock_at : (i : ℕ) (ls : List ℕ) (v : ℕ) → length (lock_field_at i ls v) ≤ 7
unfolding lock_field_at
length_lock_at i ls v =
    ⊎_elim
    (λ (e : get_or ls v 0 ≡ 1). omega (arith, length_locked (get_or ls v 0) (i + v) e))
    (λ (n : get_or ls v 0 ≢ 1). omega (arith, length_free (get_or ls v 0) (i + v) n))
    (eq_or_ne (get_or ls v 0) 1)
