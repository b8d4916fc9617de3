-- The imported export has the values of the graph: node v is the last of its ANDs, complemented. By rising node.
use Prim.Native.Nat.{ℕ, zero, suc, ◌+◌, ◌*◌, ◌/◌, ◌%◌, ◌<◌, ◌≤◌}
use mathlib.Core.Path.{◌≡◌, sym, ap, ap₂, ◌∙◌}
use mathlib.Core.Logic.{⊎_elim}
use mathlib.Core.Bool.{true, false}
use mathlib.Core.List.{List}
use native.Mathlib.Omega.{arith}
use native.Mathlib.Nat.{mod-add-mod, add-mod-mod}
use lib.ListN.{get_or}
use Rattle.graph.specs.Graph.{Graph, word, is_xor}
use Rattle.graph.specs.Admission.{Admitted}
use Rattle.graph.specs.Value.{majority, exclusive, literal_value, values}
use Rattle.graph.proofs.Cases.{lt_or_le, true_or_false}
use Rattle.aiger.specs.Export.{gates_of, gates_before, exported, xor_gates, majority_gates, node_gates, gates}
use Rattle.aiger.proofs.Gates.{before_suc, before_mono, of_xor, of_majority, exported_input, exported_node, base, said, gates_xor, gates_majority, gates_at, gates_fine, word_early, word_third}
use Rattle.aiger.proofs.Values.{And, xor_value, majority_value, values_keep, node_xor, node_majority, and_value}
use Rattle.aiger.proofs.Exported.{few_gates}

-- h has the ANDs of g's export as majorities with the constant in front
pub record Carries (g h : Graph) : Type 0 where
  pub inputs : h.I ≡ g.I
  pub front : (q : ℕ) → q < gates_before g g.N → word h (3 * q + 0) ≡ 0
  pub left : (q : ℕ) → q < gates_before g g.N → word h (3 * q + 1) ≡ get_or (gates g g.N) (3 * q + 1) 0
  pub right : (q : ℕ) → q < gates_before g g.N → word h (3 * q + 2) ≡ get_or (gates g g.N) (3 * q + 2) 0

same_start : (g h : Graph) (a : ℕ → ℕ) → h.I ≡ g.I → values h a 0 ≡ values g a 0
unfolding values
same_start g h a e = rw e

-- a literal of a node, from the node's value
lit_of : (vs ws : List ℕ) (x y i j : ℕ) → x / 2 ≡ i → y ≡ 2 * j + (x + 1) % 2 → (get_or ws j 0 + 1) % 2 ≡ get_or vs i 0 → literal_value vs x ≡ literal_value ws y
unfolding literal_value
lit_of vs ws x y i j e f q =
    let p : y / 2 ≡ j = omega arith in
    let r : y % 2 ≡ (x + 1) % 2 = omega arith in
    rw (e, p, r, ← q) (simp (mod-add-mod, add-mod-mod) (omega arith))

-- what stands in the ANDs of a node
module _ (w : List ℕ) (b x y : ℕ) where
  abbrev XorPart : ℕ → ℕ → Type 0
  XorPart i d = And w i (get_or (xor_gates b x y) (3 * d + 1) 0) (get_or (xor_gates b x y) (3 * d + 2) 0)

  xor_parts : XorPart b 0 → XorPart (b + 1) 1 → XorPart (b + 2) 2 → (get_or w (b + 2) 0 + 1) % 2 ≡ exclusive (literal_value w x) (literal_value w y)
  unfolding xor_gates
  xor_parts p q r = xor_value w b x y p q r

  module _ (z : ℕ) where
    abbrev MajorityPart : ℕ → ℕ → Type 0
    MajorityPart i d = And w i (get_or (majority_gates b x y z) (3 * d + 1) 0) (get_or (majority_gates b x y z) (3 * d + 2) 0)

    majority_parts : MajorityPart b 0 → MajorityPart (b + 1) 1 → MajorityPart (b + 2) 2 → MajorityPart (b + 3) 3
        → (get_or w (b + 3) 0 + 1) % 2 ≡ majority (literal_value w x) (literal_value w y) (literal_value w z)
    unfolding majority_gates
    majority_parts p q r s = majority_value w b x y z p q r s

module _ (g h : Graph) (adm : Admitted g) (c : Carries g h) (a : ℕ → ℕ) where
  abbrev count : ℕ
  count = gates_before g g.N

  abbrev old : List ℕ
  old = values g a g.N

  abbrev new : List ℕ
  new = values h a count

  gate_value : (q : ℕ) → q < count → And new (g.I + 1 + q) (get_or (gates g g.N) (3 * q + 1) 0) (get_or (gates g g.N) (3 * q + 2) 0)
  gate_value q l =
      let f = gates_fine g adm g.N (omega arith) q l in
      let i = c.inputs in
      ap (λ (k : ℕ). get_or new k 0) (omega arith)
      ∙ and_value h a count q l (get_or (gates g g.N) (3 * q + 1) 0) (get_or (gates g g.N) (3 * q + 2) 0) (c.front q l) (c.left q l) (c.right q l)
      (omega (arith, f.left)) (omega (arith, f.right)) (omega (arith, few_gates g adm, adm.few_inputs))

  module _ (v : ℕ) (l : v < g.N) where
    -- AND d of node v
    part : (d j : ℕ) → d < gates_of g v → j ≡ base g v + d → And new j (get_or (node_gates g v) (3 * d + 1) 0) (get_or (node_gates g v) (3 * d + 2) 0)
    part d j k e =
        let q : ℕ = gates_before g v + d in
        let f : j ≡ g.I + 1 + q = omega arith in
        let e₁ : 3 * q + 1 ≡ 3 * gates_before g v + (3 * d + 1) = omega arith in
        let e₂ : 3 * q + 2 ≡ 3 * gates_before g v + (3 * d + 2) = omega arith in
        let m = before_mono g (suc v) g.N l in
        let s = before_suc g v in
        let r = gate_value q (omega arith) in
        let w₁ : get_or (gates g g.N) (3 * q + 1) 0 ≡ get_or (node_gates g v) (3 * d + 1) 0 = rw e₁ (gates_at g g.N v (3 * d + 1) l (omega arith)) in
        let w₂ : get_or (gates g g.N) (3 * q + 2) 0 ≡ get_or (node_gates g v) (3 * d + 2) 0 = rw e₂ (gates_at g g.N v (3 * d + 2) l (omega arith)) in
        rw (f, ← w₁, ← w₂) r

    module _ (ih : (x : ℕ) → x / 2 < g.I + 1 + v → literal_value old x ≡ literal_value new (exported g x)) where
      at_xor : is_xor g v ≡ true → (get_or new (g.I + gates_before g (suc v)) 0 + 1) % 2 ≡ get_or old (g.I + 1 + v) 0
      at_xor e =
          let b : ℕ = base g v in
          let x : ℕ = said g v 0 in
          let y : ℕ = said g v 1 in
          let k = of_xor g v e in
          let s = gates_xor g v e in
          let i : g.I + gates_before g (suc v) ≡ b + 2 = omega (arith, before_suc g v) in
          let l₀ = word_early g adm v l 0 (omega arith) in
          let l₁ = word_early g adm v l 1 (omega arith) in
          rw i
          (xor_parts new b x y (rw s at (part 0 b (omega arith) (omega arith))) (rw s at (part 1 (b + 1) (omega arith) (omega arith))) (rw s at (part 2 (b + 2) (omega arith) (omega arith)))
          ∙ sym (node_xor g a g.N v l e l₀ l₁ ∙ ap₂ exclusive (ih _ l₀) (ih _ l₁)))

      at_majority : is_xor g v ≡ false → (get_or new (g.I + gates_before g (suc v)) 0 + 1) % 2 ≡ get_or old (g.I + 1 + v) 0
      at_majority e =
          let b : ℕ = base g v in
          let x : ℕ = said g v 0 in
          let y : ℕ = said g v 1 in
          let z : ℕ = said g v 2 in
          let k = of_majority g v e in
          let s = gates_majority g v e in
          let i : g.I + gates_before g (suc v) ≡ b + 3 = omega (arith, before_suc g v) in
          let l₀ = word_early g adm v l 0 (omega arith) in
          let l₁ = word_early g adm v l 1 (omega arith) in
          let l₂ = word_third g adm v l e in
          let m : get_or old (g.I + 1 + v) 0 ≡ majority (literal_value new x) (literal_value new y) (literal_value new z) =
          node_majority g a g.N v l e l₀ l₁ l₂ ∙ rw (ih _ l₀, ih _ l₁, ih _ l₂) in
          rw i
          (majority_parts new b x y z (rw s at (part 0 b (omega arith) (omega arith))) (rw s at (part 1 (b + 1) (omega arith) (omega arith)))
          (rw s at (part 2 (b + 2) (omega arith) (omega arith))) (rw s at (part 3 (b + 3) (omega arith) (omega arith)))
          ∙ sym m)

      at_node : (get_or new (g.I + gates_before g (suc v)) 0 + 1) % 2 ≡ get_or old (g.I + 1 + v) 0
      at_node = ⊎_elim (λ (e : is_xor g v ≡ true). at_xor e) (λ (e : is_xor g v ≡ false). at_majority e) (true_or_false (is_xor g v))

  pub agree : (n : ℕ) → n ≤ g.N → (x : ℕ) → x / 2 < g.I + 1 + n → literal_value old x ≡ literal_value new (exported g x)
  unfolding literal_value
  agree zero l x k =
      let i = c.inputs in
      rw (
        exported_input g x (omega arith),
        values_keep g a 0 g.N (x / 2) (omega arith) k,
        values_keep h a 0 count (x / 2) (omega arith) (omega arith),
        same_start g h a i,
      )
  agree (suc n) l x k =
      ⊎_elim
      (λ (q : x / 2 < g.I + 1 + n). agree n (omega arith) x q)
      (λ (q : g.I + 1 + n ≤ x / 2).
      let e : x / 2 ≡ g.I + 1 + n = omega arith in
      lit_of old new x (exported g x) (g.I + 1 + n) (g.I + gates_before g (suc n)) e (exported_node g x n e) (at_node n l (agree n (omega arith))))
      (lt_or_le (x / 2) (g.I + 1 + n))
