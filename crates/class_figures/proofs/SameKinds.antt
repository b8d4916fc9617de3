-- Settling leaves the kinds of all nodes, and so their cells: two admitted graphs of one wiring have the same marks. From the
-- definition of wiring and the laws on sums.
use mathlib.Core.Path.{◌≡◌, sym, ap, ◌∙◌}
use mathlib.Core.Bool.{Bool, true, false, cond}
use mathlib.Core.Logic.{⊎_elim}
use Prim.Native.Nat.{ℕ, ◌+◌, ◌*◌, ◌%◌, ◌<◌}
use native.Mathlib.Omega.{arith}
use borrow.Author.Tests.{eq-eqb}
use lib.ListN.{get_or}
use Rattle.graph.specs.Admission.{Admitted}
use Rattle.graph.specs.Finite.{sum}
use Rattle.graph.specs.Graph.{Graph, mark, index, word, is_xor, is_edge, wire, wiring}
use Rattle.graph.proofs.Cases.{true_or_false}
use Rattle.graph.proofs.Finite.{get_d_tab, sum_same}
use Rattle.moves.proofs.Kept.{Stays}
use Rattle.class_figures.specs.Figures.{kind_cells}

module _ (g : Graph) (v : ℕ) where
  mark_wire : is_xor g v ≡ true → wire g (3 * v + 2) ≡ mark
  unfolding is_xor wire is_edge
  mark_wire t = let e : (3 * v + 2) % 3 ≡ 2 = omega arith in simp (eq-eqb ((3 * v + 2) % 3) 2 e, t)

  third_edge : is_xor g v ≡ false → is_edge g (3 * v + 2) ≡ true
  unfolding is_xor is_edge
  third_edge t = let e : (3 * v + 2) % 3 ≡ 2 = omega arith in simp (eq-eqb ((3 * v + 2) % 3) 2 e, t)

  edge_wire : is_xor g v ≡ false → wire g (3 * v + 2) ≡ index (word g (3 * v + 2))
  unfolding wire
  edge_wire t = simp (third_edge t)

  low_wire : Admitted g → v < g.N → is_xor g v ≡ false → wire g (3 * v + 2) < mark
  low_wire adm h t =
      let l = adm.below (3 * v + 2) (omega arith) (third_edge t) in
      omega (arith, edge_wire t, adm.few_inputs, adm.few_nodes)

module _ (g h : Graph) (adm : Admitted g) (s : Stays g h) where
  same_wire : (j : ℕ) → j < 3 * g.N → wire h j ≡ wire g j
  unfolding wiring
  same_wire j l =
      sym (get_d_tab (3 * h.N) (wire h) j (rw s.same_N l)) ∙ ap (λ (k : Graph). get_or k.nodes j 0) s.wired ∙ get_d_tab (3 * g.N) (wire g) j l

  same_kind : (v : ℕ) → v < g.N → is_xor h v ≡ is_xor g v
  same_kind v l =
      let e = same_wire (3 * v + 2) (omega arith) in
      let m : v < h.N = rw s.same_N l in
      ⊎_elim
      (λ (t : is_xor h v ≡ true).
      ⊎_elim (λ (u : is_xor g v ≡ true). t ∙ sym u) (λ (u : is_xor g v ≡ false). absurd (omega (arith, mark_wire h v t, low_wire g v adm l u))) (true_or_false (is_xor g v)))
      (λ (t : is_xor h v ≡ false).
      ⊎_elim (λ (u : is_xor g v ≡ true). absurd (omega (arith, mark_wire g v u, low_wire h v s.admitted m t))) (λ (u : is_xor g v ≡ false). t ∙ sym u) (true_or_false (is_xor g v)))
      (true_or_false (is_xor h v))

  pub same_cells : sum h.N (kind_cells h) ≡ sum g.N (kind_cells g)
  unfolding kind_cells
  same_cells = ap (λ (n : ℕ). sum n (kind_cells h)) s.same_N ∙ sum_same g.N (kind_cells h) (kind_cells g) (λ v l. ap (λ (b : Bool). cond b 12 5) (same_kind v l))
