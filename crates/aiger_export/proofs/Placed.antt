-- Where literals stand in the export: their indices rise with the graph's, so that one index parts those that have reached
-- an index from those that have not; and what scratch holds. From the laws on ANDs.
use Prim.Native.Nat.{ℕ, suc, ◌+◌, ◌-◌, ◌*◌, ◌/◌, ◌%◌, ◌<◌, ◌≤◌}
use mathlib.Core.Path.{◌≡◌, refl, sym, ap, ◌∙◌}
use mathlib.Core.Logic.{⊎_elim}
use mathlib.Core.List.{List}
use native.Mathlib.Omega.{arith}
use lib.ListN.{length, set}
use Rattle.graph.specs.Graph.{Graph}
use Rattle.graph.specs.Admission.{Admitted}
use Rattle.graph.proofs.Cases.{lt_or_le}
use Rattle.graph.proofs.Sweep.{swept, swept_done, swept_suc}
use Rattle.graph.proofs.Tests.{less, no_less}
use Rattle.aiger.specs.Export.{gates_of, gates_before, exported}
use Rattle.aiger.proofs.Gates.{before_suc, before_zero, before_most, before_mono, exported_input, exported_node, exported_below}
use Rattle.aiger_export.specs.Inner.{wide_by, Step, Fit, node_literal, Filled}
use Rattle.aiger_export.specs.declared.steps.Steps.{Steps}

module _ (g : Graph) where
  -- a literal of node v or a later one stands at that node's last AND or later
  exported_from : (x v : ℕ) → g.I + 1 + v ≤ x / 2 → g.I + gates_before g (suc v) ≤ exported g x / 2
  exported_from x v h =
      let e = exported_node g x (x / 2 - g.I - 1) (omega arith) in
      let m = before_mono g (suc v) (suc (x / 2 - g.I - 1)) (omega arith) in
      omega arith

  -- what scratch holds of a node, as its literal
  pub literal_node : (x v : ℕ) → x / 2 ≡ g.I + 1 + v → exported g x ≡ node_literal g v + (x + 1) % 2
  unfolding node_literal
  literal_node x v h = exported_node g x v h

  pub literal_most : Admitted g → (v : ℕ) → v < g.N → node_literal g v ≤ 808192
  unfolding node_literal
  literal_most adm v h = omega (arith, before_most g (suc v))

  -- an index that parts the literals is a step
  step_by : (h c : ℕ) → ((x : ℕ) → x / 2 < g.I + 1 + g.N → x / 2 < c → exported g x / 2 < h)
      → ((x : ℕ) → x / 2 < g.I + 1 + g.N → c ≤ x / 2 → h ≤ exported g x / 2) → Step g h c
  step_by h c low high x l =
      ⊎_elim
      (λ (k : x / 2 < c). sym (less (x / 2) c _ _ k refl) ∙ less (exported g x / 2) h _ _ (low x l k) refl)
      (λ (k : c ≤ x / 2). sym (no_less (x / 2) c _ _ k refl) ∙ no_less (exported g x / 2) h _ _ (high x l k) refl)
      (lt_or_le (x / 2) c)

  -- among the inputs, at a node, and past the last
  pub step_early : (h : ℕ) → h ≤ g.I → Step g h h
  step_early h k =
      step_by h h (λ x l m. rw (exported_input g x (omega arith)) m)
      (λ x l m.
      ⊎_elim
      (λ (n : g.I < x / 2). omega (arith, exported_from x (x / 2 - g.I - 1) (omega arith)))
      (λ (n : x / 2 ≤ g.I). rw (exported_input g x n) m)
      (lt_or_le g.I (x / 2)))

  pub step_node : (h v : ℕ) → g.I + gates_before g v < h → h ≤ g.I + gates_before g (suc v) → Step g h (g.I + 1 + v)
  step_node h v k m =
      step_by h (g.I + 1 + v) (λ x l n. omega (arith, exported_below g x v n)) (λ x l n. omega (arith, exported_from x v n))

  pub step_none : (h : ℕ) → g.I + gates_before g g.N < h → Step g h (g.I + 1 + g.N)
  step_none h k = step_by h (g.I + 1 + g.N) (λ x l n. omega (arith, exported_below g x g.N n)) (λ x l n. absurd (omega arith))

  -- the five steps give every literal's width
  pub fit : (s : Steps) → Step g 5 s.two → Step g 50 s.three → Step g 500 s.four → Step g 5000 s.five → Step g 50000 s.six → Fit g s
  unfolding wide_by
  fit s a b c d e x l = rw (a x l, b x l, c x l, d x l, e x l)

-- the ANDs of the nodes below v, counted from a number on
pub record Counted (g : Graph) (from v count : ℕ) : Type 0 where
  pub passed : v ≤ g.N
  pub sum : count ≡ from + gates_before g v

module _ (g : Graph) (from : ℕ) where
  pub counted_zero : Counted g from 0 from
  counted_zero = record { passed = omega arith; sum = omega (arith, before_zero g) }

  module _ (v count : ℕ) (h : Counted g from v count) where
    pub counted_most : count ≤ from + 4 * v
    counted_most = omega (arith, h.sum, before_most g v)

    pub counted_more : v < g.N → (k : ℕ) → k ≡ gates_of g v → count + k ≡ from + gates_before g (suc v)
    counted_more l k e = omega (arith, h.sum, before_suc g v)

    pub counted_next : v < g.N → (k : ℕ) → k ≡ gates_of g v → Counted g from (v + 1) (count + k)
    counted_next l k e =
        let s : v + 1 ≡ suc v = omega arith in
        record { passed = omega arith; sum = rw s (counted_more l k e) }

    pub counted_all : g.N ≤ v → count ≡ from + gates_before g g.N
    counted_all l = h.sum ∙ ap (λ (w : ℕ). from + gates_before g w) (omega (arith, h.passed))

    -- scratch as it stands when v nodes are done, and a node more
    pub held_next : (l : List ℕ) → v < length l → v < g.N → from ≡ g.I → (k : ℕ) → k ≡ gates_of g v
        → set (swept (node_literal g) l v) v (2 * (count + k)) ≡ swept (node_literal g) l (v + 1)
    unfolding node_literal
    held_next l m n i k e =
        let s : v + 1 ≡ suc v = omega arith in
        let q : 2 * (count + k) ≡ 2 * (g.I + gates_before g (suc v)) = omega (arith, counted_more n k e) in
        rw (s, q) (swept_suc (node_literal g) l v m)

pub held_all : (g : Graph) (l : List ℕ) (v : ℕ) → g.N ≤ length l → g.N ≤ v → Filled g (swept (node_literal g) l v)
held_all g l v h k u m = swept_done (node_literal g) l v u (omega arith) (omega arith)
