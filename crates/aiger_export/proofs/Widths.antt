-- How wide the lines are, by the indices of their literals. From the laws on digits.
use Prim.Native.Nat.{ℕ, ◌+◌, ◌*◌, ◌/◌, ◌<◌, ◌≤◌}
use mathlib.Core.Path.{◌≡◌, refl, sym, ap, ◌∙◌}
use mathlib.Core.Bool.{true, false}
use mathlib.Core.Logic.{⊎_elim}
use mathlib.Core.List.{[]}
use native.Mathlib.Nat.{add-zero}
use native.Mathlib.Omega.{arith}
use lib.ListN.{length}
use Rattle.graph.specs.Finite.{if_less, decimal}
use Rattle.graph.specs.Admission.{Admitted}
use Rattle.graph.specs.Graph.{Graph, turn, word, output, is_xor}
use Rattle.graph.proofs.Answers.{if_less_le}
use Rattle.graph.proofs.Cases.{lt_or_le, true_or_false}
use Rattle.graph.proofs.Digits.{length_small}
use Rattle.graph.proofs.Tests.{less, no_less}
use Rattle.graph.proofs.Turn.{turn_half}
use Rattle.tagged_file.proofs.WholeWrite.{length_most}
use Rattle.aiger.specs.Export.{gates_before, export_text, exported, xor_gates, majority_gates, ended, threes, header}
use Rattle.aiger.proofs.Exported.{few_gates}
use Rattle.aiger.proofs.Gates.{before_most, exported_below, base, said, gates_xor, gates_majority, word_early, word_third, said_below}
use Rattle.aiger.proofs.Length.{length_ended, width_reached, digits_most, past, reached, power}
use Rattle.aiger_export.specs.Inner.{wide_by, halves, xor_wide, majority_wide, Fit, three_line, input_line, output_line, node_lines}
use Rattle.aiger_export.specs.declared.steps.Steps.{Steps}
use Rattle.aiger_export.proofs.Stored.{line_long, header_long, xor_long, majority_long, text_long}

half_past : (h n : ℕ) → if_less {A = ℕ} (n / 2) h 0 1 ≡ past (2 * h) n
half_past h n =
    ⊎_elim
    (λ (k : n / 2 < h). sym (less (n / 2) h _ _ k refl) ∙ less n (2 * h) _ _ (omega arith) refl)
    (λ (k : h ≤ n / 2). sym (no_less (n / 2) h _ _ k refl) ∙ no_less n (2 * h) _ _ (omega arith) refl)
    (lt_or_le (n / 2) h)

-- a literal with index k, and the byte after it
ended_wide : (n end k : ℕ) → n / 2 ≡ k → k < 500000 → length (ended n end []) ≡ wide_by halves k
unfolding wide_by power reached
ended_wide n end k e h =
    let l = length_ended n end [] in
    let w = width_reached 5 n (omega arith) in
    rw (← e, half_past 5 n, half_past 50 n, half_past 500 n, half_past 5000 n, half_past 50000 n) (omega arith)

-- the line of an input and of an output
pub input_wide : (k : ℕ) → k < 4096 → length (input_line k) ≡ wide_by halves (k + 1)
unfolding input_line
input_wide k h = ended_wide (2 * (1 + k)) 10 (k + 1) (omega arith) (omega arith)

pub output_wide : (g : Graph) → Admitted g → (s : Steps) → Fit g s → (j : ℕ) → j < g.O → length (output_line g j) ≡ wide_by s (output g j / 2)
unfolding output_line
output_wide g adm s fit j h =
    let l = adm.output_below j h in
    let b = exported_below g (output g j) g.N l in
    ended_wide (exported g (output g j)) 10 _ refl (omega (arith, few_gates g adm)) ∙ sym (fit (output g j) l)

-- the header
pub header_wide : (i n o : ℕ) → length (header i n o [])
    ≡ 10 + length (decimal (i + n)) + length (decimal i) + length (decimal o) + length (decimal n)
header_wide i n o =
    omega (
      arith,
      header_long i n o,
      line_long 0 o n,
      length_ended (i + n) 32 [],
      length_ended i 32 [],
      length_ended 0 32 [],
      length_ended o 32 [],
      length_ended n 10 [],
      length_small 0 (omega arith),
    )

-- a line of three literals with these indices
three_wide : (x y z i j k : ℕ) → x / 2 ≡ i → y / 2 ≡ j → z / 2 ≡ k → i < 500000 → j < 500000 → k < 500000
    → length (three_line x y z) ≡ wide_by halves i + wide_by halves j + wide_by halves k
three_wide x y z i j k p q r hi hj hk = omega (arith, line_long x y z, ended_wide x 32 i p hi, ended_wide y 32 j q hj, ended_wide z 10 k r hk)

-- the lines of an XOR and of a majority
xor_wide_lem : (b x y : ℕ) → b < 499000 → x / 2 < b → y / 2 < b
    → length (threes (xor_gates b x y)) ≡ xor_wide b (wide_by halves (x / 2)) (wide_by halves (y / 2))
unfolding xor_wide
xor_wide_lem b x y h hx hy =
    let w₁ = three_wide (2 * b) x (turn 1 y) b _ _ (omega arith) refl (turn_half 1 y) (omega arith) (omega arith) (omega arith) in
    let w₂ = three_wide (2 * b + 2) (turn 1 x) y (b + 1) _ _ (omega arith) (turn_half 1 x) refl (omega arith) (omega arith) (omega arith) in
    let w₃ = three_wide (2 * b + 4) (2 * b + 1) (2 * b + 3) (b + 2) b (b + 1) (omega arith) (omega arith) (omega arith) (omega arith) (omega arith) (omega arith) in
    omega (arith, xor_long b x y _ _ refl refl)

majority_wide_lem : (b x y z : ℕ) → b < 499000 → x / 2 < b → y / 2 < b → z / 2 < b
    → length (threes (majority_gates b x y z)) ≡ majority_wide b (wide_by halves (x / 2)) (wide_by halves (y / 2)) (wide_by halves (z / 2))
unfolding majority_wide
majority_wide_lem b x y z h hx hy hz =
    let w₁ = three_wide (2 * b) (turn 1 y) (turn 1 z) b _ _ (omega arith) (turn_half 1 y) (turn_half 1 z) (omega arith) (omega arith) (omega arith) in
    let w₂ = three_wide (2 * b + 2) x (2 * b + 1) (b + 1) _ b (omega arith) refl (omega arith) (omega arith) (omega arith) (omega arith) in
    let w₃ = three_wide (2 * b + 4) y z (b + 2) _ _ (omega arith) refl refl (omega arith) (omega arith) (omega arith) in
    let w₄ = three_wide (2 * b + 6) (2 * b + 3) (2 * b + 5) (b + 3) (b + 1) (b + 2) (omega arith) (omega arith) (omega arith) (omega arith) (omega arith) (omega arith) in
    omega (arith, majority_long b x y z _ _ refl refl)

-- the lines of a node, by its words; its first AND has a low index
pub base_low : (g : Graph) → Admitted g → (v : ℕ) → v < g.N → base g v < 499000
base_low g adm v h = omega (arith, before_most g v)

-- no literal takes more than 7 bytes with the byte after it, and one with a low index no more than 5
wide_most : (k : ℕ) → wide_by halves k ≤ 7
unfolding wide_by
wide_most k =
    omega (
      arith,
      if_less_le k 5 0 1 1 (omega arith) (omega arith),
      if_less_le k 50 0 1 1 (omega arith) (omega arith),
      if_less_le k 500 0 1 1 (omega arith) (omega arith),
      if_less_le k 5000 0 1 1 (omega arith) (omega arith),
      if_less_le k 50000 0 1 1 (omega arith) (omega arith),
    )

pub input_most : (k : ℕ) → k < 4096 → length (input_line k) ≤ 5
unfolding input_line power
input_most k h = omega (arith, length_ended (2 * (1 + k)) 10 [], digits_most 3 (2 * (1 + k)) (omega arith))

pub header_most : (i n o : ℕ) → i ≤ 4096 → n ≤ 400000 → o ≤ 4096 → length (header i n o []) ≤ 30
unfolding power
header_most i n o a b c =
    omega (arith, header_wide i n o, digits_most 5 (i + n) (omega arith), digits_most 3 i (omega arith), digits_most 3 o (omega arith), digits_most 5 n (omega arith))

module _ (g : Graph) (adm : Admitted g) where
  pub output_most : (j : ℕ) → j < g.O → length (output_line g j) ≤ 7
  unfolding output_line
  output_most j h =
      let b = exported_below g (output g j) g.N (adm.output_below j h) in
      let k = exported g (output g j) / 2 in
      omega (arith, ended_wide (exported g (output g j)) 10 k refl (omega (arith, few_gates g adm)), wide_most k)

  module _ (v : ℕ) (h : v < g.N) where
    below : (k : ℕ) → k < 2 → said g v k / 2 < base g v
    below k l = said_below g adm v h k l

    xor_most : is_xor g v ≡ true → length (node_lines g v) ≤ 84
    unfolding node_lines xor_wide
    xor_most e =
        let b = base g v in
        let w = xor_wide_lem b (said g v 0) (said g v 1) (base_low g adm v h) (below 0 (omega arith)) (below 1 (omega arith)) in
        rw (gates_xor g v e)
        (omega (arith, w, wide_most b, wide_most (b + 1), wide_most (b + 2), wide_most (said g v 0 / 2), wide_most (said g v 1 / 2)))

    majority_most : is_xor g v ≡ false → length (node_lines g v) ≤ 84
    unfolding node_lines majority_wide
    majority_most e =
        let b = base g v in
        let t = exported_below g (word g (3 * v + 2)) v (word_third g adm v h e) in
        let w = majority_wide_lem b (said g v 0) (said g v 1) (said g v 2) (base_low g adm v h) (below 0 (omega arith)) (below 1 (omega arith)) t in
        rw (gates_majority g v e)
        (omega (arith, w, wide_most b, wide_most (b + 1), wide_most (b + 2), wide_most (b + 3), wide_most (said g v 0 / 2), wide_most (said g v 1 / 2), wide_most (said g v 2 / 2)))

    pub node_most : length (node_lines g v) ≤ 84
    node_most = ⊎_elim xor_most majority_most (true_or_false (is_xor g v))

module _ (g : Graph) (adm : Admitted g) (s : Steps) (fit : Fit g s) (v : ℕ) (h : v < g.N) where
  early : (k : ℕ) → k < 2 → wide_by s (word g (3 * v + k) / 2) ≡ wide_by halves (said g v k / 2)
  early k l = fit (word g (3 * v + k)) (omega (arith, word_early g adm v h k l))

  first : wide_by s (word g (3 * v) / 2) ≡ wide_by halves (said g v 0 / 2)
  first = ap (λ (j : ℕ). wide_by s (word g j / 2)) (sym (add-zero (3 * v))) ∙ early 0 (omega arith)

  pub node_xor : is_xor g v ≡ true → length (node_lines g v) ≡ xor_wide (base g v) (wide_by s (word g (3 * v) / 2)) (wide_by s (word g (3 * v + 1) / 2))
  unfolding node_lines
  node_xor e =
      rw (gates_xor g v e, first, early 1 (omega arith))
      (xor_wide_lem (base g v) (said g v 0) (said g v 1) (base_low g adm v h) (said_below g adm v h 0 (omega arith)) (said_below g adm v h 1 (omega arith)))

  pub node_majority : is_xor g v ≡ false → length (node_lines g v)
      ≡ majority_wide (base g v) (wide_by s (word g (3 * v) / 2)) (wide_by s (word g (3 * v + 1) / 2)) (wide_by s (word g (3 * v + 2) / 2))
  unfolding node_lines
  node_majority e =
      let t = word_third g adm v h e in
      let w : wide_by s (word g (3 * v + 2) / 2) ≡ wide_by halves (said g v 2 / 2) = fit (word g (3 * v + 2)) (omega arith) in
      rw (gates_majority g v e, first, early 1 (omega arith), w)
      (majority_wide_lem (base g v) (said g v 0) (said g v 1) (said g v 2) (base_low g adm v h) (said_below g adm v h 0 (omega arith)) (said_below g adm v h 1 (omega arith))
      (exported_below g (word g (3 * v + 2)) v t))

-- the whole text
pub text_most : (g : Graph) → Admitted g → length (export_text g) ≤ 30 + 5 * g.I + 84 * g.N + 7 * g.O
text_most g adm =
    omega (
      arith,
      text_long g (gates_before g g.N) refl,
      header_most g.I (gates_before g g.N) g.O adm.few_inputs (few_gates g adm) adm.few_outputs,
      length_most input_line 5 0 g.I (λ k h. input_most k (omega (arith, adm.few_inputs))),
      length_most (output_line g) 7 0 g.O (λ j h. output_most g adm j (omega arith)),
      length_most (node_lines g) 84 0 g.N (λ v h. node_most g adm v (omega arith)),
    )
