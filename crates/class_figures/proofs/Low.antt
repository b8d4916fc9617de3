-- Rows of settled graphs are low, so that a record of a thousand of them holds no figure of 2 to the 40th. From the laws on counting and on
-- settling.
use mathlib.Core.Path.{◌≡◌, sym, subst}
use mathlib.Core.List.{List, [], ◌∷◌}
use mathlib.Core.Logic.{⊎_elim, ◌≢◌}
use Prim.Native.Nat.{ℕ, zero, suc, ◌-◌, ◌*◌, ◌/◌, ◌%◌, ◌≤◌, ◌<◌}
use native.Mathlib.Omega.{arith}
use lib.ListN.{length, get_or}
use Rattle.graph.specs.Finite.{sum}
use Rattle.graph.specs.Graph.{Graph, is_xor}
use Rattle.graph.specs.Count.{C}
use Rattle.graph.specs.Admission.{Admitted}
use Rattle.graph.specs.Answer.{Outcome}
use Rattle.graph.proofs.Answers.{accepted_outcome}
use Rattle.graph.proofs.Cases.{cond_le, lt_or_le, eq_or_ne}
use Rattle.state.proofs.Counting.{C_few}
use Rattle.rounds.specs.Settle.{settle, settled, settle_number, settle_call}
use Rattle.rounds.proofs.Rounds.{settle_ended}
use Rattle.settling.proofs.Answering.{passed}
use Rattle.class_figures.specs.Figures.{kind_cells, cells, row_of, total}
use Rattle.class_figures.specs.Call.{record_length}
use Rattle.class_figures.proofs.Standing.{figure_of, place_of, place_count, place_total, place_row}

kinds_le : (g : Graph) (n : ℕ) → sum n (kind_cells g) ≤ 12 * n
unfolding sum kind_cells
kinds_le g zero = omega arith
kinds_le g (suc n) = omega (arith, kinds_le g n, cond_le (is_xor g n) 12 5 12 (omega arith) (omega arith))

cells_le : (g : Graph) → Admitted g → cells g ≤ 5153248
unfolding cells
cells_le g adm = omega (arith, C_few g adm, kinds_le g g.N, adm.few_nodes)

-- no figure of a row is above that many cells
abbrev pub LowRow : List ℕ → Type 0
LowRow row = (k : ℕ) → k < 5 → get_or row k 0 ≤ 5153248

five_low : (a b d e f : ℕ) → a ≤ 5153248 → b ≤ 5153248 → d ≤ 5153248 → e ≤ 5153248 → f ≤ 5153248 → LowRow (a ∷ b ∷ d ∷ e ∷ f ∷ [])
five_low a b d e f ha hb hd he hf zero h = ha
five_low a b d e f ha hb hd he hf (suc zero) h = hb
five_low a b d e f ha hb hd he hf (suc (suc zero)) h = hd
five_low a b d e f ha hb hd he hf (suc (suc (suc zero))) h = he
five_low a b d e f ha hb hd he hf (suc (suc (suc (suc zero)))) h = hf
five_low a b d e f ha hb hd he hf (suc (suc (suc (suc (suc k))))) h = absurd (omega arith)

settled_is : (g : Graph) (ls : List ℕ) (s : ℕ) → settle_number g ls s ≡ 0 → settle_call g ls s ≡ settled g (settle ls g)
unfolding settle_call
settled_is g ls s z = sym (accepted_outcome (settle_number g ls s) g (settled g (settle ls g)) z)

pub row_is_low : (g : Graph) (ls : List ℕ) (s : ℕ) → settle_number g ls s ≡ 0 → LowRow (row_of g (settle_call g ls s))
unfolding row_of
row_is_low g ls s z =
    let p = passed g ls s z in
    let w = settle ls g in
    let n = settle_ended ls g p.0 in
    let h = w.made.graph in
    let adm = n.keeps.stays.admitted in
    subst (λ (o : Outcome). LowRow (row_of g o)) (sym (settled_is g ls s z))
    (five_low (C g) (C h) w.rounds (cells g) (cells h)
    (omega (arith, C_few g p.0)) (omega (arith, C_few h adm)) (omega (arith, C_few g p.0, n.few)) (cells_le g p.0) (cells_le h adm))

abbrev pub LowRows : List (List ℕ) → Type 0
LowRows rs = (i k : ℕ) → k < 5 → figure_of rs i k ≤ 5153248

pub low_none : LowRows []
low_none i k h = omega arith

pub low_more : (row : List ℕ) (rs : List (List ℕ)) → LowRow row → LowRows rs → LowRows (row ∷ rs)
low_more row rs p q zero k h = p k h
low_more row rs p q (suc i) k h = q i k h

total_le : (k : ℕ) → k < 5 → (rs : List (List ℕ)) → LowRows rs → total k rs ≤ 5153248 * length rs
unfolding total
total_le k l [] h = omega arith
total_le k l (row ∷ rs) h = omega (arith, total_le k l rs (λ i m. h (suc i) m), h 0 k l)

pub place_low : (rs : List (List ℕ)) → LowRows rs → length rs ≤ 1000 → (j : ℕ) → j < record_length → place_of rs j < 1099511627776
place_low rs h few j l =
    ⊎_elim
    (λ (z : j ≡ 0). rw z (omega (arith, place_count rs)))
    (λ (d : j ≢ 0).
    ⊎_elim
    (λ (m : j < 6). omega (arith, place_total rs j d m, total_le (j - 1) (omega arith) rs h))
    (λ (m : 6 ≤ j). omega (arith, place_row rs j m, h ((j - 6) / 5) ((j - 6) % 5) (omega arith)))
    (lt_or_le j 6))
    (eq_or_ne j 0)
