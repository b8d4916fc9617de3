-- What an accepted text says of its numbers, and that the imported graph is admitted with its locks. From the laws on tests.
use Prim.Native.Nat.{ℕ, zero, suc, ◌+◌, ◌*◌, ◌/◌, ◌%◌, ◌<◌, ◌≤◌}
use mathlib.Core.Path.{◌≡◌, refl, sym, ap, ◌∙◌}
use mathlib.Core.Logic.{⊎_elim}
use mathlib.Core.List.{List, [], ◌∷◌}
use native.Mathlib.Omega.{arith}
use lib.ListN.{length}
use Rattle.graph.specs.Finite.{tab}
use Rattle.graph.specs.Graph.{word, output}
use Rattle.graph.specs.Literals.{held}
use Rattle.graph.specs.Admission.{Admitted, LockBytes}
use Rattle.graph.specs.Answer.{accepted, locked_outcome}
use Rattle.graph.proofs.Admit.{Rooms, rooms}
use Rattle.graph.proofs.Cases.{lt_or_le}
use Rattle.graph.proofs.Filled.{length_filled, filled_in, held_filled, strays_filled}
use Rattle.graph.proofs.Finite.{length_tab, get_d_tab}
use Rattle.graph.proofs.Tests.{equal, unequal, on, is, both, each_none}
use Rattle.graph.proofs.Answers.{accepted_locked}
use Rattle.tagged_file.specs.Load.{free_locks}
use Rattle.tagged_file.proofs.Named.{free_bytes}
use Rattle.tagged_file.proofs.Whole.{guarded_number}
use Rattle.aiger.specs.Lines.{number, next, skip, number_at}
use Rattle.aiger.specs.Import.{head_i, head_o, head_a, body, header_number, output_line_number, gate_line_number, output_lines_number, gate_lines_number, body_number, import_number, gate_word, graph_imported, import_call}

pub skip_add : (k m : ℕ) (s : List ℕ) → skip m (skip k s) ≡ skip (k + m) s
skip_add zero m s = let e : 0 + m ≡ m = omega arith in rw e
skip_add (suc k) m s = let e : suc k + m ≡ suc (k + m) = omega arith in rw e (skip_add k m (next s))

-- limits and tables
pub head_rooms : (s : List ℕ) (a b l : ℕ) → header_number s a b l ≡ 0 → Rooms (head_i s) (head_a s) (head_o s) a b l
unfolding header_number
head_rooms s a b l e =
    let p = (both _ _ (both _ _ e).1).1 in
    rooms _ _ _ _ _ _ (is _ _ _ _ (is _ _ _ _ p).1).1

-- an output, and a gate's two literals
output_below : (s : List ℕ) (v : ℕ) → output_line_number s v ≡ 0 → number s / 2 < v
unfolding output_line_number
output_below s v e = (on _ _ _ _ (both _ _ e).1).0

gate_below : (s : List ℕ) (v : ℕ) → gate_line_number s v ≡ 0 → (number_at s 1 / 2 < v) × (number_at s 2 / 2 < v)
unfolding gate_line_number
gate_below s v e = let p = on _ _ _ _ (is _ _ _ _ (both _ _ e).1).1 in (p.0, (on _ _ _ _ p.1).0)

-- the words of the node table
pub word_zero : (s : List ℕ) (at j : ℕ) → j % 3 ≡ 0 → gate_word s at j ≡ 0
unfolding gate_word
word_zero s at j e = sym (equal (j % 3) 0 _ _ e refl)

pub word_other : (s : List ℕ) (at j : ℕ) → (j % 3 ≡ 0 → ⊥) → gate_word s at j ≡ number_at s (at + j)
unfolding gate_word
word_other s at j n = sym (unequal (j % 3) 0 _ _ n refl)

-- a body without a fault
module _ (s : List ℕ) (i n o : ℕ) (e : body_number s i n o ≡ 0) where
  pub output_ok : (j : ℕ) → j < o → number_at s (i + j) / 2 < i + 1 + n
  unfolding body_number output_lines_number
  output_ok j h =
      rw (ap number (skip_add i j s)) at (output_below _ _ (each_none o _ (both _ _ (both _ _ e).1).0 j h))

  pub gate_ok : (k : ℕ) → k < n → (number_at (skip (i + o + 3 * k) s) 1 / 2 < i + 1 + k) × (number_at (skip (i + o + 3 * k) s) 2 / 2 < i + 1 + k)
  unfolding body_number gate_lines_number
  gate_ok k h =
      rw (← skip_add (i + o) (3 * k) s) (gate_below _ _ (each_none n _ (both _ _ (both _ _ e).1).1 k h))

  place : (j k d : ℕ) → j ≡ 3 * k + d → number_at (skip (i + o + 3 * k) s) d ≡ number_at s (i + o + j)
  place j k d q =
      let f : i + o + j ≡ i + o + 3 * k + d = omega arith in
      rw f (ap number (skip_add (i + o + 3 * k) d s))

  pub word_ok : (j : ℕ) → j < 3 * n → gate_word s (i + o) j / 2 < i + 1 + j / 3
  word_ok j h =
      let g = gate_ok (j / 3) (omega arith) in
      ⊎_elim
      (λ (z : j % 3 < 1). rw (word_zero s (i + o) j (omega arith)) (omega arith))
      (λ (z : 1 ≤ j % 3).
      ⊎_elim
      (λ (y : j % 3 < 2). rw (word_other s (i + o) j (λ w. omega arith), ← place j (j / 3) 1 (omega arith)) g.0)
      (λ (y : 2 ≤ j % 3). rw (word_other s (i + o) j (λ w. omega arith), ← place j (j / 3) 2 (omega arith)) g.1)
      (lt_or_le (j % 3) 2))
      (lt_or_le (j % 3) 1)

-- the words of the imported graph, in its tables
module _ (s ns os : List ℕ) where
  pub imported_word : (j : ℕ) → j < 3 * head_a s → word (graph_imported s ns os) j ≡ gate_word (body s) (head_i s + head_o s) j
  unfolding graph_imported
  imported_word j h =
      let n : ℕ = head_a s in
      let f : ℕ → ℕ = gate_word (body s) (head_i s + head_o s) in
      filled_in (tab (3 * n) f) ns j (rw (length_tab (3 * n) f) h) ∙ get_d_tab (3 * n) f j h

  pub imported_out : (j : ℕ) → j < head_o s → output (graph_imported s ns os) j ≡ number_at (body s) (head_i s + j)
  unfolding graph_imported
  imported_out j h =
      let o : ℕ = head_o s in
      let f : ℕ → ℕ = λ k. number_at (body s) (head_i s + k) in
      filled_in (tab o f) os j (rw (length_tab o f) h) ∙ get_d_tab o f j h

  pub imported_admitted : (l : ℕ) → import_number s (held ns) (held os) l ≡ 0 → Admitted (graph_imported s ns os)
  unfolding import_number graph_imported
  imported_admitted l e =
      let f = both _ _ e in
      let p = head_rooms s (held ns) (held os) l f.0 in
      let n : ℕ = head_a s in
      let o : ℕ = head_o s in
      let w : ℕ → ℕ = gate_word (body s) (head_i s + o) in
      let u : ℕ → ℕ = λ k. number_at (body s) (head_i s + k) in
      record {
        few_inputs = p.few_inputs;
        few_nodes = p.few_nodes;
        few_outputs = p.few_outputs;
        long_nodes = omega (arith, length_filled (tab (3 * n) w) ns, length_tab (3 * n) w);
        long_outputs = omega (arith, length_filled (tab o u) os, length_tab o u);
        held_nodes =
            held_filled (tab (3 * n) w) ns (3 * n) (length_tab (3 * n) w)
            (λ j h.
            let t : w j < 1099511627776 = omega (arith, p.few_inputs, p.few_nodes, word_ok (body s) (head_i s) n o f.1 j h) in
            rw (get_d_tab (3 * n) w j h) t);
        held_outputs =
            held_filled (tab o u) os o (length_tab o u)
            (λ j h.
            let t : u j < 1099511627776 = omega (arith, p.few_inputs, p.few_nodes, output_ok (body s) (head_i s) n o f.1 j h) in
            rw (get_d_tab o u j h) t);
        clean_nodes = strays_filled (tab (3 * n) w) ns (3 * n) (length_tab (3 * n) w);
        clean_outputs = strays_filled (tab o u) os o (length_tab o u);
        below = λ j h t. rw (imported_word j h) (word_ok (body s) (head_i s) n o f.1 j h);
        output_below = λ j h. rw (imported_out j h) (output_ok (body s) (head_i s) n o f.1 j h);
      }

-- an import is accepted just where no fault is found, and what it then leaves is admitted
module _ (s ns os ls : List ℕ) (e : (import_call s ns os ls).answer.number ≡ 0) where
  pub no_fault : import_number s (held ns) (held os) (length ls) ≡ 0
  unfolding import_call
  no_fault = sym (guarded_number _ _ _ _ refl) ∙ e

  pub import_is : import_call s ns os ls ≡ locked_outcome (accepted (head_i s ∷ head_a s ∷ head_o s ∷ [])) (graph_imported s ns os) (free_locks (head_a s) ls)
  unfolding import_call
  import_is = sym (accepted_locked _ _ _ _ no_fault)

  pub import_admitted : Admitted (import_call s ns os ls).graph
  import_admitted = rw import_is (imported_admitted s ns os (length ls) no_fault)

  pub import_locks : LockBytes (import_call s ns os ls).graph.N (import_call s ns os ls).locks
  unfolding graph_imported
  import_locks = rw import_is (free_bytes (head_a s) ls)
