-- Importing an export: it is refused by 3 or 4 or not at all, and then it has the graph's inputs and outputs, with their values.
-- From the laws on the text and on values.
use Prim.Native.Nat.{ℕ, ◌+◌, ◌*◌, ◌<◌}
use mathlib.Core.Path.{◌≡◌, refl, sym, ap, ◌∙◌}
use mathlib.Core.List.{List}
use native.Mathlib.Omega.{arith}
use lib.ListN.{length}
use Rattle.graph.specs.Graph.{Graph, word, output}
use Rattle.graph.specs.Literals.{held}
use Rattle.graph.specs.Admission.{Admitted}
use Rattle.graph.specs.Value.{literal_value, values, output_value}
use Rattle.tagged_file.proofs.Whole.{guarded_number}
use Rattle.aiger.specs.Lines.{number, skip, number_at}
use Rattle.aiger.specs.Import.{gate_word, graph_imported, import_number, import_call}
use Rattle.aiger.specs.Export.{gates_before, exported, export_text}
use Rattle.aiger.specs.Promises.{BackAgain}
use Rattle.aiger.proofs.Agree.{Carries, agree}
use Rattle.aiger.proofs.Exported.{body_text, output_line_lem, gate_line, export_read, import_three_or_four}
use Rattle.aiger.proofs.Imported.{skip_add, word_zero, word_other, imported_word, imported_out, import_is}

place : (s : List ℕ) (at j d : ℕ) → number_at s (at + (j + d)) ≡ number_at (skip (at + j) s) d
place s at j d =
    let e : at + (j + d) ≡ at + j + d = omega arith in
    rw e (ap number (sym (skip_add (at + j) d s)))

module _ (g : Graph) (adm : Admitted g) (ns os : List ℕ) where
  abbrev back : Graph
  back = graph_imported (export_text g) ns os

  back_inputs : back.I ≡ g.I
  unfolding graph_imported
  back_inputs = (export_read g adm).inputs

  back_nodes : back.N ≡ gates_before g g.N
  unfolding graph_imported
  back_nodes = (export_read g adm).gates

  back_outs : back.O ≡ g.O
  unfolding graph_imported
  back_outs = (export_read g adm).outputs

  back_word : (j : ℕ) → j < 3 * gates_before g g.N → word back j ≡ gate_word (body_text g) (g.I + g.O) j
  back_word j h =
      let r = export_read g adm in
      imported_word (export_text g) ns os j (omega (arith, r.gates)) ∙ rw (r.after, r.inputs, r.outputs)

  back_other : (q d : ℕ) → q < gates_before g g.N → 0 < d → d < 3 → word back (3 * q + d) ≡ number_at (skip (g.I + g.O + 3 * q) (body_text g)) d
  back_other q d h k l =
      back_word (3 * q + d) (omega arith)
      ∙ word_other (body_text g) (g.I + g.O) (3 * q + d) (λ e. omega arith)
      ∙ place (body_text g) (g.I + g.O) (3 * q) d

  carries : Carries g back
  carries =
      record {
        inputs = back_inputs;
        front = λ q h. back_word (3 * q + 0) (omega arith) ∙ word_zero (body_text g) (g.I + g.O) (3 * q + 0) (omega arith);
        left = λ q h. back_other q 1 h (omega arith) (omega arith) ∙ (gate_line g adm q h).two;
        right = λ q h. back_other q 2 h (omega arith) (omega arith) ∙ (gate_line g adm q h).three;
      }

  back_out : (j : ℕ) → j < g.O → output back j ≡ exported g (output g j)
  back_out j h =
      let r = export_read g adm in
      imported_out (export_text g) ns os j (omega (arith, r.outputs))
      ∙ rw (r.after, r.inputs) (output_line_lem g adm j h).one

  same_value : (a : ℕ → ℕ) (j : ℕ) → j < g.O → output_value back a j ≡ output_value g a j
  unfolding output_value
  same_value a j h =
      ap (λ (n : ℕ). literal_value (values back a n) (output back j)) back_nodes
      ∙ ap (literal_value (values back a (gates_before g g.N))) (back_out j h)
      ∙ sym (agree g back adm carries a g.N (omega arith) (output g j) (adm.output_below j h))

-- the calls
import_answer : (s ns os ls : List ℕ) → (import_call s ns os ls).answer.number ≡ import_number s (held ns) (held os) (length ls)
unfolding import_call
import_answer s ns os ls = guarded_number _ _ _ _ refl

pub back_again : (g : Graph) → Admitted g → (ns os ls : List ℕ) → BackAgain g (import_call (export_text g) ns os ls)
back_again g adm ns os ls =
    let s : List ℕ = export_text g in
    record {
      import_refused = rw (import_answer s ns os ls) (import_three_or_four g adm (held ns) (held os) (length ls));
      same_inputs = λ e. rw (import_is s ns os ls e) (back_inputs g adm ns os);
      same_outputs = λ e. rw (import_is s ns os ls e) (back_outs g adm ns os);
      same_values = λ e a j h. rw (import_is s ns os ls e) (same_value g adm ns os a j h);
    }
