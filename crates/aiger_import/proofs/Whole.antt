-- The whole of importing: what refuses a text, what the passes ask of each other, and the definition's
-- outcome. From the laws of both passes.
use Prim.Native.Nat.{ℕ, zero, suc, ◌+◌, ◌*◌, ◌≤◌, ◌<◌}
use mathlib.Core.Path.{◌≡◌, refl, sym, ap, ◌∙◌}
use mathlib.Core.List.{List, [], ◌∷◌}
use native.Mathlib.Omega.{arith}
use lib.ListN.{length, drop}
use Rattle.graph.specs.Finite.{tab}
use Rattle.graph.specs.Graph.{graph_of}
use Rattle.graph.specs.Literals.{held, filled}
use Rattle.std.proofs.Common.{Result, Ok, Err}
use Rattle.std.specs.Result.{IsErrAnd}
use Rattle.graph.specs.Answer.{accepted, number_of, locked_outcome}
use Rattle.graph.specs.declared.Refusal.{Refusal}
use Rattle.graph.proofs.Admit.{Rooms}
use Rattle.graph.proofs.Answers.{number_some, accepted_locked}
use Rattle.graph.proofs.Tests.{fault, none, both, each_none, on, is}
use Rattle.tagged_file.specs.Load.{loaded_answer, loaded_graph, blank, free_locks}
use Rattle.tagged_file.specs.declared.Sizes.{Sizes}
use Rattle.tagged_file.proofs.Whole.{refused_load}
use Rattle.aiger.specs.Lines.{number, ended_number, next, skip, number_at, line_number}
use Rattle.aiger.specs.Import.{body, input_line_number, output_line_number, gate_line_number, input_lines_number, output_lines_number, gate_lines_number, body_number, import_number, gate_word, graph_imported, import_call}
use Rattle.aiger.proofs.Imported.{skip_add, head_rooms, output_ok, gate_ok}
use Rattle.aiger.proofs.Walk.{ended_inside}
use Rattle.aiger_import.specs.Reading.{HeaderIs, HeaderRead, NumberThere, Ones, OutputLines, GateLines}
use Rattle.aiger_import.specs.declared.header.Header.{Header}
use Rattle.aiger_import.proofs.Filled.{gates_from, outputs_from}

-- the numbers of a line without a fault are there
ended_there : (end : ℕ) (s : List ℕ) → 0 < end → end < 48 → ended_number end s ≡ 0 → NumberThere s
unfolding ended_number
ended_there end s l h e =
    let a = on _ _ _ _ e in
    let b = on _ _ _ _ a.1 in
    let c = is _ _ _ _ b.1 in
    record { within = ended_inside end s l e; fits = b.0; stop = omega (arith, c.0) }

line_there : (s : List ℕ) → line_number 0 s ≡ 0 → NumberThere s
unfolding line_number
line_there s e = ended_there 10 s (omega arith) (omega arith) e

lines_there : (n : ℕ) (s : List ℕ) → line_number n s ≡ 0 → (k : ℕ) → k ≤ n → NumberThere (skip k s)
unfolding line_number
lines_there zero s e zero h = ended_there 10 s (omega arith) (omega arith) e
lines_there zero s e (suc k) h = absurd (omega arith)
lines_there (suc n) s e zero h = ended_there 32 s (omega arith) (omega arith) (both _ _ e).0
lines_there (suc n) s e (suc k) h = lines_there n (next s) (both _ _ e).1 k (omega arith)

-- a call that ends at its header, or at a line after it
module _ (s ns os ls : List ℕ) (q : Result Sizes Refusal) (x : Refusal) (e : IsErrAnd q (λ y. y ≡ x)) where
  refuses : number_of x ≡ import_number s (held ns) (held os) (length ls)
      → locked_outcome (loaded_answer q) (loaded_graph q ns os) ls ≡ import_call s ns os ls
  unfolding import_call
  refuses n = refused_load q x _ ns os ls _ e n

  pub header_refused : HeaderRead s (held ns) (held os) (length ls) (Err x) → locked_outcome (loaded_answer q) (loaded_graph q ns os) ls ≡ import_call s ns os ls
  unfolding import_number
  header_refused r = refuses (fault _ _ r.fault_is (λ y. number_some x (r.fault_is ∙ y)))

-- a header that was read
module _ (s ns os ls : List ℕ) (h : Header) (g : HeaderRead s (held ns) (held os) (length ls) (Ok h)) where
  abbrev r : HeaderIs s h
  r = g.is h refl

  pub header_rooms : Rooms h.sizes.inputs h.sizes.nodes h.sizes.outputs (held ns) (held os) (length ls)
  header_rooms = rw (r.inputs_is, r.nodes_is, r.outputs_is) (head_rooms s (held ns) (held os) (length ls) (sym g.fault_is))

  -- the bytes after it
  module _ (t : List ℕ) (p : t ≡ drop h.size s) where
    body_is : t ≡ body s
    body_is = p ∙ r.after

    import_is : (k : ℕ) → k ≡ body_number t h.sizes.inputs h.sizes.nodes h.sizes.outputs → k ≡ import_number s (held ns) (held os) (length ls)
    unfolding import_number
    import_is k e = none _ _ (sym g.fault_is) (e ∙ rw (body_is, r.inputs_is, r.nodes_is, r.outputs_is))

    pub body_refused : (q : Result Sizes Refusal) (x : Refusal) → IsErrAnd q (λ y. y ≡ x) → number_of x ≡ body_number t h.sizes.inputs h.sizes.nodes h.sizes.outputs
        → locked_outcome (loaded_answer q) (loaded_graph q ns os) ls ≡ import_call s ns os ls
    body_refused q x e n = refuses s ns os ls q x e (import_is _ n)

    -- the lines of each kind have no fault
    module _ (fine : body_number t h.sizes.inputs h.sizes.nodes h.sizes.outputs ≡ 0) where
      number_is : 0 ≡ import_number s (held ns) (held os) (length ls)
      number_is = import_is 0 (sym fine)

      few : h.sizes.inputs + 1 + h.sizes.nodes ≤ 2147483647
      few = omega (arith, header_rooms.few_inputs, header_rooms.few_nodes)

      pub inputs_there : Ones h.sizes.inputs t
      unfolding body_number input_lines_number input_line_number
      inputs_there j l = line_there (skip j t) (both _ _ (each_none _ _ (both _ _ fine).0 j l)).0

      -- after the inputs, and after the outputs
      module _ (u w : List ℕ) (p₁ : u ≡ skip h.sizes.inputs t) where
        output_line_lem : (j : ℕ) → j < h.sizes.outputs → line_number 0 (skip j (skip h.sizes.inputs t)) ≡ 0
        unfolding body_number output_lines_number output_line_number
        output_line_lem j l = (both _ _ (each_none _ _ (both _ _ (both _ _ fine).1).0 j l)).0

        pub outputs_there : OutputLines h.sizes.outputs u
        outputs_there =
            rw p₁
            (λ j l.
            record {
              one = line_there (skip j (skip h.sizes.inputs t)) (output_line_lem j l);
              word = λ n. rw (ap number (skip_add h.sizes.inputs j t)) (omega (arith, output_ok t h.sizes.inputs h.sizes.nodes h.sizes.outputs fine j l, few));
            })

        module _ (p₂ : w ≡ skip h.sizes.outputs u) where
          after_outputs : w ≡ skip (h.sizes.inputs + h.sizes.outputs) t
          after_outputs = p₂ ∙ ap (skip h.sizes.outputs) p₁ ∙ skip_add h.sizes.inputs h.sizes.outputs t

          gate_line : (k : ℕ) → k < h.sizes.nodes → line_number 2 (skip (3 * k) (skip (h.sizes.inputs + h.sizes.outputs) t)) ≡ 0
          unfolding body_number gate_lines_number gate_line_number
          gate_line k l = (both _ _ (each_none _ _ (both _ _ (both _ _ fine).1).1 k l)).0

          pub gates_there : GateLines h.sizes.nodes w
          gates_there =
              rw after_outputs
              (λ k l.
              let g = gate_ok t h.sizes.inputs h.sizes.nodes h.sizes.outputs fine k l in
              let q = skip_add (h.sizes.inputs + h.sizes.outputs) (3 * k) t in
              record {
                three = lines_there 2 (skip (3 * k) (skip (h.sizes.inputs + h.sizes.outputs) t)) (gate_line k l);
                left = λ n. rw q (omega (arith, g.0, few));
                right = λ n. rw q (omega (arith, g.1, few));
              })

          pub import_accepted : (ns' os' ls' : List ℕ)
              → ns' ≡ filled (tab (3 * h.sizes.nodes) (gate_word w 0)) ns
              → os' ≡ filled (tab h.sizes.outputs (number_at u)) os
              → ls' ≡ free_locks h.sizes.nodes ls
              → locked_outcome (accepted (h.sizes.inputs ∷ h.sizes.nodes ∷ h.sizes.outputs ∷ [])) (graph_of h.sizes.inputs h.sizes.nodes h.sizes.outputs ns' os') ls' ≡ import_call s ns os ls
          unfolding import_call graph_imported
          import_accepted ns' os' ls' en eo el =
              rw (en, eo, el, after_outputs, p₁, gates_from, outputs_from, body_is, r.inputs_is, r.nodes_is, r.outputs_is)
              (accepted_locked _ (blank ns os) ls _ (sym number_is))
