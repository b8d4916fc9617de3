-- What a call that changes no graph tells of an admitted one it tells of the trimmed one: its values, its count, a preview, its file and its
-- text. From what is read of a trimmed graph.
use mathlib.Core.Path.{◌≡◌, refl, ap, fun_ext}
use mathlib.Core.Bool.{true}
use mathlib.Core.List.{List, [], ◌∷◌}
use Prim.Native.Nat.{ℕ, zero, suc, ◌+◌, ◌-◌, ◌*◌, ◌≤◌, ◌<◌}
use native.Mathlib.Omega.{arith}
use lib.ListN.{length}
use Rattle.graph.specs.Admission.{admission_number, Admitted}
use Rattle.graph.specs.Answer.{accepted, unless}
use Rattle.graph.specs.Count.{C}
use Rattle.graph.specs.Graph.{Graph, word, output, index, is_xor, is_edge}
use Rattle.graph.specs.Value.{Assignment, node_value, values, output_value}
use Rattle.graph.proofs.Edge.{edge_early, third_majority}
use Rattle.graph.proofs.Finite.{sum_same, tab_same}
use Rattle.evaluation.specs.Evaluation.{assignment_at, output_word, slice_number, scratch_number, evaluate_number, results_after}
use Rattle.evaluation.specs.Word.{gather}
use Rattle.moves.specs.Tree.{tree}
use Rattle.preview.specs.Preview.{tree_moves, moves_told, preview_number, preview_answer, preview_bytes}
use Rattle.tagged_file.specs.Write.{file_of, write_number, write_call}
use Rattle.tagged_file.proofs.RoundTrip.{file_same}
use Rattle.aiger.specs.Export.{gates_of, gates_before, exported, node_gates, gates, inputs, outputs, export_text, export_number, export_call}
use Rattle.packed.specs.Old.{trimmed}
use Rattle.packed.proofs.Admitting.{tables_in, content_in, admission_in}
use Rattle.packed.proofs.Calls.{tree_number_in}
use Rattle.packed.proofs.Choosing.{cond_both}
use Rattle.packed.proofs.Trimmed.{word_in, output_in, xor_in, C_in, tree_in, tree_moves_lem, best_in, rewrite_in}

-- values
module _ (g : Graph) where
  pub node_value_in : (vs : List ℕ) (v : ℕ) → v < g.N → node_value (trimmed g) vs v ≡ node_value g vs v
  unfolding node_value
  node_value_in vs v l =
      rw (xor_in g v l, word_in g (3 * v + 0) (omega arith), word_in g (3 * v + 1) (omega arith), word_in g (3 * v + 2) (omega arith))

  values_in : (a : Assignment) (n : ℕ) → n ≤ g.N → values (trimmed g) a n ≡ values g a n
  unfolding values
  values_in a zero l = refl
  values_in a (suc n) l = rw (values_in a n (omega arith), node_value_in (values g a n) n l)

  pub output_value_in : (a : Assignment) (j : ℕ) → j < g.O → output_value (trimmed g) a j ≡ output_value g a j
  unfolding output_value
  output_value_in a j l = rw (values_in a g.N (omega arith), output_in g j l)

  output_word_in : (words : List ℕ) (o : ℕ) → o < g.O → output_word (trimmed g) words o ≡ output_word g words o
  unfolding output_word
  output_word_in words o l = ap (λ (f : ℕ → ℕ). gather f 64) (fun_ext (λ j. output_value_in (assignment_at words j) o l))

  -- the file
  pub file_in : (ls : List ℕ) → file_of (trimmed g) ls ≡ file_of g ls
  file_in ls =
      file_same (trimmed g) g ls ls
      (record { inputs = refl; nodes = refl; outputs = refl; words = word_in g; output_words = output_in g; locks = λ v l. refl })

-- the text of an admitted graph
module _ (g : Graph) (adm : Admitted g) where
  gates_of_in : (v : ℕ) → v < g.N → gates_of (trimmed g) v ≡ gates_of g v
  unfolding gates_of
  gates_of_in v l = rw (xor_in g v l)

  gates_before_in : (n : ℕ) → n ≤ g.N → gates_before (trimmed g) n ≡ gates_before g n
  unfolding gates_before
  gates_before_in n l = sum_same n _ _ (λ v h. gates_of_in v (omega arith))

  exported_in : (x : ℕ) → index x ≤ g.I + g.N → exported (trimmed g) x ≡ exported g x
  unfolding exported
  exported_in x h = rw (gates_before_in (index x - g.I) (omega arith))

  word_exported : (j : ℕ) → j < 3 * g.N → is_edge g j ≡ true → exported (trimmed g) (word (trimmed g) j) ≡ exported g (word g j)
  word_exported j l e = rw (word_in g j l) (exported_in (word g j) (omega (arith, adm.below j l e)))

  node_gates_in : (v : ℕ) → v < g.N → node_gates (trimmed g) v ≡ node_gates g v
  unfolding node_gates
  node_gates_in v l =
      let x = word_exported (3 * v + 0) (omega arith) (edge_early g (3 * v + 0) (omega arith)) in
      let y = word_exported (3 * v + 1) (omega arith) (edge_early g (3 * v + 1) (omega arith)) in
      rw (xor_in g v l, gates_before_in v (omega arith), x, y)
      (cond_both (is_xor g v) _ _ _ _ (λ e. refl) (λ e. rw (word_exported (3 * v + 2) (omega arith) (third_majority g v e))))

  gates_in : (n : ℕ) → n ≤ g.N → gates (trimmed g) n ≡ gates g n
  unfolding gates
  gates_in zero l = refl
  gates_in (suc n) l = rw (gates_in n (omega arith), node_gates_in n l)

  outputs_in : outputs (trimmed g) ≡ outputs g
  unfolding outputs
  outputs_in = tab_same g.O _ _ (λ j l. rw (output_in g j l) (exported_in (output g j) (omega (arith, adm.output_below j l))))

  text_in : export_text (trimmed g) ≡ export_text g
  unfolding export_text inputs
  text_in = rw (gates_before_in g.N (omega arith), outputs_in, gates_in g.N (omega arith))

-- the calls
module _ (g : Graph) (adm : Admitted g) (ls : List ℕ) where
  pub count_in : unless (admission_number (trimmed g) ls) (accepted (C (trimmed g) ∷ [])) ≡ unless (admission_number g ls) (accepted (C g ∷ []))
  count_in = rw (admission_in g adm ls, C_in g)

  pub evaluate_number_in : (w s r : ℕ) → evaluate_number (trimmed g) ls w s r ≡ evaluate_number g ls w s r
  unfolding evaluate_number slice_number scratch_number
  evaluate_number_in w s r = rw (tables_in g adm ls, content_in g adm ls)

  pub results_in : (words : List ℕ) (s : ℕ) (results : List ℕ) → results_after (trimmed g) ls words s results ≡ results_after g ls words s results
  unfolding results_after
  results_in words s results =
      rw (evaluate_number_in (length words) s (length results), tab_same g.O (output_word (trimmed g) words) (output_word g words) (output_word_in g words))

  pub write_in : (b : List ℕ) → write_call (trimmed g) ls b ≡ write_call g ls b
  unfolding write_call write_number
  write_in b = rw (admission_in g adm ls, file_in g ls)

  pub export_in : (scratch b : List ℕ) → export_call (trimmed g) ls scratch b ≡ export_call g ls scratch b
  unfolding export_call export_number
  export_in scratch b = rw (admission_in g adm ls, text_in g adm)

  tree_moves_in : (r : ℕ) → tree_moves (trimmed g) ls r ≡ tree_moves g ls r
  unfolding tree_moves
  tree_moves_in r = rw (tree_in g r, best_in g ls (tree g r) (tree_moves_lem g ls r))

  preview_number_in : (b s r : ℕ) → preview_number (trimmed g) ls b s r ≡ preview_number g ls b s r
  unfolding preview_number
  preview_number_in b s r = rw (tables_in g adm ls, tree_number_in g adm ls s r)

  pub preview_answer_in : (b s r : ℕ) → preview_answer (trimmed g) ls b s r ≡ preview_answer g ls b s r
  unfolding preview_answer
  preview_answer_in b s r = rw (preview_number_in b s r, tree_in g r, rewrite_in g ls (tree g r) (tree_moves_lem g ls r))

  pub preview_bytes_in : (bs : List ℕ) (s r : ℕ) → preview_bytes (trimmed g) ls bs s r ≡ preview_bytes g ls bs s r
  unfolding preview_bytes moves_told
  preview_bytes_in bs s r = rw (preview_number_in (length bs) s r, tree_moves_in r)
