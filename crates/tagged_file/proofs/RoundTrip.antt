-- Loading and writing graphs with their locks are opposite to each other. From the laws on accepted files and on written ones.
use Prim.Native.Nat.{ℕ, zero, suc, ◌+◌, ◌*◌, ◌/◌, ◌%◌, ◌<◌, ◌≤◌}
use mathlib.Core.Path.{◌≡◌, refl, sym, ap, ◌∙◌}
use mathlib.Core.Bool.{true, false}
use mathlib.Core.Logic.{⊎_elim}
use mathlib.Core.List.{List, [], ◌∷◌, ◌++◌}
use native.Mathlib.Omega.{arith}
use borrow.Author.Tests.{eq-eqb}
use lib.Seq.{ext_get_or, length-take-le, get_or-take}
use lib.ListN.{length, get_or, take, drop, length-append, get_or-append}
use Rattle.graph.specs.Literals.{held, filled}
use Rattle.graph.proofs.Filled.{length_filled, filled_in, held_filled, strays_filled}
use Rattle.graph.specs.Finite.{tab}
use Rattle.graph.specs.Graph.{Graph, graph_of, mark, node, word, output, is_edge}
use Rattle.graph.specs.Admission.{Admitted, LockBytes}
use Rattle.graph.specs.Answer.{locked_outcome, accepted}
use Rattle.graph.proofs.Admit.{Rooms}
use Rattle.graph.proofs.Cases.{true_or_false}
use Rattle.graph.proofs.Edge.{edge_early, edge_third, edge_none}
use Rattle.graph.proofs.Finite.{length_tab, get_d_tab}
use Rattle.graph.proofs.Tests.{both, none}
use Rattle.graph.proofs.Answers.{accepted_locked}
use Rattle.file_checks.specs.File.{be4, lock_count, lock_fields_number, node_fields_number, file_number, node_words, single_words, after_nodes, after_singles, locks_from, lock_indices}
use Rattle.tagged_file.specs.Load.{among, graph_read, locks_read, free_locks, load_call}
use Rattle.tagged_file.specs.Write.{head_field, node_field_at, output_field_at, lock_field_at, end_field, in_order, file_of}
use Rattle.tagged_file.specs.Promises.{Bytes, Accepts, AcceptedFile, SameGraph, OneFile, LoadsWritten, file_free, WithoutLocks}
use Rattle.tagged_file.proofs.BigEndian.{bytes_drop}
use Rattle.file_checks.proofs.Checked.{head_passed}
use Rattle.tagged_file.proofs.FieldBytes.{free_field}
use Rattle.tagged_file.proofs.Filled.{length_node_words, length_single_words}
use Rattle.tagged_file.proofs.Named.{among_le, free_at, free_bytes}
use Rattle.tagged_file.proofs.Whole.{guarded_number}
use Rattle.tagged_file.proofs.OneField.{head_back}
use Rattle.tagged_file.proofs.ReadBack.{HeadRead, head_read}
use Rattle.tagged_file.proofs.WrittenWalk.{Allowed, outputs_number, outputs_after, outputs_words, nodes_number, nodes_after, nodes_words}
use Rattle.tagged_file.proofs.LocksWritten.{locks_of, locks_number_lem, locks_named}
use Rattle.tagged_file.proofs.Accepted.{outputs_back, nodes_back, after_nodes_lem, after_outputs, bytes_singles, bytes_after, outputs_below, nodes_below}
use Rattle.tagged_file.proofs.LocksAccepted.{locks_back}

-- a load is accepted just where no fault is found, and then its graph and its locks are those read
module _ (s ns os ls : List ℕ) where
  pub no_fault : Accepts s ns os ls → file_number s (held ns) (held os) (length ls) ≡ 0
  unfolding load_call
  no_fault e = sym (guarded_number _ _ _ _ refl) ∙ e

  pub read_is : Accepts s ns os ls → load_call s ns os ls ≡ locked_outcome (accepted (be4 s 3 ∷ be4 s 7 ∷ be4 s 11 ∷ [])) (graph_read s ns os) (locks_read s ls)
  unfolding load_call
  read_is e = sym (accepted_locked _ _ _ _ (no_fault e))

edge_not : (g : Graph) (j : ℕ) → is_edge g j ≡ true → j % 3 ≡ 2 → word g j ≡ mark → ⊥
unfolding is_edge
edge_not g j t q m =
    let e : false ≡ true = rw (eq-eqb (j % 3) 2 q, eq-eqb (word g j) mark m) at t in
    let z : ◌≡◌ {A = ℕ} 0 1 = cc in
    omega arith

-- words that name indices in order fit
pub short : (g : Graph) → g.I ≤ 4096 → g.N ≤ 100000 → ((j : ℕ) → j < 3 * g.N → is_edge g j ≡ true → word g j / 2 < node g (j / 3)) → (j : ℕ) → j < 3 * g.N → word g j < 1099511627776
short g a b f j h =
    ⊎_elim
    (λ (e : is_edge g j ≡ true). omega (arith, a, b, f j h e))
    (λ (e : is_edge g j ≡ false). omega (arith, (edge_none g j e).1))
    (true_or_false (is_edge g j))

-- the words of the graph read, in its tables, and its lock bytes
module _ (s ns os ls : List ℕ) where
  read_word : (j : ℕ) → j < 3 * be4 s 7 → word (graph_read s ns os) j ≡ get_or (node_words (be4 s 7) (drop 15 s)) j 0
  unfolding graph_read
  read_word j h = filled_in (node_words (be4 s 7) (drop 15 s)) ns j (rw (length_node_words (be4 s 7) (drop 15 s)) h)

  read_out : (j : ℕ) → j < be4 s 11 → output (graph_read s ns os) j ≡ get_or (single_words (be4 s 11) (after_nodes (be4 s 7) (drop 15 s))) j 0
  unfolding graph_read
  read_out j h = filled_in (single_words (be4 s 11) (after_nodes (be4 s 7) (drop 15 s))) os j (rw (length_single_words (be4 s 11) (after_nodes (be4 s 7) (drop 15 s))) h)

  read_lock : (v : ℕ) → v < be4 s 7 → get_or (locks_read s ls) v 0 ≡ among (lock_indices (locks_from s)) (be4 s 3 + 1 + v)
  unfolding locks_read
  read_lock v h =
      let f : ℕ → ℕ = λ u. among (lock_indices (locks_from s)) (be4 s 3 + 1 + u) in
      get_or-append (tab (be4 s 7) f) (drop (be4 s 7) ls) 0 v (rw (length_tab (be4 s 7) f) h) ∙ get_d_tab (be4 s 7) f v h

  read_admitted : file_number s (held ns) (held os) (length ls) ≡ 0 → Admitted (graph_read s ns os)
  unfolding graph_read file_number
  read_admitted e =
      let f = both _ _ e in
      let p = (head_passed s (held ns) (held os) (length ls) f.0).rooms in
      let n : ℕ = be4 s 7 in
      let o : ℕ = be4 s 11 in
      let i : ℕ = be4 s 3 + 1 in
      let g : Graph = graph_read s ns os in
      let w : (j : ℕ) → j < 3 * n → is_edge g j ≡ true → word g j / 2 < node g (j / 3) = λ j h t. rw (read_word j h) (nodes_below n o (drop 15 s) i i f.1 j h (λ q m. edge_not g j t q (read_word j h ∙ m))) in
      let x : (j : ℕ) → j < o → output g j / 2 < i + n = λ j h. rw (read_out j h) (outputs_below o (after_nodes n (drop 15 s)) i (i + n) (after_nodes_lem n o (drop 15 s) i i f.1) j h) in
      record {
        few_inputs = p.few_inputs;
        few_nodes = p.few_nodes;
        few_outputs = p.few_outputs;
        held_nodes = held_filled (node_words n (drop 15 s)) ns (3 * n) (length_node_words n (drop 15 s)) (λ j h. rw (read_word j h) at (short g p.few_inputs p.few_nodes w j h));
        held_outputs = held_filled (single_words o (after_nodes n (drop 15 s))) os o (length_single_words o (after_nodes n (drop 15 s))) (λ j h. let t : output g j < 1099511627776 = omega (arith, p.few_inputs, p.few_nodes, x j h) in rw (read_out j h) at t);
        clean_nodes = strays_filled (node_words n (drop 15 s)) ns (3 * n) (length_node_words n (drop 15 s));
        clean_outputs = strays_filled (single_words o (after_nodes n (drop 15 s))) os o (length_single_words o (after_nodes n (drop 15 s)));
        long_nodes = omega (arith, length_filled (node_words n (drop 15 s)) ns, length_node_words n (drop 15 s));
        long_outputs = omega (arith, length_filled (single_words o (after_nodes n (drop 15 s))) os, length_single_words o (after_nodes n (drop 15 s)));
        below = w;
        output_below = x;
      }

  read_locks : LockBytes (graph_read s ns os).N (locks_read s ls)
  unfolding graph_read locks_read
  read_locks =
      let f : ℕ → ℕ = λ u. among (lock_indices (locks_from s)) (be4 s 3 + 1 + u) in
      record {
        enough = omega (arith, length-append (tab (be4 s 7) f) (drop (be4 s 7) ls), length_tab (be4 s 7) f);
        bits = λ v h. rw (read_lock v h) (among_le (lock_indices (locks_from s)) (be4 s 3 + 1 + v));
      }

  -- what an accepted load reads is admitted
  module _ (e : Accepts s ns os ls) where
    pub load_admitted : Admitted (load_call s ns os ls).graph
    load_admitted = rw (read_is s ns os ls e) (read_admitted (no_fault s ns os ls e))

    pub load_locks : LockBytes (load_call s ns os ls).graph.N (load_call s ns os ls).locks
    load_locks = rw (read_is s ns os ls e) read_locks

  -- the parts of a file put together
  parts : locks_from s ≡ in_order (lock_field_at (be4 s 3 + 1) (locks_read s ls)) 0 (be4 s 7) ++ end_field
      → after_nodes (be4 s 7) (drop 15 s) ≡ in_order (output_field_at (graph_read s ns os).outputs) 0 (be4 s 11) ++ locks_from s
      → drop 15 s ≡ in_order (node_field_at (graph_read s ns os).nodes) 0 (be4 s 7) ++ after_nodes (be4 s 7) (drop 15 s)
      → s ≡ head_field (be4 s 3) (be4 s 7) (be4 s 11) ++ drop 15 s → file_of (graph_read s ns os) (locks_read s ls) ≡ s
  unfolding file_of graph_read
  parts a b c d =
      sym (d ∙ ap (λ (t : List ℕ). head_field (be4 s 3) (be4 s 7) (be4 s 11) ++ t)
      (c ∙ ap (λ (t : List ℕ). in_order (node_field_at (graph_read s ns os).nodes) 0 (be4 s 7) ++ t)
      (b ∙ ap (λ (t : List ℕ). in_order (output_field_at (graph_read s ns os).outputs) 0 (be4 s 11) ++ t) a)))

  read_back : Bytes s → file_number s (held ns) (held os) (length ls) ≡ 0 → file_of (graph_read s ns os) (locks_read s ls) ≡ s
  unfolding file_number locks_from
  read_back h e =
      let f = both _ _ e in
      let p = head_passed s (held ns) (held os) (length ls) f.0 in
      let n : ℕ = be4 s 7 in
      let o : ℕ = be4 s 11 in
      let i : ℕ = be4 s 3 + 1 in
      let g : Graph = graph_read s ns os in
      let t : List ℕ = drop 15 s in
      let q : i + 0 ≡ i = omega arith in
      let eo = after_nodes_lem n o t i i f.1 in
      let bo = bytes_after n t (bytes_drop 15 s h) in
      let a = locks_back i (locks_read s ls) (i + n) n (after_singles o (after_nodes n t)) 0 (bytes_singles o (after_nodes n t) bo) (omega arith)
      (rw q (after_outputs o (after_nodes n t) i (i + n) eo))
      (λ k b. rw q (ap (λ (j : ℕ). get_or (locks_read s ls) j 0) (omega arith) ∙ read_lock k b)) in
      let b = outputs_back o (after_nodes n t) i (i + n) g.outputs 0 bo eo
      (λ k b. ap (λ (j : ℕ). get_or g.outputs j 0) (omega arith) ∙ read_out k b) in
      let c = nodes_back n o t i i g.nodes 0 (bytes_drop 15 s h) (omega arith) f.1
      (λ k b. ap (λ (j : ℕ). get_or g.nodes j 0) (omega arith) ∙ read_word k b) in
      parts a b c (head_back s (held ns) (held os) (length ls) h f.0)

  -- an accepted file is the file of the graph and the locks read from it
  pub written_back : Bytes s → Accepts s ns os ls → file_of (load_call s ns os ls).graph (load_call s ns os ls).locks ≡ s
  written_back h e = rw (read_is s ns os ls e) (read_back h (no_fault s ns os ls e))

  pub accepted_file : AcceptedFile s ns os ls
  accepted_file = record { load_admitted = load_admitted; load_locks = load_locks; written_back = written_back }

in_order_same_lem : (f h : ℕ → List ℕ) (v n : ℕ) → ((j : ℕ) → j < v + n → f j ≡ h j) → in_order f v n ≡ in_order h v n
in_order_same_lem f h v zero e = refl
in_order_same_lem f h v (suc n) e = rw (e v (omega arith), in_order_same_lem f h (v + 1) n (λ j l. e j (omega arith)))

module _ (g h : Graph) (ls ks : List ℕ) (same : SameGraph g h ls ks) where
  same_node : (v : ℕ) → v < g.N → node_field_at g.nodes v ≡ node_field_at h.nodes v
  unfolding node_field_at
  same_node v l = rw (same.words (3 * v) (omega arith), same.words (3 * v + 1) (omega arith), same.words (3 * v + 2) (omega arith))

  same_output : (j : ℕ) → j < g.O → output_field_at g.outputs j ≡ output_field_at h.outputs j
  unfolding output_field_at
  same_output j l = rw (same.output_words j l)

  same_lock : (v : ℕ) → v < g.N → lock_field_at (g.I + 1) ls v ≡ lock_field_at (g.I + 1) ks v
  unfolding lock_field_at
  same_lock v l = rw (same.locks v l)

  -- it has the same file
  pub file_same : file_of g ls ≡ file_of h ks
  unfolding file_of
  file_same =
      let a = in_order_same_lem (node_field_at g.nodes) (node_field_at h.nodes) 0 g.N (λ j l. same_node j (omega arith)) in
      let b = in_order_same_lem (output_field_at g.outputs) (output_field_at h.outputs) 0 g.O (λ j l. same_output j (omega arith)) in
      let c = in_order_same_lem (lock_field_at (g.I + 1) ls) (lock_field_at (g.I + 1) ks) 0 g.N (λ j l. same_lock j (omega arith)) in
      rw (a, b, c, same.inputs, same.nodes, same.outputs)

-- each graph with its locks has one file: two accepted files that read the same are equal
pub one_file : (s ns os ls s' ns' os' ls' : List ℕ) → OneFile s ns os ls s' ns' os' ls'
one_file s ns os ls s' ns' os' ls' h h' e e' same =
    sym (written_back s ns os ls h e) ∙ file_same _ _ _ _ same ∙ written_back s' ns' os' ls' h' e'

-- what the words of an admitted graph may be
module _ (g : Graph) where
  allowed : Admitted g → (v : ℕ) → v < g.N → Allowed g.nodes (g.I + 1 + v) v
  allowed a v h =
      let d₀ : 3 * v / 3 ≡ v = omega arith in
      let d₁ : (3 * v + 1) / 3 ≡ v = omega arith in
      let d₂ : (3 * v + 2) / 3 ≡ v = omega arith in
      record {
        one = rw d₀ at (a.below (3 * v) (omega arith) (edge_early g (3 * v) (λ q. omega arith)));
        two = rw d₁ at (a.below (3 * v + 1) (omega arith) (edge_early g (3 * v + 1) (λ q. omega arith)));
        last = λ n. rw d₂ at (a.below (3 * v + 2) (omega arith) (edge_third g (3 * v + 2) (omega arith) n));
      }

-- the file of an admitted graph with its locks loads as that graph with those locks, into any tables and bytes that are long enough:
-- their front is then the graph's, and the rest is left
module _ (g : Graph) (ks : List ℕ) (a : Admitted g) (k : LockBytes g.N ks) (ns os ls : List ℕ) (long_nodes : 3 * g.N ≤ held ns) (long_outputs : g.O ≤ held os)
    (enough_locks : g.N ≤ length ls) where
  small : g.I + 1 + g.N ≤ 1000000
  small = omega (arith, a.few_inputs, a.few_nodes)

  locks : List ℕ
  locks = locks_of (g.I + 1) ks 0 g.N

  outputs : List ℕ
  outputs = in_order (output_field_at g.outputs) 0 g.O ++ locks

  nodes : List ℕ
  nodes = in_order (node_field_at g.nodes) 0 g.N ++ outputs

  room : Rooms g.I g.N g.O (held ns) (held os) (length ls)
  room =
      record {
        few_inputs = a.few_inputs;
        few_nodes = a.few_nodes;
        few_outputs = a.few_outputs;
        long_nodes = long_nodes;
        long_outputs = long_outputs;
        enough_locks = enough_locks;
      }

  written_read : HeadRead (file_of g ks) (held ns) (held os) (length ls) g.I g.N g.O nodes
  unfolding file_of nodes outputs locks
  written_read = head_read (held ns) (held os) (length ls) g.I g.N g.O nodes room

  locks_fine : lock_fields_number (lock_count locks) locks (g.I + 1) (g.I + 1 + g.N) ≡ 0
  unfolding locks
  locks_fine = locks_number_lem (g.I + 1) ks (g.I + 1 + g.N) small g.N 0 (g.I + 1) (omega arith) (omega arith)

  nodes_fine : node_fields_number g.N g.O nodes (g.I + 1) (g.I + 1) ≡ 0
  unfolding nodes outputs
  nodes_fine =
      let e = outputs_number g.outputs g.O (g.I + 1 + g.N) small a.output_below locks (g.I + 1) locks_fine g.O 0 (omega arith) in
      let q : g.I + 1 + 0 ≡ g.I + 1 = omega arith in
      let r = nodes_number g.nodes g.N (g.I + 1) small (allowed g a) outputs g.O (g.I + 1) g.N 0 (omega arith) e in
      ap (node_fields_number g.N g.O (in_order (node_field_at g.nodes) 0 g.N ++ outputs) (g.I + 1)) (sym q) ∙ r

  written_number : file_number (file_of g ks) (held ns) (held os) (length ls) ≡ 0
  unfolding file_number
  written_number =
      let r = written_read in
      sym (none _ _ r.number (sym (rw (r.inputs, r.nodes, r.outputs, r.after) nodes_fine)))

  after_is : after_nodes g.N nodes ≡ outputs
  unfolding nodes
  after_is = nodes_after g.nodes g.N (g.I + 1) small (allowed g a) outputs g.N 0 (omega arith)

  outputs_after_is : after_singles g.O outputs ≡ locks
  unfolding outputs
  outputs_after_is = outputs_after g.outputs g.O (g.I + 1 + g.N) small a.output_below locks g.O 0 (omega arith)

  nodes_are : node_words g.N nodes ≡ take (3 * g.N) g.nodes
  unfolding nodes
  nodes_are =
      ext_get_or 0 _ _ (length_node_words g.N nodes ∙ sym (length-take-le (3 * g.N) g.nodes a.long_nodes))
      (λ j h.
      let l : j < 3 * g.N = rw (length_node_words g.N nodes) at h in
      nodes_words g.nodes g.N (g.I + 1) small (allowed g a) outputs g.N 0 (omega arith) j l
      ∙ ap (λ (j : ℕ). get_or g.nodes j 0) (omega arith) ∙ sym (get_or-take (3 * g.N) g.nodes j 0 l))

  outputs_are : single_words g.O outputs ≡ take g.O g.outputs
  unfolding outputs
  outputs_are =
      ext_get_or 0 _ _ (length_single_words g.O outputs ∙ sym (length-take-le g.O g.outputs a.long_outputs))
      (λ j h.
      let l : j < g.O = rw (length_single_words g.O outputs) at h in
      outputs_words g.outputs g.O (g.I + 1 + g.N) small a.output_below locks g.O 0 (omega arith) j l
      ∙ ap (λ (j : ℕ). get_or g.outputs j 0) (omega arith) ∙ sym (get_or-take g.O g.outputs j 0 l))

  locks_are : tab g.N (λ v. among (lock_indices locks) (g.I + 1 + v)) ≡ take g.N ks
  unfolding locks
  locks_are =
      let f : ℕ → ℕ = λ v. among (lock_indices locks) (g.I + 1 + v) in
      ext_get_or 0 _ _ (length_tab g.N f ∙ sym (length-take-le g.N ks k.enough))
      (λ v h.
      let l : v < g.N = rw (length_tab g.N f) at h in
      get_d_tab g.N f v l ∙ locks_named (g.I + 1) ks g.N 0 v (omega (arith, small)) (omega arith) (omega arith) (k.bits v l) ∙ sym (get_or-take g.N ks v 0 l))

  graph_is : graph_read (file_of g ks) ns os
      ≡ graph_of g.I g.N g.O (filled (take (3 * g.N) g.nodes) ns) (filled (take g.O g.outputs) os)
  unfolding graph_read
  graph_is = let r = written_read in rw (r.inputs, r.nodes, r.outputs, r.after, nodes_are, after_is, outputs_are) refl

  locks_is : locks_read (file_of g ks) ls ≡ take g.N ks ++ drop g.N ls
  unfolding locks_read locks_from
  locks_is = let r = written_read in rw (r.inputs, r.nodes, r.outputs, r.after, after_is, outputs_after_is, locks_are) refl

  pub loads_written : LoadsWritten g ks ns os ls
  unfolding load_call
  loads_written = let r = written_read in sym (accepted_locked _ _ _ _ written_number) ∙ rw (r.inputs, r.nodes, r.outputs, graph_is, locks_is) refl

-- a file without locks: document 01's
unlocked : (i : ℕ) (ls : List ℕ) (v n : ℕ) → ((j : ℕ) → j < v + n → get_or ls j 0 ≡ 0) → in_order (lock_field_at i ls) v n ≡ []
unlocked i ls v zero e = refl
unlocked i ls v (suc n) e = rw (free_field i ls v (λ q. omega (arith, e v (omega arith))), unlocked i ls (v + 1) n (λ j l. e j (omega arith))) refl

module _ (g : Graph) where
  file_free_lem : (ls : List ℕ) → ((v : ℕ) → v < g.N → get_or ls v 0 ≡ 0) → file_of g ls ≡ file_free g
  unfolding file_of
  file_free_lem ls h = rw (unlocked (g.I + 1) ls 0 g.N (λ j l. h j (omega arith))) refl

  -- it loads as its graph, with every node free
  pub without_locks : WithoutLocks g
  without_locks =
      record {
        file_free_lem = file_free_lem;
        loads_free = λ a ns os ls x y z.
            let ks : List ℕ = free_locks g.N ls in
            rw (← file_free_lem ks (free_at g.N ls)) (loads_written g ks a (free_bytes g.N ls) ns os ls x y z);
      }
