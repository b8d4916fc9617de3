-- The whole of loading: what the check pass has shown, and what both passes come to. From the laws of both passes.
use Prim.Native.Nat.{ℕ, zero, suc, ◌+◌, ◌*◌, ◌≤◌}
use mathlib.Core.Path.{◌≡◌, refl, ◌∙◌}
use mathlib.Core.Logic.{⊎_elim}
use mathlib.Core.List.{List, [], ◌∷◌}
use native.Mathlib.Omega.{arith}
use lib.ListN.{length, drop}
use Rattle.graph.specs.Graph.{Graph, graph_of}
use Rattle.graph.specs.Literals.{held, filled}
use Rattle.std.proofs.Common.{Result}
use Rattle.std.specs.Result.{IsErrAnd}
use Rattle.std.proofs.lemmas.Result.{err_from_is_err_and}
use Rattle.graph.specs.Answer.{LockedOutcome, accepted, number_of, locked_outcome, guarded_locks}
use Rattle.graph.specs.declared.Refusal.{Refusal}
use Rattle.graph.proofs.Tests.{both, on}
use Rattle.graph.proofs.Answers.{number_some, refused_locked, accepted_locked}
use Rattle.file_checks.specs.File.{be4, node_size, lock_count, node_field_number, output_field_number, lock_fields_number, output_fields_number, node_fields_number, file_number, node_words, single_words, after_nodes, after_singles, locks_from, lock_indices}
use Rattle.tagged_file.specs.declared.Sizes.{Sizes}
use Rattle.tagged_file.specs.Inner.{locked_at}
use Rattle.tagged_file.specs.Load.{loaded_answer, loaded_graph, blank, graph_read, locks_read, free_locks, load_call}
use Rattle.tagged_file.proofs.Accepted.{after_nodes_lem, after_outputs}
use Rattle.tagged_file.proofs.Named.{all_locked}
use Rattle.tagged_file.proofs.OneField.{Majority, Xor, node_accepted}
use Rattle.file_checks.specs.Walk.{NodeThere, Nodes, OutputThere, Outputs, Locks}
use Rattle.file_checks.proofs.Checked.{HeadPassed, head_passed, out_passed, lock_passed, node_passed}

-- what an accepted field has
node_there : (s : List ℕ) (i : ℕ) → i ≤ 2147483647 → node_field_number s i ≡ 0 → NodeThere s
node_there s i h e =
    let a = node_accepted s i e in
    record {
      room = node_passed s i e;
      one = omega (arith, a.one);
      two = omega (arith, a.two);
      last = λ n. ⊎_elim (λ (m : Majority s i). omega (arith, m.below)) (λ (x : Xor s). absurd (n x.third_is)) a.kind;
    }

output_there : (s : List ℕ) (i : ℕ) → i ≤ 2147483647 → output_field_number s i ≡ 0 → OutputThere s
unfolding output_field_number
output_there s i h e = record { whole = out_passed s i e; low = omega (arith, (on _ _ _ _ (both _ _ e).1).0) }

nodes_passed : (n o : ℕ) (s : List ℕ) (low i : ℕ) → i + n ≤ 2147483647 → node_fields_number n o s low i ≡ 0 → Nodes n s
nodes_passed zero o s low i b e = tt
nodes_passed (suc n) o s low i b e = let h = both _ _ e in (node_there s i (omega arith) h.0, nodes_passed n o (drop (node_size s) s) low (i + 1) (omega arith) h.1)

outputs_passed : (o : ℕ) (s : List ℕ) (low top : ℕ) → top ≤ 2147483647 → output_fields_number o s low top ≡ 0 → Outputs o s
outputs_passed zero s low top b e = tt
outputs_passed (suc o) s low top b e = let h = both _ _ e in (output_there s top b h.0, outputs_passed o (drop 7 s) low top b h.1)

-- locks from low on, of which the next names an index from l on
locks_passed : (n : ℕ) (s : List ℕ) (low l top : ℕ) → low ≤ l → lock_fields_number n s l top ≡ 0 → Locks n s low top
locks_passed zero s low l top k e = tt
locks_passed (suc n) s low l top k e =
    let h = both _ _ e in
    let p = lock_passed s l top h.0 in
    (record { whole = p.whole; least = omega arith; below = p.below }, locks_passed n (drop 7 s) low (be4 s 3 + 1) top (omega arith) h.1)

-- a longer slice holds them too
locks_within_lem : (n : ℕ) (s : List ℕ) (low top top' : ℕ) → top ≤ top' → Locks n s low top → Locks n s low top'
locks_within_lem zero s low top top' k p = tt
locks_within_lem (suc n) s low top top' k p =
    (record { whole = p.0.whole; least = p.0.least; below = omega (arith, p.0) }, locks_within_lem n (drop 7 s) low top top' k p.1)

pub record Passed (s : List ℕ) (a b l : ℕ) : Type 0 where
  pub head : HeadPassed s a b l
  pub nodes : Nodes (be4 s 7) (drop 15 s)
  pub outputs : Outputs (be4 s 11) (after_nodes (be4 s 7) (drop 15 s))
  pub locks : Locks (lock_count (locks_from s)) (locks_from s) (be4 s 3 + 1) (be4 s 3 + 1 + be4 s 7)

pub passed : (s : List ℕ) (a b l : ℕ) → file_number s a b l ≡ 0 → Passed s a b l
unfolding file_number locks_from
passed s a b l e =
    let h = both _ _ e in
    let i : ℕ = be4 s 3 + 1 in
    let t : List ℕ = after_nodes (be4 s 7) (drop 15 s) in
    let o = after_nodes_lem (be4 s 7) (be4 s 11) (drop 15 s) i i h.1 in
    let p = head_passed s a b l h.0 in
    let few : i + be4 s 7 ≤ 2147483647 = omega (arith, p.rooms.few_inputs, p.rooms.few_nodes) in
    record {
      head = p;
      nodes = nodes_passed (be4 s 7) (be4 s 11) (drop 15 s) i i few h.1;
      outputs = outputs_passed (be4 s 11) t i (i + be4 s 7) few o;
      locks =
          locks_passed (lock_count (after_singles (be4 s 11) t)) (after_singles (be4 s 11) t) i i (i + be4 s 7) (omega arith)
          (after_outputs (be4 s 11) t i (i + be4 s 7) o);
    }

-- what each fill function asks
module _ (s : List ℕ) (a b l : ℕ) (p : Passed s a b l) (n : ℕ) (t : List ℕ) (en : n ≡ be4 s 7) (et : t ≡ drop 15 s) where
  pub nodes_asked : Nodes n t × (3 * n ≤ a) × (n ≤ 100000)
  nodes_asked = (rw (en, et) p.nodes, rw en p.head.rooms.long_nodes, rw en p.head.rooms.few_nodes)

  module _ (o : ℕ) (r : List ℕ) (eo : o ≡ be4 s 11) (er : r ≡ after_nodes n t) where
    pub outputs_asked : Outputs o r × (o ≤ b) × (o ≤ 100000)
    outputs_asked = (rw (er, en, eo, et) p.outputs, rw eo p.head.rooms.long_outputs, omega (arith, eo, p.head.rooms.few_outputs))

    from_is : (q : List ℕ) → q ≡ after_singles o r → q ≡ locks_from s
    unfolding locks_from
    from_is q eq = eq ∙ rw (er, en, eo, et) refl

    pub locks_asked : (i k : ℕ) (q : List ℕ) → i ≡ be4 s 3 → q ≡ after_singles o r → k ≡ l → Locks (lock_count q) q (i + 1) (i + 1 + k)
    locks_asked i k q ei eq ek =
        let h : i + 1 + n ≤ i + 1 + k = omega (arith, p.head.rooms.enough_locks) in
        locks_within_lem (lock_count q) q (i + 1) (i + 1 + n) (i + 1 + k) h (rw (from_is q eq, ei, en) p.locks)

-- a call that may be refused answers its fault
pub guarded_number : (k : ℕ) (g : Graph) (ls : List ℕ) (o : LockedOutcome) → o.answer.number ≡ 0 → (guarded_locks k g ls o).answer.number ≡ k
unfolding guarded_locks
guarded_number zero g ls o e = e
guarded_number (suc k) g ls o e = refl

-- what the answers come to: of any call that loads, and is refused by m
pub refused_load : (r : Result Sizes Refusal) (x : Refusal) (m : ℕ) (nodes outputs locks : List ℕ) (o : LockedOutcome) → IsErrAnd r (λ y. y ≡ x) → number_of x ≡ m
    → locked_outcome (loaded_answer r) (loaded_graph r nodes outputs) locks ≡ guarded_locks m (blank nodes outputs) locks o
refused_load r x m nodes outputs locks o e n =
    let p = err_from_is_err_and r e in
    rw (p.1, p.2) (refused_locked (number_of x) m (blank nodes outputs) locks o n (λ z. number_some x (n ∙ z)))

pub load_refused : (r : Result Sizes Refusal) (x : Refusal) (s nodes outputs locks : List ℕ) → IsErrAnd r (λ y. y ≡ x)
    → number_of x ≡ file_number s (held nodes) (held outputs) (length locks)
    → locked_outcome (loaded_answer r) (loaded_graph r nodes outputs) locks ≡ load_call s nodes outputs locks
unfolding load_call
load_refused r x s nodes outputs locks e n = refused_load r x _ nodes outputs locks _ e n

-- the lock bytes that are left
locked_is : (s ls : List ℕ) (a b : ℕ) → Passed s a b (length ls) → locked_at (be4 s 3 + 1) (lock_indices (locks_from s)) (free_locks (be4 s 7) ls) ≡ locks_read s ls
unfolding locks_read lock_indices
locked_is s ls a b p = all_locked (lock_count (locks_from s)) (locks_from s) (be4 s 3 + 1) (be4 s 7) ls p.locks p.head.rooms.enough_locks

pub load_accepted : (s nodes outputs locks : List ℕ) → file_number s (held nodes) (held outputs) (length locks) ≡ 0 → (i n o : ℕ) (nodes' outputs' locks' t r q : List ℕ)
    → i ≡ be4 s 3 → n ≡ be4 s 7 → o ≡ be4 s 11 → t ≡ drop 15 s → r ≡ after_nodes n t → q ≡ after_singles o r → nodes' ≡ filled (node_words n t) nodes
    → outputs' ≡ filled (single_words o r) outputs → locks' ≡ locked_at (i + 1) (lock_indices q) (free_locks n locks)
    → locked_outcome (accepted (i ∷ n ∷ o ∷ [])) (graph_of i n o nodes' outputs') locks' ≡ load_call s nodes outputs locks
unfolding load_call graph_read
load_accepted s nodes outputs locks z i n o nodes' outputs' locks' t r q ei en eo et er eq ens eos els =
    let p = passed s _ _ _ z in
    let f = from_is s _ _ _ p n t en et o r eo er q eq in
    let w : locks' ≡ locks_read s locks = els ∙ rw (f, ei, en) (locked_is s locks _ _ p) in
    rw (w, ens, eos, er, et, ei, en, eo) (accepted_locked _ _ _ _ z)
