-- What one call of a list does, of each of the eight kinds. From the laws of calls (crates moves, many, rounds, hidden and resistive).
use mathlib.Core.Path.{◌≡◌, refl, sym, ap, ◌∙◌}
use mathlib.Core.Bool.{Bool, true, false, true≢false, cond}
use mathlib.Core.Logic.{⊎_elim, ◌≢◌}
use mathlib.Core.List.{List, [], ◌∷◌}
use Prim.Native.Nat.{ℕ, zero, suc}
use native.Mathlib.Omega.{arith}
use lib.IntN.{ℤ, pos, ◌+ℤ◌}
use lib.Dec.{eqb}
use lib.ListN.{length}
use Rattle.graph.specs.Finite.{first, if_equal, difference}
use Rattle.graph.specs.Graph.{Graph}
use Rattle.graph.specs.Count.{C}
use Rattle.graph.specs.Admission.{Admitted, LockBytes, tables_number, content_number, admission_number}
use Rattle.graph.specs.Answer.{gained, whole, saving_of, Outcome, outcome, guarded, LockedOutcome, guarded_locks}
use Rattle.graph.proofs.Cases.{true_or_false, eq_or_ne}
use Rattle.graph.proofs.DifferenceSum.{no_difference, telescope}
use Rattle.graph.proofs.Tests.{none, both}
use Rattle.graph.proofs.Admit.{admission_none}
use Rattle.graph.proofs.Answers.{accepted_locked}
use Rattle.moves.specs.Apply.{put, apply}
use Rattle.moves.specs.Apply as choices
use Rattle.moves.specs.Tree.{tree}
use Rattle.moves.specs.Call.{moved, rewrite_by, rewrite, node_fault, word_fault, root_fault, scratch_fault, is_node, named_by, node_number, node_call, pair_number, pair_rewrite, pair_call, tree_number, tree_call}
use Rattle.moves.proofs.Kept.{Stays, stays_none, apply_stays, best_lowest}
use Rattle.moves.proofs.Split.{split_whole}
use Rattle.many.specs.Many.{many_number, many_call}
use Rattle.many.proofs.EveryOrder.{every_order}
use Rattle.rounds.specs.Settle.{settle, settled, settle_number, settle_call}
use Rattle.rounds.proofs.Calls.{Honest, node_honest, pair_honest, tree_honest}
use Rattle.rounds.proofs.Rounds.{settle_ended}
use Rattle.resistive.specs.Resistive.{best_still, resistive_call}
use Rattle.resistive.proofs.Meaning.{most_single}
use Rattle.hidden.specs.Truth.{Triple, leak, truth}
use Rattle.hidden.specs.Majority.{is_majority}
use Rattle.hidden.specs.Keeps as hidden
use Rattle.hidden.specs.Call.{triple_fault, majority_number, majority_outcome, majority_call, find_number, found, find_call}
use Rattle.hidden.proofs.MajorityCall.{node_is, rising_is, outcome_same, outcome_number}
use Rattle.hidden.proofs.FindCall.{found_finds}
use Rattle.promises.specs.Demand.{Call, node_at, pair_at, tree_at, settling, many_at, majority_at, finding, resistive_at, Locked, with_locks, beside, step, left, fault, rewires, Least, Beside, Made}

-- a call guarded by k, that else answers a without a fault
module _ (g : Graph) (o : Outcome) (fine : o.answer.number ≡ 0) where
  guarded_number : (k : ℕ) → (guarded k g o).answer.number ≡ k
  unfolding guarded
  guarded_number zero = fine
  guarded_number (suc k) = refl

  guarded_refused : (k : ℕ) → (k ≡ 0 → ⊥) → ((guarded k g o).graph ≡ g) × ((guarded k g o).answer.values ≡ []) × ((guarded k g o).answer.signed ≡ [])
  unfolding guarded
  guarded_refused zero h = absurd (h refl)
  guarded_refused (suc k) h = (refl, refl, refl)

  guarded_accepted : (k : ℕ) → k ≡ 0 → guarded k g o ≡ o
  unfolding guarded
  guarded_accepted zero e = refl
  guarded_accepted (suc k) e = absurd (omega arith)

-- the same of one that writes the locks
module _ (g : Graph) (ls : List ℕ) (o : LockedOutcome) where
  locked_number : o.answer.number ≡ 0 → (k : ℕ) → (guarded_locks k g ls o).answer.number ≡ k
  unfolding guarded_locks
  locked_number fine zero = fine
  locked_number fine (suc k) = refl

  locked_refused : (k : ℕ) → (k ≡ 0 → ⊥) → (left (guarded_locks k g ls o) ≡ with_locks g ls) × ((guarded_locks k g ls o).answer.values ≡ []) × ((guarded_locks k g ls o).answer.signed ≡ [])
  unfolding guarded_locks
  locked_refused zero h = absurd (h refl)
  locked_refused (suc k) h = (refl, refl, refl)

-- a call that may rewire saves nothing
module _ (g : Graph) (ls : List ℕ) where
  majority_adds : (u : ℕ) (t : Triple) → saving_of (majority_outcome g t u).answer ≡ pos 0
  unfolding majority_outcome if_equal
  majority_adds u t =
      ⊎_elim
      (λ (e : eqb (truth g t u) leak ≡ true). rw e)
      (λ (e : eqb (truth g t u) leak ≡ false).
      ⊎_elim (λ (m : is_majority (truth g t u) ≡ true). rw (e, m)) (λ (m : is_majority (truth g t u) ≡ false). rw (e, m)) (true_or_false (is_majority (truth g t u))))
      (true_or_false (eqb (truth g t u) leak))

  majority_none : (k u : ℕ) (t : Triple) → saving_of (guarded k g (majority_outcome g t u)).answer ≡ pos 0
  unfolding guarded
  majority_none zero u t = majority_adds u t
  majority_none (suc k) u t = refl

  finding_none : (k : ℕ) → saving_of (guarded_locks k g ls (found g ls)).answer ≡ pos 0
  unfolding guarded_locks found
  finding_none zero = refl
  finding_none (suc k) = refl

pub saves_none : (d : Locked) (c : Call) → rewires c ≡ true → saving_of (step d c).answer ≡ pos 0
unfolding majority_call find_call
saves_none d (node_at u) e = absurd (true≢false (sym e))
saves_none d (pair_at u k) e = absurd (true≢false (sym e))
saves_none d (tree_at r scratch) e = absurd (true≢false (sym e))
saves_none d (settling scratch) e = absurd (true≢false (sym e))
saves_none d (many_at us ms) e = absurd (true≢false (sym e))
saves_none d (majority_at u t scratch) e = majority_none d.graph d.locks (majority_number d.graph d.locks (length scratch) t u) u t
saves_none d (finding scratch) e = finding_none d.graph d.locks (find_number d.graph d.locks (length scratch))
saves_none d (resistive_at r scratch) e = absurd (true≢false (sym e))

-- an admitted graph with its locks is refused by nothing but the call's own fault
passed : (g : Graph) → Admitted g → (ls : List ℕ) → LockBytes g.N ls → (k : ℕ) → first (admission_number g ls) k ≡ k
passed g adm ls ok k = sym (none (admission_number g ls) k (admission_none g adm ls ok) refl)

admitted_none : (g : Graph) (ls : List ℕ) → admission_number g ls ≡ 0 → first (tables_number g ls) (content_number g ls) ≡ 0
unfolding admission_number
admitted_none g ls e = e

module _ (d : Locked) (adm : Admitted d.graph) (ok : LockBytes d.graph.N d.locks) where
  abbrev g : Graph
  g = d.graph

  abbrev ls : List ℕ
  ls = d.locks

  -- what a guarded call whose number comes to the fault f promises
  made : (c : Call) (k : ℕ) (o : Outcome) → step d c ≡ beside d (guarded k g o) → o.answer.number ≡ 0 → k ≡ fault d c
      → (fault d c ≡ 0 → Beside d c (beside d o)) → Made d c
  made c k o e fine q b =
      record {
        admitted = adm;
        locked = ok;
        number = rw e (guarded_number g o fine k ∙ q);
        refused = λ h. let r = guarded_refused g o fine k (λ z. h (sym q ∙ z)) in rw e (ap (λ (x : Graph). record { graph = x; locks = ls }) r.0, r.1, r.2);
        accepted = λ z. rw (e, guarded_accepted g o fine k (q ∙ z)) (b z);
      }

  pair_fine : (u k : ℕ) (b : Bool) → (cond b (rewrite g ls (named_by g u k ∷ u ∷ [])) (outcome (gained [] (pos 0) (pos 0)) g)).answer.number ≡ 0
  unfolding rewrite
  pair_fine u k true = refl
  pair_fine u k false = refl

  node_made : (u : ℕ) → Made d (node_at u)
  unfolding node_call node_number rewrite
  node_made u = made (node_at u) (node_number g ls u) (rewrite g ls (u ∷ [])) refl refl (passed g adm ls ok (node_fault g u)) (λ z ms f. best_lowest g ls adm (u ∷ []) ms f)

  pair_least : (u k : ℕ) → Least d (named_by g u k ∷ u ∷ []) (beside d (rewrite g ls (named_by g u k ∷ u ∷ [])))
  unfolding rewrite
  pair_least u k ms f = best_lowest g ls adm (named_by g u k ∷ u ∷ []) ms f

  pair_made : (u k : ℕ) → Made d (pair_at u k)
  unfolding pair_call pair_number pair_rewrite
  pair_made u k =
      made (pair_at u k) (pair_number g ls u k) (pair_rewrite g ls u k) refl (pair_fine u k (is_node g (named_by g u k)))
      (passed g adm ls ok (first (node_fault g u) (word_fault g u k))) (λ z i. rw i (pair_least u k))

  tree_made : (r : ℕ) (scratch : List ℕ) → Made d (tree_at r scratch)
  unfolding tree_call tree_number rewrite
  tree_made r scratch =
      made (tree_at r scratch) (tree_number g ls (length scratch) r) (rewrite g ls (tree g r)) refl refl
      (passed g adm ls ok (first (node_fault g r) (first (root_fault g r) (scratch_fault g (length scratch)))))
      (λ z ms f. best_lowest g ls adm (tree g r) ms f)

  settling_made : (scratch : List ℕ) → Made d (settling scratch)
  unfolding settle_call settle_number
  settling_made scratch =
      made (settling scratch) (settle_number g ls (length scratch)) (settled g (settle ls g)) refl refl (passed g adm ls ok (scratch_fault g (length scratch)))
      (λ z.
      let e = settle_ended ls g adm in
      (e.lowest, record { values = refl; signed = refl; few = e.few }))

  many_passed : (us ms : List ℕ) → many_number g ls us ms ≡ fault d (many_at us ms)
  unfolding many_number first
  many_passed us ms =
      let b = both (tables_number g ls) (content_number g ls) (admitted_none g ls (admission_none g adm ls ok)) in
      rw (b.0, b.1)

  many_made : (us ms : List ℕ) → Made d (many_at us ms)
  unfolding many_call
  many_made us ms =
      let h = moved g us ms in
      made (many_at us ms) (many_number g ls us ms) (outcome (whole (difference (C g) (C h))) h) refl refl (many_passed us ms) (λ z es p. every_order g ls us ms (many_passed us ms ∙ z) es p)

  -- the same of the finder, which writes the locks too
  made_locked : (c : Call) (k : ℕ) (o : LockedOutcome) → step d c ≡ guarded_locks k g ls o → o.answer.number ≡ 0 → k ≡ fault d c
      → (fault d c ≡ 0 → Beside d c o) → Made d c
  made_locked c k o e fine q b =
      record {
        admitted = adm;
        locked = ok;
        number = rw e (locked_number g ls o fine k ∙ q);
        refused = λ h. rw e (locked_refused g ls o k (λ z. h (sym q ∙ z)));
        accepted = λ z. rw (e, ← accepted_locked k g ls o (q ∙ z)) (b z);
      }

  -- what an accepted majority call keeps
  majority_same : (u : ℕ) (t : Triple) (scratch : List ℕ) → fault d (majority_at u t scratch) ≡ 0 → hidden.Same g (majority_outcome g t u).graph
  majority_same u t scratch z =
      let a = both (node_fault g u) _ z in
      let b = both (triple_fault t u) _ a.1 in
      let n = node_is g u a.0 in
      outcome_same g adm t u n.0 n.1 (rising_is t u b.0)

  majority_passed : (u : ℕ) (t : Triple) (scratch : List ℕ) → majority_number g ls (length scratch) t u ≡ fault d (majority_at u t scratch)
  unfolding majority_number
  majority_passed u t scratch = passed g adm ls ok (fault d (majority_at u t scratch))

  majority_made : (u : ℕ) (t : Triple) (scratch : List ℕ) → Made d (majority_at u t scratch)
  unfolding majority_call
  majority_made u t scratch =
      made (majority_at u t scratch) (majority_number g ls (length scratch) t u) (majority_outcome g t u) refl (outcome_number g t u) (majority_passed u t scratch)
      (λ z. (majority_same u t scratch z).all)

  finding_passed : (scratch : List ℕ) → find_number g ls (length scratch) ≡ fault d (finding scratch)
  unfolding find_number
  finding_passed scratch = passed g adm ls ok (scratch_fault g (length scratch))

  finding_made : (scratch : List ℕ) → Made d (finding scratch)
  unfolding find_call found
  finding_made scratch =
      made_locked (finding scratch) (find_number g ls (length scratch)) (found g ls) refl refl (finding_passed scratch) (λ z. ((found_finds g ls adm ok).read, refl))

  resistive_made : (r : ℕ) (scratch : List ℕ) → Made d (resistive_at r scratch)
  unfolding resistive_call tree_number
  resistive_made r scratch =
      made (resistive_at r scratch) (tree_number g ls (length scratch) r) (rewrite_by g (tree g r) (best_still g ls r)) refl refl
      (passed g adm ls ok (fault d (tree_at r scratch))) (λ z. most_single g ls r adm)

  pub call_made : (c : Call) → Made d c
  call_made (node_at u) = node_made u
  call_made (pair_at u k) = pair_made u k
  call_made (tree_at r scratch) = tree_made r scratch
  call_made (settling scratch) = settling_made scratch
  call_made (many_at us ms) = many_made us ms
  call_made (majority_at u t scratch) = majority_made u t scratch
  call_made (finding scratch) = finding_made scratch
  call_made (resistive_at r scratch) = resistive_made r scratch

  -- what a call keeps, and that its numbers are together what C falls by
  record Kind (o : Outcome) : Type 0 where
    keeps : Stays g o.graph
    adds : saving_of o.answer ≡ difference (C g) (C o.graph)

  honest : (call : Graph → Outcome) → Honest call → Kind (call g)
  honest call h = record { keeps = (h.keeps g adm).stays; adds = h.adds g }

  guarded_kind : (k : ℕ) (o : Outcome) → (k ≡ 0 → Kind o) → Kind (guarded k g o)
  unfolding guarded
  guarded_kind zero o h = h refl
  guarded_kind (suc k) o h = record { keeps = stays_none g adm; adds = sym (no_difference (C g)) }

  settling_kind : (scratch : List ℕ) → Kind (settle_call g ls (length scratch))
  unfolding settle_call settle_number
  settling_kind scratch =
      guarded_kind (settle_number g ls (length scratch)) (settled g (settle ls g))
      (λ z.
      let e = settle_ended ls g adm in
      record { keeps = e.keeps.stays; adds = e.sums })

  -- one number is the saving by itself
  alone : (a b : ℕ) → difference a b +ℤ pos 0 ≡ difference a b
  alone a b = ap (λ (x : ℤ). difference a b +ℤ x) (sym (no_difference b)) ∙ telescope a b b

  many_kind : (us ms : List ℕ) → Kind (many_call g ls us ms)
  unfolding many_call moved
  many_kind us ms =
      let h = apply g (put choices.none us ms) in
      guarded_kind (many_number g ls us ms) (outcome (whole (difference (C g) (C h))) h) (λ z. record { keeps = apply_stays g (put choices.none us ms) adm; adds = alone (C g) (C h) })

  resistive_kind : (r : ℕ) (scratch : List ℕ) → Kind (resistive_call g ls (length scratch) r)
  unfolding resistive_call moved
  resistive_kind r scratch =
      let ch = put choices.none (tree g r) (best_still g ls r) in
      guarded_kind (tree_number g ls (length scratch) r) (rewrite_by g (tree g r) (best_still g ls r))
      (λ z. record { keeps = apply_stays g ch adm; adds = split_whole (tree g r) g (apply g ch) })

  -- the same of a call of the list, which leaves the locks
  pub record Keeps (c : Call) : Type 0 where
    pub stays : Stays g (step d c).graph
    pub adds : saving_of (step d c).answer ≡ difference (C g) (C (step d c).graph)
    pub locks : (step d c).locks ≡ ls

  keeps : (c : Call) → Kind (outcome (step d c).answer (step d c).graph) → (step d c).locks ≡ ls → Keeps c
  keeps c k e = record { stays = k.keeps; adds = k.adds; locks = e }

  -- a call that may rewire keeps all that a quiet one does where it leaves the graph and the locks
  left_keeps : (c : Call) → saving_of (step d c).answer ≡ pos 0 → left (step d c) ≡ d → Keeps c
  left_keeps c z e =
      let p : (step d c).graph ≡ g = ap (λ (x : Locked). x.graph) e in
      record { stays = rw p (stays_none g adm); adds = rw p (z ∙ sym (no_difference (C g))); locks = ap (λ (x : Locked). x.locks) e }

  pub call_keeps : (c : Call) → (rewires c ≡ true → left (step d c) ≡ d) → Keeps c
  unfolding majority_call find_call
  call_keeps (node_at u) h = keeps (node_at u) (honest (λ x. node_call x ls u) (node_honest ls (λ x. u))) refl
  call_keeps (pair_at u k) h = keeps (pair_at u k) (honest (λ x. pair_call x ls u k) (pair_honest ls (λ x. u) k)) refl
  call_keeps (tree_at r scratch) h = keeps (tree_at r scratch) (honest (λ x. tree_call x ls (length scratch) r) (tree_honest ls (λ x. r) (length scratch))) refl
  call_keeps (settling scratch) h = keeps (settling scratch) (settling_kind scratch) refl
  call_keeps (many_at us ms) h = keeps (many_at us ms) (many_kind us ms) refl
  call_keeps (majority_at u t scratch) h = left_keeps (majority_at u t scratch) (saves_none d (majority_at u t scratch) refl) (h refl)
  call_keeps (finding scratch) h = left_keeps (finding scratch) (saves_none d (finding scratch) refl) (h refl)
  call_keeps (resistive_at r scratch) h = keeps (resistive_at r scratch) (resistive_kind r scratch) refl

  -- what every call keeps: inputs, outputs and their values, an admitted graph and its locks; and N does not grow
  pub record Holds (c : Call) : Type 0 where
    pub graph : hidden.Keeps g (step d c).graph
    pub locks : LockBytes (step d c).graph.N (step d c).locks

  quiet_holds : (c : Call) → (rewires c ≡ true → left (step d c) ≡ d) → Holds c
  quiet_holds c h =
      let k = call_keeps c h in
      let s = k.stays in
      record {
        graph = record { inputs = s.same_I; outputs = s.same_O; fewer = omega (arith, s.same_N); admitted = s.admitted; same = s.outputs };
        locks = rw (s.same_N, k.locks) ok;
      }

  still_holds : (c : Call) → rewires c ≡ false → Holds c
  still_holds c e = quiet_holds c (λ z. absurd (true≢false (sym z ∙ e)))

  -- a call that may rewire: refused, or accepted with the outcome o
  rewired_holds : (c : Call) (o : LockedOutcome) → (fault d c ≡ 0 → (step d c ≡ o) × hidden.Keeps g o.graph × LockBytes o.graph.N o.locks) → Holds c
  rewired_holds c o h =
      ⊎_elim
      (λ (z : fault d c ≡ 0).
      let k = h z in
      let p : (step d c).graph ≡ o.graph = ap (λ (x : LockedOutcome). x.graph) k.0 in
      let q : (step d c).locks ≡ o.locks = ap (λ (x : LockedOutcome). x.locks) k.0 in
      record { graph = rw p k.1; locks = rw (p, q) k.2 })
      (λ (n : fault d c ≢ 0). quiet_holds c (λ y. ((call_made c).refused n).0))
      (eq_or_ne (fault d c) 0)

  pub call_holds : (c : Call) → Holds c
  unfolding majority_call find_call
  call_holds (node_at u) = still_holds (node_at u) refl
  call_holds (pair_at u k) = still_holds (pair_at u k) refl
  call_holds (tree_at r scratch) = still_holds (tree_at r scratch) refl
  call_holds (settling scratch) = still_holds (settling scratch) refl
  call_holds (many_at us ms) = still_holds (many_at us ms) refl
  call_holds (majority_at u t scratch) =
      rewired_holds (majority_at u t scratch) (beside d (majority_outcome g t u))
      (λ z.
      let m = majority_same u t scratch z in
      (ap (beside d) (guarded_accepted g (majority_outcome g t u) (outcome_number g t u) (majority_number g ls (length scratch) t u) (majority_passed u t scratch ∙ z)), m.keeps, rw m.nodes ok))
  call_holds (resistive_at r scratch) = still_holds (resistive_at r scratch) refl
  call_holds (finding scratch) =
      rewired_holds (finding scratch) (found g ls)
      (λ z.
      let f = found_finds g ls adm ok in
      (sym (accepted_locked (find_number g ls (length scratch)) g ls (found g ls) (finding_passed scratch ∙ z)), f.keeps, f.locked))
