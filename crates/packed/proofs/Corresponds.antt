-- Every call, and every list of calls, keeps packed graphs and their old ones in step. From the calls on a trimmed graph and from two graphs that
-- are alike but for tails, by induction over the list.
use mathlib.Core.Path.{◌≡◌, refl, sym, ap, ap₂, ◌∙◌}
use mathlib.Core.Bool.{false, true≢false}
use mathlib.Core.List.{List, [], ◌∷◌}
use Prim.Native.Nat.{ℕ, zero, suc}
use lib.ListN.{length}
use Rattle.graph.specs.Admission.{Admitted, admission_number}
use Rattle.graph.specs.Answer.{Answer, Outcome, LockedOutcome, locked_outcome, guarded, guarded_locks}
use Rattle.graph.specs.Graph.{Graph}
use Rattle.graph.proofs.Admit.{locks_admitted}
use Rattle.graph.proofs.Tests.{both}
use Rattle.moves.specs.Call.{moved, node_fault, tree_number}
use Rattle.moves.specs.Apply.{none, put}
use Rattle.moves.specs.Tree.{tree}
use Rattle.resistive.specs.Resistive.{best_still, resistive_call}
use Rattle.moves.proofs.Apply as applied
use Rattle.many.specs.Many.{many_number, many_call}
use Rattle.rounds.specs.Settle.{settle, settled, settle_number, settle_call}
use Rattle.rounds.proofs.Calls.{node_honest, pair_honest, tree_honest}
use Rattle.rounds.proofs.Rounds.{settle_ended}
use Rattle.hidden.specs.Truth.{Triple}
use Rattle.hidden.specs.Call.{triple_fault, majority_number, majority_outcome, majority_call, find_number, found, find_call}
use Rattle.hidden.proofs.MajorityCall.{node_is, rising_is, outcome_same}
use Rattle.hidden.proofs.FindCall.{found_finds}
use Rattle.promises.specs.Demand.{Call, node_at, pair_at, tree_at, settling, many_at, majority_at, finding, resistive_at, Locked, with_locks, beside, step, left, run, rewires, NoneRewires}
use Rattle.packed.specs.Old.{trimmed}
use Rattle.packed.specs.Corresponds.{answers, Corresponds}
use Rattle.packed.proofs.Admitting.{trimmed_admitted, admission_in}
use Rattle.packed.proofs.Calls.{node_in, pair_in, tree_call_in, many_in, trial_in}
use Rattle.packed.proofs.Old.{told_alike, in_step, in_graph}
use Rattle.packed.proofs.Reading.{count_in, evaluate_number_in, results_in, write_in, export_in, preview_answer_in, preview_bytes_in}
use Rattle.packed.proofs.Resistive.{resistive_in}
use Rattle.packed.proofs.Rewiring.{trimmed_twice, trimmed_left, majority_in, find_in}
use Rattle.packed.proofs.Settling.{settle_call_in}

-- an admitted graph stays one, whatever the locks
guarded_keeps : (k : ℕ) (g : Graph) (o : Outcome) → Admitted g → (k ≡ 0 → Admitted o.graph) → Admitted (guarded k g o).graph
unfolding guarded
guarded_keeps zero g o adm h = h refl
guarded_keeps (suc k) g o adm h = adm

module _ (g : Graph) (adm : Admitted g) (ls : List ℕ) where
  pub settle_keeps : (s : ℕ) → Admitted (settle_call g ls s).graph
  unfolding settle_call
  settle_keeps s = guarded_keeps (settle_number g ls s) g (settled g (settle ls g)) adm (λ e. (settle_ended ls g adm).keeps.stays.admitted)

  many_keeps : (us ms : List ℕ) → Admitted (many_call g ls us ms).graph
  unfolding many_call moved
  many_keeps us ms = guarded_keeps (many_number g ls us ms) g _ adm (λ e. applied.admitted g (put none us ms) adm)

  resistive_keeps : (s r : ℕ) → Admitted (resistive_call g ls s r).graph
  unfolding resistive_call moved
  resistive_keeps s r = guarded_keeps (tree_number g ls s r) g _ adm (λ e. applied.admitted g (put none (tree g r) (best_still g ls r)) adm)

  majority_keeps : (s u : ℕ) (t : Triple) → Admitted (majority_call g ls s t u).graph
  unfolding majority_call majority_number
  majority_keeps s u t =
      guarded_keeps (majority_number g ls s t u) g (majority_outcome g t u) adm
      (λ e.
      let b = both (node_fault g u) _ (both (admission_number g ls) _ e).1 in
      let n = node_is g u b.0 in
      (outcome_same g adm t u n.0 n.1 (rising_is t u (both (triple_fault t u) _ b.1).0)).keeps.admitted)

  found_keeps : (k : ℕ) → (k ≡ 0 → Admitted (found g ls).graph) → Admitted (guarded_locks k g ls (found g ls)).graph
  unfolding guarded_locks
  found_keeps zero h = h refl
  found_keeps (suc k) h = adm

  find_keeps : (s : ℕ) → Admitted (find_call g ls s).graph
  unfolding find_call find_number
  find_keeps s = found_keeps (find_number g ls s) (λ e. (found_finds g ls adm (locks_admitted g ls (both (admission_number g ls) _ e).0)).keeps.admitted)

-- what is trimmed has no more to trim
twice_left : (o : LockedOutcome) → trimmed_left (trimmed_left o) ≡ trimmed_left o
twice_left o = ap (λ (h : Graph). locked_outcome o.answer h o.locks) (trimmed_twice o.graph)

-- a graph with its locks, trimmed
abbrev pub trimmed_locked : Locked → Locked
trimmed_locked d = with_locks (trimmed d.graph) d.locks

module _ (d : Locked) (adm : Admitted d.graph) where
  pub step_keeps : (c : Call) → Admitted (step d c).graph
  step_keeps (node_at u) = ((node_honest d.locks (λ x. u)).keeps d.graph adm).stays.admitted
  step_keeps (pair_at u k) = ((pair_honest d.locks (λ x. u) k).keeps d.graph adm).stays.admitted
  step_keeps (tree_at r scratch) = ((tree_honest d.locks (λ x. r) (length scratch)).keeps d.graph adm).stays.admitted
  step_keeps (settling scratch) = settle_keeps d.graph adm d.locks (length scratch)
  step_keeps (many_at us ms) = many_keeps d.graph adm d.locks us ms
  step_keeps (majority_at u t scratch) = majority_keeps d.graph adm d.locks (length scratch) u t
  step_keeps (finding scratch) = find_keeps d.graph adm d.locks (length scratch)
  step_keeps (resistive_at r scratch) = resistive_keeps d.graph adm d.locks (length scratch) r

  pub step_in : (c : Call) → rewires c ≡ false → step (trimmed_locked d) c ≡ locked_outcome (step d c).answer (trimmed (step d c).graph) (step d c).locks
  step_in (node_at u) w = ap (beside d) (node_in d.graph adm d.locks u)
  step_in (pair_at u k) w = ap (beside d) (pair_in d.graph adm d.locks u k)
  step_in (tree_at r scratch) w = ap (beside d) (tree_call_in d.graph adm d.locks (length scratch) r)
  step_in (settling scratch) w = ap (beside d) (settle_call_in d.graph adm d.locks (length scratch))
  step_in (many_at us ms) w = ap (beside d) (many_in d.graph adm d.locks us ms)
  step_in (majority_at u t scratch) w = absurd (true≢false w)
  step_in (finding scratch) w = absurd (true≢false w)
  step_in (resistive_at r scratch) w = ap (beside d) (resistive_in d.graph adm d.locks (length scratch) r)

  still_left : (c : Call) → rewires c ≡ false → trimmed_left (step (trimmed_locked d) c) ≡ trimmed_left (step d c)
  still_left c w = ap trimmed_left (step_in c w) ∙ twice_left (step d c)

  -- and of every call, but for tails
  step_left : (c : Call) → trimmed_left (step (trimmed_locked d) c) ≡ trimmed_left (step d c)
  step_left (node_at u) = still_left (node_at u) refl
  step_left (pair_at u k) = still_left (pair_at u k) refl
  step_left (tree_at r scratch) = still_left (tree_at r scratch) refl
  step_left (settling scratch) = still_left (settling scratch) refl
  step_left (many_at us ms) = still_left (many_at us ms) refl
  step_left (majority_at u t scratch) =
      ap (λ (o : Outcome). trimmed_left (beside d o)) (majority_in d.graph adm d.locks (length scratch) t u) ∙ twice_left (beside d (majority_call d.graph d.locks (length scratch) t u))
  step_left (finding scratch) = find_in d.graph adm d.locks (length scratch)
  step_left (resistive_at r scratch) = still_left (resistive_at r scratch) refl

-- two graphs that are alike but for tails, with the same locks: each call answers alike, and leaves such graphs again
pub step_alike : (d e : Locked) → Admitted d.graph → Admitted e.graph → trimmed_locked d ≡ trimmed_locked e → (c : Call) → trimmed_left (step d c) ≡ trimmed_left (step e c)
step_alike d e x y p c = sym (step_left d x c) ∙ ap (λ (l : Locked). trimmed_left (step l c)) p ∙ step_left e y c

-- a list of calls
pub run_keeps : (d : Locked) → Admitted d.graph → (cs : List Call) → Admitted (run d cs).graph
run_keeps d adm [] = adm
run_keeps d adm (c ∷ cs) = run_keeps (left (step d c)) (step_keeps d adm c) cs

run_in : (d : Locked) → Admitted d.graph → (cs : List Call) → NoneRewires cs → run (trimmed_locked d) cs ≡ trimmed_locked (run d cs)
run_in d adm [] n = refl
run_in d adm (c ∷ cs) n = ap (λ (o : LockedOutcome). run (left o) cs) (step_in d adm c n.0) ∙ run_in (left (step d c)) (step_keeps d adm c) cs n.1

pub run_alike : (d e : Locked) → Admitted d.graph → Admitted e.graph → trimmed_locked d ≡ trimmed_locked e → (cs : List Call) → trimmed_locked (run d cs) ≡ trimmed_locked (run e cs)
run_alike d e x y p [] = p
run_alike d e x y p (c ∷ cs) = run_alike (left (step d c)) (left (step e c)) (step_keeps d x c) (step_keeps e y c) (ap left (step_alike d e x y p c)) cs

answers_alike : (d e : Locked) → Admitted d.graph → Admitted e.graph → trimmed_locked d ≡ trimmed_locked e → (cs : List Call) → answers d cs ≡ answers e cs
answers_alike d e x y p [] = refl
answers_alike d e x y p (c ∷ cs) =
    let s = step_alike d e x y p c in
    ap₂ (λ (a : Answer) (l : List Answer). a ∷ l) (ap (λ (o : LockedOutcome). o.answer) s)
    (answers_alike (left (step d c)) (left (step e c)) (step_keeps d x c) (step_keeps e y c) (ap left s) cs)

-- a graph and the same without its tails
module _ (g : Graph) (adm : Admitted g) (ls : List ℕ) (cs : List Call) where
  twice : trimmed_locked (with_locks (trimmed g) ls) ≡ trimmed_locked (with_locks g ls)
  twice = ap (λ (h : Graph). with_locks h ls) (trimmed_twice g)

  run_trimmed : trimmed_locked (run (with_locks (trimmed g) ls) cs) ≡ trimmed_locked (run (with_locks g ls) cs)
  run_trimmed = run_alike (with_locks (trimmed g) ls) (with_locks g ls) (trimmed_admitted g adm) adm twice cs

  answers_trimmed : answers (with_locks (trimmed g) ls) cs ≡ answers (with_locks g ls) cs
  answers_trimmed = answers_alike (with_locks (trimmed g) ls) (with_locks g ls) (trimmed_admitted g adm) adm twice cs

pub corresponds : (ls : List ℕ) → Corresponds ls
corresponds ls =
    record {
      each = λ c w.
          in_step _ _
          (λ g adm. ap (λ (o : LockedOutcome). o.answer) (step_in (with_locks g ls) adm c w))
          (λ g adm. ap (λ (o : LockedOutcome). o.graph) (step_in (with_locks g ls) adm c w))
          (λ g adm. step_keeps (with_locks g ls) adm c);
      lists = λ cs n.
          in_step _ _
          (λ g adm. answers_trimmed g adm ls cs)
          (λ g adm. ap (λ (d : Locked). d.graph) (run_in (with_locks g ls) adm cs n))
          (λ g adm. run_keeps (with_locks g ls) adm cs);
      all = λ cs.
          in_graph _ _
          (λ g adm. answers_trimmed g adm ls cs)
          (λ g adm. ap (λ (d : Locked). d.graph) (run_trimmed g adm ls cs))
          (λ g adm. run_keeps (with_locks g ls) adm cs);
      locks = λ cs. told_alike _ (λ g adm. ap (λ (d : Locked). d.locks) (run_trimmed g adm ls cs));
      admission = told_alike _ (λ g adm. admission_in g adm ls);
      count = told_alike _ (λ g adm. count_in g adm ls);
      evaluation = λ w s r. told_alike _ (λ g adm. evaluate_number_in g adm ls w s r);
      results = λ words s before. told_alike _ (λ g adm. results_in g adm ls words s before);
      trial = λ u k a m. told_alike _ (λ g adm. trial_in g adm ls u k a m);
      preview = λ b s r. told_alike _ (λ g adm. preview_answer_in g adm ls b s r);
      preview_bytes_lem = λ before s r. told_alike _ (λ g adm. preview_bytes_in g adm ls before s r);
      write = λ buffer. told_alike _ (λ g adm. write_in g adm ls buffer);
      export = λ scratch buffer. told_alike _ (λ g adm. export_in g adm ls scratch buffer);
    }
