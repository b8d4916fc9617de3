-- A file that loads is settled: with the lengths that a report asks for, settling is not refused. From the laws on loading and
-- on admission.
use mathlib.Core.Path.{◌≡◌, refl, sym, ap, ◌∙◌}
use mathlib.Core.List.{List}
use Prim.Native.Nat.{ℕ, ◌*◌, ◌≤◌}
use native.Mathlib.Omega.{arith}
use lib.ListN.{length}
use Rattle.graph.specs.Graph.{Graph}
use Rattle.graph.specs.Admission.{Admitted, LockBytes}
use Rattle.graph.specs.Literals.{held}
use Rattle.graph.specs.Answer.{Outcome, LockedOutcome}
use Rattle.graph.proofs.Admit.{admission_none}
use Rattle.graph.proofs.Answers.{accepted_outcome}
use Rattle.graph.proofs.Tests.{equal, none, no_less}
use Rattle.moves.specs.Call.{scratch_fault}
use Rattle.tagged_file.specs.Load.{graph_read, load_call}
use Rattle.tagged_file.proofs.Whole.{passed}
use Rattle.tagged_file.proofs.RoundTrip.{no_fault, read_is, load_admitted, load_locks}
use Rattle.rounds.specs.Settle.{settle_number, settle_call}
use Rattle.report.specs.Report.{then_settle, settled_file}
use Rattle.report.specs.Promises.{AlwaysSettles}
use Rattle.report.proofs.Room.{enough_is}

settle_accepted : (g : Graph) (ls : List ℕ) (s : ℕ) → Admitted g → LockBytes g.N ls → 8 * g.N ≤ s → (settle_call g ls s).answer.number ≡ 0
unfolding settle_call settle_number scratch_fault
settle_accepted g ls s a ok h =
    let z : 0 ≡ settle_number g ls s = none _ _ (admission_none g a ls ok) (no_less s (8 * g.N) 8 0 h refl) in
    sym (ap (λ (o : Outcome). o.answer.number) (accepted_outcome (settle_number g ls s) g _ (sym z)))

-- the node table has room for the loaded nodes
nodes_within : (file ns os ls : List ℕ) → (load_call file ns os ls).answer.number ≡ 0 → 3 * (load_call file ns os ls).graph.N ≤ held ns
unfolding graph_read
nodes_within file ns os ls e =
    rw (read_is file ns os ls e) (passed file (held ns) (held os) (length ls) (no_fault file ns os ls e)).head.rooms.long_nodes

pub always_settles : (file ns os ls : List ℕ) (s room : ℕ) → AlwaysSettles file ns os ls s room
unfolding settled_file then_settle
always_settles file ns os ls s room k e =
    let l : LockedOutcome = load_call file ns os ls in
    let h = enough_is (held ns) (held os) s room k in
    let n = nodes_within file ns os ls e in
    let a = settle_accepted l.graph l.locks s (load_admitted file ns os ls e) (load_locks file ns os ls e) (omega arith) in
    ap (λ (o : LockedOutcome). o.answer.number) (sym (equal l.answer.number 0 _ _ e refl)) ∙ a
