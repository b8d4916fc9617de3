-- The finder's call: outputs keep their values, N never grows, graph and ls stay admitted, and no unread free node is left. From the pass
-- and the drop.
use mathlib.Core.Path.{refl}
use mathlib.Core.List.{List}
use Prim.Native.Nat.{ℕ, ◌≤◌, ◌<◌}
use native.Mathlib.Omega.{arith}
use lib.ListN.{get_or}
use Rattle.graph.specs.Graph.{Graph}
use Rattle.graph.specs.Admission.{Admitted, LockBytes, admission_number}
use Rattle.graph.proofs.Admit.{admitted, locks_admitted}
use Rattle.graph.proofs.Answers.{accepted_locked}
use Rattle.graph.proofs.Tests.{both}
use Rattle.moves.specs.Call.{scratch_fault}
use Rattle.hidden.specs.Find.{passed}
use Rattle.hidden.specs.Drop.{live, keeping, dropped, dropped_locks}
use Rattle.hidden.specs.Call.{find_number, found, find_call}
use Rattle.hidden.specs.Keeps.{Same, Finds}
use Rattle.hidden.specs.Promises.{FinderKeeps}
use Rattle.hidden.proofs.Pass.{keeps_both, passed_same}
use Rattle.hidden.proofs.Dropped.{dropped_keeps, all_read, locks_long, locks_kept}
use Rattle.hidden.proofs.Kept.{rank, stands}

module _ (h : Graph) (ls : List ℕ) (adm : Admitted h) (ok : LockBytes h.N ls) where
  lock_low : (v : ℕ) → v < (dropped h ls).N → get_or (dropped_locks h ls) v 0 ≤ 1
  unfolding dropped keeping rank
  lock_low v b = rw (locks_kept h ls adm ok.enough v b) (ok.bits _ (stands (live h ls) h.N v b).within)

  drop_locked : LockBytes (dropped h ls).N (dropped_locks h ls)
  drop_locked = record { enough = locks_long h ls adm ok.enough; bits = lock_low }

pub found_finds : (g : Graph) (ls : List ℕ) → Admitted g → LockBytes g.N ls → Finds g (found g ls)
unfolding found
found_finds g ls adm ok =
    let h : Graph = passed g ls g.N in
    let s : Same g h = passed_same g ls adm g.N (omega arith) in
    let a : Admitted h = s.keeps.admitted in
    let o : LockBytes h.N ls = rw s.nodes ok in
    record {
      keeps = keeps_both g h (dropped h ls) s.keeps (dropped_keeps h ls a);
      returned = refl;
      locked = drop_locked h ls a o;
      read = all_read h ls a o.enough;
    }

pub finder_keeps : (g : Graph) (ls : List ℕ) (s : ℕ) → FinderKeeps g ls s
unfolding find_call find_number
finder_keeps g ls s e =
    let a = (both (admission_number g ls) (scratch_fault g s) e).0 in
    rw (← accepted_locked (find_number g ls s) g ls (found g ls) e) (found_finds g ls (admitted g ls a) (locks_admitted g ls a))
