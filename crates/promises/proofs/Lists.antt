-- Demand 3: whatever the list of calls, from any admitted start. By induction over the list, from what each call does (Calls).
use mathlib.Core.Path.{◌≡◌, refl, sym, ap, ◌∙◌}
use mathlib.Core.List.{List, [], ◌∷◌}
use Prim.Native.Nat.{ℕ}
use native.Mathlib.Omega.{arith}
use lib.IntN.{ℤ, pos, ◌+ℤ◌}
use Rattle.graph.specs.Graph.{Graph}
use Rattle.graph.specs.Count.{C}
use Rattle.graph.specs.Finite.{difference}
use Rattle.graph.proofs.Difference.{at_least}
use Rattle.graph.proofs.DifferenceSum.{sum_is, telescope, no_difference}
use Rattle.graph.specs.Admission.{Admitted, LockBytes}
use Rattle.tagged_file.specs.Load.{load_call}
use Rattle.tagged_file.specs.Promises.{Accepts}
use Rattle.tagged_file.proofs.RoundTrip.{load_admitted, load_locks}
use Rattle.aiger.specs.Import.{import_call}
use Rattle.aiger.proofs.Imported.{import_admitted, import_locks}
use Rattle.join.specs.Join.{join_call}
use Rattle.join.proofs.Accepted.{joined_values}
use Rattle.moves.proofs.Kept.{Stays, stays_none, stays_then}
use Rattle.hidden.specs.Keeps.{Keeps}
use Rattle.hidden.proofs.MajorityCall.{keeps_itself}
use Rattle.hidden.proofs.Pass.{keeps_both}
use Rattle.promises.specs.Demand.{Call, Locked, step, left, run, savings, Quiet, Unwired, Demand}
use Rattle.promises.proofs.Calls.{call_made, call_keeps, call_holds}

-- what every list keeps
record Kind (d : Locked) (calls : List Call) : Type 0 where
  graph : Keeps d.graph (run d calls).graph
  locks : LockBytes (run d calls).graph.N (run d calls).locks

list_kind : (d : Locked) → Admitted d.graph → LockBytes d.graph.N d.locks → (calls : List Call) → Kind d calls
list_kind d adm ok [] = record { graph = keeps_itself d.graph adm; locks = ok }
list_kind d adm ok (c ∷ cs) =
    let k = call_holds d adm ok c in
    let l = list_kind (left (step d c)) k.graph.admitted k.locks cs in
    record { graph = keeps_both d.graph (step d c).graph (run (left (step d c)) cs).graph k.graph l.graph; locks = l.locks }

-- and a quiet one: the graph but for complement bits, and the locks
record Still (d : Locked) (calls : List Call) : Type 0 where
  stays : Stays d.graph (run d calls).graph
  locks : (run d calls).locks ≡ d.locks

list_still : (d : Locked) → Admitted d.graph → LockBytes d.graph.N d.locks → (calls : List Call) → Quiet d calls → Still d calls
list_still d adm ok [] q = record { stays = stays_none d.graph adm; locks = refl }
list_still d adm ok (c ∷ cs) q =
    let k = call_keeps d adm ok c q.0 in
    let n = call_holds d adm ok c in
    let l = list_still (left (step d c)) n.graph.admitted n.locks cs q.1 in
    record { stays = stays_then d.graph (step d c).graph (run (left (step d c)) cs).graph k.stays l.stays; locks = l.locks ∙ k.locks }

-- the running total is of all numbers together
list_adds : (d : Locked) → Admitted d.graph → LockBytes d.graph.N d.locks → (calls : List Call) → Quiet d calls
    → savings d calls ≡ difference (C d.graph) (C (run d calls).graph)
list_adds d adm ok [] q = sym (no_difference (C d.graph))
list_adds d adm ok (c ∷ cs) q =
    let e = left (step d c) in
    let n = call_holds d adm ok c in
    ap (λ (x : ℤ). x +ℤ savings e cs) (call_keeps d adm ok c q.0).adds ∙
    ap (λ (x : ℤ). difference (C d.graph) (C e.graph) +ℤ x) (list_adds e n.graph.admitted n.locks cs q.1) ∙
    telescope (C d.graph) (C e.graph) (C (run e cs).graph)

total : (c b : ℕ) (z : ℤ) → z ≡ difference b c → pos c +ℤ z ≡ pos b
total c b z e =
    rw e
    (ap (λ (x : ℤ). x +ℤ difference b c) (sym (at_least c 0 c (omega arith))) ∙ sum_is c 0 b c b 0 (omega arith) ∙ at_least b 0 b (omega arith))

unwired : (d : Locked) → Admitted d.graph → LockBytes d.graph.N d.locks → (calls : List Call) → Quiet d calls → Unwired d calls
unwired d adm ok calls q =
    let k = list_still d adm ok calls q in
    record {
      wired = k.stays.wired;
      locked = k.locks;
      count = total (C (run d calls).graph) (C d.graph) (savings d calls) (list_adds d adm ok calls q);
    }

pub demand : (d : Locked) → Admitted d.graph → LockBytes d.graph.N d.locks → (calls : List Call) → Demand d calls
demand d adm ok calls =
    let k = list_kind d adm ok calls in
    record {
      each = λ before c after e. let l = list_kind d adm ok before in call_made (run d before) l.graph.admitted l.locks c;
      since = λ before after e q. let l = list_kind d adm ok before in unwired (run d before) l.graph.admitted l.locks after q;
      outputs = k.graph.same;
      fewer = k.graph.fewer;
    }

-- after an accepted load of the file s into the tables ns and os and the lock bytes ls
pub after_load : (s ns os ls : List ℕ) → Accepts s ns os ls → (calls : List Call) → Demand (left (load_call s ns os ls)) calls
after_load s ns os ls e calls = demand (left (load_call s ns os ls)) (load_admitted s ns os ls e) (load_locks s ns os ls e) calls

-- and after an accepted import of the text s
pub after_import : (s ns os ls : List ℕ) → (import_call s ns os ls).answer.number ≡ 0 → (calls : List Call) → Demand (left (import_call s ns os ls)) calls
after_import s ns os ls e calls = demand (left (import_call s ns os ls)) (import_admitted s ns os ls e) (import_locks s ns os ls e) calls

-- and after an accepted join of the graphs g and h with their locks, in the lent slices ns, os and rs
pub after_join : (g : Graph) (ls : List ℕ) (h : Graph) (ks ns os rs : List ℕ) → (join_call g ls h ks ns os rs).answer.number ≡ 0
    → (calls : List Call) → Demand (left (join_call g ls h ks ns os rs)) calls
after_join g ls h ks ns os rs e calls =
    let j = joined_values g ls h ks ns os rs e in
    demand (left (join_call g ls h ks ns os rs)) j.admitted j.locks calls
