-- What an accepted join rests on, and what it leaves: an admitted graph with its locks, and M-113's values. From the tests that refuse it,
-- and from the laws of the joined graph.
use mathlib.Core.Path.{◌≡◌, refl, sym}
use mathlib.Core.List.{List, [], ◌∷◌, ◌++◌}
use mathlib.Core.Logic.{⊎_elim}
use Prim.Native.Nat.{ℕ, zero, suc, ◌+◌, ◌-◌, ◌≤◌, ◌<◌}
use native.Mathlib.Omega.{arith}
use lib.ListN.{length, get_or, take, drop, length-append, get_or-append}
use lib.Seq.{get_or-take, get_or-append-add, length-take-le}
use Rattle.graph.specs.Admission.{Admitted, LockBytes}
use Rattle.graph.specs.Answer.{accepted, LockedOutcome, locked_outcome, guarded_locks}
use Rattle.graph.specs.Graph.{Graph}
use Rattle.graph.specs.Literals.{held}
use Rattle.graph.proofs.Admit.{Rooms, rooms, admitted, locks_admitted}
use Rattle.graph.proofs.Answers.{accepted_locked}
use Rattle.graph.proofs.Cases.{lt_or_le}
use Rattle.graph.proofs.Tests.{both, is}
use Rattle.tagged_file.specs.Load.{blank}
use Rattle.join.specs.Join.{joined_graph, joined_locks, join_number, join_call}
use Rattle.join.specs.Promises.{JoinedValues}
use Rattle.join.proofs.Meeting.{same_I, same_N, same_O, joined_admitted}
use Rattle.join.proofs.Valued.{joined_value}

module _ (g : Graph) (ls : List ℕ) (h : Graph) (ks : List ℕ) (a b l : ℕ) where
  -- what the tests of a join that is not refused have said
  pub record Fits : Type 0 where
    pub first_admitted : Admitted g
    pub first_locks : LockBytes g.N ls
    pub second_admitted : Admitted h
    pub second_locks : LockBytes h.N ks
    pub meet : g.O ≡ h.I
    pub rooms : Rooms g.I (g.N + h.N) h.O a b l

  pub fits : join_number g ls h ks a b l ≡ 0 → Fits
  unfolding join_number
  fits e =
      let p = both _ _ e in
      let q = both _ _ p.1 in
      let r = both _ _ q.1 in
      record {
        first_admitted = admitted g ls p.0;
        first_locks = locks_admitted g ls p.0;
        second_admitted = admitted h ks q.0;
        second_locks = locks_admitted h ks q.0;
        meet = (is g.O h.I 18 0 r.0).0;
        rooms = rooms _ _ _ _ _ _ r.1;
      }

-- the locks of both
module _ (n m : ℕ) (ls ks : List ℕ) (p : LockBytes n ls) (q : LockBytes m ks) (rs : List ℕ) where
  abbrev both_locks : List ℕ
  both_locks = take n ls ++ take m ks

  first_long : length (take n ls) ≡ n
  first_long = length-take-le n ls p.enough

  both_long : length both_locks ≡ n + m
  both_long = omega (arith, length-append (take n ls) (take m ks), first_long, length-take-le m ks q.enough)

  lock_is : (v : ℕ) → v < n + m → get_or (joined_locks n m ls ks rs) v 0 ≡ get_or both_locks v 0
  unfolding joined_locks
  lock_is v l = get_or-append both_locks (drop (n + m) rs) 0 v (omega (arith, both_long))

  first_bit : (v : ℕ) → v < n → get_or both_locks v 0 ≤ 1
  first_bit v k = rw (get_or-append (take n ls) (take m ks) 0 v (omega (arith, first_long)), get_or-take n ls v 0 k) (p.bits v k)

  second_bit : (v : ℕ) → v < m → get_or both_locks (n + v) 0 ≤ 1
  second_bit v k = rw (rw first_long at (get_or-append-add (take n ls) (take m ks) v 0), get_or-take m ks v 0 k) (q.bits v k)

  lock_bit : (v : ℕ) → v < n + m → get_or both_locks v 0 ≤ 1
  lock_bit v l =
      ⊎_elim
      (λ (k : v < n). first_bit v k)
      (λ (k : n ≤ v). let e : n + (v - n) ≡ v = omega arith in rw e at (second_bit (v - n) (omega arith)))
      (lt_or_le v n)

  pub joined_locks_lem : LockBytes (n + m) (joined_locks n m ls ks rs)
  unfolding joined_locks
  joined_locks_lem =
      record {
        enough = omega (arith, length-append both_locks (drop (n + m) rs), both_long);
        bits = λ v k. rw (lock_is v k) (lock_bit v k);
      }

guarded_number : (k : ℕ) (g : Graph) (ls : List ℕ) (o : LockedOutcome) → (guarded_locks k g ls o).answer.number ≡ 0 → k ≡ 0
unfolding guarded_locks
guarded_number zero g ls o e = refl
guarded_number (suc k) g ls o e = absurd (omega arith)

module _ (g : Graph) (ls : List ℕ) (h : Graph) (ks ns os rs : List ℕ) where
  abbrev whole : LockedOutcome
  whole = locked_outcome (accepted (g.I ∷ (g.N + h.N) ∷ h.O ∷ [])) (joined_graph g h ns os) (joined_locks g.N h.N ls ks rs)

  number_none : (join_call g ls h ks ns os rs).answer.number ≡ 0 → join_number g ls h ks (held ns) (held os) (length rs) ≡ 0
  unfolding join_call
  number_none e = guarded_number (join_number g ls h ks (held ns) (held os) (length rs)) (blank ns os) rs whole e

  pub call_is : join_number g ls h ks (held ns) (held os) (length rs) ≡ 0 → join_call g ls h ks ns os rs ≡ whole
  unfolding join_call
  call_is e = sym (accepted_locked (join_number g ls h ks (held ns) (held os) (length rs)) (blank ns os) rs whole e)

  -- both parts are admitted
  pub parts_admitted : (join_call g ls h ks ns os rs).answer.number ≡ 0 → Admitted g × Admitted h
  parts_admitted e = let f = fits g ls h ks (held ns) (held os) (length rs) (number_none e) in (f.first_admitted, f.second_admitted)

  -- M-113's value
  pub joined_values : JoinedValues g ls h ks ns os rs
  joined_values e =
      let z = number_none e in
      let f = fits g ls h ks (held ns) (held os) (length rs) z in
      let r = f.rooms in
      let adm = joined_admitted g h ns os f.first_admitted f.second_admitted f.meet r.few_nodes in
      let locks : LockBytes (joined_graph g h ns os).N (joined_locks g.N h.N ls ks rs) = rw (same_N g h ns os) (joined_locks_lem g.N h.N ls ks f.first_locks f.second_locks rs) in
      rw (call_is z)
      (record {
        meet = f.meet;
        inputs = same_I g h ns os;
        nodes = same_N g h ns os;
        outputs = same_O g h ns os;
        admitted = adm;
        locks = locks;
        values = λ a j l. joined_value g h ns os a f.first_admitted f.second_admitted f.meet adm j l;
      })
