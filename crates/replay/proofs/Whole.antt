-- What a refused replay and a whole one come to is its definition, and demand 3 holds of what is left. From the laws on answers, and
-- demand 3 over lists.
use Rattle.std.proofs.Common.{Result, Err}
use Rattle.std.specs.Result.{IsErrAnd}
use Rattle.std.proofs.lemmas.Result.{err_from_is_err_and}
use mathlib.Core.Path.{◌≡◌, refl, sym, ap, ◌∙◌, subst}
use mathlib.Core.List.{List, [], ◌∷◌, ◌++◌}
use mathlib.Core.Bool.{Bool, true, false, cond}
use Prim.Native.Nat.{ℕ, zero, suc, ◌*◌, ◌/◌}
use native.Mathlib.Omega.{arith}
use lib.IntN.{ℤ, pos, ◌+ℤ◌}
use lib.ListN.{length, drop}
use Rattle.graph.specs.Finite.{first}
use Rattle.graph.specs.Graph.{Graph, graph_of}
use Rattle.graph.specs.Count.{C}
use Rattle.graph.specs.Answer.{Answer, accepted, refused, number_of, own_of, others_of, saving_of, LockedOutcome, locked_outcome, guarded_locks, ScratchKept}
use Rattle.graph.specs.declared.Refusal.{Refusal}
use Rattle.graph.proofs.Tests.{equal, unequal, fault, none}
use Rattle.graph.proofs.Answers.{number_some, refused_locked, accepted_locked}
use Rattle.tagged_file.specs.Load.{blank, load_call}
use Rattle.promises.specs.Demand.{Call, Locked, with_locks, step, left, run, rewires, savings, Demand}
use Rattle.promises.proofs.Calls.{saves_none}
use Rattle.promises.proofs.Lists.{after_load}
use Rattle.replay.specs.declared.ReplayFault.{ReplayFault}
use Rattle.replay.specs.Replay.{Lent, decode, answers_of, value_of, code_number, replay_number, replay_call, answers_after, savings_in, DemandMet}

guarded_left : (k : ℕ) (g : Graph) (ls : List ℕ) (o : LockedOutcome) → o.answer.number ≡ 0 → ((guarded_locks k g ls o).answer.number ≡ 0 → ⊥)
    → left (guarded_locks k g ls o) ≡ with_locks g ls
unfolding guarded_locks
guarded_left zero g ls o e n = absurd (n e)
guarded_left (suc k) g ls o e n = refl

-- the savings among the answers are those that the calls reported
saving_in : (b : Bool) (a : Answer) → (b ≡ true → saving_of a ≡ pos 0) → cond b (pos 0) (cond b (value_of a) (own_of a) +ℤ others_of a) ≡ saving_of a
saving_in true a h = sym (h refl)
saving_in false a h = refl

savings_in_lem : (d : Locked) (cs : List Call) (rest : List ℤ) → savings_in cs (answers_of d cs ++ rest) ≡ savings d cs
savings_in_lem d [] rest = refl
savings_in_lem d (c ∷ cs) rest =
    ap (λ (n : ℤ). n +ℤ savings_in cs (answers_of (left (step d c)) cs ++ rest)) (saving_in (rewires c) (step d c).answer (saves_none d c))
    ∙ ap (λ (n : ℤ). saving_of (step d c).answer +ℤ n) (savings_in_lem (left (step d c)) cs rest)

-- a list in two parts
run_both : (d : Locked) (before after : List Call) → run d (before ++ after) ≡ run (run d before) after
run_both d [] after = refl
run_both d (c ∷ cs) after = run_both (left (step d c)) cs after

answers_since : (d : Locked) (before after : List Call) (rest : List ℤ)
    → drop (3 * length before) (answers_of d (before ++ after) ++ rest) ≡ answers_of (run d before) after ++ rest
answers_since d [] after rest = refl
answers_since d (c ∷ cs) after rest =
    let q : 3 * suc (length cs) ≡ suc (suc (suc (3 * length cs))) = omega arith in
    rw q (answers_since (left (step d c)) cs after rest)

demand_met : (d h : Locked) (cs : List Call) (l rest : List ℤ) → Demand d cs → h ≡ run d cs → l ≡ answers_of d cs ++ rest → DemandMet d cs h l
demand_met d h cs l rest m e f =
    record {
      outputs = rw e m.outputs;
      fewer = rw e m.fewer;
      since = λ before after p q.
          let w = m.since before after p q in
          let k : h ≡ run (run d before) after = e ∙ ap (run d) p ∙ run_both d before after in
          let v : drop (3 * length before) l ≡ answers_of (run d before) after ++ rest =
          ap (drop (3 * length before)) (f ∙ ap (λ (x : List Call). answers_of d x ++ rest) p) ∙ answers_since d before after rest in
          rw (k, v)
          record {
            wired = w.wired;
            locked = w.locked;
            count = ap (λ (n : ℤ). pos (C (run (run d before) after).graph) +ℤ n) (savings_in_lem (run d before) after rest) ∙ w.count;
          };
      demand = m;
    }

-- the fault by which a replay ends
pub fault_is : {T : Type 0} (r : Result T ReplayFault) (x : ReplayFault) → IsErrAnd r (λ y. y ≡ x) → r ≡ Err x
fault_is r x e = let p = err_from_is_err_and r e in p.1 ∙ ap Err p.2

module _ (file ws ns os ls : List ℕ) (t : Lent) (l : List ℤ) where
  abbrev n₀ : ℕ
  n₀ = length t.list

  abbrev loaded : LockedOutcome
  loaded = load_call file ns os ls

  unchanged : (loaded.answer.number ≡ 0 → ⊥) → left loaded ≡ with_locks (blank ns os) ls
  unfolding load_call
  unchanged n = guarded_left _ (blank ns os) ls _ refl n

  -- the contract of a replay that answers a, leaves h and l' for answers
  abbrev pub Met : Answer → Locked → List ℤ → List ℕ → Type 0
  Met a h l' sc' =
      record {
        call : locked_outcome a h.graph h.locks ≡ replay_call file ws t ns os ls (length l);
        answers : l' ≡ answers_after file ws t ns os ls l;
        scratch : ScratchKept a t.scratch sc';
        demand : a.number ≡ 0 → DemandMet (left loaded) (decode t ws) h l';
      }

  refuses : (k : ℕ) → k ≡ replay_number file ws n₀ ns os ls (length l) → (k ≡ 0 → ⊥) → Met (refused k) (with_locks (blank ns os) ls) l t.scratch
  unfolding replay_call answers_after
  refuses k e n = record {
    call = refused_locked k (replay_number file ws n₀ ns os ls (length l)) (blank ns os) ls _ e (λ z. n (e ∙ z));
    answers = unequal (replay_number file ws n₀ ns os ls (length l)) 0 _ l (λ z. n (e ∙ z)) refl;
    scratch = λ m. refl;
    demand = λ z. absurd (n z);
  }

  pub refused_words : (k : ℕ) → k ≡ code_number ws n₀ (length l) → (k ≡ 0 → ⊥) → Met (refused k) (with_locks (blank ns os) ls) l t.scratch
  unfolding replay_number
  refused_words k q n = refuses k (fault (code_number ws n₀ (length l)) loaded.answer.number q (λ z. n (q ∙ z))) n

  pub refused_file : (r : Refusal) (ns' os' ls' : List ℕ) → code_number ws n₀ (length l) ≡ 0 → locked_outcome (refused (number_of r)) (blank ns' os') ls' ≡ loaded
      → Met (refused (number_of r)) (with_locks (blank ns' os') ls') l t.scratch
  unfolding replay_number
  refused_file r ns' os' ls' z e =
      let q : number_of r ≡ loaded.answer.number = ap (λ (o : LockedOutcome). o.answer.number) e in
      let h : with_locks (blank ns' os') ls' ≡ with_locks (blank ns os) ls = ap left e ∙ unchanged (λ y. number_some r (q ∙ y)) in
      let m = refuses (number_of r) (none (code_number ws n₀ (length l)) loaded.answer.number z q) (number_some r) in
      subst (λ (d : Locked). Met (refused (number_of r)) d l t.scratch) (sym h) m

  pub replays : (i n o : ℕ) (ns' os' ls' : List ℕ) (l' : List ℤ) (sc' : List ℕ) (h : Locked) → code_number ws n₀ (length l) ≡ 0
      → locked_outcome (accepted (i ∷ n ∷ o ∷ [])) (graph_of i n o ns' os') ls' ≡ loaded
      → h ≡ run (with_locks (graph_of i n o ns' os') ls') (decode t ws)
      → l' ≡ answers_of (with_locks (graph_of i n o ns' os') ls') (decode t ws) ++ drop (3 * (length ws / 3)) l
      → Met (accepted (h.graph.I ∷ h.graph.N ∷ h.graph.O ∷ [])) h l' sc'
  unfolding replay_number replay_call answers_after
  replays i n o ns' os' ls' l' sc' h z e q f =
      let y : loaded.answer.number ≡ 0 = sym (ap (λ (x : LockedOutcome). x.answer.number) e) in
      let u : h ≡ run (left loaded) (decode t ws) = q ∙ ap (λ (x : LockedOutcome). run (left x) (decode t ws)) e in
      let v : l' ≡ answers_of (left loaded) (decode t ws) ++ drop (3 * (length ws / 3)) l =
      f ∙ ap (λ (x : LockedOutcome). answers_of (left x) (decode t ws) ++ drop (3 * (length ws / 3)) l) e in
      let m : first (code_number ws n₀ (length l)) loaded.answer.number ≡ 0 = sym (none (code_number ws n₀ (length l)) loaded.answer.number z (sym y)) in record {
        call = ap (λ (x : Locked). locked_outcome (accepted (x.graph.I ∷ x.graph.N ∷ x.graph.O ∷ [])) x.graph x.locks) u
            ∙ accepted_locked (first (code_number ws n₀ (length l)) loaded.answer.number) (blank ns os) ls _ m;
        answers = equal (first (code_number ws n₀ (length l)) loaded.answer.number) 0 _ l m v;
        scratch = λ b. absurd (b refl);
        demand = λ b. demand_met _ h (decode t ws) l' _ (after_load file ns os ls y (decode t ws)) u v;
      }
