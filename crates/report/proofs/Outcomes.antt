-- What is printed of an outcome: the text of a settled graph, or a refusal's line; and what a settled graph has. From the laws on
-- tests and on admission.
use mathlib.Core.Path.{◌≡◌, refl, sym, ap, ◌∙◌}
use mathlib.Core.List.{List, [], ◌∷◌, ◌++◌}
use Prim.Native.Nat.{ℕ, zero, suc, ◌≤◌}
use native.Mathlib.Omega.{arith}
use lib.IntN.{ℤ}
use lib.ListN.{length, drop}
use lib.Seq.{sets}
use Rattle.graph.specs.Graph.{Graph}
use Rattle.graph.specs.Admission.{Admitted}
use Rattle.graph.specs.declared.Refusal.{Refusal}
use Rattle.graph.specs.Literals.{held}
use Rattle.graph.specs.Answer.{Answer, accepted, refused, gained, number_of, Outcome, outcome, guarded, LockedOutcome, locked_outcome}
use Rattle.graph.proofs.Tests.{equal, unequal}
use Rattle.graph.proofs.Answers.{number_some, accepted_outcome}
use Rattle.tagged_file.proofs.Stores.{front}
use Rattle.rounds.specs.Settle.{settle, settle_number, settle_call}
use Rattle.rounds.proofs.Rounds.{settle_ended}
use Rattle.settling.proofs.Answering.{passed}
use Rattle.std.specs.Prelude.{Result}
use Rattle.std.specs.Result.{IsErrAnd}
use Rattle.std.proofs.lemmas.Result.{err_from_is_err_and}
use Rattle.report.specs.declared.RoomFault.{RoomFault}
use Rattle.report.specs.declared.RoomFault.TheVariants.{Scratch, Buffer}
use Rattle.report.specs.Report.{settled_text, text_of, settled_with, then_settle, settled_file, room_number, reported_answer, report_number, ReportOutcome, report_outcome, printed, report_call, refused_text, line1}

-- a text at the front of the buffer
printed_is : (o : LockedOutcome) (b b' text : List ℕ) (r : ℕ) → text_of o ≡ text → r ≡ length text → r ≤ length b → b' ≡ sets b 0 text
    → report_outcome (accepted (r ∷ [])) o.graph.nodes o.graph.outputs o.locks b' ≡ printed o b
unfolding printed
printed_is o b b' text r et er l eb =
    let e : b' ≡ text ++ drop (length text) b = eb ∙ front text b (length text) refl (omega arith) in
    rw (et, er, e) refl

module _ (o : LockedOutcome) (g : Graph) (ls b b' : List ℕ) (r : ℕ) where
  pub settled_printed : (rounds before after : ℕ) (x y : ℤ) → locked_outcome (gained (rounds ∷ before ∷ after ∷ []) x y) g ls ≡ o
      → (r ≡ length (settled_text rounds before after g)) × (r ≤ length b) × (b' ≡ sets b 0 (settled_text rounds before after g))
      → report_outcome (accepted (r ∷ [])) g.nodes g.outputs ls b' ≡ printed o b
  unfolding text_of
  settled_printed rounds before after x y e h =
      let s : LockedOutcome = locked_outcome (gained (rounds ∷ before ∷ after ∷ []) x y) g ls in
      printed_is s b b' (settled_text rounds before after g) r (sym (equal 0 0 _ _ refl refl)) h.0 h.1 h.2
      ∙ ap (λ (x : LockedOutcome). printed x b) e

  pub refused_printed : (q : Refusal) → locked_outcome (refused (number_of q)) g ls ≡ o
      → (r ≡ length (line1 refused_text (number_of q))) × (r ≤ length b) × (b' ≡ sets b 0 (line1 refused_text (number_of q)))
      → report_outcome (accepted (r ∷ [])) g.nodes g.outputs ls b' ≡ printed o b
  unfolding text_of
  refused_printed q e h =
      let s : LockedOutcome = locked_outcome (refused (number_of q)) g ls in
      printed_is s b b' (line1 refused_text (number_of q)) r (sym (unequal (number_of q) 0 _ _ (number_some q) refl)) h.0 h.1 h.2
      ∙ ap (λ (x : LockedOutcome). printed x b) e

-- a file that is loaded is settled, and a refused one is left at that
pub loaded_then : (l : LockedOutcome) (vs : List ℕ) (g : Graph) (ls : List ℕ) (s : ℕ) → locked_outcome (accepted vs) g ls ≡ l
    → settled_with g ls s ≡ then_settle l s
unfolding then_settle
loaded_then l vs g ls s e = equal 0 0 _ _ refl refl ∙ ap (λ (x : LockedOutcome). then_settle x s) e

pub refused_then : (l : LockedOutcome) (q : Refusal) (g : Graph) (ls : List ℕ) (s : ℕ) → locked_outcome (refused (number_of q)) g ls ≡ l
    → locked_outcome (refused (number_of q)) g ls ≡ then_settle l s
unfolding then_settle
refused_then l q g ls s e = unequal (number_of q) 0 _ _ (number_some q) refl ∙ ap (λ (x : LockedOutcome). then_settle x s) e

-- a call that is accepted met no fault, and a graph that is settled is admitted
guarded_zero : (k : ℕ) (g : Graph) (o : Outcome) → (guarded k g o).answer.number ≡ 0 → k ≡ 0
unfolding guarded
guarded_zero zero g o e = refl
guarded_zero (suc k) g o e = absurd (omega arith)

pub settled_admitted : (g h : Graph) (ls : List ℕ) (s : ℕ) (vs : List ℕ) (x y : ℤ) → locked_outcome (gained vs x y) h ls ≡ settled_with g ls s
    → Admitted h
unfolding settle_call
settled_admitted g h ls s vs x y e =
    let z = guarded_zero (settle_number g ls s) g _ (sym (ap (λ (o : LockedOutcome). o.answer.number) e)) in
    let p = passed g ls s z in
    let q : (settle ls g).made.graph ≡ h = ap (λ (o : Outcome). o.graph) (accepted_outcome (settle_number g ls s) g _ z) ∙ sym (ap (λ (o : LockedOutcome). o.graph) e) in
    rw q at (settle_ended ls g p.0).keeps.stays.admitted

-- what settling leaves, with the locks beside it
pub with_locks : (a : Answer) (g : Graph) (ls : List ℕ) (o : Outcome) → outcome a g ≡ o → locked_outcome a g ls ≡ locked_outcome o.answer o.graph ls
with_locks a g ls o h = ap (λ (z : Outcome). locked_outcome z.answer z.graph ls) h

-- a report that the lengths refuse, by a number that is not 0
pub some_room : (x : RoomFault) → room_number x ≡ 0 → ⊥
some_room Scratch e = omega arith
some_room Buffer e = omega arith

pub ends_report : (q : Result ℕ RoomFault) (x : RoomFault) (file ns os ls : List ℕ) (s : ℕ) (b : List ℕ) → IsErrAnd q (λ y. y ≡ x)
    → room_number x ≡ report_number (held ns) (held os) s (length b) → report_outcome (reported_answer q) ns os ls b ≡ report_call file ns os ls s b
unfolding report_call
ends_report q x file ns os ls s b e n =
    let p = err_from_is_err_and q e in
    rw (p.1, p.2) (unequal _ 0 _ _ (λ z. some_room x (n ∙ z)) (ap (λ (i : ℕ). report_outcome (refused i) ns os ls b) n))

pub report_made : (r : ReportOutcome) (file ns os ls : List ℕ) (s : ℕ) (b : List ℕ) → report_number (held ns) (held os) s (length b) ≡ 0
    → r ≡ printed (settled_file file ns os ls s) b → r ≡ report_call file ns os ls s b
unfolding report_call
report_made r file ns os ls s b z e = equal _ 0 _ _ z e
