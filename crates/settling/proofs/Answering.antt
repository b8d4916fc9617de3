-- What the settling of an admitted graph and a refusal come to is the call's definition. From the laws on answers and admission.
use mathlib.Core.Path.{◌≡◌, sym, ap, ◌∙◌}
use mathlib.Core.List.{List, [], ◌∷◌}
use Prim.Native.Nat.{ℕ, ◌+◌, ◌*◌, ◌≤◌}
use lib.IntN.{ℤ}
use Rattle.graph.specs.Graph.{Graph}
use Rattle.graph.specs.Count.{C}
use Rattle.graph.specs.Admission.{Admitted, LockBytes}
use Rattle.std.specs.Prelude.{Result}
use Rattle.std.specs.Result.{IsErrAnd}
use Rattle.std.proofs.lemmas.Result.{err_from_is_err_and}
use Rattle.graph.specs.Answer.{Answer, number_of, answer_by, gained, outcome}
use Rattle.graph.specs.declared.Refusal.{Refusal}
use Rattle.graph.specs.Finite.{difference}
use Rattle.graph.proofs.DifferenceSum.{part_by}
use Rattle.graph.proofs.Tests.{both, off}
use Rattle.graph.proofs.Admit.{admitted, locks_admitted}
use Rattle.graph.proofs.Answers.{number_some, refused_outcome, accepted_outcome}
use Rattle.moves.specs.Call.{scratch_fault}
use Rattle.state.specs.State.{stands}
use Rattle.rounds.specs.Round.{Progress}
use Rattle.rounds.specs.Settle.{settle, settled, settle_number, settle_call}
use Rattle.rounds.proofs.Rounds.{settle_ended}
use Rattle.settling.specs.Phase.{AllRounds, SettledTo, figured}
use Rattle.settling.specs.declared.all.Figures.{Figures}
use Rattle.settling.specs.declared.all.RoundsMade.{RoundsMade}

pub passed : (g : Graph) (ls : List ℕ) (s : ℕ) → settle_number g ls s ≡ 0 → Admitted g × (8 * g.N ≤ s) × LockBytes g.N ls
unfolding settle_number scratch_fault
passed g ls s e = let b = both _ _ e in (admitted g ls b.0, (off s (8 * g.N) 7 0 b.1).0, locks_admitted g ls b.0)

pub settled_to : (ls : List ℕ) (g : Graph) (sc sc' : List ℕ) (h : Graph) (b : ℕ) (m : RoundsMade) → stands g sc ≡ g → AllRounds ls g sc sc' m
    → h ≡ stands g sc' → b ≡ C g → SettledTo ls g h (record { rounds = m.rounds; before = b; after = m.tally.count; odd = m.tally.before; later = m.tally.after })
settled_to ls g sc sc' h b m q r w f =
    let x : (settle ls g).made ≡ (settle ls (stands g sc)).made = ap (λ (y : Graph). (settle ls y).made) (sym q) in
    record {
      graph = ap (λ (p : Progress). p.graph) x ∙ r.carried.graph ∙ sym w;
      others = ap (λ (p : Progress). p.others) x ∙ r.carried.others;
      rounds = ap (λ (y : Graph). (settle ls y).rounds) (sym q) ∙ r.rounds;
      before = f;
      after = r.count ∙ ap C (sym w);
      fair = record { few = r.few; few_after = r.few_after };
    }

-- both sums, and the outcome
pub same_gained : (vs : List ℕ) {x y u v : ℤ} → x ≡ u → y ≡ v → gained vs x y ≡ gained vs u v
same_gained vs p q = λ i. gained vs (p i) (q i)

pub settled_outcome : (g h : Graph) (ls : List ℕ) (s : ℕ) (r : Figures) → SettledTo ls g h r → settle_number g ls s ≡ 0 → (a : Answer) → a ≡ figured r → outcome a h ≡ settle_call g ls s
unfolding settle_call
settled_outcome g h ls s r t z a e =
    let k = passed g ls s z in
    let n = settle_ended ls g k.0 in
    let p = (settle ls g).made in
    let own : p.own ≡ difference (C g + r.later) (C p.graph + r.odd) = part_by p.own p.others (C g) (C p.graph) r.odd r.later n.sums t.others in
    rw (e, t.before, t.after, ← t.graph, ← t.rounds)
    (ap (λ (x : Answer). outcome x p.graph) (same_gained ((settle ls g).rounds ∷ C g ∷ C p.graph ∷ []) (sym own) (sym t.others))
    ∙ accepted_outcome (settle_number g ls s) g (settled g (settle ls g)) z)

pub settled_number : (r : Figures) (a : Answer) → a ≡ figured r → a.number ≡ 0
settled_number r a e = ap (λ (x : Answer). x.number) e

-- a check by whose refusal settling ends
pub ends_settling : {T : Type 0} (f : T → Answer) (r : Result T Refusal) (x : Refusal) (g : Graph) (ls : List ℕ) (s : ℕ) → IsErrAnd r (λ y. y ≡ x) → number_of x ≡ settle_number g ls s → outcome (answer_by f r) g ≡ settle_call g ls s
unfolding settle_call
ends_settling f r x g ls s e n =
    let p = err_from_is_err_and r e in
    rw (p.1, p.2) (refused_outcome (number_of x) (settle_number g ls s) g _ n (λ z. number_some x (n ∙ z)))
