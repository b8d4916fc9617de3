-- The text that a report answers lies within the buffer. From the laws on tests.
use mathlib.Core.Path.{◌≡◌, refl, sym, ap, ◌∙◌}
use mathlib.Core.Logic.{⊎_elim, ◌≢◌}
use mathlib.Core.List.{List, [], ◌∷◌, ◌++◌}
use Prim.Native.Nat.{ℕ, ◌≤◌}
use native.Mathlib.Omega.{arith}
use lib.ListN.{length, get_or, drop, length-append}
use Rattle.graph.specs.Literals.{held}
use Rattle.graph.specs.Answer.{accepted, LockedOutcome}
use Rattle.graph.proofs.Cases.{eq_or_ne}
use Rattle.graph.proofs.Tests.{equal, unequal}
use Rattle.report.specs.Report.{text_of, settled_file, report_number, ReportOutcome, report_outcome, printed, report_call}

text_within : (n : ℕ) (ns os ls b b' : List ℕ) (o : LockedOutcome) → report_outcome (accepted (n ∷ [])) ns os ls b' ≡ printed o b → n ≤ length b'
unfolding printed
text_within n ns os ls b b' o e =
    let v : n ≡ length (text_of o) = ap (λ (r : ReportOutcome). get_or r.answer.values 0 0) e in
    let l : length b' ≡ length (text_of o ++ drop (length (text_of o)) b) = ap (λ (r : ReportOutcome). length r.buffer) e in
    omega (arith, length-append (text_of o) (drop (length (text_of o)) b))

pub within : (n : ℕ) (file ns os ls b ns' os' ls' b' : List ℕ) (s : ℕ) → report_outcome (accepted (n ∷ [])) ns' os' ls' b' ≡ report_call file ns os ls s b → n ≤ length b'
unfolding report_call
within n file ns os ls b ns' os' ls' b' s t =
    let k : ℕ = report_number (held ns) (held os) s (length b) in
    ⊎_elim
    (λ (z : k ≡ 0). text_within n ns' os' ls' b b' (settled_file file ns os ls s) (t ∙ sym (equal k 0 _ _ z refl)))
    (λ (z : k ≢ 0). absurd (z (sym (ap (λ (r : ReportOutcome). r.answer.number) (t ∙ sym (unequal k 0 _ _ z refl))))))
    (eq_or_ne k 0)
