-- `export` meets its contract: the checks decide, and the text goes to the front of the buffer. From the laws on the whole of
-- exporting.
use mathlib.Core.Path.{sym, refl}
use native.Mathlib.Omega.{arith}
use Rattle.aiger_export.proofs.Answered.{export_passed, export_refused, export_accepted}
use Rattle.aiger_export.proofs.export.Goals as goal

pub returns-in_err-circuit : goal.returns-in_err-circuit
returns-in_err-circuit c =
    record { outcome = export_refused _ _ _ _ _ _ c.from_residual.ensures.1 c.in_err-circuit.ensures.number; scratch = λ n. refl }

pub fill_literals-requires : goal.fill_literals-requires
fill_literals-requires c =
    let q = export_passed _ _ _ _ (sym c.in_ok-circuit.ensures.number) in
    rw c.in_ok-circuit.ensures.same q.1

pub put_text-requires : goal.put_text-requires
put_text-requires c =
    let p = export_passed _ _ _ _ (sym c.in_ok-circuit.ensures.number) in
    (rw c.in_ok-circuit.ensures.same (omega (arith, p.1, c.fill_literals.auto)), c.fill_literals.ensures, rw c.in_ok-circuit.ensures.same p.2)

pub returns : goal.returns
returns c =
    let t = rw c.in_ok-circuit.ensures.same at c.put_text.ensures in
    record { outcome = export_accepted _ _ _ _ (sym c.in_ok-circuit.ensures.number) _ _ t.0 t.1; scratch = λ n. absurd (n refl) }
