-- `field` hands back the payload of an accepted field, and an empty part of a refused one. From what an accepted field has.
use native.Mathlib.Omega.{arith}
use Rattle.file_checks.proofs.Checked.{due_is, part}
use Rattle.graph.proofs.Tests.{equal, unequal}
use Rattle.graph.proofs.Answers.{number_some}
use mathlib.Core.Path.{refl, sym, ◌∙◌}
use Rattle.file_checks.specs.File.{field_payload}
use Rattle.tagged_file.proofs.field.Goals as goal

pub slice_bounds-result-end : goal.slice_bounds-result-end
slice_bounds-result-end c = omega (arith, due_is 1 6 c.args.bytes.now (sym c.in-Ok.ensures))

pub returns-in-Err : goal.returns-in-Err
unfolding field_payload
returns-in-Err c = unequal _ _ _ _ (λ e. number_some _ (c.in-Err.ensures ∙ e)) refl

pub two-n-requires : goal.two-n-requires
two-n-requires c = omega (arith, due_is 1 6 c.args.bytes.now (sym c.in-Ok.ensures))

pub returns-in-Ok : goal.returns-in-Ok
unfolding field_payload
returns-in-Ok c = equal _ _ _ _ (sym c.in-Ok.ensures) (part c.args.bytes.now c.two-n.result (omega arith))
