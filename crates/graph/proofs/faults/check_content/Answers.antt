-- `check_content` meets its contract: the first fault of literals and locks. From its callees' contracts.
use Rattle.std.proofs.Common.{sym}
use Rattle.graph.specs.Admission.{content_number}
use Rattle.graph.proofs.Admit.{tables_are}
use Rattle.graph.proofs.Answers.{ends_row}
use Rattle.graph.proofs.Tests.{none}
use Rattle.graph.proofs.faults.check_content.Goals as goal

pub check_literals-requires : goal.check_literals-requires
check_literals-requires c =
    let r = tables_are _ _ c.requires in
    (r.few_inputs, r.few_nodes, r.few_outputs, r.long_nodes, r.long_outputs)

pub returns-in_err-check_literals : goal.returns-in_err-check_literals
unfolding content_number
returns-in_err-check_literals c = ends_row _ _ _ _ c.from_residual.ensures.1 c.in_err-check_literals.ensures

pub check_locks-requires : goal.check_locks-requires
check_locks-requires c = (tables_are _ _ c.requires).enough_locks

pub returns : goal.returns
unfolding content_number
returns c = none _ _ (sym c.in_ok-check_literals.ensures) c.check_locks.ensures
