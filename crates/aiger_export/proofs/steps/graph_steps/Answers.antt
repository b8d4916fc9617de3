-- `graph_steps` meets its contract. From the law that five steps fit.
use Rattle.aiger_export.proofs.Placed.{fit}
use Rattle.aiger_export.proofs.steps.graph_steps.Goals as goal

pub returns : goal.returns
returns c =
    fit _ _ c.step_at.ensures c.step_at-2.ensures c.step_at-3.ensures c.step_at-4.ensures c.step_at-5.ensures
