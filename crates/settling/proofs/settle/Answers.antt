-- `settle` meets its contract: a fault is refused, and an admitted graph with enough scratch is settled.
use mathlib.Core.Path.{refl, sym}
use Rattle.settling.proofs.Answering.{passed, settled_outcome, settled_number, ends_settling}
use Rattle.settling.proofs.settle.Goals as goal

pub returns-in_err-check_settling : goal.returns-in_err-check_settling
returns-in_err-check_settling c =
    record { call = ends_settling _ _ _ _ _ _ c.from_residual.ensures.1 c.in_err-check_settling.ensures; scratch = λ z. refl }

pub settle_admitted-figures-requires : goal.settle_admitted-figures-requires
settle_admitted-figures-requires c = passed _ _ _ (sym c.in_ok-check_settling.ensures)

pub settled_by-requires : goal.settled_by-requires
settled_by-requires c = c.settle_admitted-figures.ensures.fair

pub returns : goal.returns
returns c =
    let e = c.settled_by.ensures in
    record {
      call = settled_outcome _ _ _ _ _ c.settle_admitted-figures.ensures (sym c.in_ok-check_settling.ensures) _ e;
      scratch = λ k. absurd (k (settled_number _ _ e));
    }
