-- `settled_by` meets its contract: both sums are differences of counts. From the laws of differences.
use mathlib.Core.List.{[], ◌∷◌}
use Prim.Native.Nat.{◌+◌}
use native.Mathlib.Omega.{arith}
use Rattle.graph.proofs.Difference.{read_back}
use Rattle.settling.proofs.Answering.{same_gained}
use Rattle.settling.proofs.settled_by.Goals as goal

pub returns : goal.returns
returns c =
    let f = c.args.figures in
    let p = c.requires in
    same_gained (f.rounds ∷ f.before ∷ f.after ∷ [])
    (read_back (f.before + f.later) (f.after + f.odd) (omega (arith, p.few, p.few_after)) (omega (arith, p.few, p.few_after)) c.less-own.result c.less-own.ensures)
    (read_back f.odd f.later (omega (arith, p.few)) (omega (arith, p.few_after)) c.less-others.result c.less-others.ensures)
