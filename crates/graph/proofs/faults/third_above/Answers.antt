-- `third_above` meets its contract: one more than the mark is 0. From that law.
use Rattle.std.proofs.Common.{◌+◌, ◌∙◌, arith}
use Rattle.graph.proofs.Checked.{third_by_lem}
use Rattle.graph.proofs.faults.third_above.Goals as goal

pub returns : goal.returns
returns c =
    let a = c.args in
    (c.above.ensures.0 ∙ third_by_lem a.x c.wrapping_add_u32.result (a.last + 1) (omega arith) c.wrapping_add_u32.ensures.value, c.above.ensures.1)
