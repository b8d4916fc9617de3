-- `copy_indices` meets its contract. The invariant: the places so far are copied. From the laws of a sweep.
use Rattle.std.proofs.Common.{◌≡◌, length, get_or, ap, ◌∙◌, arith}
use Rattle.graph.proofs.Copied.{copy_next}
use Rattle.graph.proofs.Sweep.{swept, length_swept, swept_zero, swept_front}
use Rattle.graph.proofs.table.copy_indices.Goals as goal

pub loop-j-init : goal.loop-j-init
loop-j-init c = (omega arith, swept_zero _ _)

pub bounds-to-j : goal.bounds-to-j
bounds-to-j c =
    let l = c.loop-j in
    let e = ap length l.invariant.1 ∙ length_swept _ _ _ in
    omega arith

pub loop-j-preserved : goal.loop-j-preserved
loop-j-preserved c =
    let l = c.loop-j in
    let a = c.args in
    (omega arith, copy_next (λ i. get_or a.table.now i 0) a.to.now _ l.j (omega arith) l.invariant.1)

pub shape_of-to : goal.shape_of-to
shape_of-to c = ap length c.loop-j.invariant.1 ∙ length_swept _ _ _

pub returns : goal.returns
returns c =
    let l = c.loop-j in
    let a = c.args in
    let e : l.j ≡ a.n = omega arith in
    l.invariant.1 ∙ ap (swept (λ i. get_or a.table.now i 0) a.to.now) e ∙ swept_front (λ i. get_or a.table.now i 0) a.to.now a.n (omega arith)
