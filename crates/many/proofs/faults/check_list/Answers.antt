-- `check_list` meets its contract: no entry passed is refused. From the laws on the first fault of several.
use Rattle.std.proofs.Common.{◌≡◌, List, ℕ, ◌+◌, length, refl, sym, ap, ◌∙◌, arith}
use Rattle.std.proofs.lemmas.Result.{err_from_is_err_and}
use Rattle.graph.specs.Finite.{first_of}
use Rattle.graph.specs.Graph.{graph_of}
use Rattle.graph.specs.Tables.{lent_table}
use Rattle.graph.proofs.Answers.{number_some}
use Rattle.graph.proofs.Steps.{stays, one_further}
use Rattle.many.specs.Many.{entry_number, list_number}
use Rattle.many.proofs.faults.check_list.Goals as goal

pub loop-j-init : goal.loop-j-init
unfolding first_of
loop-j-init c = (omega arith, (λ o os. refl))

pub check_entry-requires : goal.check_entry-requires
check_entry-requires c = (c.requires.0, c.loop-j-test.true, c.requires.1)

pub returns-in_err-check_entry : goal.returns-in_err-check_entry
unfolding list_number
returns-in_err-check_entry c =
    let p = err_from_is_err_and c.from_residual.result c.from_residual.ensures.1 in
    λ o os.
    let e = one_further c.loop-j.j _ _ (c.loop-j.invariant.1 o os) (c.in_err-check_entry.ensures o os) in
    rw (p.1, p.2) (e ∙ sym (stays (c.loop-j.j + 1) _ _ (λ z. number_some c.in_err-check_entry.field-0.0 (e ∙ z)) (omega (arith, c.loop-j-test.true))))

pub loop-j-preserved : goal.loop-j-preserved
loop-j-preserved c =
    (omega (arith, c.loop-j-test.true), (λ o os. sym (one_further c.loop-j.j _ _ (c.loop-j.invariant.1 o os) (c.in_ok-check_entry.ensures o os))))

pub returns : goal.returns
unfolding list_number
returns c =
    let a = c.args in
    let e : c.loop-j.j ≡ length a.list.now = omega (arith, c.loop-j-test.false, c.loop-j.invariant.0) in
    λ o os. sym (c.loop-j.invariant.1 o os) ∙ ap (λ (n : ℕ). first_of n (entry_number (graph_of a.inputs a.nodes o (lent_table a.node_table.now) os) a.locks.now a.list.now a.bytes.now)) e
