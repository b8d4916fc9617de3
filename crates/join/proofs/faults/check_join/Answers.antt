-- `check_join` meets its contract: the first of the faults that is there. From its callees' contracts.
use mathlib.Core.Path.{refl, sym}
use Prim.Native.Nat.{ℕ}
use native.Mathlib.Omega.{arith}
use Rattle.graph.specs.Graph.{Graph}
use Rattle.graph.proofs.Admit.{admitted}
use Rattle.graph.proofs.Answers.{ends_row}
use Rattle.graph.proofs.Tests.{fault, none, equal, unequal}
use Rattle.join.specs.Join.{join_number}
use Rattle.join.proofs.faults.check_join.Goals as goal
use Rattle.graph.specs.Tables.{lent_graph}

pub returns-in_err-check_admission : goal.returns-in_err-check_admission
unfolding join_number
returns-in_err-check_admission c = ends_row _ _ _ _ c.from_residual.ensures.1 c.in_err-check_admission.ensures

pub returns-in_err-check_admission-2 : goal.returns-in_err-check_admission-2
unfolding join_number
returns-in_err-check_admission-2 c =
    none _ _ (sym c.in_ok-check_admission.ensures) (ends_row _ _ _ _ c.from_residual-in_err-check_admission-2.ensures.1 c.in_err-check_admission-2.ensures)

pub returns-then-first-second : goal.returns-then-first-second
unfolding join_number
returns-then-first-second c =
    none _ _ (sym c.in_ok-check_admission.ensures)
    (none _ _ (sym c.in_ok-check_admission-2.ensures)
    (let e = unequal {A = ℕ} {k = 19} _ _ 0 19 c.if-first-second.true refl in fault _ _ e (λ z. omega arith)))

pub overflow_add-first : goal.overflow_add-first
overflow_add-first c =
    let a = c.args in
    let g : Graph = lent_graph a.first.now in
    let h : Graph = lent_graph a.second.now in
    omega (
      arith,
      (admitted g a.first.now.locks.now (sym c.in_ok-check_admission.ensures)).few_nodes,
      (admitted h a.second.now.locks.now (sym c.in_ok-check_admission-2.ensures)).few_nodes,
    )

pub returns : goal.returns
unfolding join_number
returns c =
    none _ _ (sym c.in_ok-check_admission.ensures)
    (none _ _ (sym c.in_ok-check_admission-2.ensures)
    (none _ _ (sym (equal _ _ _ _ c.if-first-second.false refl)) c.check_room.ensures))
