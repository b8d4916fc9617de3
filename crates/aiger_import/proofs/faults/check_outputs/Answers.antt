-- `faults::check_outputs` meets its contract. The invariant: the lines passed have no fault. From the laws on lines tested in a row.
use mathlib.Core.Path.{◌≡◌, refl, ap, ◌∙◌}
use mathlib.Core.List.{List}
use Prim.Native.Nat.{ℕ, ◌+◌}
use native.Mathlib.Omega.{arith}
use Rattle.file_checks.proofs.Checked.{rest}
use Rattle.graph.proofs.Answers.{ends_row}
use Rattle.graph.proofs.Tests.{none}
use Rattle.aiger.specs.Import.{output_line_number, output_lines_number, gate_lines_number}
use Rattle.aiger_import.proofs.Tested.{check_start, check_fault, check_more}
use Rattle.aiger_import.proofs.faults.check_outputs.Goals as goal
use Rattle.aiger_import.proofs.faults.check_outputs.Goals.{In-loop-j}
use Rattle.aiger_import.proofs.faults.check_outputs.Invariants.{at}

-- the fault of output j

-- its line is that at the front

here : (c : In-loop-j) → let a = c.args in
    output_line_number c.loop-j.s.now (a.sizes.inputs + 1 + a.sizes.nodes) ≡ at a.rest.now (a.sizes.inputs + 1 + a.sizes.nodes) c.loop-j.j
here c = let a = c.args in ap (λ (l : List ℕ). output_line_number l (a.sizes.inputs + 1 + a.sizes.nodes)) c.loop-j.invariant.0.place

pub loop-j-init : goal.loop-j-init
loop-j-init c = (check_start _ _, omega arith)

pub returns-in_err-size : goal.returns-in_err-size
unfolding output_lines_number
returns-in_err-size c = ends_row _ _ _ _ c.from_residual.ensures.1 (check_fault _ _ _ _ _ c.loop-j.invariant.0 _ _ (here (goal.at.returns-in_err-size c).In-loop-j) _ _ c.in_err-size.ensures c.loop-j-test.true)

pub slice_bounds-s-count : goal.slice_bounds-s-count
slice_bounds-s-count c = (c.in_ok-size.ensures.taken _ refl).within

pub slice_bounds-s-start : goal.slice_bounds-s-start
slice_bounds-s-start c = omega (arith, (c.in_ok-size.ensures.taken _ refl).within)

pub loop-j-preserved : goal.loop-j-preserved
loop-j-preserved c = (
  check_more _ _ _ _ _ c.loop-j.invariant.0 _ _ (here (goal.at.loop-j-preserved c).In-loop-j) _ _ _ c.in_ok-size.ensures (rest c.in_ok-size.size c.loop-j.s.now) (omega arith),
  omega arith,
)

pub returns : goal.returns
unfolding output_lines_number
returns c =
    let i = c.loop-j.invariant in
    let a = c.args in
    let e : c.loop-j.j ≡ a.sizes.outputs = omega arith in
    none _ _ (rw e at i.0.fine) (c.check_gates.ensures ∙ ap (λ (t : List ℕ). gate_lines_number t a.sizes.nodes (a.sizes.inputs + 1)) (rw e at i.0.place))
