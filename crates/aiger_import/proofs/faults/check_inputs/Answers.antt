-- `faults::check_inputs` meets its contract. The invariant: the lines passed have no fault. From the laws on lines tested in a row.
use mathlib.Core.Path.{◌≡◌, refl, ap, ◌∙◌}
use mathlib.Core.List.{List}
use Prim.Native.Nat.{ℕ, ◌+◌}
use native.Mathlib.Omega.{arith}
use Rattle.file_checks.proofs.Checked.{rest}
use Rattle.graph.specs.Finite.{first}
use Rattle.graph.proofs.Answers.{ends_row}
use Rattle.graph.proofs.Tests.{none}
use Rattle.aiger.proofs.Imported.{skip_add}
use Rattle.aiger.specs.Lines.{skip}
use Rattle.aiger.specs.Import.{input_line_number, input_lines_number, output_lines_number, gate_lines_number, body_number}
use Rattle.aiger_import.proofs.Tested.{check_start, check_fault, check_more}
use Rattle.aiger_import.proofs.faults.check_inputs.Goals as goal
use Rattle.aiger_import.proofs.faults.check_inputs.Goals.{In-loop-k}
use Rattle.aiger_import.proofs.faults.check_inputs.Invariants.{at}

-- the fault of input k

-- its line is that at the front

here : (c : In-loop-k) → let a = c.args in
    input_line_number c.loop-k.s.now c.loop-k.k ≡ at a.rest.now c.loop-k.k
here c = let a = c.args in ap (λ (l : List ℕ). input_line_number l c.loop-k.k) c.loop-k.invariant.0.place

pub loop-k-init : goal.loop-k-init
loop-k-init c = (check_start _ _, omega arith)

pub returns-in_err-size : goal.returns-in_err-size
unfolding body_number input_lines_number
returns-in_err-size c = ends_row _ _ _ _ c.from_residual.ensures.1 (check_fault _ _ _ _ _ c.loop-k.invariant.0 _ _ (here (goal.at.returns-in_err-size c).In-loop-k) _ _ c.in_err-size.ensures c.loop-k-test.true)

pub slice_bounds-s-count : goal.slice_bounds-s-count
slice_bounds-s-count c = (c.in_ok-size.ensures.taken _ refl).within

pub slice_bounds-s-start : goal.slice_bounds-s-start
slice_bounds-s-start c = omega (arith, (c.in_ok-size.ensures.taken _ refl).within)

pub loop-k-preserved : goal.loop-k-preserved
loop-k-preserved c = (
  check_more _ _ _ _ _ c.loop-k.invariant.0 _ _ (here (goal.at.loop-k-preserved c).In-loop-k) _ _ _ c.in_ok-size.ensures (rest c.in_ok-size.size c.loop-k.s.now) (omega arith),
  omega arith,
)

pub returns : goal.returns
unfolding body_number input_lines_number
returns c =
    let a = c.args in
    let i = c.loop-k.invariant in
    let e : c.loop-k.k ≡ a.sizes.inputs = omega arith in
    let p : c.loop-k.s.now ≡ skip a.sizes.inputs a.rest.now = rw e at i.0.place in
    none _ _ (rw e at i.0.fine)
    (c.check_outputs.ensures
    ∙ ap (λ (t : List ℕ). first (output_lines_number t a.sizes.outputs (a.sizes.inputs + 1 + a.sizes.nodes)) (gate_lines_number (skip a.sizes.outputs t) a.sizes.nodes (a.sizes.inputs + 1))) p
    ∙ ap (λ (t : List ℕ). first (output_lines_number (skip a.sizes.inputs a.rest.now) a.sizes.outputs (a.sizes.inputs + 1 + a.sizes.nodes)) (gate_lines_number t a.sizes.nodes (a.sizes.inputs + 1)))
    (skip_add a.sizes.inputs a.sizes.outputs a.rest.now))
