-- `faults::check_gates` meets its contract. The invariant: the lines passed have no fault. From the laws on lines tested in a row.
use mathlib.Core.Path.{◌≡◌, refl, sym, ap}
use mathlib.Core.List.{List}
use Prim.Native.Nat.{ℕ, ◌+◌}
use native.Mathlib.Omega.{arith}
use Rattle.file_checks.proofs.Checked.{rest}
use Rattle.aiger.specs.Import.{gate_line_number, gate_lines_number}
use Rattle.aiger_import.proofs.Tested.{err_number, check_start, check_fault, check_more}
use Rattle.aiger_import.proofs.faults.check_gates.Goals as goal
use Rattle.aiger_import.proofs.faults.check_gates.Goals.{In-loop-k}
use Rattle.aiger_import.proofs.faults.check_gates.Invariants.{at}

-- the fault of gate k

-- its line is that at the front

here : (c : In-loop-k) → let a = c.args in
    gate_line_number c.loop-k.s.now (a.start + c.loop-k.k) ≡ at a.rest.now a.start c.loop-k.k
here c = let a = c.args in ap (λ (l : List ℕ). gate_line_number l (a.start + c.loop-k.k)) c.loop-k.invariant.0.place

pub loop-k-init : goal.loop-k-init
loop-k-init c = (check_start _ _, omega arith)

pub returns-in_err-size : goal.returns-in_err-size
unfolding gate_lines_number
returns-in_err-size c = err_number _ _ _ c.from_residual.ensures.1 (check_fault _ _ _ _ _ c.loop-k.invariant.0 _ _ (here (goal.at.returns-in_err-size c).In-loop-k) _ _ c.in_err-size.ensures c.loop-k-test.true)

pub slice_bounds-s-count : goal.slice_bounds-s-count
slice_bounds-s-count c = (c.in_ok-size.ensures.taken _ refl).within

pub slice_bounds-s-start : goal.slice_bounds-s-start
slice_bounds-s-start c = omega (arith, (c.in_ok-size.ensures.taken _ refl).within)

pub loop-k-preserved : goal.loop-k-preserved
loop-k-preserved c = (
  check_more _ _ _ _ _ c.loop-k.invariant.0 _ _ (here (goal.at.loop-k-preserved c).In-loop-k) _ _ _ c.in_ok-size.ensures (rest c.in_ok-size.size c.loop-k.s.now) (omega arith),
  omega arith,
)

pub returns : goal.returns
unfolding gate_lines_number
returns c =
    let i = c.loop-k.invariant in
    let e : c.loop-k.k ≡ c.args.nodes = omega arith in
    sym (rw e at i.0.fine)
