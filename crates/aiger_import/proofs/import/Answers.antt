-- `import` meets its contract: the check pass decides, and the fill pass does what the definition says. From the laws of both passes.
use mathlib.Core.List.{List, []}
use mathlib.Core.Path.{refl, sym}
use native.Mathlib.Omega.{arith}
use lib.ListN.{length}
use Prim.Native.Nat.{ℕ}
use Rattle.std.proofs.Common.{Ok}
use Rattle.file_checks.proofs.Checked.{rest}
use Rattle.graph.specs.Literals.{literals, held}
use Rattle.aiger_import.specs.Reading.{HeaderRead}
use Rattle.aiger_import.proofs.Whole.{header_refused, header_rooms, body_refused, inputs_there, outputs_there, gates_there, import_accepted}
use Rattle.aiger_import.proofs.import.Goals as goal
use Rattle.aiger_import.proofs.import.Goals.{In_ok-header, Start}

abbrev ns : Start → List ℕ
ns s = literals s.args.node_table.now s.args.node_bits.now

abbrev os : Start → List ℕ
os s = literals s.args.output_table.now s.args.output_bits.now

-- what the header says, by what the tables hold
header : (c : In_ok-header) → HeaderRead c.args.text.now (held (literals c.args.node_table.now c.args.node_bits.now)) (held (literals c.args.output_table.now c.args.output_bits.now)) (length c.args.locks.now) (Ok c.in_ok-header.header)
header c = rw (c.room_of-2.ensures, c.room_of.ensures) at c.in_ok-header.ensures

pub returns-in_err-header : goal.returns-in_err-header
returns-in_err-header c = header_refused _ _ _ _ _ _ c.from_residual.ensures.1 (rw (c.room_of-2.ensures, c.room_of.ensures) at c.in_err-header.ensures)

pub slice_bounds-body-count : goal.slice_bounds-body-count
slice_bounds-body-count c = (c.in_ok-header.ensures.is _ refl).within

pub slice_bounds-body-start : goal.slice_bounds-body-start
slice_bounds-body-start c = omega (arith, (c.in_ok-header.ensures.is _ refl).within)

pub check_inputs-requires : goal.check_inputs-requires
check_inputs-requires c =
    let s = goal.at.check_inputs-requires c in
    let r = header_rooms _ (ns s.Start) (os s.Start) c.args.locks.now _ (header s.In_ok-header) in
    (r.few_inputs, r.few_nodes)

pub returns-in_err-check_inputs : goal.returns-in_err-check_inputs
returns-in_err-check_inputs c =
    let s = goal.at.returns-in_err-check_inputs c in
    body_refused _ (ns s.Start) (os s.Start) c.args.locks.now _ (header s.In_ok-header) _ (rest c.in_ok-header.header.size c.args.text.now) _ _
    c.from_residual-in_err-check_inputs.ensures.1 c.in_err-check_inputs.ensures

pub after_ones-after-requires : goal.after_ones-after-requires
after_ones-after-requires c =
    let s = goal.at.after_ones-after-requires c in
    inputs_there _ (ns s.Start) (os s.Start) c.args.locks.now _ (header s.In_ok-header) _ (rest c.in_ok-header.header.size c.args.text.now) (sym c.in_ok-check_inputs.ensures)

pub fill_outputs-gates-requires : goal.fill_outputs-gates-requires
fill_outputs-gates-requires c =
    let s = goal.at.fill_outputs-gates-requires c in (
      outputs_there _ (ns s.Start) (os s.Start) c.args.locks.now _ (header s.In_ok-header) _ (rest c.in_ok-header.header.size c.args.text.now) (sym c.in_ok-check_inputs.ensures) _ [] c.after_ones-after.ensures,
      (header_rooms _ (ns s.Start) (os s.Start) c.args.locks.now _ (header s.In_ok-header)).long_outputs,
    )

pub fill_gates-requires : goal.fill_gates-requires
fill_gates-requires c =
    let s = goal.at.fill_gates-requires c in
    let r = header_rooms _ (ns s.Start) (os s.Start) c.args.locks.now _ (header s.In_ok-header) in (
      gates_there _ (ns s.Start) (os s.Start) c.args.locks.now _ (header s.In_ok-header) _ (rest c.in_ok-header.header.size c.args.text.now) (sym c.in_ok-check_inputs.ensures) _ _ c.after_ones-after.ensures
          c.fill_outputs-gates.ensures.result_value,
      r.few_nodes,
      r.long_nodes,
    )

pub free-requires : goal.free-requires
free-requires c =
    let s = goal.at.free-requires c in
    (header_rooms _ (ns s.Start) (os s.Start) c.args.locks.now _ (header s.In_ok-header)).enough_locks

pub returns : goal.returns
returns c =
    let s = goal.at.returns c in
    import_accepted _ (ns s.Start) (os s.Start) c.args.locks.now _ (header s.In_ok-header) _ (rest c.in_ok-header.header.size c.args.text.now) (sym c.in_ok-check_inputs.ensures) _ _
    c.after_ones-after.ensures c.fill_outputs-gates.ensures.result_value _ _ _ c.fill_gates.ensures c.fill_outputs-gates.ensures.output_bits_after c.free.ensures
