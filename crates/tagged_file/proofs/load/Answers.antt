-- `load` meets its contract: the check pass decides, and the fill pass does what the definition says. From the laws of both passes.
use native.Mathlib.Omega.{arith}
use mathlib.Core.Path.{◌≡◌, sym, ap, ◌∙◌}
use Prim.Native.Nat.{◌+◌}
use lib.ListN.{length}
use Rattle.file_checks.proofs.Checked.{rest}
use Rattle.file_checks.specs.File.{file_number, lock_indices}
use Rattle.graph.specs.Literals.{literals, held}
use Rattle.tagged_file.specs.Inner.{locked_at}
use Rattle.tagged_file.proofs.Whole.{Passed, passed, nodes_asked, outputs_asked, locks_asked, load_refused, load_accepted}
use Rattle.tagged_file.proofs.load.Goals as goal
use Rattle.tagged_file.proofs.load.Goals.{In_ok-check_file}

-- what the check pass has shown, by what the tables hold
number : (c : In_ok-check_file) → let a = c.args in file_number a.file.now (held (literals a.node_table.now a.node_bits.now)) (held (literals a.output_table.now a.output_bits.now)) (length a.locks.now) ≡ 0
number c = sym (rw (c.room_of-2.ensures, c.room_of.ensures) at c.in_ok-check_file.ensures)

checked : (c : In_ok-check_file) → let a = c.args in Passed a.file.now (held (literals a.node_table.now a.node_bits.now)) (held (literals a.output_table.now a.output_bits.now)) (length a.locks.now)
checked c = passed _ _ _ _ (number c)

pub returns-in_err-check_file : goal.returns-in_err-check_file
returns-in_err-check_file c = load_refused _ _ _ _ _ _ c.from_residual.ensures.1 (rw (c.room_of-2.ensures, c.room_of.ensures) at c.in_err-check_file.ensures)

pub four-inputs-requires : goal.four-inputs-requires
four-inputs-requires c = omega (arith, (checked (goal.at.four-inputs-requires c).In_ok-check_file).head)

pub four-nodes-requires : goal.four-nodes-requires
four-nodes-requires c = omega (arith, (checked (goal.at.four-nodes-requires c).In_ok-check_file).head)

pub four-outputs-requires : goal.four-outputs-requires
four-outputs-requires c = omega (arith, (checked (goal.at.four-outputs-requires c).In_ok-check_file).head)

pub slice_bounds-fill_nodes-count : goal.slice_bounds-fill_nodes-count
slice_bounds-fill_nodes-count c = omega (arith, (checked (goal.at.slice_bounds-fill_nodes-count c).In_ok-check_file).head)

pub slice_bounds-fill_nodes-start : goal.slice_bounds-fill_nodes-start
slice_bounds-fill_nodes-start c = omega (arith, (checked (goal.at.slice_bounds-fill_nodes-start c).In_ok-check_file).head)

pub fill_nodes-after-requires : goal.fill_nodes-after-requires
fill_nodes-after-requires c =
    let q = nodes_asked _ _ _ _ (checked (goal.at.fill_nodes-after-requires c).In_ok-check_file) _ _ c.four-nodes.ensures (rest 15 c.args.file.now) in
    record { nodes = q.0; nodes_bound = (q.1, q.2) }

pub fill_outputs-rest-requires : goal.fill_outputs-rest-requires
fill_outputs-rest-requires c =
    let q = outputs_asked _ _ _ _ (checked (goal.at.fill_outputs-rest-requires c).In_ok-check_file) _ _ c.four-nodes.ensures (rest 15 c.args.file.now) _ _ c.four-outputs.ensures c.fill_nodes-after.ensures.result_value in
    record { outputs = q.0; outputs_bound = (q.1, q.2) }

pub free-requires : goal.free-requires
free-requires c =
    omega (arith, c.four-nodes.ensures, (checked (goal.at.free-requires c).In_ok-check_file).head.rooms.enough_locks)

pub overflow_add-inputs : goal.overflow_add-inputs
overflow_add-inputs c =
    omega (arith, c.four-inputs.ensures, (checked (goal.at.overflow_add-inputs c).In_ok-check_file).head.rooms.few_inputs)

pub fill_locks-requires : goal.fill_locks-requires
fill_locks-requires c =
    locks_asked _ _ _ _ (checked (goal.at.fill_locks-requires c).In_ok-check_file) _ _ c.four-nodes.ensures (rest 15 c.args.file.now) _ _ c.four-outputs.ensures c.fill_nodes-after.ensures.result_value _ _ _ c.four-inputs.ensures
    c.fill_outputs-rest.ensures.result_value c.free.auto.locks

pub returns : goal.returns
returns c =
    let s = c.args.file.now in
    load_accepted s _ _ _ (number (goal.at.returns c).In_ok-check_file) _ _ _ _ _ _ _ _ _ c.four-inputs.ensures c.four-nodes.ensures c.four-outputs.ensures (rest 15 s)
    c.fill_nodes-after.ensures.result_value c.fill_outputs-rest.ensures.result_value c.fill_nodes-after.ensures.node_bits_after c.fill_outputs-rest.ensures.output_bits_after
    (c.fill_locks.ensures ∙ ap (locked_at (c.four-inputs.result + 1) (lock_indices c.fill_outputs-rest.result.now)) c.free.ensures)
