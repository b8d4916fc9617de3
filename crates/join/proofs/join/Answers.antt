-- `join` meets its contract: the tests decide, and what fills the slices does what the definition says. From the laws of the whole.
use mathlib.Core.Path.{◌≡◌, sym}
use Prim.Native.Nat.{ℕ}
use native.Mathlib.Omega.{arith}
use lib.ListN.{length}
use Rattle.graph.specs.Graph.{Graph}
use Rattle.graph.specs.Literals.{held, literals}
use Rattle.graph.proofs.Words.{is_word}
use Rattle.join.specs.Join.{join_number}
use Rattle.join.proofs.Filling.{room_kept}
use Rattle.join.proofs.Whole.{Ready, join_refused, ready, join_accepted}
use Rattle.join.proofs.join.Goals as goal
use Rattle.join.proofs.join.Goals.{In_ok-check_join}
use Rattle.graph.specs.Tables.{lent_graph}

-- after the tests: both graphs, and what they have said

module _ (n : In_ok-check_join) where
  abbrev g : Graph
  g =
      let a = n.args in
      lent_graph a.first.now

  abbrev h : Graph
  h =
      let a = n.args in
      lent_graph a.second.now

  -- what the joined tables hold
  abbrev node_room : ℕ
  node_room = let a = n.args in held (literals a.joined_node_table.now a.joined_node_bits.now)

  abbrev output_room : ℕ
  output_room = let a = n.args in held (literals a.joined_output_table.now a.joined_output_bits.now)

  number : let a = n.args in join_number g a.first.now.locks.now h a.second.now.locks.now node_room output_room (length a.joined_locks.now) ≡ 0
  number = sym (rw (n.room_of-2.ensures, n.room_of.ensures) at n.in_ok-check_join.ensures)

  passed : let a = n.args in Ready g a.first.now.locks.now h a.second.now.locks.now node_room output_room (length a.joined_locks.now)
  passed =
      let a = n.args in
      ready g a.first.now.locks.now h a.second.now.locks.now (literals a.joined_node_table.now a.joined_node_bits.now) (literals a.joined_output_table.now a.joined_output_bits.now) a.joined_locks.now number

pub returns-in_err-check_join : goal.returns-in_err-check_join
returns-in_err-check_join c =
    let a = c.args in
    join_refused (lent_graph a.first.now) _ (lent_graph a.second.now) _ _ _ _ _ _ c.from_residual.ensures.1 (rw (c.room_of-2.ensures, c.room_of.ensures) at c.in_err-check_join.ensures)

pub overflow_add-front : goal.overflow_add-front
overflow_add-front c = omega (arith, (passed (goal.at.overflow_add-front c).In_ok-check_join).meets.few_indices)

pub invariant_of-front : goal.invariant_of-front
invariant_of-front c = record { meets = (passed (goal.at.invariant_of-front c).In_ok-check_join).meets }

pub copy_nodes-got-requires : goal.copy_nodes-got-requires
copy_nodes-got-requires c =
    let f = (passed (goal.at.copy_nodes-got-requires c).In_ok-check_join).known in
    let p = f.first_admitted in
    record { fact = (p.few_nodes, p.held_nodes, is_word (g (goal.at.copy_nodes-got-requires c).In_ok-check_join) p); nodes_bound = omega (arith, f.rooms.long_nodes) }

pub overflow_mul-first : goal.overflow_mul-first
overflow_mul-first c = omega (arith, (passed (goal.at.overflow_mul-first c).In_ok-check_join).known.first_admitted.few_nodes)

pub meet_nodes-requires : goal.meet_nodes-requires
meet_nodes-requires c =
    let r = passed (goal.at.meet_nodes-requires c).In_ok-check_join in
    let k = c.copy_nodes-got.auto in
    let a = c.args in
    record {
      stand = r.stand;
      start_bound = (omega (arith, r.known.first_admitted.few_nodes), room_kept a.joined_node_table.now a.joined_node_bits.now _ _ _ k.joined_node_table k.joined_node_bits (omega (arith, r.known.rooms.long_nodes)));
    }

pub meet_outputs-requires : goal.meet_outputs-requires
meet_outputs-requires c =
    let r = passed (goal.at.meet_outputs-requires c).In_ok-check_join in
    record { fact = (r.known.second_admitted.held_outputs, r.outputs_low); outputs_bound = r.known.rooms.long_outputs }

pub copy_locks-requires : goal.copy_locks-requires
copy_locks-requires c =
    let f = (passed (goal.at.copy_locks-requires c).In_ok-check_join).known in
    (f.first_locks.enough, omega (arith, f.rooms.enough_locks))

pub copy_locks-requires-2 : goal.copy_locks-requires-2
copy_locks-requires-2 c =
    let f = (passed (goal.at.copy_locks-requires-2 c).In_ok-check_join).known in
    (f.second_locks.enough, omega (arith, f.rooms.enough_locks, c.copy_locks.auto.joined_locks))

pub overflow_add-result : goal.overflow_add-result
overflow_add-result c = omega (arith, (passed (goal.at.overflow_add-result c).In_ok-check_join).known.rooms.few_nodes)

pub returns : goal.returns
returns c =
    join_accepted (g (goal.at.returns c).In_ok-check_join) _ (h (goal.at.returns c).In_ok-check_join) _ _ _ _ (number (goal.at.returns c).In_ok-check_join) _ _ _ _ _ c.copy_nodes-got.ensures c.meet_nodes.ensures c.meet_outputs.ensures c.copy_locks.ensures c.copy_locks-2.ensures
