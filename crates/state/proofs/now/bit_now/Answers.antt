-- `bit_now` is the complement bit in the graph that the state stands for. From the laws of kept bits and of what is pending.
use mathlib.Core.Path.{sym}
use Prim.Native.Nat.{◌+◌, ◌*◌}
use native.Mathlib.Omega.{arith}
use Rattle.graph.specs.Graph.{Graph, word}
use Rattle.state.proofs.Pending.{pending_index}
use Rattle.state.proofs.Stands.{kept_at_lem, stands_bit}
use Rattle.state.proofs.now.bit_now.Goals as goal
use Rattle.state.proofs.now.bit_now.Goals.{Start}
use Rattle.graph.specs.Tables.{lent_graph}

abbrev graph-of : Start → Graph
graph-of s = lent_graph s.args.lent.now

pub overflow_mul-v : goal.overflow_mul-v
overflow_mul-v c = omega (arith, c.requires.0.admitted.few_nodes, c.requires.1)

pub overflow_add-v : goal.overflow_add-v
overflow_add-v c = omega (arith, c.requires.0.admitted.few_nodes, c.requires.1, c.requires.2)

pub index_at-u-requires : goal.index_at-u-requires
index_at-u-requires c = omega (arith, c.requires.0.admitted.held_nodes, c.requires.1, c.requires.2)

pub overflow_mul-at : goal.overflow_mul-at
overflow_mul-at c = omega (arith, c.requires.0.admitted.few_nodes, c.requires.1)

pub overflow_add-at : goal.overflow_add-at
overflow_add-at c = omega (arith, c.requires.0.admitted.few_nodes, c.requires.1)

pub offset_bounds-scratch-at : goal.offset_bounds-scratch-at
offset_bounds-scratch-at c = omega (arith, c.requires.0.admitted.few_nodes, c.requires.1)

pub bounds-scratch-at : goal.bounds-scratch-at
bounds-scratch-at c = omega (arith, c.requires.0.long, c.requires.1)

pub overflow_add-k : goal.overflow_add-k
overflow_add-k c = omega (arith, c.requires.2)

pub bit_of-kept-requires : goal.bit_of-kept-requires
bit_of-kept-requires c = omega (arith, c.requires.2)

pub pending_of-requires : goal.pending_of-requires
pending_of-requires c = let o = c.requires.0 in record { few_inputs = o.admitted.few_inputs; few_nodes = o.admitted.few_nodes; long = o.long }

pub overflow_add-result : goal.overflow_add-result
overflow_add-result c = omega (arith, c.pending_of.ensures.1, c.bit_of-kept.ensures.1)

pub returns : goal.returns
returns c =
    let d = c.pending_of in
    let k = c.bit_of-kept in
    let u = c.index_at-u in
    let a = c.args in
    let o = c.requires.0 in
    let g = graph-of (goal.at.returns c).Start in
    let j = 3 * a.v + a.k in (
      (λ e.
          rw (k.ensures.0, d.ensures.0, pending_index a.lent.now.inputs a.lent.now.nodes a.scratch.now (word g j) u.result o.admitted.few_inputs o.admitted.few_nodes u.ensures, ← kept_at_lem a.scratch.now a.v a.k c.requires.2)
          (sym (stands_bit g a.scratch.now o.admitted j (omega (arith, c.requires.1, c.requires.2)) e))),
      omega arith,
    )
