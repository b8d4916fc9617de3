-- `note` meets its contract. From the laws on noting, and on which node an index is.
use mathlib.Core.Path.{◌≡◌, ◌∙◌}
use mathlib.Core.Logic.{⊎_elim}
use Prim.Native.Nat.{◌+◌, ◌*◌, ◌%◌, ◌≤◌, ◌<◌}
use native.Mathlib.Omega.{arith}
use Rattle.graph.proofs.Cases.{lt_or_le}
use Rattle.graph.proofs.Words.{edge_bit_lem}
use Rattle.moves.proofs.NodeOf.{node_found, node_missed}
use Rattle.trees.proofs.Noting.{noted_none, noted_at}
use Rattle.trees.proofs.fill.note.Goals as goal

pub returns-then-nodes-v : goal.returns-then-nodes-v
returns-then-nodes-v c x names bit =
    let a = c.args in
    let r = c.node_of-v in
    noted_none _ _ _ _ _ _
    (λ v h e.
    ⊎_elim
    (λ (l : a.u ≤ a.inputs). omega (arith, l, e, names.low (omega (arith, c.requires.0.few_inputs))))
    (λ (l : a.inputs + 1 + a.nodes ≤ a.u).
    ⊎_elim
    (λ (q : a.u < 2147483647). omega (arith, l, e, h, names.low q))
    (λ (q : 2147483647 ≤ a.u). omega (arith, names.high q, e, h, c.requires.0.few_inputs, c.requires.0.few_nodes))
    (lt_or_le a.u 2147483647))
    (node_missed a.inputs a.nodes a.u r.result r.ensures (omega arith)))

pub overflow_add-count : goal.overflow_add-count
overflow_add-count c =
    let p = c.requires.0 in
    omega (arith, c.read-count.ensures, p.low c.node_of-v.result (omega arith))

pub overflow_add-odd : goal.overflow_add-odd
overflow_add-odd c =
    let p = c.requires in
    let v = c.node_of-v.result in
    omega (arith, c.read-odd.ensures, c.store.ensures.old (8 * v + 1) (omega (arith, p.0.above)), p.0.odd_low v (omega arith), p.1)

pub returns : goal.returns
returns c x names bit =
    let a = c.args in
    let r = c.node_of-v in
    let f = node_found a.inputs a.nodes a.u r.result r.ensures c.requires.0.few_nodes (omega arith) in
    let low : a.u < 2147483647 = omega (arith, f.1, c.requires.0.few_inputs, c.requires.0.few_nodes) in
    let e = names.low low in
    let o : a.b ≡ x % 2 = bit ∙ edge_bit_lem x (omega arith) in
    noted_at _ _ _ _ _ _ _ _ _ _ _ _ _ c.requires.0 (omega arith) (omega (arith, e, f.0, f.1)) c.read-count.ensures c.store.ensures c.read-odd.ensures
    (rw o at c.store-2.ensures) c.store-3.ensures
