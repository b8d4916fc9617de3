-- `turn_readers` turns all readers of a node by its pending bit. From what its two stores make of a state.
use mathlib.Core.Path.{◌≡◌, sym, ap, subst}
use Prim.Native.Nat.{◌+◌, ◌-◌, ◌*◌}
use native.Mathlib.Omega.{arith}
use lib.ListN.{get_or, set, length-set}
use Rattle.graph.specs.Graph.{Graph, node}
use Rattle.state.specs.State.{field, stands}
use Rattle.state.specs.Step.{readers_turned, Became}
use Rattle.state.proofs.Order.{odd_reads}
use Rattle.state.proofs.Stores.{readers_still, readers_flipped}
use Rattle.state.proofs.turning.turn_readers.Goals as goal
use Rattle.state.proofs.turning.turn_readers.Goals.{Start}
use Rattle.graph.specs.Tables.{lent_graph}

abbrev graph-of : Start → Graph
graph-of s = lent_graph s.args.lent.now

-- the count of readers stands at the front of a node's fields, and the complemented ones are no more

front : (s : Start) → get_or s.args.scratch.now (8 * s.args.v) 0 ≡ field s.args.scratch.now s.args.v 0
front s = ap (λ i. get_or s.args.scratch.now i 0) (omega arith)

pub returns-then-f-eq0 : goal.returns-then-f-eq0
returns-then-f-eq0 c =
    let a = c.args in
    let g = graph-of (goal.at.returns-then-f-eq0 c).Start in
    subst (λ f. Became a.scratch.now g a.scratch.now (readers_turned (stands g a.scratch.now) (node g a.v) f)) (sym c.if-f-eq0.true)
    (readers_still g a.scratch.now c.requires.0 (node g a.v))

pub overflow_sub-others : goal.overflow_sub-others
overflow_sub-others c = omega (arith, front (goal.at.overflow_sub-others c).Start, odd_reads (graph-of (goal.at.overflow_sub-others c).Start) c.args.scratch.now c.requires.0 c.args.v c.requires.1)

pub bounds-scratch-at-5 : goal.bounds-scratch-at-5
bounds-scratch-at-5 c = simp length-set (omega (arith, c.requires.0.long, c.requires.1))

pub returns : goal.returns
returns c =
    let a = c.args in
    let g = graph-of (goal.at.returns c).Start in
    let x = get_or a.scratch.now (8 * a.v) 0 - field a.scratch.now a.v 1 in
    let one : a.f ≡ 1 = omega (arith, c.if-f-eq0.false, c.requires.2) in
    subst (λ f. Became a.scratch.now g (set (set a.scratch.now (8 * a.v + 1) x) (8 * a.v + 2) c.flipped-pending.result) (readers_turned (stands g a.scratch.now) (node g a.v) f)) (sym one)
    (readers_flipped g a.scratch.now c.requires.0 a.v x c.flipped-pending.result c.requires.1
    (omega (arith, front (goal.at.returns c).Start, odd_reads g a.scratch.now c.requires.0 a.v c.requires.1))
    c.flipped-pending.ensures)
