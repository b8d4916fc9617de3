-- `through` and `reach` meet their contracts. From the laws on insertion.
use mathlib.Core.Path.{sym, ◌∙◌}
use Prim.Native.Nat.{◌+◌, ◌-◌, ◌*◌}
use native.Mathlib.Omega.{arith}
use borrow.Author.Rules.{rules}
use Rattle.graph.proofs.Words.{is_word}
use Rattle.finder.specs.Nearness.{reach_room}
use Rattle.finder.proofs.Named.{word_named}
use Rattle.finder.proofs.Inserting.{edge_low, edge_third, reach_input, reach_mark, reach_three, reach_nothing, reach_rooms, reach_less, through_more, places, room_first, room_second, room_third}
use Rattle.finder.proofs.nearness.+reach.Goals as goal
use Rattle.finder.specs.Nodes.{nodes_in}

pub reach-returns-then-far-eq0 : goal.reach-returns-then-far-eq0
reach-returns-then-far-eq0 t c = let a = c.args in reach_nothing (nodes_in a.graph.now) a.far a.u a.n a.list.now c.if-far-eq0.true

pub reach-returns-then-u-graph : goal.reach-returns-then-u-graph
reach-returns-then-u-graph t c =
    let a = c.args in
    let g = nodes_in a.graph.now in
    reach_less g (reach_room a.far) a.far a.u a.n a.n a.list.now a.list.now c.if-far-eq0.false (reach_input g (a.far - 1) (reach_room a.far) a.u a.n a.list.now c.if-u-graph.true)

pub reach-through-a-requires : goal.reach-through-a-requires
reach-through-a-requires t c =
    let w = c.wide-at in
    let a = c.args in
    let m = reach_rooms a.far c.if-far-eq0.false in
    let p = places a.graph.now.inputs a.graph.now.nodes a.u w.result c.requires.1 (omega (arith, c.if-u-graph.false)) w.ensures in
    (search rules, (c.requires.0, p.0, edge_low (nodes_in a.graph.now) 0 (3 * w.result) p.3, room_first (reach_room (a.far - 1) + 1) (reach_room a.far) _ _ (omega (arith, m)) c.requires.2, c.requires.3))

pub reach-through-b-requires : goal.reach-through-b-requires
reach-through-b-requires t c =
    let x = c.through-a in
    let w = c.wide-at in
    let a = c.args in
    let m = reach_rooms a.far c.if-far-eq0.false in
    let p = places a.graph.now.inputs a.graph.now.nodes a.u w.result c.requires.1 (omega (arith, c.if-u-graph.false)) w.ensures in
    let r = room_second (reach_room (a.far - 1) + 1) (reach_room a.far) _ _ (omega (arith, m)) c.requires.2 c.requires.3 _ _ x.ensures.same x.ensures.few in
    (search rules, (c.requires.0, p.1, edge_low (nodes_in a.graph.now) 0 (3 * w.result + 1) p.4, r.0, r.1))

pub reach-is_mark_at-requires : goal.reach-is_mark_at-requires
reach-is_mark_at-requires t c =
    let w = c.wide-at in
    let a = c.args in
    let p = places a.graph.now.inputs a.graph.now.nodes a.u w.result c.requires.1 (omega (arith, c.if-u-graph.false)) w.ensures in
    (omega (arith, p.2, c.requires.0.held_nodes), is_word (nodes_in a.graph.now) c.requires.0 (3 * w.result + 2) p.2)

pub reach-returns-then-is_mark_at : goal.reach-returns-then-is_mark_at
reach-returns-then-is_mark_at t c =
    let y = c.through-b in
    let x = c.through-a in
    let w = c.wide-at in
    let a = c.args in
    let g = nodes_in a.graph.now in
    let z = c.if-far-eq0.false in
    reach_less g (reach_room a.far) a.far a.u a.n y.result a.list.now _ z
    (reach_mark g (a.far - 1) (reach_room (a.far - 1) + 1) (reach_room a.far) a.u w.result (omega (arith, reach_rooms a.far z)) (omega (arith, c.if-u-graph.false)) w.ensures a.n x.result y.result a.list.now _ _ x.ensures y.ensures
    (sym c.is_mark_at.ensures ∙ c.if-is_mark_at.true))

pub reach-through-requires : goal.reach-through-requires
reach-through-requires t c =
    let y = c.through-b in
    let x = c.through-a in
    let w = c.wide-at in
    let a = c.args in
    let m = reach_rooms a.far c.if-far-eq0.false in
    let p = places a.graph.now.inputs a.graph.now.nodes a.u w.result c.requires.1 (omega (arith, c.if-u-graph.false)) w.ensures in
    let r = room_third (reach_room (a.far - 1) + 1) (reach_room a.far) _ _ (omega (arith, m)) c.requires.2 c.requires.3 _ _ x.ensures.same x.ensures.few _ _ y.ensures.same y.ensures.few in
    (search rules, (c.requires.0, p.2, edge_third (nodes_in a.graph.now) 0 w.result (sym c.is_mark_at.ensures ∙ c.if-is_mark_at.false), r.0, r.1))

pub reach-returns : goal.reach-returns
reach-returns t c =
    let z = c.through in
    let y = c.through-b in
    let x = c.through-a in
    let w = c.wide-at in
    let a = c.args in
    let g = nodes_in a.graph.now in
    let n = c.if-far-eq0.false in
    reach_less g (reach_room a.far) a.far a.u a.n z.result a.list.now _ n
    (reach_three g (a.far - 1) (reach_room (a.far - 1) + 1) (reach_room a.far) a.u w.result (omega (arith, reach_rooms a.far n)) (omega (arith, c.if-u-graph.false)) w.ensures a.n x.result y.result a.list.now _ _ x.ensures y.ensures _ _ z.ensures)

pub through-returns-then-far-eq0 : goal.through-returns-then-far-eq0
through-returns-then-far-eq0 t c =
    let o = c.add-m in
    let x = c.index_at-x in
    let a = c.args in
    let g = nodes_in a.graph.now in
    let e = word_named g c.requires.0 a.j x.result c.requires.1 c.requires.2 x.ensures in
    through_more g a.far (reach_room a.far) a.j x.result a.n o.result _ a.list.now _ _ c.requires.2 e.0 e.1 o.ensures (reach_nothing g a.far x.result o.result _ c.if-far-eq0.true)

pub through-returns-then-x-graph : goal.through-returns-then-x-graph
through-returns-then-x-graph t c =
    let o = c.add-m in
    let x = c.index_at-x in
    let a = c.args in
    let g = nodes_in a.graph.now in
    let e = word_named g c.requires.0 a.j x.result c.requires.1 c.requires.2 x.ensures in
    through_more g a.far (reach_room a.far) a.j x.result a.n o.result _ a.list.now _ _ c.requires.2 e.0 e.1 o.ensures
    (reach_less g (reach_room a.far) a.far x.result o.result o.result _ _ c.if-far-eq0.false (reach_input g (a.far - 1) (reach_room a.far) x.result o.result _ c.if-x-graph.true))

pub through-returns : goal.through-returns
through-returns t c =
    let z = c.reach in
    let o = c.add-m in
    let x = c.index_at-x in
    let a = c.args in
    let g = nodes_in a.graph.now in
    let e = word_named g c.requires.0 a.j x.result c.requires.1 c.requires.2 x.ensures in
    through_more g a.far (reach_room a.far) a.j x.result a.n o.result _ a.list.now _ _ c.requires.2 e.0 e.1 o.ensures z.ensures
