-- `allowed_places` meets its contract. From the laws on ways and on indices that are in no triple with a majority.
use mathlib.Core.Path.{sym, ◌∙◌}
use Prim.Native.Nat.{◌+◌, ◌*◌, ◌≤◌}
use native.Mathlib.Omega.{arith}
use lib.ListN.{length}
use Rattle.graph.specs.Graph.{Graph}
use Rattle.graph.proofs.Words.{is_word}
use Rattle.finder.specs.Meeting.{Rises}
use Rattle.finder.proofs.Barring.{second_named_in, third_named_in}
use Rattle.finder.proofs.Turning.{higher_in}
use Rattle.finder.proofs.Meets.{allows_all, allows_one, allows_two, listed_rise}
use Rattle.finder.proofs.masks.allowed_places.Goals as goal
use Rattle.finder.proofs.masks.allowed_places.Goals.{Start}
use Rattle.finder.specs.Nodes.{nodes_in}

abbrev graph : Start → Graph
graph s = nodes_in s.args.graph.now

places : (s : Start) → (s.args.m ≤ 39) × (s.args.m ≤ length s.args.list.now) × Rises s.args.m s.args.list.now
places s = (s.requires.few, s.requires.listed, listed_rise (graph s) s.args.v s.args.m s.args.list.now s.requires)

pub index_at-i-requires : goal.index_at-i-requires
index_at-i-requires c = omega (arith, c.requires.within, c.requires.admitted.held_nodes)

pub index_at-j-requires : goal.index_at-j-requires
index_at-j-requires c = omega (arith, c.requires.within, c.requires.admitted.held_nodes)

pub is_mark_at-requires : goal.is_mark_at-requires
is_mark_at-requires c =
    (omega (arith, c.requires.within, c.requires.admitted.held_nodes), is_word (graph (goal.at.is_mark_at-requires c).Start) c.requires.admitted (3 * c.args.v + 2) (omega (arith, c.requires.within)))

pub place_of-requires : goal.place_of-requires
place_of-requires c = places (goal.at.place_of-requires c).Start

pub returns-then-is_mark_at : goal.returns-then-is_mark_at
returns-then-is_mark_at c =
    let r = c.higher in
    let y = c.index_at-j in
    let x = c.index_at-i in
    let k = sym c.is_mark_at.ensures ∙ c.if-is_mark_at.true in
    let a = c.args in
    allows_one (graph (goal.at.returns-then-is_mark_at c).Start) a.v a.m a.list.now c.requires r.result c.place_of.result c.place_of.ensures
    (higher_in (graph (goal.at.returns-then-is_mark_at c).Start) c.requires.admitted a.v c.requires.within k x.result x.ensures y.result y.ensures r.result r.ensures)

pub returns-then-i-ne0 : goal.returns-then-i-ne0
returns-then-i-ne0 c = allows_all (graph (goal.at.returns-then-i-ne0 c).Start) c.args.v c.args.m c.args.list.now c.requires.few

pub place_of-y-requires : goal.place_of-y-requires
place_of-y-requires c = places (goal.at.place_of-y-requires c).Start

pub index_at-requires : goal.index_at-requires
index_at-requires c = omega (arith, c.requires.within, c.requires.admitted.held_nodes)

pub place_of-z-requires : goal.place_of-z-requires
place_of-z-requires c = places (goal.at.place_of-z-requires c).Start

pub returns : goal.returns
returns c =
    let z = c.index_at in
    let y = c.index_at-j in
    let x = c.index_at-i in
    let k = sym c.is_mark_at.ensures ∙ c.if-is_mark_at.false in
    let a = c.args in
    allows_two (graph (goal.at.returns c).Start) a.v a.m a.list.now c.requires y.result z.result c.place_of-y.result c.place_of-z.result c.place_of-y.ensures c.place_of-z.ensures
    (second_named_in (graph (goal.at.returns c).Start) c.requires.admitted a.v c.requires.within k x.result x.ensures (omega (arith, c.if-i-ne0.false)) y.result y.ensures)
    (third_named_in (graph (goal.at.returns c).Start) c.requires.admitted a.v c.requires.within k x.result x.ensures (omega (arith, c.if-i-ne0.false)) z.result z.ensures)
