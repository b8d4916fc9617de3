-- `reader_keys` meets its contract. From what a family is worked out from.
use Rattle.graph.specs.Graph.{Graph}
use Rattle.graph.proofs.Words.{readable}
use Rattle.resistive_call.proofs.Reading.{low_as, low_two, row_as, reader_as}
use Rattle.resistive_call.proofs.deciding.reader_keys.Goals as goal
use Rattle.resistive_call.proofs.deciding.reader_keys.Goals.{Start}
use Rattle.graph.specs.Tables.{lent_graph}

abbrev graph-of : Start → Graph
graph-of s = lent_graph s.args.lent.now

pub is_xor-xor-requires : goal.is_xor-xor-requires
is_xor-xor-requires c = readable (graph-of (goal.at.is_xor-xor-requires c).Start) c.requires.0.admitted c.args.w c.requires.2

pub family_under-requires : goal.family_under-requires
family_under-requires c =
    (low_as _ _ _ _ _ _ c.numbers_at-y.ensures c.requires.5, row_as (graph-of (goal.at.family_under-requires c).Start) c.args.scratch.now c.args.w _ _ (c.is_xor-xor.ensures _ _ _ _) c.read-m.ensures c.requires.4)

pub family_under-requires-2 : goal.family_under-requires-2
family_under-requires-2 c =
    (low_as _ _ _ _ _ _ c.turned_at-z.ensures c.requires.5, row_as (graph-of (goal.at.family_under-requires-2 c).Start) c.args.scratch.now c.args.w _ _ (c.is_xor-xor.ensures _ _ _ _) c.read-m.ensures c.requires.4)

pub returns : goal.returns
returns c =
    let a = c.args in
    let y = c.family_under in
    let z = c.family_under-2 in
    let read = reader_as (graph-of (goal.at.returns c).Start) a.scratch.now a.w _ _ (c.is_xor-xor.ensures _ _ _ _) c.read-m.ensures in (
      rw (read a.v 0 _ y.result c.numbers_at-y.ensures y.ensures.0, read a.v 1 _ z.result c.turned_at-z.ensures z.ensures.0),
      low_two _ _ _ y.ensures.1 z.ensures.1,
    )
