-- `decide_key` meets its contract. From what a family is worked out from.
use mathlib.Core.Path.{refl}
use native.Mathlib.Omega.{arith}
use Rattle.graph.specs.Graph.{Graph}
use Rattle.graph.proofs.Words.{readable}
use Rattle.resistive_call.proofs.Reading.{low_as, moves_some, reader_now, found_root, found_other}
use Rattle.resistive_call.proofs.Families.{weighed_all, weighed_still}
use Rattle.resistive_call.proofs.deciding.decide_key.Goals as goal
use Rattle.resistive_call.proofs.deciding.decide_key.Goals.{Start}
use Rattle.graph.specs.Tables.{lent_graph}

abbrev graph-of : Start → Graph
graph-of s = lent_graph s.args.lent.now

pub is_xor-xor-requires : goal.is_xor-xor-requires
is_xor-xor-requires c = readable (graph-of (goal.at.is_xor-xor-requires c).Start) c.requires.0.admitted c.args.v c.requires.1

pub moves_at-moves-requires : goal.moves_at-moves-requires
moves_at-moves-requires c = (readable (graph-of (goal.at.moves_at-moves-requires c).Start) c.requires.0.admitted c.args.v c.requires.1, omega (arith, c.requires.1, c.requires.3))

pub first_score-requires : goal.first_score-requires
first_score-requires c =
    let n = weighed_still _ _ _ (moves_some (graph-of (goal.at.first_score-requires c).Start) c.args.lent.now.locks.now c.args.scratch.now c.args.v _ _ (c.is_xor-xor.ensures _ _ _ _) (c.moves_at-moves.ensures _ _ _ _ c.requires.1)) c.still_moves.ensures in
    (record { costs = low_as _ _ _ _ _ _ c.numbers_at-z.ensures c.requires.4.own; still = omega arith; turned = omega arith }, n)

pub returns-then-place : goal.returns-then-place
returns-then-place c =
    found_root _ _ _ _ _ _ (c.is_xor-xor.ensures _ _ _ _) (c.moves_at-moves.ensures _ _ _ _ c.requires.1) _ c.numbers_at-z.ensures _ _ _ c.read-place.ensures c.if-place.true c.still_moves.ensures c.first_score.ensures

pub reader_keys-beside-requires : goal.reader_keys-beside-requires
reader_keys-beside-requires c =
    let r = reader_now _ _ c.requires.0 _ c.requires.1 _ c.read-place.ensures c.if-place.false _ refl c.requires.2 c.requires.4 in
    (c.requires.0, c.requires.1, r.0, r.1, r.2, r.3)

pub first_score-requires-2 : goal.first_score-requires-2
first_score-requires-2 c =
    let n = weighed_all _ _ (moves_some (graph-of (goal.at.first_score-requires-2 c).Start) c.args.lent.now.locks.now c.args.scratch.now c.args.v _ _ (c.is_xor-xor.ensures _ _ _ _) (c.moves_at-moves.ensures _ _ _ _ c.requires.1)) in
    let l = c.reader_keys-beside.ensures.1 in
    (record { costs = low_as _ _ _ _ _ _ c.numbers_at-z.ensures c.requires.4.own; still = l 0; turned = l 1 }, n)

pub returns : goal.returns
returns c =
    found_other _ _ _ _ _ _ (c.is_xor-xor.ensures _ _ _ _) (c.moves_at-moves.ensures _ _ _ _ c.requires.1) _ c.numbers_at-z.ensures _ _ _ _ c.read-place.ensures c.if-place.false refl c.reader_keys-beside.ensures.0 c.first_score-2.ensures
