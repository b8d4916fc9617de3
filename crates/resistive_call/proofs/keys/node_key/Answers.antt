-- `node_key` meets its contract. From what a family is worked out from.
use native.Mathlib.Omega.{arith}
use Rattle.graph.specs.Graph.{Graph}
use Rattle.graph.proofs.Words.{readable}
use Rattle.resistive_call.proofs.Reading.{low_as, key_as}
use Rattle.resistive_call.proofs.keys.node_key.Goals as goal
use Rattle.resistive_call.proofs.keys.node_key.Goals.{Start}
use Rattle.graph.specs.Tables.{lent_graph}

abbrev graph-of : Start → Graph
graph-of s = lent_graph s.args.lent.now

pub is_xor-requires : goal.is_xor-requires
is_xor-requires c = readable (graph-of (goal.at.is_xor-requires c).Start) c.requires.0.admitted c.args.v c.requires.1

pub moves_at-requires : goal.moves_at-requires
moves_at-requires c = (readable (graph-of (goal.at.moves_at-requires c).Start) c.requires.0.admitted c.args.v c.requires.1, omega (arith, c.requires.1, c.requires.2))

pub key_of-requires : goal.key_of-requires
key_of-requires c = low_as _ _ _ _ _ _ c.numbers_at-z.ensures c.requires.3

pub returns : goal.returns
returns c =
    key_as _ _ _ _ _ _ (c.is_xor.ensures _ _ _ _) (c.moves_at.ensures _ _ _ _ c.requires.1) _ c.numbers_at-z.ensures _ c.key_of.ensures
