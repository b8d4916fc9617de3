-- `word_keys` meets its contract: the two costs of what the word names, in the order of its bit. From what a word costs.
use Prim.Native.Nat.{◌+◌, ◌-◌, ◌*◌, ◌%◌}
use native.Mathlib.Omega.{arith}
use Rattle.graph.specs.Graph.{Graph}
use Rattle.graph.proofs.Words.{edge_low}
use Rattle.resistive_call.proofs.Reading.{key_edge}
use Rattle.resistive_call.proofs.numbers.word_keys.Goals as goal
use Rattle.resistive_call.proofs.numbers.word_keys.Goals.{Start}
use Rattle.graph.specs.Tables.{lent_graph}

abbrev graph-of : Start → Graph
graph-of s = lent_graph s.args.lent.now

pub overflow_mul-w : goal.overflow_mul-w
overflow_mul-w c = omega (arith, c.requires.0.admitted.few_nodes, c.requires.1)

pub overflow_add-w : goal.overflow_add-w
overflow_add-w c = omega (arith, c.requires.0.admitted.few_nodes, c.requires.1, c.requires.2)

pub edge_at-x-requires : goal.edge_at-x-requires
edge_at-x-requires c =
    (omega (arith, c.requires.0.admitted.held_nodes, c.requires.1, c.requires.2), edge_low (graph-of (goal.at.edge_at-x-requires c).Start) c.requires.0.admitted (3 * c.args.w + c.args.k) (omega (arith, c.requires.1, c.requires.2)) c.requires.3)

pub turns_of-c-requires : goal.turns_of-c-requires
turns_of-c-requires c =
    let j = c.requires.0.admitted.below (3 * c.args.w + c.args.k) (omega (arith, c.requires.1, c.requires.2)) c.requires.3 in
    (c.requires.0, c.requires.4, c.requires.5, omega (arith, c.edge_at-x.ensures, j, c.requires.1, c.requires.2))

pub returns : goal.returns
returns c =
    let a = c.args in
    let x = c.edge_at-x.result in
    let t = c.turns_of-c in
    let key = key_edge (graph-of (goal.at.returns c).Start) a.scratch.now a.v a.s (3 * a.w + a.k) c.requires.3 x t.result c.edge_at-x.ensures t.ensures in
    rw (key 0 (x % 2) c.stored_cost.result (omega arith) c.stored_cost.ensures, key 1 (1 - x % 2) c.stored_cost-2.result (omega arith) c.stored_cost-2.ensures)
