-- `turn_own` meets its contract: its three words are turned one after the other. From the laws of turned tables.
use native.Mathlib.Omega.{arith}
use mathlib.Core.List.{List}
use Prim.Native.Nat.{ℕ, ◌+◌, ◌*◌}
use lib.ListN.{get_or}
use Rattle.graph.specs.Literals.{literals}
use Rattle.node_call.proofs.Turning.{third_low, turned_index, own_turned}
use Rattle.node_call.proofs.write.turn_own.Goals as goal
use Rattle.node_call.proofs.write.turn_own.Goals.{Start}

-- the table as it was

abbrev table : Start → List ℕ
table s = literals s.args.node_table.now s.args.node_bits.now

pub turn_word-requires-2 : goal.turn_word-requires-2
turn_word-requires-2 c =
    let k = turned_index (table (goal.at.turn_word-requires-2 c).Start) _ _ c.turn_word.ensures (3 * c.args.v + 1) (omega (arith, c.requires.0.there)) in
    (omega (arith, c.flag_of-2.ensures.1), k.0, λ p. omega (arith, k.1, c.requires.0.second))

pub turn_word-requires-3 : goal.turn_word-requires-3
turn_word-requires-3 c =
    let a = c.args in
    let h = turned_index (table (goal.at.turn_word-requires-3 c).Start) _ _ c.turn_word.ensures (3 * a.v + 2) c.requires.0.there in
    let k = turned_index _ _ _ c.turn_word-2.ensures (3 * a.v + 2) h.0 in
    (omega (arith, c.flag_of-3.ensures.1), k.0, λ p. omega (arith, k.1, h.1, third_low a.xor a.m (get_or (table (goal.at.turn_word-requires-3 c).Start) (3 * a.v + 2) 0) c.requires.2 c.requires.0.third (omega (arith, p, c.flag_of-3.ensures.0))))

pub returns : goal.returns
returns c =
    let a = c.args in
    own_turned (table (goal.at.returns c).Start) _ _ _ a.v a.xor a.m _ _ _ c.flag_of.ensures.0 c.flag_of-2.ensures.0 c.flag_of-3.ensures.0 c.turn_word.ensures c.turn_word-2.ensures c.turn_word-3.ensures
