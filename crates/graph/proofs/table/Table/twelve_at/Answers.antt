-- `twelve_at` meets its contract. From the laws of the bits of four nodes.
use Rattle.std.proofs.Common.{◌+◌, ◌*◌, ◌<◌, ◌≤◌, length, arith}
use Rattle.graph.proofs.Literals.{held_literals}
use Rattle.graph.proofs.Words.{three_le, twelve_shifted, twelve_apart}
use Rattle.graph.proofs.table.Table.twelve_at.Goals as goal
use Rattle.graph.proofs.table.Table.twelve_at.Goals.{After-three_at, After-three_at-2, After-three_at-3, After-three_at-4, Start}
use Rattle.graph.specs.Tables.{lent_table}

room : (s : Start) → 3 * s.args.v + 2 < 64 * length s.args.self.now.bits.now
room s = omega (arith, s.requires.0.there, held_literals s.args.self.now.indices.now s.args.self.now.bits.now)

-- what is read of a node is at most 7

first-le : (c : After-three_at) → c.three_at.result ≤ 7
first-le c = let a = c.args in rw c.three_at.ensures (three_le (lent_table a.self.now) a.v)

second-le : (c : After-three_at-2) → c.three_at-2.result ≤ 7
second-le c = let a = c.args in rw c.three_at-2.ensures (three_le (lent_table a.self.now) (a.v + 1))

third-le : (c : After-three_at-3) → c.three_at-3.result ≤ 7
third-le c = let a = c.args in rw c.three_at-3.ensures (three_le (lent_table a.self.now) (a.v + 2))

fourth-le : (c : After-three_at-4) → c.three_at-4.result ≤ 7
fourth-le c = let a = c.args in rw c.three_at-4.ensures (three_le (lent_table a.self.now) (a.v + 3))

pub bounds-self-at : goal.bounds-self-at
bounds-self-at c = omega (arith, room (goal.at.bounds-self-at c).Start)

pub returns-then-at-lt53 : goal.returns-then-at-lt53
returns-then-at-lt53 c =
    let a = c.args in
    twelve_shifted a.self.now.indices.now a.self.now.bits.now a.v c.if-at-lt53.true c.requires.3.there

pub overflow_mul-low : goal.overflow_mul-low
overflow_mul-low c = omega (arith, second-le (goal.at.overflow_mul-low c).After-three_at-2)

pub overflow_add-low : goal.overflow_add-low
overflow_add-low c = omega (arith, first-le (goal.at.overflow_add-low c).After-three_at, second-le (goal.at.overflow_add-low c).After-three_at-2)

pub overflow_mul-result : goal.overflow_mul-result
overflow_mul-result c = omega (arith, third-le (goal.at.overflow_mul-result c).After-three_at-3)

pub overflow_add-result : goal.overflow_add-result
overflow_add-result c = omega (arith, first-le (goal.at.overflow_add-result c).After-three_at, second-le (goal.at.overflow_add-result c).After-three_at-2, third-le (goal.at.overflow_add-result c).After-three_at-3)

pub overflow_mul-result-2 : goal.overflow_mul-result-2
overflow_mul-result-2 c = omega (arith, fourth-le (goal.at.overflow_mul-result-2 c).After-three_at-4)

pub overflow_add-result-2 : goal.overflow_add-result-2
overflow_add-result-2 c = omega (arith, first-le (goal.at.overflow_add-result-2 c).After-three_at, second-le (goal.at.overflow_add-result-2 c).After-three_at-2, third-le (goal.at.overflow_add-result-2 c).After-three_at-3, fourth-le (goal.at.overflow_add-result-2 c).After-three_at-4)

pub returns : goal.returns
returns c =
    let a = c.args in
    twelve_apart (lent_table a.self.now) a.v c.three_at.result c.three_at-2.result c.three_at-3.result c.three_at-4.result
    c.three_at.ensures c.three_at-2.ensures c.three_at-3.ensures c.three_at-4.ensures
