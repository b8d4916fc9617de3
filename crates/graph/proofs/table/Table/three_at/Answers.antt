-- `three_at` meets its contract. From the law of three bits by one shift.
use Rattle.std.proofs.Common.{◌+◌, ◌*◌, ◌<◌, length, refl, ◌∙◌, arith}
use Rattle.graph.proofs.Bits.{three_bits_lem}
use Rattle.graph.proofs.Literals.{held_literals}
use Rattle.graph.proofs.Words.{three_held}
use Rattle.graph.proofs.table.Table.three_at.Goals as goal
use Rattle.graph.proofs.table.Table.three_at.Goals.{Start}

room : (s : Start) → 3 * s.args.v + 2 < 64 * length s.args.self.now.bits.now
room s = omega (arith, s.requires.there, held_literals s.args.self.now.indices.now s.args.self.now.bits.now)

pub bounds-self-at : goal.bounds-self-at
bounds-self-at c = omega (arith, room (goal.at.bounds-self-at c).Start)

pub returns-then-at-lt62 : goal.returns-then-at-lt62
returns-then-at-lt62 c = three_bits_lem c.args.self.now.bits.now (3 * c.args.v) c.if-at-lt62.true ∙ three_held c.args.self.now.indices.now c.args.self.now.bits.now c.args.v (3 * c.args.v) refl c.requires.there

pub bit_at-requires : goal.bit_at-requires
bit_at-requires c = omega (arith, room (goal.at.bit_at-requires c).Start)

pub bit_at-requires-2 : goal.bit_at-requires-2
bit_at-requires-2 c = omega (arith, room (goal.at.bit_at-requires-2 c).Start)

pub bit_at-requires-3 : goal.bit_at-requires-3
bit_at-requires-3 c = room (goal.at.bit_at-requires-3 c).Start

pub returns : goal.returns
returns c =
    rw (c.bit_at.ensures.0, c.bit_at-2.ensures.0, c.bit_at-3.ensures.0) (three_held c.args.self.now.indices.now c.args.self.now.bits.now c.args.v (3 * c.args.v) refl c.requires.there)
