-- `edge_at` meets its contract. From what a place holds.
use Rattle.std.proofs.Common.{◌≡◌, ◌+◌, ◌*◌, ◌<◌, sym, ◌∙◌, arith}
use Rattle.graph.specs.Literals.{bit_at, index_at, literal_of}
use Rattle.graph.proofs.Literals.{bit_at_le, edge_parts, held_at, held_literals}
use Rattle.graph.proofs.table.Table.edge_at.Goals as goal
use Rattle.graph.proofs.table.Table.edge_at.Goals.{Start}

-- the literal, by the parts of its place

parts : (s : Start) → let u = index_at s.args.self.now.indices.now s.args.j in let b = bit_at s.args.self.now.bits.now s.args.j in (u < 2147483647) × (literal_of u b ≡ 2 * u + b)
parts s =
    let a = s.args in
    edge_parts (index_at a.self.now.indices.now a.j) (bit_at a.self.now.bits.now a.j) (bit_at_le a.self.now.bits.now a.j) (rw (held_at a.self.now.indices.now a.self.now.bits.now a.j s.requires.0) at s.requires.1)

pub raw_at-requires : goal.raw_at-requires
raw_at-requires c = let a = c.args in omega (arith, held_literals a.self.now.indices.now a.self.now.bits.now)

pub overflow_mul-result : goal.overflow_mul-result
overflow_mul-result c = omega (arith, c.raw_at.ensures, (parts (goal.at.overflow_mul-result c).Start).0)

pub bit_at-requires : goal.bit_at-requires
bit_at-requires c = let a = c.args in omega (arith, held_literals a.self.now.indices.now a.self.now.bits.now)

pub overflow_add-result : goal.overflow_add-result
overflow_add-result c = omega (arith, c.raw_at.ensures, (parts (goal.at.overflow_add-result c).Start).0, c.bit_at.ensures.1)

pub returns : goal.returns
returns c =
    let a = c.args in
    rw (c.raw_at.ensures, c.bit_at.ensures.0) (sym (held_at a.self.now.indices.now a.self.now.bits.now a.j c.requires.0 ∙ (parts (goal.at.returns c).Start).1))
