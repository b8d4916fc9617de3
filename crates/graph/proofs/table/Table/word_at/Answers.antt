-- `word_at` meets its contract. From what a place holds.
use Rattle.std.proofs.Common.{sym, ◌∙◌, arith}
use Rattle.graph.proofs.Literals.{held_at, held_literals}
use Rattle.graph.proofs.table.Table.word_at.Goals as goal

pub raw_at-requires : goal.raw_at-requires
raw_at-requires c = let a = c.args in omega (arith, held_literals a.self.now.indices.now a.self.now.bits.now)

pub bit_at-requires : goal.bit_at-requires
bit_at-requires c = let a = c.args in omega (arith, held_literals a.self.now.indices.now a.self.now.bits.now)

pub joined-requires : goal.joined-requires
joined-requires c =
    let a = c.args in
    (c.bit_at.ensures.1, rw (c.raw_at.ensures, c.bit_at.ensures.0, ← held_at a.self.now.indices.now a.self.now.bits.now a.j c.requires.0) c.requires.1)

pub returns : goal.returns
returns c =
    let a = c.args in
    c.joined.ensures ∙ rw (c.raw_at.ensures, c.bit_at.ensures.0) (sym (held_at a.self.now.indices.now a.self.now.bits.now a.j c.requires.0))
