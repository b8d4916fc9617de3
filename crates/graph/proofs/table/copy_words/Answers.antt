-- `copy_words` meets its contract. From the law of copied words.
use Rattle.std.proofs.Common.{arith}
use Rattle.graph.proofs.Copied.{copied}
use Rattle.graph.proofs.Literals.{held_literals}
use Rattle.graph.proofs.table.copy_words.Goals as goal

pub copy_indices-requires : goal.copy_indices-requires
copy_indices-requires c =
    let a = c.args in
    (omega (arith, c.requires.1, held_literals a.table.now.indices.now a.table.now.bits.now), omega (arith, c.requires.2, held_literals a.to_table.now a.to_bits.now))

pub copy_bits-requires : goal.copy_bits-requires
copy_bits-requires c =
    let a = c.args in
    (omega (arith, c.requires.1, held_literals a.table.now.indices.now a.table.now.bits.now), omega (arith, c.requires.2, held_literals a.to_table.now a.to_bits.now))

pub returns : goal.returns
returns c =
    let a = c.args in
    copied a.table.now.indices.now a.table.now.bits.now a.to_table.now a.to_bits.now a.words c.requires.1 c.requires.2 _ _ c.copy_indices.ensures c.copy_bits.ensures
