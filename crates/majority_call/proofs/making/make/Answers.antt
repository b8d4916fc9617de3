-- `make` meets its contract: three stores. From the bits of the complements.
use Rattle.hidden.proofs.Tables.{held_kept}
use mathlib.Core.Path.{◌≡◌}
use native.Mathlib.Omega.{arith}
use Rattle.graph.specs.Literals.{literals, held}
use Rattle.majority_call.proofs.Complements.{bits}
use Rattle.majority_call.proofs.making.make.Goals as goal
use Rattle.majority_call.proofs.making.make.Goals.{After-set_word}

-- a store leaves how much the table holds

first-kept : (x : After-set_word) → held (literals x.set_word.new.table x.set_word.new.bits) ≡ held (literals x.args.node_table.now x.args.node_bits.now)
first-kept x = held_kept x.args.node_table.now x.set_word.new.table x.args.node_bits.now x.set_word.new.bits x.set_word.auto.table x.set_word.auto.bits

pub set_word-requires-2 : goal.set_word-requires-2
set_word-requires-2 c =
    (omega (arith, c.requires.1, first-kept (goal.at.set_word-requires-2 c).After-set_word), λ n. omega (arith, c.requires.3))

pub set_word-requires-3 : goal.set_word-requires-3
set_word-requires-3 c =
    (omega (arith, c.requires.1, held_kept c.set_word.new.table c.set_word-2.new.table c.set_word.new.bits c.set_word-2.new.bits c.set_word-2.auto.table c.set_word-2.auto.bits, first-kept (goal.at.set_word-requires-3 c).After-set_word), λ n. omega (arith, c.requires.4))

pub returns : goal.returns
returns c =
    let b = bits c.args.c in
    rw (b.0, b.1, b.2) (rw (c.set_word-3.ensures, c.set_word-2.ensures, c.set_word.ensures))
