-- `ones_in` meets its contract. From the law of one word more.
use Rattle.std.proofs.Common.{◌≡◌, ◌*◌, ◌≤◌}
use Rattle.graph.specs.Finite.{sum}
use Rattle.graph.specs.Literals.{bit_at, ones_in}
use Rattle.graph.proofs.table.ones_in.Given as goal

abbrev pub invariant-loop-word : goal.invariant-loop-word
invariant-loop-word l =
    (l.word-index ≤ l.words) × (l.c ≤ 64 * l.word-index) × (l.c ≡ sum (64 * l.word-index) (bit_at l.bits)) × (l.c ≡ ones_in l.word-index l.bits)
