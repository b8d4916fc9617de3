-- `turns_at` meets its contract: the bit is that of the index that the word names. From the law of an index that was read.
use mathlib.Core.Path.{◌≡◌, ap, ◌∙◌}
use native.Mathlib.Omega.{arith}
use Prim.Native.Nat.{ℕ, ◌+◌}
use lib.ListN.{get_or}
use Rattle.graph.specs.Graph.{index}
use Rattle.graph.specs.Literals.{bit_at}
use Rattle.graph.proofs.Literals.{names_index}
use Rattle.many.specs.Making.{named}
use Rattle.many.proofs.making.turns_at.Goals as goal
use Rattle.many.proofs.making.turns_at.Goals.{After-index_at-u}
use Rattle.graph.specs.Tables.{lent_table}

named_here : (c : After-index_at-u) → let a = c.args in c.index_at-u.result ≡ index (get_or (lent_table a.table.now) a.j 0)
named_here c = names_index c.index_at-u.ensures (omega (arith, c.requires.2))

pub bit_at-requires : goal.bit_at-requires
bit_at-requires c = omega (arith, named_here (goal.at.bit_at-requires c).After-index_at-u, c.requires.2, c.requires.3)

pub returns : goal.returns
unfolding named
returns c =
    (ap (λ (t : ℕ). c.args.f + t) (c.bit_at.ensures.0 ∙ ap (bit_at c.args.seen.now) (named_here (goal.at.returns c).After-index_at-u)), omega (arith, c.bit_at.ensures.1, c.requires.0))
