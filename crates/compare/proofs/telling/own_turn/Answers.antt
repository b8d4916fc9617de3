-- `own_turn` meets its contract. From the law of an edge's bit.
use mathlib.Core.Path.{◌≡◌, ap, ap₂, ◌∙◌}
use native.Mathlib.Omega.{arith}
use Prim.Native.Nat.{ℕ, ◌+◌, ◌%◌}
use lib.ListN.{get_or}
use Rattle.graph.proofs.Words.{edge_bit_lem}
use Rattle.many.specs.Making.{named}
use Rattle.compare.specs.Telling.{apart, own_turn}
use Rattle.compare.proofs.telling.own_turn.Goals as goal
use Rattle.graph.specs.Tables.{lent_table}

by-twos : (x b n : ℕ) → ((x % 2 + b) % 2 + n) % 2 ≡ (x + b + n) % 2
by-twos x b n = omega arith

pub returns : goal.returns
unfolding apart own_turn
returns c =
    let a = c.args in
    let l = lent_table a.table.now in
    let e : c.odd_at.result ≡ get_or l a.j 0 % 2 = c.odd_at.ensures.0 ∙ edge_bit_lem (get_or l a.j 0) (omega (arith, c.requires.1)) in (
      ap (λ (t : ℕ). t % 2) c.turns_at.ensures.0
          ∙ ap₂ (λ (x y : ℕ). ((x + y) % 2 + named a.seen.now l a.j) % 2) e c.bit_at.ensures.0
          ∙ by-twos (get_or l a.j 0) _ (named a.seen.now l a.j),
      omega arith,
    )
