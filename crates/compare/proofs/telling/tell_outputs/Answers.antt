-- `tell_outputs` meets its contract: the outputs passed are turned as they are to be. From what is said of the first that does not pass.
use mathlib.Core.Path.{◌≡◌, sym, ◌∙◌}
use mathlib.Core.List.{List}
use mathlib.Core.Logic.{⊎_elim}
use native.Mathlib.Omega.{arith}
use Prim.Native.Nat.{ℕ, ◌+◌, ◌<◌}
use borrow.Author.Tests.{eq-eqb, ne_eqb}
use lib.Dec.{eqb}
use Rattle.moves.proofs.Count.{last_or_below}
use Rattle.compare.specs.Telling.{own_turn}
use Rattle.compare.proofs.Passing.{passing_is}
use Rattle.compare.proofs.telling.tell_outputs.Goals as goal
use Rattle.compare.proofs.telling.tell_outputs.Invariants.{None}
use Rattle.graph.specs.Tables.{lent_table}

-- the first j outputs need no turn of their own

none-next : (sn l es : List ℕ) (j : ℕ) → None sn l es j → own_turn sn l es j ≡ 0 → None sn l es (j + 1)
none-next sn l es j a e i h = ⊎_elim (λ (q : i ≡ j). rw q (eq-eqb _ _ e)) (λ (k : i < j). a i k) (last_or_below (omega arith))

pub loop-j-init : goal.loop-j-init
loop-j-init c = (omega arith, λ i h. absurd (omega arith))

pub own_turn-requires : goal.own_turn-requires
own_turn-requires c =
    let j = c.loop-j.j in
    (omega (arith, c.loop-j-test.true, c.requires.0), c.requires.1 j c.loop-j-test.true, omega (arith, c.loop-j-test.true, c.requires.2), c.requires.3)

pub returns-then-own_turn-ne0 : goal.returns-then-own_turn-ne0
returns-then-own_turn-ne0 c =
    let l = c.loop-j in
    let a = c.args in
    passing_is a.first.now.outputs (λ j. eqb (own_turn a.seen.now (lent_table a.first.now.output_table) a.second_bits.now j) 0) l.j l.invariant.0 l.invariant.1
    (λ h. ne_eqb _ _ (λ z. c.if-own_turn-ne0.true (c.own_turn.ensures.0 ∙ z)))

pub loop-j-preserved : goal.loop-j-preserved
loop-j-preserved c =
    let l = c.loop-j in
    let a = c.args in
    (omega (arith, c.loop-j-test.true), none-next a.seen.now (lent_table a.first.now.output_table) a.second_bits.now l.j l.invariant.1 (sym c.own_turn.ensures.0 ∙ c.if-own_turn-ne0.false))

pub returns : goal.returns
returns c =
    let l = c.loop-j in
    let a = c.args in
    let e : l.j ≡ a.first.now.outputs = omega (arith, c.loop-j-test.false, l.invariant.0) in
    passing_is a.first.now.outputs (λ j. eqb (own_turn a.seen.now (lent_table a.first.now.output_table) a.second_bits.now j) 0) a.first.now.outputs (omega arith) (rw e at l.invariant.1) (λ h. absurd (omega arith))
