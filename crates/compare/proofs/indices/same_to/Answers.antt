-- `same_to` meets its contract: the indices passed are the same. From what is said of the first that does not pass.
use mathlib.Core.Path.{◌≡◌, sym, ◌∙◌}
use mathlib.Core.List.{List}
use mathlib.Core.Logic.{⊎_elim}
use native.Mathlib.Omega.{arith}
use Prim.Native.Nat.{ℕ, ◌+◌, ◌<◌}
use borrow.Author.Tests.{eq-eqb, ne_eqb}
use lib.Dec.{eqb}
use Rattle.graph.specs.Literals.{index_at}
use Rattle.moves.proofs.Count.{last_or_below}
use Rattle.compare.proofs.Passing.{passing_is}
use Rattle.compare.proofs.indices.same_to.Goals as goal
use Rattle.compare.proofs.indices.same_to.Invariants.{Same}

same_next : (us vs : List ℕ) (j : ℕ) → Same us vs j → index_at us j ≡ index_at vs j → Same us vs (j + 1)
same_next us vs j a e i l = ⊎_elim (λ (q : i ≡ j). rw q (eq-eqb _ _ e)) (λ (k : i < j). a i k) (last_or_below (omega arith))

pub loop-j-init : goal.loop-j-init
loop-j-init c = (omega arith, λ i l. absurd (omega arith))

pub returns-then-raw_at : goal.returns-then-raw_at
returns-then-raw_at c =
    let l = c.loop-j in
    let a = c.args in
    passing_is a.n (λ j. eqb (index_at a.table.now j) (index_at a.second_table.now j)) l.j l.invariant.0 l.invariant.1
    (λ h. ne_eqb _ _ (λ z. c.if-raw_at.true (c.raw_at.ensures ∙ z ∙ sym c.raw_at-in-loop-j.ensures)))

pub loop-j-preserved : goal.loop-j-preserved
loop-j-preserved c =
    let l = c.loop-j in
    let a = c.args in
    (omega (arith, c.loop-j-test.true), same_next a.table.now a.second_table.now l.j l.invariant.1 (sym c.raw_at.ensures ∙ c.if-raw_at.false ∙ c.raw_at-in-loop-j.ensures))

pub returns : goal.returns
returns c =
    let l = c.loop-j in
    let a = c.args in
    let e : l.j ≡ a.n = omega (arith, c.loop-j-test.false, l.invariant.0) in
    passing_is a.n (λ j. eqb (index_at a.table.now j) (index_at a.second_table.now j)) a.n (omega arith) (rw e at l.invariant.1) (λ h. absurd (omega arith))
