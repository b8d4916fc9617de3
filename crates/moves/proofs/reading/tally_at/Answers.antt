-- `tally_at` meets its contract. From what the index table tells, the bit of an edge, and the laws on tallies.
use Rattle.std.proofs.Common.{◌≤◌, ◌∙◌, arith}
use Rattle.graph.proofs.Literals.{names_yes, names_no}
use Rattle.graph.proofs.Words.{edge_bit_lem}
use Rattle.moves.proofs.Tally.{tally_here, tally_past, tally_le}
use Rattle.moves.proofs.reading.tally_at.Goals as goal
use Rattle.moves.proofs.reading.tally_at.Goals.{Start}
use Rattle.graph.specs.Tables.{lent_table}

-- a tally is at most the number of words

few : (s : Start) → let a = s.args in (a.t.count ≤ a.j) × (a.t.odd ≤ a.j)
few s = let a = s.args in tally_le (lent_table a.table.now) a.u a.j a.t.count a.t.odd s.requires.3

pub overflow_add-result : goal.overflow_add-result
overflow_add-result c = omega (arith, few (goal.at.overflow_add-result c).Start, c.requires.1)

pub overflow_add-result-then-index_at-u : goal.overflow_add-result-then-index_at-u
overflow_add-result-then-index_at-u c = omega (arith, few (goal.at.overflow_add-result-then-index_at-u c).Start, c.requires.1, c.odd_at.ensures.1)

pub returns-then-index_at-u : goal.returns-then-index_at-u
returns-then-index_at-u c =
    let a = c.args in
    let e = names_yes c.index_at.ensures a.u c.requires.2 c.if-index_at-u.true in
    tally_here (lent_table a.table.now) a.u a.j a.t.count a.t.odd c.odd_at.result c.requires.3 e (c.odd_at.ensures.0 ∙ edge_bit_lem _ (omega (arith, e, c.requires.2)))

pub returns : goal.returns
returns c =
    let a = c.args in
    tally_past (lent_table a.table.now) a.u a.j a.t.count a.t.odd c.requires.3 (names_no c.index_at.ensures a.u c.requires.2 c.if-index_at-u.false)
