-- `count_names` meets its contract: the words passed are tallied. From the laws on tallies.
use Rattle.std.proofs.Common.{◌≡◌, arith}
use Rattle.moves.proofs.Tally.{tally_zero}
use Rattle.moves.proofs.reading.count_names.Goals as goal
use Rattle.graph.specs.Tables.{lent_table}

pub loop-j-init : goal.loop-j-init
loop-j-init c = let a = c.args in (omega arith, tally_zero (lent_table a.table.now) a.u)

pub tally_at-t-requires : goal.tally_at-t-requires
tally_at-t-requires c =
    let l = c.loop-j in
    let p = c.requires in
    (omega (arith, c.loop-j-test.true, p.0), omega (arith, c.loop-j-test.true, p.1), p.2, l.invariant.1)

pub returns : goal.returns
returns c =
    let e : c.loop-j.j ≡ c.args.n = omega arith in
    rw e at c.loop-j.invariant.1
