-- `block_count` meets its contract: 64 times the blocks are 2 ^ i or more. From the laws on powers.
use Rattle.std.proofs.Common.{◌+◌, ◌^◌, ◌≤◌, arith, pow-add}
use lib.Pow.{pow_mono}
use Rattle.assignment.proofs.search.block_count.Goals as goal

pub returns : goal.returns
returns c =
    let k = c.saturating_sub.result in
    let all : c.args.inputs ≤ 6 + k = omega (arith, c.saturating_sub.ensures) in
    let ten : k ≤ 10 = omega (arith, c.saturating_sub.ensures, c.requires) in
    let p : 2 ^ c.args.inputs ≤ 2 ^ (6 + k) = pow_mono all in
    let q : 2 ^ k ≤ 1024 = pow_mono ten in
    (omega (arith, p, c.pow.ensures, pow-add 2 6 k), omega (arith, q, c.pow.ensures))
