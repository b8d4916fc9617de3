-- `add_way` meets its contract.
use mathlib.Core.Path.{◌≡◌}
use native.Mathlib.Omega.{arith}
use lib.ListN.{length-set}
use lib.Seq.{get_or-set_same, get_or-set_other}
use Rattle.finder.proofs.following.add_way.Goals as goal

pub returns : goal.returns
returns c =
    let a = c.args in
    record {
      same = length-set a.ways.now a.n a.mask;
      few = omega arith;
      kept = λ k h. get_or-set_other a.ways.now a.n k a.mask 0 (λ e. omega arith);
      new = λ k h q. let e : k ≡ a.n = omega arith in rw e (get_or-set_same a.ways.now a.n a.mask 0 c.requires.0);
    }
