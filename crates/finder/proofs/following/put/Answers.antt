-- `put` meets its contract.
use mathlib.Core.Path.{refl}
use native.Mathlib.Omega.{arith}
use lib.ListN.{length-set}
use lib.Seq.{get_or-set_same, get_or-set_other}
use Rattle.finder.proofs.following.put.Goals as goal

pub returns-in-Some : goal.returns-in-Some
returns-in-Some c =
    let a = c.args in
    rw c.in-Some.is
    (record {
      same = length-set a.heads.now a.n _;
      same_words = length-set a.met.now a.n _;
      kept = λ k h. (get_or-set_other a.heads.now a.n k _ 0 (λ e. omega arith), get_or-set_other a.met.now a.n k _ 0 (λ e. omega arith));
      behind = (refl, get_or-set_same a.heads.now a.n _ 0 c.requires.0, get_or-set_same a.met.now a.n _ 0 c.requires.1);
    })

pub returns : goal.returns
returns c = rw c.in_default.is (record { same = refl; same_words = refl; kept = λ k h. (refl, refl); behind = refl })
