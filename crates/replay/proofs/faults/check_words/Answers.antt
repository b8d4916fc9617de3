-- `check_words` walks as `words_number` does: the walk over what is left comes to the whole.
use mathlib.Core.Path.{sym, ◌∙◌}
use native.Mathlib.Omega.{arith}
use Rattle.graph.proofs.Tests.{goes}
use Rattle.file_checks.proofs.Checked.{rest}
use Rattle.replay.proofs.Refusing.{words_step, words_done, stops_at}
use Rattle.replay.proofs.faults.check_words.Goals as goal

pub returns-in_err-check_call : goal.returns-in_err-check_call
returns-in_err-check_call c =
    let l = c.loop-s in
    stops_at _ _ _ _ c.from_residual.ensures.1 c.in_err-check_call.ensures l.invariant (words_step _ l.s.now (omega (arith, c.in-len3-up.len_at_least)))

pub loop-s-preserved : goal.loop-s-preserved
loop-s-preserved c =
    let l = c.loop-s in
    rw (rest 3 l.s.now) (goes _ _ l.invariant (words_step _ l.s.now (omega (arith, c.in-len3-up.len_at_least))) (sym c.in_ok-check_call.ensures))

pub returns : goal.returns
returns c = let l = c.loop-s in words_done _ l.s.now c.in_default.len_below ∙ l.invariant
