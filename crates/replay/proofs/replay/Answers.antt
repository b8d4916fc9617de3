-- `replay` meets its contract: what is refused is refused at the words or at the file, and else every call is made. From the laws of Whole.
use mathlib.Core.Path.{sym}
use native.Mathlib.Omega.{arith}
use lib.ListN.{length}
use Rattle.replay.specs.Replay.{calls_number}
use Rattle.replay.specs.declared.ReplayFault.TheVariants.{NotCalls, Refused}
use Rattle.replay.proofs.Refusing.{calls_some, code_left, code_words, code_short, code_none, lesser_min}
use Rattle.replay.proofs.Whole.{fault_is, refused_words, refused_file, replays}
use Rattle.replay.proofs.replay.Goals as goal

pub returns-then-calls-ne0 : goal.returns-then-calls-ne0
returns-then-calls-ne0 c = refused_words _ _ _ _ _ _ _ 101 (code_left _ _ _ c.if-calls-ne0.true) (λ z. omega arith)

pub returns-in_err-check_words : goal.returns-in_err-check_words
returns-in_err-check_words c =
    let f = c.in_err-check_words.field-0.0 in
    rw (fault_is c.from_residual.result (NotCalls f) c.from_residual.ensures.1)
    (refused_words _ _ _ _ _ _ _ (calls_number f) (code_words _ _ _ _ c.if-calls-ne0.false c.in_err-check_words.ensures (calls_some f)) (calls_some f))

pub returns-then-min-calls : goal.returns-then-min-calls
returns-then-min-calls c =
    refused_words _ _ _ _ _ _ _ 4 (code_short _ _ _ c.if-calls-ne0.false (sym c.in_ok-check_words.ensures) (omega (arith, c.if-min-calls.true, lesser_min (length c.args.answers.now) 1152921504606846976))) (λ z. omega arith)

pub make_calls-nodes-requires : goal.make_calls-nodes-requires
make_calls-nodes-requires c = (omega (arith, c.if-min-calls.false), omega (arith, c.if-min-calls.false))

pub returns-in_err-sizes : goal.returns-in_err-sizes
returns-in_err-sizes c =
    let f = c.in_err-sizes.field-0.0 in
    rw (fault_is c.from_residual-in_err-sizes.result (Refused f) c.from_residual-in_err-sizes.ensures.1)
    (refused_file _ _ _ _ _ _ _ f _ _ _ (code_none _ _ _ c.if-calls-ne0.false (sym c.in_ok-check_words.ensures) (omega (arith, c.if-min-calls.false, lesser_min (length c.args.answers.now) 1152921504606846976))) c.in_err-sizes.ensures)

pub returns : goal.returns
returns c =
    replays _ _ _ _ _ _ _ _ _ _ _ _ _ _ _ _ (code_none _ _ _ c.if-calls-ne0.false (sym c.in_ok-check_words.ensures) (omega (arith, c.if-min-calls.false, lesser_min (length c.args.answers.now) 1152921504606846976))) c.in_ok-sizes.ensures c.make_calls-nodes.ensures.graph c.make_calls-nodes.ensures.answers
