-- `put_refused` meets its contract: a refusal's line. From the laws on lines.
use native.Mathlib.Omega.{arith}
use mathlib.Core.Path.{ap}
use Rattle.graph.specs.Answer.{number_of}
use Rattle.report.specs.Report.{refused_text, line1}
use Rattle.report.proofs.Put.{put_front}
use Rattle.report.proofs.LineLaws.{length_refused}
use Rattle.report.proofs.lines.put_refused.Goals as goal

pub put_line1-requires : goal.put_line1-requires
unfolding refused_text
put_line1-requires c = let l = length_refused c.from.result (omega arith) in omega arith

pub returns : goal.returns
unfolding refused_text
returns c =
    let a = c.args in
    let n = c.from.result in
    let l = length_refused n (omega arith) in
    let p = c.put_line1.ensures in
    let f = put_front a.buffer.now _ (line1 refused_text n) (line1 refused_text (number_of a.refusal)) _ (ap (line1 refused_text) c.from.ensures) p in
    (f.0, omega arith, f.1)
