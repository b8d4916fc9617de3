-- `put_node` meets its contract: an XOR's line or a majority's. From the laws on lines.
use native.Mathlib.Omega.{arith}
use Rattle.report.specs.Report.{node_text, maj_text, xor_text, space_text, line3, line4}
use Rattle.report.proofs.Put.{put_as}
use Rattle.report.proofs.LineLaws.{length_xor, length_majority, xor_line, majority_line}
use Rattle.report.proofs.lines.put_node.Goals as goal

pub put_line3-requires : goal.put_line3-requires
unfolding node_text xor_text space_text
put_line3-requires c = let a = c.args in let l = length_xor a.index a.x a.y (omega arith) (omega arith) (omega arith) in omega arith

pub returns-then-z-eq-MARK : goal.returns-then-z-eq-MARK
unfolding node_text xor_text space_text
returns-then-z-eq-MARK c =
    let a = c.args in
    let l = length_xor a.index a.x a.y (omega arith) (omega arith) (omega arith) in
    put_as a.buffer.now _ (line3 node_text a.index xor_text a.x space_text a.y) _ _ _ 54 (xor_line a.index a.x a.y a.z c.if-z-eq-MARK.true) (omega arith) c.put_line3.ensures

pub put_line4-requires : goal.put_line4-requires
unfolding node_text maj_text space_text
put_line4-requires c = let a = c.args in let l = length_majority a.index a.x a.y a.z (omega arith) (omega arith) (omega arith) (omega arith) in omega arith

pub returns : goal.returns
unfolding node_text maj_text space_text
returns c =
    let a = c.args in
    let l = length_majority a.index a.x a.y a.z (omega arith) (omega arith) (omega arith) (omega arith) in
    put_as a.buffer.now _ (line4 node_text a.index maj_text a.x space_text a.y space_text a.z) _ _ _ 54 (majority_line a.index a.x a.y a.z c.if-z-eq-MARK.false) (omega arith) c.put_line4.ensures
