-- `node_size` meets its contract. From what a node's field has.
use mathlib.Core.Path.{sym}
use native.Mathlib.Omega.{arith}
use Rattle.file_checks.proofs.Checked.{size_xor, size_majority}
use Rattle.file_checks.proofs.fields.node_size.Goals as goal

pub returns-then-s-eq3 : goal.returns-then-s-eq3
returns-then-s-eq3 c = (sym (size_xor c.args.s.now c.requires c.if-s-eq3.true), omega arith)

pub returns : goal.returns
returns c = (sym (size_majority c.args.s.now c.requires c.if-s-eq3.false), omega arith)
