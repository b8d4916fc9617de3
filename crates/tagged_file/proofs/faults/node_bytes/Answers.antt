-- `node_bytes` is the length of a node's field, which its third word alone decides.
use native.Mathlib.Omega.{arith}
use mathlib.Core.Path.{sym, ◌∙◌}
use borrow.Author.Tests.{eqb-true, eqb-false}
use Rattle.tagged_file.proofs.FieldBytes.{length_xor, length_majority}
use Rattle.tagged_file.proofs.faults.node_bytes.Goals as goal

pub returns-then-is_mark_at : goal.returns-then-is_mark_at
returns-then-is_mark_at c = ((λ x y. length_xor x y _ (eqb-true _ _ (sym c.is_mark_at.ensures ∙ c.if-is_mark_at.true))), omega arith)

pub returns : goal.returns
returns c = ((λ x y. length_majority x y _ (eqb-false _ _ (sym c.is_mark_at.ensures ∙ c.if-is_mark_at.false))), omega arith)
