-- `put_outputs` stores the outputs' fields one after another. From the laws on fields in a row.
use native.Mathlib.Omega.{arith}
use mathlib.Core.Path.{ap, ◌∙◌}
use Prim.Native.Nat.{ℕ}
use lib.Seq.{sets}
use Rattle.tagged_file.proofs.Emitted.{left_start, left_room, left_next, left_none}
use Rattle.tagged_file.specs.Write.{big, field_of, output_field, output_field_at}
use Rattle.tagged_file.proofs.FieldBytes.{length_output_at}
use Rattle.tagged_file.proofs.emit.put_outputs.Goals as goal
use Rattle.graph.specs.Tables.{lent_table}

pub loop-j-init : goal.loop-j-init
loop-j-init c = left_start _ _ _ _

pub edge_at-requires : goal.edge_at-requires
edge_at-requires c = let l = c.loop-j in (omega (arith, c.requires.0.0), c.requires.0.1 l.j (omega arith))

pub put_single-requires : goal.put_single-requires
unfolding output_field_at output_field
put_single-requires c = let l = c.loop-j in let r = left_room _ _ _ _ l.buffer l.at l.j _ l.invariant (omega arith) c.requires.1 in omega (arith, length_output_at (lent_table c.args.output_table.now) l.j)

pub overflow_add-at : goal.overflow_add-at
overflow_add-at c = let l = c.loop-j in let r = left_room _ _ _ _ l.buffer l.at l.j _ l.invariant (omega arith) c.requires.1 in omega (arith, length_output_at (lent_table c.args.output_table.now) l.j)

pub loop-j-preserved : goal.loop-j-preserved
unfolding output_field_at output_field
loop-j-preserved c = let l = c.loop-j in left_next _ _ _ _ l.buffer l.at l.j l.invariant (omega arith) _ _ (c.put_single.ensures ∙ ap (λ (x : ℕ). sets l.buffer l.at (field_of 4 (big 4 x))) c.edge_at.ensures) (omega (arith, length_output_at (lent_table c.args.output_table.now) l.j))

pub shape_of-buffer : goal.shape_of-buffer
shape_of-buffer c = c.loop-j.invariant.same

pub returns : goal.returns
returns c = let l = c.loop-j in left_none _ _ _ _ l.buffer l.at l.j _ l.invariant (omega arith)
