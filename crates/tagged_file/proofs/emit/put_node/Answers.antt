-- `put_node` stores a node's field, its words one after another and then its head. From the laws on the field's parts.
use mathlib.Core.Path.{◌≡◌, ap, ◌∙◌}
use Prim.Native.Nat.{◌+◌, ◌*◌, ◌≤◌}
use native.Mathlib.Omega.{arith}
use lib.ListN.{length}
use lib.Seq.{sets}
use Rattle.tagged_file.specs.Write.{node_field, node_field_at}
use Rattle.tagged_file.proofs.FieldBytes.{node_at_lem, length_node_least, node_length, node_stored}
use Rattle.tagged_file.proofs.emit.put_node.Goals as goal
use Rattle.tagged_file.proofs.emit.put_node.Goals.{After-node_payload-payload, Start}
use Rattle.graph.specs.Tables.{lent_table}

-- the buffer has at least 11 bytes from the place on

room : (s : Start) → s.args.at + 11 ≤ length s.args.buffer.now
room s = omega (arith, s.requires.1, length_node_least (lent_table s.args.node_table.now) s.args.v)

-- once its words are known: the field, and its length

module _ (c : After-node_payload-payload) where
  field_is : node_field c.word_of-x.result c.word_of-y.result c.word_of-z.result ≡ node_field_at (lent_table c.args.node_table.now) c.args.v
  field_is =
      let a = c.args in
      let e : 3 * a.v + 0 ≡ 3 * a.v = omega arith in
      node_at_lem (lent_table a.node_table.now) a.v _ _ _ (rw e at c.word_of-x.ensures) c.word_of-y.ensures c.word_of-z.ensures

  long : (length (node_field_at (lent_table c.args.node_table.now) c.args.v) ≡ 3 + c.node_payload-payload.result) × (8 ≤ c.node_payload-payload.result)
  long = rw field_is at (node_length c.word_of-x.result c.word_of-y.result c.word_of-z.result _ c.node_payload-payload.ensures)

pub three_at-three-requires : goal.three_at-three-requires
three_at-three-requires c = c.requires.0

pub word_of-x-requires : goal.word_of-x-requires
word_of-x-requires c = (c.requires.0, omega arith, c.three_at-three.ensures)

pub put_number-requires : goal.put_number-requires
put_number-requires c = omega (arith, room (goal.at.put_number-requires c).Start)

pub word_of-y-requires : goal.word_of-y-requires
word_of-y-requires c = (c.requires.0, omega arith, c.three_at-three.ensures)

pub put_number-requires-2 : goal.put_number-requires-2
put_number-requires-2 c = omega (arith, room (goal.at.put_number-requires-2 c).Start, c.put_number.auto.buffer)

pub word_of-z-requires : goal.word_of-z-requires
word_of-z-requires c = (c.requires.0, omega arith, c.three_at-three.ensures)

pub overflow_sub-last : goal.overflow_sub-last
overflow_sub-last c = omega (arith, long (goal.at.overflow_sub-last c).After-node_payload-payload)

pub put_number-requires-3 : goal.put_number-requires-3
put_number-requires-3 c =
    omega (arith, c.requires.1, long (goal.at.put_number-requires-3 c).After-node_payload-payload, c.put_number-2.auto.buffer, c.put_number.auto.buffer)

pub put_head-requires : goal.put_head-requires
put_head-requires c =
    omega (arith, room (goal.at.put_head-requires c).Start, c.put_number-3.auto.buffer, c.put_number-2.auto.buffer, c.put_number.auto.buffer)

pub overflow_add-result : goal.overflow_add-result
overflow_add-result c = omega (arith, c.well_formed.0, c.requires.1, long (goal.at.overflow_add-result c).After-node_payload-payload)

pub returns : goal.returns
returns c =
    let e = field_is (goal.at.returns c).After-node_payload-payload in (
      omega (arith, long (goal.at.returns c).After-node_payload-payload),
      node_stored c.word_of-x.result c.word_of-y.result c.word_of-z.result _ c.node_payload-payload.ensures _ _ _ _ _ _ _ _ c.node_tag.ensures
          c.last_number.ensures c.put_number.ensures c.put_number-2.ensures c.put_number-3.ensures c.put_head.ensures ∙ ap (sets c.args.buffer.now c.args.at) e,
    )
