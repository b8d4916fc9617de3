-- `check_outputs` meets its contract: 5 where an output is at fault. From the law of counted faults.
use Rattle.std.proofs.Common.{◌≡◌, ◌+◌, sym, ◌∙◌, arith}
use Rattle.graph.specs.Inner.{over_at}
use Rattle.graph.specs.Literals.{literals}
use Rattle.graph.specs.Graph.{graph_of}
use Rattle.graph.specs.Admission.{output_number}
use Rattle.graph.proofs.Checked.{counted_first, over_five}
use Rattle.graph.proofs.Literals.{held_literals}
use Rattle.graph.proofs.faults.check_outputs.Goals as goal

pub high_outputs-requires : goal.high_outputs-requires
high_outputs-requires c = let a = c.args in omega (arith, held_literals a.output_table.now.indices.now a.output_table.now.bits.now)

pub returns : goal.returns
unfolding output_number
returns c ns =
    let a = c.args in
    let us = a.output_table.now.indices.now in
    let bs = a.output_table.now.bits.now in
    let e : a.inputs + 1 + a.nodes ≡ a.inputs + a.nodes + 1 = omega arith in
    let end = a.inputs + a.nodes + 1 in
    c.check_none.ensures
    ∙ rw c.high_outputs.ensures
    (sym (counted_first a.outputs (output_number (graph_of a.inputs a.nodes a.outputs ns (literals us bs))) (over_at end us)
    (λ j h. rw e (over_five us bs j (omega (arith, c.requires.3)) end (omega (arith, c.requires.0, c.requires.1))))))
