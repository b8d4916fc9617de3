-- `check_nodes` meets its contract: 5 where a word is at fault. From the law of counted faults.
use Rattle.std.proofs.Common.{ℕ, ◌+◌, ◌*◌, ◌/◌, sym, ◌∙◌, arith}
use Rattle.graph.specs.Finite.{sum}
use Rattle.graph.specs.Inner.{fault_at}
use Rattle.graph.specs.Literals.{literals}
use Rattle.graph.specs.Graph.{graph_of}
use Rattle.graph.specs.Admission.{word_number}
use Rattle.graph.proofs.Checked.{counted_first, counts_any, counts_more, word_counted}
use Rattle.graph.proofs.Literals.{held_literals}
use Rattle.graph.proofs.faults.check_nodes.Goals as goal

pub four_faults-fours-requires : goal.four_faults-fours-requires
four_faults-fours-requires c = let a = c.args in omega (arith, held_literals a.node_table.now.indices.now a.node_table.now.bits.now)

pub rest_faults-rest-requires : goal.rest_faults-rest-requires
rest_faults-rest-requires c = let a = c.args in omega (arith, held_literals a.node_table.now.indices.now a.node_table.now.bits.now)

pub overflow_add-fours : goal.overflow_add-fours
overflow_add-fours c = omega (arith, c.rest_faults-rest.ensures.1, c.four_faults-fours.ensures.1)

pub returns : goal.returns
returns c o os =
    let a = c.args in
    let us = a.node_table.now.indices.now in
    let bs = a.node_table.now.bits.now in
    let f : ℕ → ℕ = fault_at a.inputs us bs in
    let p = c.four_faults-fours in
    let q = c.rest_faults-rest in
    c.check_none.ensures
    ∙ counts_any (sum (3 * a.nodes) f) (p.result + q.result) (counts_more (sum (12 * (a.nodes / 4)) f) p.result (sum (3 * a.nodes) f) q.result p.ensures.0 q.ensures.0)
    ∙ sym (counted_first (3 * a.nodes) (word_number (graph_of a.inputs a.nodes o (literals us bs) os)) f
    (λ j h. word_counted a.inputs a.nodes o us bs os c.requires.0 j (omega (arith, c.requires.2)) (omega (arith, c.requires.1))))
