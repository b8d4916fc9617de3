-- `node_call` meets its contract. From the laws on faults and outcomes.
use native.Mathlib.Omega.{arith}
use mathlib.Core.Path.{◌≡◌, sym, ap, ◌∙◌}
use mathlib.Core.List.{[], ◌∷◌}
use Prim.Native.Nat.{ℕ, ◌+◌, ◌-◌}
use Rattle.graph.specs.Graph.{Graph, graph_of}
use Rattle.graph.proofs.Answers.{accepted_outcome}
use Rattle.moves.specs.Call.{node_call, node_number, rewrite}
use Rattle.moves.proofs.Ends.{ends_outcome}
use Rattle.node_call.proofs.Refusing.{node_accepted}
use Rattle.graph.specs.Literals.{literals}
use Rattle.node_call.proofs.node_call.Goals as goal

pub returns-in_err-check_node : goal.returns-in_err-check_node
unfolding node_call
returns-in_err-check_node c = ends_outcome _ _ _ _ _ _ c.from_residual.ensures.1 c.in_err-check_node.ensures

pub overflow_add-v : goal.overflow_add-v
overflow_add-v c =
    let a = c.args in
    let g : Graph = graph_of a.inputs a.nodes a.outputs (literals a.node_table.now a.node_bits.now) (literals a.output_table.now a.output_bits.now) in
    omega (arith, (node_accepted g a.locks.now a.node (sym c.in_ok-check_node.ensures)).admitted.few_inputs)

pub overflow_sub-v : goal.overflow_sub-v
overflow_sub-v c =
    let a = c.args in
    let g : Graph = graph_of a.inputs a.nodes a.outputs (literals a.node_table.now a.node_bits.now) (literals a.output_table.now a.output_bits.now) in
    omega (arith, (node_accepted g a.locks.now a.node (sym c.in_ok-check_node.ensures)).after)

pub rewrite_node-requires : goal.rewrite_node-requires
rewrite_node-requires c =
    let a = c.args in
    let g : Graph = graph_of a.inputs a.nodes a.outputs (literals a.node_table.now a.node_bits.now) (literals a.output_table.now a.output_bits.now) in
    let d = node_accepted g a.locks.now a.node (sym c.in_ok-check_node.ensures) in
    (d.admitted, omega (arith, d.after, d.before), d.enough)

pub returns : goal.returns
unfolding node_call
returns c =
    let a = c.args in
    let g : Graph = graph_of a.inputs a.nodes a.outputs (literals a.node_table.now a.node_bits.now) (literals a.output_table.now a.output_bits.now) in
    let z = sym c.in_ok-check_node.ensures in
    let u : a.inputs + 1 + (a.node - (a.inputs + 1)) ≡ a.node = omega (arith, (node_accepted g a.locks.now a.node z).after) in
    c.rewrite_node.ensures ∙ ap (λ (n : ℕ). rewrite g a.locks.now (n ∷ [])) u ∙ accepted_outcome (node_number g a.locks.now a.node) g (rewrite g a.locks.now (a.node ∷ [])) z
