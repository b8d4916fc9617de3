-- `literal` meets its contract: an input's literal stays, and a node's is in scratch. From the laws on literals in the export.
use Prim.Native.Nat.{◌-◌, ◌/◌}
use mathlib.Core.Path.{sym}
use native.Mathlib.Omega.{arith}
use Rattle.aiger.proofs.Gates.{exported_input}
use Rattle.aiger_export.proofs.Placed.{literal_node, literal_most}
use Rattle.aiger_export.proofs.gates.literal.Goals as goal

pub returns-then-index-circuit : goal.returns-then-index-circuit
returns-then-index-circuit c = sym (exported_input _ _ c.if-index-circuit.true)

pub overflow_add-result-2 : goal.overflow_add-result-2
overflow_add-result-2 c =
    let v = c.args.x / 2 - c.args.circuit.now.lent.inputs - 1 in
    omega (arith, c.requires.1 v (omega arith), literal_most _ c.args.circuit.now.admitted v (omega arith))

pub returns : goal.returns
returns c =
    let v = c.args.x / 2 - c.args.circuit.now.lent.inputs - 1 in
    rw (c.requires.1 v (omega arith)) (sym (literal_node _ _ v (omega arith)))
