-- `check_nodes` walks as `node_fields_number` does. From the steps of the walk.
use native.Mathlib.Omega.{arith}
use mathlib.Core.Path.{◌≡◌, sym, ◌∙◌, ap}
use Prim.Native.Nat.{ℕ, ◌+◌, ◌-◌}
use mathlib.Core.List.{List}
use Rattle.graph.proofs.Tests.{goes}
use Rattle.file_checks.specs.File.{node_size, node_fields_number, output_fields_number}
use Rattle.file_checks.proofs.Checked.{rest_at, stops_row, node_passed, nodes_step, nodes_done}
use Rattle.file_checks.proofs.faults.check_nodes.Goals as goal

ended : (n o : ℕ) (s : List ℕ) (low v end : ℕ) → n ≡ 0 → v ≡ end → node_fields_number n o s low v ≡ output_fields_number o s low end
ended n o s low v end e q = nodes_done n o s low v e ∙ ap (λ (t : ℕ). output_fields_number o s low t) q

pub loop-index-init : goal.loop-index-init
loop-index-init c =
    let a = c.args in
    let e : a.start + a.nodes - a.start ≡ a.nodes = omega arith in
    ap (λ (n : ℕ). node_fields_number n a.outputs a.rest.now a.start a.start) e

pub returns-in_err-check_node : goal.returns-in_err-check_node
returns-in_err-check_node c =
    let l = c.loop-index in
    stops_row _ _ _ _ l.invariant (nodes_step _ (c.args.start + c.args.nodes - (l.index + 1)) _ l.s.now _ _ (omega arith))
    c.from_residual.ensures.1 c.in_err-check_node.ensures

pub node_size-requires : goal.node_size-requires
node_size-requires c = let l = c.loop-index in node_passed l.s.now l.index (sym c.in_ok-check_node.ensures)

pub slice_bounds-s-count : goal.slice_bounds-s-count
slice_bounds-s-count c = let l = c.loop-index in omega (arith, node_passed l.s.now l.index (sym c.in_ok-check_node.ensures))

pub slice_bounds-s-start : goal.slice_bounds-s-start
slice_bounds-s-start c = let l = c.loop-index in omega (arith, node_passed l.s.now l.index (sym c.in_ok-check_node.ensures))

pub loop-index-preserved : goal.loop-index-preserved
loop-index-preserved c =
    let l = c.loop-index in
    rw (rest_at c.node_size.result (node_size l.s.now) l.s.now c.node_size.ensures.0)
    (goes _ _ l.invariant (nodes_step _ (c.args.start + c.args.nodes - (l.index + 1)) _ l.s.now _ _ (omega arith)) (sym c.in_ok-check_node.ensures))

pub returns : goal.returns
returns c =
    let l = c.loop-index in
    c.check_outputs.ensures ∙ sym (ended _ _ _ _ _ _ (omega arith) (omega arith)) ∙ l.invariant
