-- `cells::node_cells` meets its contract: the sum over the nodes passed, at most 12 a node. From its callees' contracts.
use mathlib.Core.Path.{◌≡◌, refl, ap, ◌∙◌}
use mathlib.Core.Bool.{Bool, cond}
use mathlib.Core.List.{[]}
use native.Mathlib.Numerals.{add-one}
use native.Mathlib.Omega.{arith}
use Rattle.graph.specs.Finite.{sum}
use Rattle.class_figures.specs.Figures.{kind_cells}
use Rattle.class_figures.specs.Inner.{node_cells}
use Rattle.class_figures.proofs.cells.node_cells.Goals as goal
use Rattle.class_figures.proofs.cells.node_cells.Invariants.{so_far}
use Rattle.graph.specs.Tables.{lent_table}

-- the sum so far

pub loop-v-init : goal.loop-v-init
unfolding sum
loop-v-init c = (omega arith, omega arith, refl)

pub is_xor-requires : goal.is_xor-requires
is_xor-requires c = c.requires.words _ (omega arith)

pub overflow_add-cells : goal.overflow_add-cells
overflow_add-cells c = omega (arith, c.kind_cells-cells.ensures.1, c.requires.few)

pub loop-v-preserved : goal.loop-v-preserved
unfolding sum kind_cells
loop-v-preserved c =
    let a = c.args in
    let e = c.kind_cells-cells.ensures.0 ∙ ap (λ (b : Bool). cond b 12 5) (c.is_xor.ensures 0 a.nodes 0 []) in
    (omega arith, omega (arith, c.kind_cells-cells.ensures.1), rw (add-one c.loop-v.v) (omega (arith, e, c.loop-v.invariant.2)))

pub returns : goal.returns
unfolding node_cells
returns c =
    let a = c.args in
    let e : c.loop-v.v ≡ a.nodes = omega arith in
    c.loop-v.invariant.2 ∙ ap (so_far a.nodes (lent_table a.node_table.now)) e
