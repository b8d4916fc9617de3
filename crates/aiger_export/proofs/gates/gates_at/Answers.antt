-- `gates_at` meets its contract: the third word decides. From the laws on ANDs.
use mathlib.Core.Path.{sym, ◌∙◌}
use native.Mathlib.Omega.{arith}
use Rattle.graph.specs.Graph.{graph_of, is_xor}
use Rattle.aiger.proofs.Gates.{of_xor, of_majority}
use Rattle.aiger_export.proofs.gates.gates_at.Goals as goal
use Rattle.graph.specs.Tables.{lent_table}

pub overflow_mul-v : goal.overflow_mul-v
overflow_mul-v c = omega (arith, c.requires.few)

pub overflow_add-v : goal.overflow_add-v
overflow_add-v c = omega (arith, c.requires.few)

pub is_mark_at-requires : goal.is_mark_at-requires
is_mark_at-requires c = (c.requires.there, c.requires.third)

pub returns-then-is_mark_at : goal.returns-then-is_mark_at
unfolding is_xor
returns-then-is_mark_at c = ((λ i n o os. let a = c.args in sym (of_xor (graph_of i n o (lent_table a.node_table.now) os) a.v (sym c.is_mark_at.ensures ∙ c.if-is_mark_at.true))), omega arith)

pub returns : goal.returns
unfolding is_xor
returns c = ((λ i n o os. let a = c.args in sym (of_majority (graph_of i n o (lent_table a.node_table.now) os) a.v (sym c.is_mark_at.ensures ∙ c.if-is_mark_at.false))), omega arith)
