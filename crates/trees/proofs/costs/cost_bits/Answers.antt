-- `cost_bits` meets its contract. From what the least moves cost.
use native.Mathlib.Omega.{arith}
use Rattle.trees.proofs.costs.cost_bits.Goals as goal

pub overflow_mul-result : goal.overflow_mul-result
overflow_mul-result c = omega (arith, c.over.ensures, c.over-2.ensures, c.least_cost-a.ensures.low, c.least_cost-b.ensures.low)

pub overflow_add-result : goal.overflow_add-result
overflow_add-result c = omega (arith, c.over.ensures, c.over-2.ensures, c.least_cost-a.ensures.low, c.least_cost-b.ensures.low)

pub returns : goal.returns
returns c = record { zero_cost = _; one_cost = _; zero_least = c.least_cost-a.ensures; one_least = c.least_cost-b.ensures; bits = omega (arith, c.over.ensures, c.over-2.ensures) }
