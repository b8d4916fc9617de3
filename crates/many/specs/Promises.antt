-- What many moves promise beside their definition.
use Rattle.graph.specs.All.{ℕ, List, Graph}
use Rattle.many.specs.Many.{EveryOrder}

pub record Promises : Type 0 where
  pub every_order : (g : Graph) (ls us ms : List ℕ) → EveryOrder g ls us ms
