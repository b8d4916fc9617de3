-- What a preview promises beside its definition.
use Rattle.std.specs.Prelude.{◌≡◌}
use Rattle.graph.specs.All.{ℕ, List, length, Graph}
use Rattle.preview.specs.Preview.{preview_number, AsTreeCall, AsList}

pub record Promises : Type 0 where
  pub as_tree_call : (g : Graph) (ls bs : List ℕ) (s r : ℕ) → AsTreeCall g ls bs s r
  pub as_list : (g : Graph) (ls bs : List ℕ) (s r : ℕ) → preview_number g ls (length bs) s r ≡ 0 → AsList g ls bs s r
