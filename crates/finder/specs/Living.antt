-- Marking the nodes that live: 1 for each in the first words of scratch, by falling index. What the inner functions ask of each other, and
-- no promise to a caller.
use Rattle.std.specs.Prelude.{◌≡◌, true, cond, ◌≢◌, ◌⊎◌, List, ℕ, ◌+◌, ◌-◌, ◌*◌, ◌/◌, ◌≤◌, ◌<◌, length, get_or}
use Rattle.graph.specs.Graph.{Graph, node, word, output, is_edge}
use Rattle.hidden.specs.Find.{is_locked}
use Rattle.hidden.specs.Drop.{live}

-- the node that index u names is marked, if it names one; of a graph with i inputs
pub record Marked (i u : ℕ) (sc sc' : List ℕ) : Type 0 where
  pub same : length sc' ≡ length sc
  pub new : i < u → get_or sc' (u - (i + 1)) 0 ≡ 1
  pub old : (w : ℕ) → i + 1 + w ≢ u → get_or sc' w 0 ≡ get_or sc w 0

-- word k of node v names the index j
pub record NodeNames (g : Graph) (v j : ℕ) : Type 0 where
  pub k : ℕ
  pub within : k < 3
  pub edge : is_edge g (3 * v + k) ≡ true
  pub names : word g (3 * v + k) / 2 ≡ j

-- all that node v names is marked, and nothing else
pub record NodeMarked (g : Graph) (v : ℕ) (sc sc' : List ℕ) : Type 0 where
  pub same : length sc' ≡ length sc
  pub new : (k : ℕ) → k < 3 → is_edge g (3 * v + k) ≡ true → g.I < word g (3 * v + k) / 2 → get_or sc' (word g (3 * v + k) / 2 - (g.I + 1)) 0 ≡ 1
  pub old : (w : ℕ) → (get_or sc' w 0 ≡ get_or sc w 0) ⊎ ((get_or sc' w 0 ≡ 1) × NodeNames g v (node g w))

-- why a node is marked: it is locked, or one of the first p outputs names it, or a marked node does
pub record ByOutput (g : Graph) (p v : ℕ) : Type 0 where
  pub j : ℕ
  pub within : j < p
  pub names : output g j / 2 ≡ node g v

pub record ByNode (g : Graph) (sc : List ℕ) (v : ℕ) : Type 0 where
  pub reader : ℕ
  pub within : reader < g.N
  pub marked : get_or sc reader 0 ≡ 1
  pub names : NodeNames g reader (node g v)

abbrev pub Why : Graph → List ℕ → ℕ → List ℕ → ℕ → Type 0
Why g ls p sc v = (is_locked ls v ≡ true) ⊎ (ByOutput g p v ⊎ ByNode g sc v)

-- the nodes from m on have been visited, and the first p outputs
pub record Living (g : Graph) (ls : List ℕ) (m p : ℕ) (sc : List ℕ) : Type 0 where
  pub long : g.N ≤ length sc
  pub bits : (v : ℕ) → v < g.N → get_or sc v 0 ≤ 1
  pub why : (v : ℕ) → v < g.N → get_or sc v 0 ≡ 1 → Why g ls p sc v
  pub locks : (v : ℕ) → v < g.N → m ≤ v → is_locked ls v ≡ true → get_or sc v 0 ≡ 1
  pub outputs : (j : ℕ) → j < p → g.I < output g j / 2 → get_or sc (output g j / 2 - (g.I + 1)) 0 ≡ 1
  pub words : (v k : ℕ) → v < g.N → m ≤ v → get_or sc v 0 ≡ 1 → k < 3 → is_edge g (3 * v + k) ≡ true → g.I < word g (3 * v + k) / 2
      → get_or sc (word g (3 * v + k) / 2 - (g.I + 1)) 0 ≡ 1

-- a locked node is marked
pub record LockedMarked (ls : List ℕ) (v : ℕ) (sc sc' : List ℕ) : Type 0 where
  pub same : length sc' ≡ length sc
  pub new : is_locked ls v ≡ true → get_or sc' v 0 ≡ 1
  pub old : (w : ℕ) → (get_or sc' w 0 ≡ get_or sc w 0) ⊎ ((get_or sc' w 0 ≡ 1) × (w ≡ v) × (is_locked ls v ≡ true))

-- scratch says of each node whether it lives
abbrev pub Lives : Graph → List ℕ → List ℕ → Type 0
Lives g ls sc = (v : ℕ) → v < g.N → get_or sc v 0 ≡ cond (live g ls v) 1 0

-- the first n words are 0
pub record Zeroed (n : ℕ) (sc sc' : List ℕ) : Type 0 where
  pub same : length sc' ≡ length sc
  pub zero : (k : ℕ) → k < n → get_or sc' k 0 ≡ 0
