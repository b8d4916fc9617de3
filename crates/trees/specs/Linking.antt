-- How the links of the trees' nodes are made, from the highest node down. What inner functions ask of each other, and
-- no promise to a caller.
use Rattle.std.specs.Prelude.{◌≡◌, true, false, cond, List, ◌≢◌, ℕ, ◌+◌, ◌*◌, ◌/◌, ◌%◌, ◌≤◌, ◌<◌, get_or}
use Rattle.graph.specs.Finite.{if_equal}
use Rattle.graph.specs.Graph.{Graph, graph_of, mark, node}
use Rattle.graph.specs.Admission.{Admitted}
use Rattle.moves.specs.Tree.{is_root, place, root_of}
use Rattle.state.specs.State.{field, Neighbours}

-- the place of each node's only reading word, the mark at a root
abbrev pub Placed : Graph → List ℕ → Type 0
Placed g sc = (v : ℕ) → v < g.N → field sc v 3 ≡ cond (is_root g (node g v)) mark (place g (node g v))

-- a reading word stands above what it names
abbrev pub Rising : ℕ → List ℕ → Type 0
Rising n sc = (v : ℕ) → v < n → field sc v 3 ≢ mark → (v < field sc v 3 / 3) × (field sc v 3 / 3 < n)

-- field 7 of the nodes from m on names one of them
abbrev pub Bounded : ℕ → List ℕ → ℕ → Type 0
Bounded n sc m = (v : ℕ) → m ≤ v → v < n → (m ≤ field sc v 7) × (field sc v 7 < n)

-- the root of a node whose links are made: field 7 of a node that is no root has it
unfoldable pub root_at : List ℕ → ℕ → ℕ
root_at sc w = if_equal (field sc w 3) mark w (field sc w 7)

-- a root linked: so far it is its whole tree
pub record RootLinked (v : ℕ) (sc sc' : List ℕ) : Type 0 where
  pub five : field sc' v 5 ≡ mark
  pub six : field sc' v 6 ≡ mark
  pub seven : field sc' v 7 ≡ v
  pub kept : (j : ℕ) → j ≢ 8 * v + 5 → j ≢ 8 * v + 6 → j ≢ 8 * v + 7 → get_or sc' j 0 ≡ get_or sc j 0

-- v linked below h, the lowest node of the tree of r so far
pub record BelowLinked (v r h : ℕ) (sc sc' : List ℕ) : Type 0 where
  pub five : field sc' v 5 ≡ mark
  pub six : field sc' v 6 ≡ h
  pub seven : field sc' v 7 ≡ r
  pub lower : field sc' h 5 ≡ v
  pub lowest : field sc' r 7 ≡ v
  pub kept : (j : ℕ) → j ≢ 8 * v + 5 → j ≢ 8 * v + 6 → j ≢ 8 * v + 7 → j ≢ 8 * h + 5 → j ≢ 8 * r + 7 → get_or sc' j 0 ≡ get_or sc j 0

-- node v linked
pub record LinkedAt (v : ℕ) (sc sc' : List ℕ) : Type 0 where
  pub root : field sc v 3 ≡ mark → RootLinked v sc sc'
  pub other : field sc v 3 ≢ mark → BelowLinked v (root_at sc (field sc v 3 / 3)) (field sc (root_at sc (field sc v 3 / 3)) 7) sc sc'

-- the nodes from m on are linked among each other
pub record Linking (g : Graph) (sc : List ℕ) (m : ℕ) : Type 0 where
  pub lower : (v : ℕ) → m ≤ v → v < g.N → field sc v 5 ≢ mark → Neighbours g (field sc v 5) v
  pub no_lower : (v : ℕ) → m ≤ v → v < g.N → field sc v 5 ≡ mark → (x : ℕ) → m ≤ x → x < v → root_of g (node g x) ≢ root_of g (node g v)
  pub higher : (v : ℕ) → m ≤ v → v < g.N → field sc v 6 ≢ mark → Neighbours g v (field sc v 6)
  pub no_higher : (v : ℕ) → m ≤ v → v < g.N → field sc v 6 ≡ mark → is_root g (node g v) ≡ true
  pub lowest : (v : ℕ) → m ≤ v → v < g.N → is_root g (node g v) ≡ true → (field sc v 7 ≤ v) × (root_of g (node g (field sc v 7)) ≡ node g v)
  pub no_lowest : (v : ℕ) → m ≤ v → v < g.N → is_root g (node g v) ≡ true → (x : ℕ) → m ≤ x → x < field sc v 7 → root_of g (node g x) ≢ node g v
  pub rooted : (v : ℕ) → m ≤ v → v < g.N → is_root g (node g v) ≡ false
      → (node g (field sc v 7) ≡ root_of g (node g v)) × (is_root g (node g (field sc v 7)) ≡ true)

-- fields 0 to 4 are as they were
abbrev pub LowKept : List ℕ → List ℕ → Type 0
LowKept sc sc' = (j : ℕ) → j % 8 < 5 → get_or sc' j 0 ≡ get_or sc j 0

-- the same for any graph of n nodes that scratch has the places of
abbrev pub LinkingAny : ℕ → List ℕ → List ℕ → ℕ → Type 0
LinkingAny n sc sc' m = (i o : ℕ) (ns os : List ℕ) → Admitted (graph_of i n o ns os) → Placed (graph_of i n o ns os) sc → Linking (graph_of i n o ns os) sc' m
