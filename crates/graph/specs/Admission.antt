-- Which graphs and locks are admitted, and which of the numbers 3, 4, 5 and 13 comes first. Locks are a byte a node beside the graph, 1
-- for locked and 0 for free; only the first N belong to it.
use Rattle.std.specs.Prelude.{◌*◌, ◌/◌, ◌≤◌, ◌<◌, ◌≡◌}
use Rattle.graph.specs.Words.{ℕ, true, cond, List, length, get_or}
use Rattle.graph.specs.{Finite.if_less, Finite.first, Finite.first_of, Graph.Graph, Graph.node, Graph.word, Graph.output, Graph.index, Graph.is_edge, Literals.held, Literals.strays}

-- 3: I, N or O above its limit; then 4: a lent table that holds so many literals, or a slice of so many lock bytes, too short
unfoldable pub room_number : ℕ → ℕ → ℕ → ℕ → ℕ → ℕ → ℕ
room_number i n o node_room output_room lock_room =
    if_less 4096 i 3
    (if_less 100000 n 3
    (if_less 4096 o 3
    (if_less node_room (3 * n) 4
    (if_less output_room o 4
    (if_less lock_room n 4 0)))))

-- the same of a graph in its tables, with the locks ls
unfoldable pub tables_number : Graph → List ℕ → ℕ
tables_number g ls = room_number g.I g.N g.O (held g.nodes) (held g.outputs) (length ls)

-- 5: a literal of a node names an index that is not below the node's own
unfoldable pub word_number : Graph → ℕ → ℕ
word_number g j = cond (is_edge g j) (if_less (index (word g j)) (node g (j / 3)) 0 5) 0

-- 5: an output names an index above the last node's
unfoldable pub output_number : Graph → ℕ → ℕ
output_number g j = if_less (index (output g j)) (node g g.N) 0 5

-- 5: a bit is set past the last of n literals, in its word
unfoldable pub stray_number : ℕ → List ℕ → ℕ
stray_number n l = if_less 0 (strays n l) 5 0

unfoldable pub strays_number : Graph → ℕ
strays_number g = first (stray_number (3 * g.N) g.nodes) (stray_number g.O g.outputs)

unfoldable pub literal_number : Graph → ℕ
literal_number g = first (strays_number g) (first (first_of (3 * g.N) (word_number g)) (first_of g.O (output_number g)))

-- 13: a lock byte above 1; of n nodes
unfoldable pub lock_number : List ℕ → ℕ → ℕ
lock_number ls v = if_less 1 (get_or ls v 0) 13 0

unfoldable pub locks_number : ℕ → List ℕ → ℕ
locks_number n ls = first_of n (lock_number ls)

-- all literals come before all locks
unfoldable pub content_number : Graph → List ℕ → ℕ
content_number g ls = first (literal_number g) (locks_number g.N ls)

-- the first of the four, or 0 where the graph and its locks are admitted
unfoldable pub admission_number : Graph → List ℕ → ℕ
admission_number g ls = first (tables_number g ls) (content_number g ls)

-- the same as facts
pub record Admitted (g : Graph) : Type 0 where
  pub few_inputs : g.I ≤ 4096
  pub few_nodes : g.N ≤ 100000
  pub few_outputs : g.O ≤ 4096
  pub long_nodes : 3 * g.N ≤ length g.nodes
  pub long_outputs : g.O ≤ length g.outputs
  pub held_nodes : 3 * g.N ≤ held g.nodes
  pub held_outputs : g.O ≤ held g.outputs
  pub clean_nodes : strays (3 * g.N) g.nodes ≡ 0
  pub clean_outputs : strays g.O g.outputs ≡ 0
  pub below : (j : ℕ) → j < 3 * g.N → is_edge g j ≡ true → index (word g j) < node g (j / 3)
  pub output_below : (j : ℕ) → j < g.O → index (output g j) < node g g.N

-- and of the locks of n nodes
pub record LockBytes (n : ℕ) (ls : List ℕ) : Type 0 where
  pub enough : n ≤ length ls
  pub bits : (v : ℕ) → v < n → get_or ls v 0 ≤ 1
