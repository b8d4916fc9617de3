-- The state between the calls of a settling: the tables as they were at its start, and eight words of scratch a node, in which every
-- complement bit of the nodes' words stands. What inner functions ask of each other, and no promise to a caller.
use Rattle.std.specs.Prelude.{◌≡◌, true, cond, ◌≢◌, List, ℕ, ◌+◌, ◌-◌, ◌*◌, ◌/◌, ◌%◌, ◌≤◌, ◌<◌, length, get_or}
use Rattle.graph.specs.Finite.{if_less}
use Rattle.graph.specs.Graph.{Graph, node, word, index, is_edge, is_xor, mark}
use Rattle.graph.specs.Literals.{bit, index_at}
use Rattle.graph.specs.Turned.{turned_by, up_to}
use Rattle.graph.specs.Count.{readers}
use Rattle.graph.specs.Admission.{Admitted}
use Rattle.moves.specs.Tree.{is_root, place, root_of}
use Rattle.moves.specs.Cost.{shown}

-- field f of node v:
-- 0: its readers; 1: how many of them are complemented in the graph that the state stands for; 2: in bit 0, 1 where a turn of all its
-- readers is pending, and in bits 1 to 3 the complement bits of its three words, before what is pending at the nodes that they name; 3: the
-- place of its only reading word, the mark at a root; 4: its two cost bits, cost 0 + 2 × cost 1, and once its tree is decided its move; 5, 6:
-- the next lower and the next higher node of its tree, the mark where there is none; 7: at a root, the lowest node of its tree
abbrev pub field : List ℕ → ℕ → ℕ → ℕ
field sc v f = get_or sc (8 * v + f) 0

-- bit k of field 2 of node v
abbrev pub bit_in : List ℕ → ℕ → ℕ → ℕ
bit_in sc v k = bit k (field sc v 2)

-- the complement bit that is kept for the word at place j of the node table
abbrev pub kept_bit : List ℕ → ℕ → ℕ
kept_bit sc j = bit_in sc (j / 3) (1 + j % 3)

-- whether a turn of the readers of index u is pending, of a graph with i inputs and n nodes
unfoldable pub pending_at : ℕ → ℕ → List ℕ → ℕ → ℕ
pending_at i n sc u = if_less i u (if_less u (i + 1 + n) (bit_in sc (u - (i + 1)) 0) 0) 0

-- what is pending for the word at place j of the table l; the mark names no node
abbrev pub due_in : ℕ → ℕ → List ℕ → List ℕ → ℕ → ℕ
due_in i n sc l j = pending_at i n sc (index (get_or l j 0))

-- how often a word of a graph's tables has to be turned: an edge of a node has the bit that is kept, turned by what is pending
unfoldable pub due : Graph → List ℕ → ℕ → ℕ
due g sc = up_to (3 * g.N) (λ j. cond (is_edge g j) (word g j + kept_bit sc j + due_in g.I g.N sc g.nodes j) 0)

unfoldable pub output_due : Graph → List ℕ → ℕ → ℕ
output_due g sc = up_to g.O (due_in g.I g.N sc g.outputs)

-- the graph that the tables and scratch stand for
unfoldable pub stands : Graph → List ℕ → Graph
stands g sc = turned_by g (due g sc) (output_due g sc)

-- the complement bit that the state has for the word at place j, us being the index table
unfoldable pub bit_now : ℕ → ℕ → List ℕ → List ℕ → ℕ → ℕ
bit_now i n sc us j = (kept_bit sc j + pending_at i n sc (index_at us j)) % 2

-- v and w are nodes of one tree, and none of its nodes is between them
pub record Neighbours (g : Graph) (v w : ℕ) : Type 0 where
  pub rising : v < w
  pub within : w < g.N
  pub same : root_of g (node g w) ≡ root_of g (node g v)
  pub between : (x : ℕ) → v < x → x < w → root_of g (node g x) ≢ root_of g (node g v)

-- the links of the trees' nodes
pub record Linked (g : Graph) (sc : List ℕ) : Type 0 where
  pub lower : (v : ℕ) → v < g.N → field sc v 5 ≢ mark → Neighbours g (field sc v 5) v
  pub no_lower : (v : ℕ) → v < g.N → field sc v 5 ≡ mark → (x : ℕ) → x < v → root_of g (node g x) ≢ root_of g (node g v)
  pub higher : (v : ℕ) → v < g.N → field sc v 6 ≢ mark → Neighbours g v (field sc v 6)
  pub no_higher : (v : ℕ) → v < g.N → field sc v 6 ≡ mark → is_root g (node g v) ≡ true
  pub lowest : (v : ℕ) → v < g.N → is_root g (node g v) ≡ true → (field sc v 7 ≤ v) × (root_of g (node g (field sc v 7)) ≡ node g v)
  pub no_lowest : (v : ℕ) → v < g.N → is_root g (node g v) ≡ true → (x : ℕ) → x < field sc v 7 → root_of g (node g x) ≢ node g v

-- the state is in order
pub record Ordered (g : Graph) (sc : List ℕ) : Type 0 where
  pub admitted : Admitted g
  pub long : 8 * g.N ≤ length sc
  pub reads : (v : ℕ) → v < g.N → field sc v 0 ≡ readers g (node g v)
  pub odd : (v : ℕ) → v < g.N → field sc v 1 ≡ shown (stands g sc) (node g v) 0
  pub marks : (v : ℕ) → v < g.N → is_xor g v ≡ true → bit_in sc v 3 ≡ 0
  pub placed : (v : ℕ) → v < g.N → field sc v 3 ≡ cond (is_root g (node g v)) mark (place g (node g v))
  pub linked : Linked g sc

-- what reading pending turns asks: the limits, and the length of scratch
pub record Pendings (i n : ℕ) (sc : List ℕ) : Type 0 where
  pub few_inputs : i ≤ 4096
  pub few_nodes : n ≤ 100000
  pub long : 8 * n ≤ length sc
