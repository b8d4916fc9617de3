-- The finder's pass, one node. What the inner functions ask of each other, and no promise to a caller.
use Rattle.std.specs.Prelude.{◌≡◌, cond, ◌||◌, List, ℕ, ◌+◌, ◌*◌, ◌/◌, ◌≤◌, ◌<◌, length}
use Rattle.graph.specs.Admission.{Admitted}
use Rattle.graph.specs.Graph.{Graph, node}
use Rattle.evaluation.specs.Inner.{nodes_of}
use Rattle.state.specs.State.{field}
use Rattle.hidden.specs.Truth.{Triple}
use Rattle.hidden.specs.Majority.{made}
use Rattle.hidden.specs.Find.{near, triples, first_made, is_locked, is_plain}
use Rattle.majority_call.specs.Valuing.{Facts}
use Rattle.finder.specs.Living.{NodeNames}
use Rattle.finder.specs.Signs.{Signed}
use Rattle.finder.specs.Ways.{Open}

-- scratch says what is true, of nodes below v only; and field 0 of a node is 0 or 1, or twice an index that it names and from which a way is known
pub record Clean (g : Graph) (v : ℕ) (sc : List ℕ) : Type 0 where
  pub facts : Facts g sc
  pub room : 8 * g.N ≤ length sc
  pub empty : (w : ℕ) → v ≤ w → w < g.N → field sc w 2 ≡ 0
  pub high : (w : ℕ) → v ≤ w → w < g.N → field sc w 0 ≡ 0
  pub names : (w : ℕ) → w < v → 1 < field sc w 0 → NodeNames g w (field sc w 0 / 2)
  pub opens : (w : ℕ) → w < v → 1 < field sc w 0 → Open g.I sc (field sc w 0 / 2)

-- node v made the majority of t, where f is a truth value and not 256
pub record Becomes (g : Graph) (v f : ℕ) (t : Triple) (ns : List ℕ) : Type 0 where
  pub changed : f < 256 → nodes_of g.I g.N ns ≡ made g t (node g v)
  pub kept : 256 ≤ f → ns ≡ g.nodes

-- the words of node v passed: made, or as they were. What scratch tells is true of the new graph
pub record Changed (g : Graph) (ls : List ℕ) (v : ℕ) (ns sc : List ℕ) : Type 0 where
  pub table : nodes_of g.I g.N ns ≡ cond (is_locked ls v || is_plain g v) g (first_made g (node g v) (triples (near g (node g v))))
  pub admitted : Admitted (nodes_of g.I g.N ns)
  pub clean : Clean (nodes_of g.I g.N ns) v sc
  pub signed : Signed (nodes_of g.I g.N ns) (v + 1) sc

-- and its way down
pub record Stepped (g : Graph) (ls : List ℕ) (v : ℕ) (ns sc : List ℕ) : Type 0 where
  pub table : nodes_of g.I g.N ns ≡ cond (is_locked ls v || is_plain g v) g (first_made g (node g v) (triples (near g (node g v))))
  pub clean : Clean (nodes_of g.I g.N ns) (v + 1) sc
  pub signed : Signed (nodes_of g.I g.N ns) (v + 1) sc
