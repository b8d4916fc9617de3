-- `turn_node` meets its contract: the sweep goes past the node, and its index is noted. From the laws of the sweep and of what is noted.
use mathlib.Core.Path.{◌≡◌}
use mathlib.Core.Bool.{Bool}
use mathlib.Core.List.{[]}
use native.Mathlib.Omega.{arith}
use Prim.Native.Nat.{ℕ, ◌+◌, ◌<◌}
use Rattle.graph.specs.Graph.{Graph, is_xor}
use Rattle.graph.specs.Literals.{literals}
use Rattle.graph.proofs.Words.{readable}
use Rattle.moves.specs.Rows.{arity}
use Rattle.many.specs.Making.{Row, bare}
use Rattle.many.proofs.Sweeping.{kind_row, readers_turned_lem, noted_next}
use Rattle.many.proofs.making.turn_node.Goals as goal
use Rattle.many.proofs.making.turn_node.Goals.{After-is_xor-xor, After-note-arg-1, Start}

abbrev graph : Start → Graph
graph s = let a = s.args in bare a.inputs a.nodes (literals a.node_table.now a.node_bits.now)

-- the node's kind, and that it has the move

module _ (c : After-is_xor-xor) where
  kind : c.is_xor-xor.result ≡ is_xor ((bare c.args.inputs c.args.nodes (literals c.args.node_table.now c.args.node_bits.now))) c.args.v
  kind = c.is_xor-xor.ensures c.args.inputs c.args.nodes 0 []

  has-row : c.args.m < arity c.is_xor-xor.result
  has-row = kind_row ((bare c.args.inputs c.args.nodes (literals c.args.node_table.now c.args.node_bits.now))) c.args.v c.args.m _ kind c.requires.2

as-chosen : (x : Bool) (m k r : ℕ) → m ≡ k → Row x m r → Row x k r
as-chosen x m k r e w = rw e at w

-- the node's index

low : (c : After-note-arg-1) → let a = c.args in a.inputs + 1 + a.v < 104128
low c = omega (arith, c.requires.0.few_inputs, c.requires.0.few_nodes, c.requires.1)

pub is_xor-xor-requires : goal.is_xor-xor-requires
is_xor-xor-requires c = readable (graph (goal.at.is_xor-xor-requires c).Start) c.requires.0 c.args.v c.requires.1

pub row_of-row-requires : goal.row_of-row-requires
row_of-row-requires c = has-row (goal.at.row_of-row-requires c).After-is_xor-xor

pub turn_words-requires : goal.turn_words-requires
turn_words-requires c = (c.requires.0, c.requires.1, kind (goal.at.turn_words-requires c).After-is_xor-xor, c.requires.3)

pub overflow_add-inputs : goal.overflow_add-inputs
overflow_add-inputs c = omega (arith, low (goal.at.overflow_add-inputs c).After-note-arg-1)

pub overflow_add-inputs-2 : goal.overflow_add-inputs-2
overflow_add-inputs-2 c = omega (arith, low (goal.at.overflow_add-inputs-2 c).After-note-arg-1)

pub note-requires : goal.note-requires
note-requires c = omega (arith, low (goal.at.note-requires c).After-note-arg-1, c.requires.3)

pub returns : goal.returns
returns c =
    let a = c.args in
    λ d ns adm b m e.
    let r : Row c.is_xor-xor.result (d (a.inputs + 1 + a.v)) c.row_of-row.result = as-chosen _ _ _ _ m c.row_of-row.ensures in (
      c.turn_words.ensures d ns adm b r e,
      noted_next (bare a.inputs a.nodes ns) d a.seen.now c.note.new.seen (a.inputs + 1 + a.v) _ b c.note.auto.seen (omega arith)
          (readers_turned_lem a.inputs a.nodes d ns adm a.seen.now a.v b c.requires.1 (literals a.node_table.now a.node_bits.now) e c.is_xor-xor.result (kind (goal.at.returns c).After-is_xor-xor) c.row_of-row.result r) c.note.ensures,
    )
