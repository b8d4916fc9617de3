-- `explain` meets its contract: the nodes' words, the outputs, and then the moves. From the laws of what is noted and of what is told.
use mathlib.Core.Path.{◌≡◌, refl, sym, ap, ◌∙◌}
use mathlib.Core.List.{List}
use mathlib.Core.Logic.{⊎_elim}
use native.Mathlib.Omega.{arith}
use Prim.Native.Nat.{ℕ, ◌+◌, ◌*◌, ◌≤◌, ◌<◌}
use lib.ListN.{length, get_or}
use Rattle.graph.specs.Admission.{Admitted}
use Rattle.graph.specs.Finite.{if_less}
use Rattle.graph.specs.Graph.{Graph, node}
use Rattle.graph.proofs.Cases.{lt_or_le}
use Rattle.graph.proofs.Finite.{tab_same}
use Rattle.graph.proofs.Tests.{no_less}
use Rattle.moves.specs.Apply.{Choice}
use Rattle.many.specs.Making.{Noted, bare}
use Rattle.many.proofs.Sweeping.{bare_admitted, noted_none}
use Rattle.compare.specs.Telling.{apart, told, fits}
use Rattle.compare.proofs.Explained.{fit, out_fit, stops_at_node, stops_at_output, all_told}
use Rattle.compare.proofs.Noting.{bare_told, bare_fits, outs_are, moves_are}
use Rattle.compare.proofs.Passing.{passing_le}
use Rattle.compare.proofs.explaining.explain.Goals as goal
use Rattle.compare.proofs.explaining.explain.Goals.{After-tell_nodes-k, After-tell_outputs-j}
use Rattle.graph.specs.Tables.{lent_graph, lent_table}

-- once the nodes' words were looked at

module _ (k : After-tell_nodes-k) where
  abbrev table : List ℕ
  table = lent_table k.args.first.now.node_table

  abbrev outputs : List ℕ
  outputs = lent_table k.args.first.now.output_table

  abbrev graph : Graph
  graph = lent_graph k.args.first.now

  abbrev words : ℕ → ℕ
  words = apart table k.args.second.now.node_table.bits.now

  abbrev outs : ℕ → ℕ
  outs = apart outputs k.args.second.now.output_table.bits.now

  alone : Admitted (bare k.args.first.now.inputs k.args.first.now.nodes table)
  alone = bare_admitted k.args.first.now.inputs k.args.first.now.nodes k.args.first.now.outputs table outputs k.requires.0

  fit_is : k.tell_nodes-k.result ≡ fit graph words outs k.args.moves.now
  fit_is = let a = k.args in k.tell_nodes-k.ensures.0 ∙ bare_fits a.first.now.inputs a.first.now.nodes a.first.now.outputs table outputs words

  few : k.tell_nodes-k.result ≤ 3 * k.args.first.now.nodes
  few = omega (arith, fit_is, passing_le (3 * k.args.first.now.nodes) (fits graph words (told graph words)))

  -- and all are explained
  module _ (l : 3 * k.args.first.now.nodes ≤ k.tell_nodes-k.result) where
    all_fit : fit graph words outs k.args.moves.now ≡ 3 * k.args.first.now.nodes
    all_fit = omega (arith, fit_is, few, l)

    noted : let a = k.args in let g = bare a.first.now.inputs a.first.now.nodes table in Noted g (told g words) k.tell_nodes-k.new.seen (a.first.now.inputs + 1 + a.first.now.nodes)
    noted = k.tell_nodes-k.ensures.1 (omega (arith, few, l))

-- the outputs that fit

out-fit-is : (c : After-tell_outputs-j) →
    let a = c.args in
    let ns = lent_table a.first.now.node_table in
    let os = lent_table a.first.now.output_table in
    let ws = apart ns a.second.now.node_table.bits.now in
    let g = bare a.first.now.inputs a.first.now.nodes ns in
    Noted g (told g ws) c.tell_nodes-k.new.seen (a.first.now.inputs + 1 + a.first.now.nodes)
    → c.tell_outputs-j.result ≡ out_fit (lent_graph a.first.now) ws (apart os a.second.now.output_table.bits.now) a.moves.now
out-fit-is c h =
    let a = c.args in
    let ns = lent_table a.first.now.node_table in
    c.tell_outputs-j.ensures
    ∙ outs_are a.first.now.inputs a.first.now.nodes a.first.now.outputs ns (lent_table a.first.now.output_table) (apart ns a.second.now.node_table.bits.now) a.second.now.output_table.bits.now c.tell_nodes-k.new.seen c.requires.0 h

-- the moves filled are those told

byte-told : (n v y : ℕ) (m : ℕ → ℕ) (x : ℕ) → (v < n → x ≡ m v) → if_less v n x y ≡ if_less v n (m v) y
byte-told n v y m x e =
    ⊎_elim
    (λ (i : v < n). ap (λ (z : ℕ). if_less v n z y) (e i))
    (λ (i : n ≤ v). sym (no_less v n x y i refl) ∙ no_less v n (m v) y i refl)
    (lt_or_le v n)

pub tell_nodes-k-requires : goal.tell_nodes-k-requires
tell_nodes-k-requires c =
    (bare_admitted c.args.first.now.inputs c.args.first.now.nodes c.args.first.now.outputs _ _ c.requires.0, c.requires.1, λ d. noted_none (bare c.args.first.now.inputs c.args.first.now.nodes (lent_table c.args.first.now.node_table)) d)

pub returns-then-k-first : goal.returns-then-k-first
returns-then-k-first c =
    let k = (goal.at.returns-then-k-first c).After-tell_nodes-k in
    stops_at_node (graph k) (words k) (outs k) c.args.moves.now c.tell_nodes-k.result (fit_is k) c.if-k-first.true

pub tell_outputs-j-requires : goal.tell_outputs-j-requires
tell_outputs-j-requires c =
    let k = (goal.at.tell_outputs-j-requires c).After-tell_nodes-k in
    let d = c.requires.0 in
    (d.held_outputs, λ j h. omega (arith, d.output_below j h, d.few_inputs, d.few_nodes), c.requires.2, (noted k c.if-k-first.false).room)

pub returns-then-j-first : goal.returns-then-j-first
returns-then-j-first c =
    let k = (goal.at.returns-then-j-first c).After-tell_nodes-k in
    stops_at_output (graph k) (words k) (outs k) c.args.moves.now c.tell_outputs-j.result (all_fit k c.if-k-first.false) (out-fit-is (goal.at.returns-then-j-first c).After-tell_outputs-j (noted k c.if-k-first.false)) c.if-j-first.true

pub fill_moves-requires : goal.fill_moves-requires
fill_moves-requires c =
    let k = (goal.at.fill_moves-requires c).After-tell_nodes-k in
    (alone k, c.requires.1, (noted k c.if-k-first.false).room, c.requires.3)

pub returns : goal.returns
returns c =
    let k = (goal.at.returns c).After-tell_nodes-k in
    let a = c.args in
    let sn = c.tell_nodes-k.new.seen in
    all_told (graph k) (words k) (outs k) a.moves.now c.fill_moves.new.moves (all_fit k c.if-k-first.false) (omega (arith, c.if-j-first.false, out-fit-is (goal.at.returns c).After-tell_outputs-j (noted k c.if-k-first.false)))
    (c.fill_moves.ensures
    ∙ tab_same (length a.moves.now) _ _
    (λ v h.
    byte-told a.first.now.nodes v (get_or a.moves.now v 0) (λ u. told (graph k) (words k) (node (graph k) u)) _
    (λ q.
    moves_are a.first.now.inputs a.first.now.nodes (table k) a.second.now.node_table.bits.now (alone k) sn (noted k c.if-k-first.false) v q
    ∙ ap (λ (d : Choice). d (a.first.now.inputs + 1 + v)) (bare_told a.first.now.inputs a.first.now.nodes a.first.now.outputs (table k) (outputs k) (words k)))))
