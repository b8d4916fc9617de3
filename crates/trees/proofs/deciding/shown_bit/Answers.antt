-- `shown_bit` meets its contract. From the law on what a word shows.
use mathlib.Core.Path.{◌≡◌, ap, ◌∙◌}
use Prim.Native.Nat.{◌+◌, ◌*◌, ◌/◌, ◌%◌}
use native.Mathlib.Omega.{arith}
use Rattle.graph.specs.Graph.{Graph, word, is_edge}
use Rattle.graph.proofs.Words.{readable}
use Rattle.state.specs.State.{stands}
use Rattle.trees.proofs.Shown.{fits_kind, shown_is}
use Rattle.trees.proofs.deciding.shown_bit.Goals as goal
use Rattle.trees.proofs.deciding.shown_bit.Goals.{Start}
use Rattle.graph.specs.Tables.{lent_graph}

abbrev graph-of : Start → Graph
graph-of s = lent_graph s.args.lent.now

pub is_xor-xor-requires : goal.is_xor-xor-requires
is_xor-xor-requires c = readable (graph-of (goal.at.is_xor-xor-requires c).Start) c.requires.0.admitted (c.args.p / 3) (omega (arith, c.requires.1))

pub read-requires : goal.read-requires
read-requires c = omega (arith, c.requires.1, c.requires.0.admitted.few_nodes, c.requires.0.long)

pub flag_of-f-requires : goal.flag_of-f-requires
flag_of-f-requires c = (fits_kind _ _ _ _ _ (c.is_xor-xor.ensures _ _ _ _) c.read.ensures c.requires.3, omega arith)

pub bit_now-b-requires : goal.bit_now-b-requires
bit_now-b-requires c = (c.requires.0, omega (arith, c.requires.1), omega arith)

pub overflow_add-result : goal.overflow_add-result
overflow_add-result c = omega (arith, c.bit_now-b.ensures.1, c.flag_of-f.ensures.1)

pub returns : goal.returns
returns c =
    let p = c.args.p in
    let g = graph-of (goal.at.returns c).Start in
    let e : 3 * (p / 3) + p % 3 ≡ p = omega arith in
    let x = c.bit_now-b.ensures.0 (ap (is_edge g) e ∙ c.requires.2) in
    shown_is g c.args.scratch.now p _ _ _ _ (x ∙ ap (λ j. word (stands g c.args.scratch.now) j % 2) e) (c.is_xor-xor.ensures _ _ _ _) c.read.ensures c.flag_of-f.ensures.0
