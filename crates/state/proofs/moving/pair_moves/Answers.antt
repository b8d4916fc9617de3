-- `pair_moves` decides a pair by the numbers of both nodes: its answer is the best of the pair.
use mathlib.Core.Path.{◌≡◌, sym, subst}
use Prim.Native.Nat.{◌≤◌}
use native.Mathlib.Omega.{arith}
use lib.ListN.{get_or}
use Rattle.graph.specs.Graph.{Graph, node}
use Rattle.moves.specs.Decide.{naming}
use Rattle.moves.proofs.Deciding.{naming_le}
use Rattle.state.proofs.Counting.{counted_now}
use Rattle.state.proofs.Pairs.{pair_fits, best_pair}
use Rattle.state.proofs.Parting.{pair_parted}
use Rattle.graph.proofs.Words.{readable}
use Rattle.state.proofs.moving.pair_moves.Goals as goal
use Rattle.state.proofs.moving.pair_moves.Goals.{After-which_name-which, Start}
use Rattle.graph.specs.Tables.{lent_graph, lent_table}

abbrev graph-of : Start → Graph
graph-of s = lent_graph s.args.lent.now

which-are : (c : After-which_name-which) → c.which_name-which.result ≡ naming (graph-of (goal.at.After-which_name-which c).Start) c.args.v (node (graph-of (goal.at.After-which_name-which c).Start) c.args.p)
which-are c = let a = c.args in c.which_name-which.ensures a.lent.now.inputs a.lent.now.nodes a.lent.now.outputs (lent_table a.lent.now.output_table)

pub overflow_add-lent : goal.overflow_add-lent
overflow_add-lent c = omega (arith, c.requires.0.admitted.few_inputs)

pub overflow_add-lent-2 : goal.overflow_add-lent-2
overflow_add-lent-2 c = omega (arith, c.requires.1, c.requires.2, c.requires.0.admitted.few_inputs, c.requires.0.admitted.few_nodes)

pub which_name-which-requires : goal.which_name-which-requires
which_name-which-requires c = (readable (graph-of (goal.at.which_name-which-requires c).Start) c.requires.0.admitted c.args.v c.requires.2, omega (arith, c.requires.1, c.requires.2, c.requires.0.admitted.few_inputs, c.requires.0.admitted.few_nodes))

pub first_pair-best-requires : goal.first_pair-best-requires
first_pair-best-requires c =
    let a = c.args in
    let g = graph-of (goal.at.first_pair-best-requires c).Start in (
      counted_now g a.lent.now.locks.now a.scratch.now c.requires.0 a.p (omega (arith, c.requires.1, c.requires.2)) c.numbers_now-named.result c.numbers_now-named.ensures,
      counted_now g a.lent.now.locks.now a.scratch.now c.requires.0 a.v c.requires.2 c.numbers_now-node.result c.numbers_now-node.ensures,
      λ i. subst (λ w. get_or w i 0 ≤ 1) (sym (which-are (goal.at.first_pair-best-requires c).After-which_name-which)) (naming_le g a.v (node g a.p) i),
    )

pub pair_odds-odds-requires : goal.pair_odds-odds-requires
pair_odds-odds-requires c =
    let a = c.args in
    let g = graph-of (goal.at.pair_odds-odds-requires c).Start in (
      counted_now g a.lent.now.locks.now a.scratch.now c.requires.0 a.p (omega (arith, c.requires.1, c.requires.2)) c.numbers_now-named.result c.numbers_now-named.ensures,
      counted_now g a.lent.now.locks.now a.scratch.now c.requires.0 a.v c.requires.2 c.numbers_now-node.result c.numbers_now-node.ensures,
      c.first_pair-best.ensures.below,
      c.first_pair-best.ensures.fits,
    )

pub returns : goal.returns
returns c =
    let a = c.args in
    let k = c.first_pair-best.result in
    let fits =
    pair_fits (graph-of (goal.at.returns c).Start) a.lent.now.locks.now a.scratch.now c.requires.0 a.p a.v c.requires.1 c.requires.2 c.numbers_now-named.result c.numbers_now-node.result c.which_name-which.result
    c.numbers_now-named.ensures c.numbers_now-node.ensures (which-are (goal.at.returns c).After-which_name-which) k.named k.node c.first_pair-best.ensures in
    let best =
    best_pair (graph-of (goal.at.returns c).Start) a.lent.now.locks.now a.scratch.now c.requires.0 a.p a.v c.requires.1 c.requires.2 c.numbers_now-named.result c.numbers_now-node.result c.which_name-which.result
    c.numbers_now-named.ensures c.numbers_now-node.ensures (which-are (goal.at.returns c).After-which_name-which) k.named k.node c.first_pair-best.ensures in (
      fits.0,
      fits.1,
      best,
      pair_parted (graph-of (goal.at.returns c).Start) a.lent.now.locks.now a.scratch.now c.requires.0 a.p a.v c.requires.1 c.requires.2 c.numbers_now-named.result c.numbers_now-node.result c.which_name-which.result
          c.numbers_now-named.ensures c.numbers_now-node.ensures (which-are (goal.at.returns c).After-which_name-which) k.named k.node best c.pair_odds-odds.result c.pair_odds-odds.ensures 0,
    )
