-- `turn_word_by` turns a word where f is 1 and nothing where it is 0.
use mathlib.Core.Path.{◌≡◌, sym, subst}
use mathlib.Core.Bool.{true, false}
use mathlib.Core.Logic.{⊎_elim}
use Prim.Native.Nat.{◌+◌, ◌*◌}
use native.Mathlib.Omega.{arith}
use Rattle.graph.specs.Graph.{Graph, is_edge}
use Rattle.graph.proofs.Cases.{true_or_false}
use Rattle.state.specs.State.{stands}
use Rattle.state.specs.Step.{word_turned, Became}
use Rattle.state.proofs.Stores.{word_still}
use Rattle.state.proofs.turning.turn_word_by.Goals as goal
use Rattle.state.proofs.turning.turn_word_by.Goals.{Start}
use Rattle.graph.specs.Tables.{lent_graph}

abbrev graph-of : Start → Graph
graph-of s = lent_graph s.args.lent.now

pub returns-then-f-eq0 : goal.returns-then-f-eq0
returns-then-f-eq0 c =
    let a = c.args in
    let g = graph-of (goal.at.returns-then-f-eq0 c).Start in
    subst (λ f. Became a.scratch.now g a.scratch.now (word_turned (stands g a.scratch.now) (3 * a.v + a.k) f)) (sym c.if-f-eq0.true) (word_still g a.scratch.now c.requires.0 (3 * a.v + a.k))

pub turn_word-requires : goal.turn_word-requires
turn_word-requires c =
    let j = 3 * c.args.v + c.args.k in (
      c.requires.0,
      c.requires.1,
      c.requires.2,
      ⊎_elim
          (λ (t : is_edge (graph-of (goal.at.turn_word-requires c).Start) j ≡ true). t)
          (λ (t : is_edge (graph-of (goal.at.turn_word-requires c).Start) j ≡ false). absurd (c.if-f-eq0.false (c.requires.3 t)))
          (true_or_false (is_edge (graph-of (goal.at.turn_word-requires c).Start) j)),
    )

pub returns : goal.returns
returns c =
    let t = c.turn_word in
    let a = c.args in
    let g = graph-of (goal.at.returns c).Start in
    let one : a.f ≡ 1 = omega (arith, c.if-f-eq0.false, c.requires.4) in
    subst (λ f. Became a.scratch.now g t.new.scratch (word_turned (stands g a.scratch.now) (3 * a.v + a.k) f)) (sym one) t.ensures
