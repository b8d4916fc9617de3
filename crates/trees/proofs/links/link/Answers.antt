-- `link` meets its contract: a root, or a node below the lowest so far. From the laws on links.
use mathlib.Core.Path.{◌≡◌, ap, ◌∙◌}
use mathlib.Core.Logic.{◌≢◌}
use Prim.Native.Nat.{◌/◌}
use Rattle.graph.specs.Graph.{mark}
use Rattle.state.specs.State.{field}
use Rattle.trees.specs.Linking.{root_at}
use Rattle.trees.proofs.LinkSteps.{root_above}
use native.Mathlib.Omega.{arith}
use Rattle.trees.proofs.links.link.Goals as goal

pub returns-then-place : goal.returns-then-place
returns-then-place c = record { root = λ e. c.link_root.ensures; other = λ d. absurd (d (omega (arith, c.read-place.ensures))) }

pub root_at-root-requires : goal.root_at-root-requires
root_at-root-requires c =
    let d : field c.args.scratch.now c.args.v 3 ≢ mark = λ e. omega (arith, c.read-place.ensures) in
    let a = c.requires.3 _ c.requires.2 d in
    omega (arith, c.read-place.ensures, a)

pub link_below-requires : goal.link_below-requires
link_below-requires c =
    let d : field c.args.scratch.now c.args.v 3 ≢ mark = λ e. omega (arith, c.read-place.ensures) in
    let q : c.root_at-root.result ≡ root_at c.args.scratch.now (field c.args.scratch.now c.args.v 3 / 3) =
    c.root_at-root.ensures ∙ ap (root_at c.args.scratch.now) (ap (λ z. z / 3) c.read-place.ensures) in
    let a = root_above c.args.nodes c.args.scratch.now c.args.v c.requires.2 c.requires.3 c.requires.4 d in
    let b = c.requires.4 c.root_at-root.result (omega (arith, a)) (omega (arith, a)) in
    omega (arith, a, b)

pub returns : goal.returns
returns c =
    let q : c.root_at-root.result ≡ root_at c.args.scratch.now (field c.args.scratch.now c.args.v 3 / 3) =
    c.root_at-root.ensures ∙ ap (root_at c.args.scratch.now) (ap (λ z. z / 3) c.read-place.ensures) in
    record { root = λ e. absurd (omega (arith, c.read-place.ensures)); other = λ d. rw (← q) c.link_below.ensures }
