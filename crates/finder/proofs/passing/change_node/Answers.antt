-- `change_node` meets its contract. From the laws on what lies below a node.
use mathlib.Core.Path.{◌≡◌}
use mathlib.Core.Bool.{true, false}
use mathlib.Core.List.{List}
use Prim.Native.Nat.{ℕ, ◌+◌, ◌*◌, ◌≤◌, ◌<◌}
use native.Mathlib.Omega.{arith}
use Rattle.graph.specs.Graph.{Graph}
use Rattle.graph.specs.Literals.{literals}
use Rattle.evaluation.specs.Inner.{nodes_of}
use Rattle.trees.specs.Filling.{Stored}
use Rattle.finder.specs.Passing.{Becomes}
use Rattle.finder.specs.Trying.{trial_byte}
use Rattle.finder.proofs.Below.{clean_tells, locked_here, free_here, changed_left, changed_tried}
use Rattle.finder.proofs.passing.change_node.Goals as goal
use Rattle.finder.proofs.passing.change_node.Goals.{Start}

abbrev graph : Start → Graph
graph s = nodes_of s.args.inputs s.args.nodes (literals s.args.node_table.now s.args.node_bits.now)

abbrev words : Start → List ℕ
words s = literals s.args.node_table.now s.args.node_bits.now

room : (v w n l l₀ : ℕ) → w ≡ v → v < n → n ≤ 100000 → 8 * n ≤ l₀ → l ≡ l₀ → (w < 100000) × (2 < 8) × (8 * w + 2 < l)
room v w n l l₀ e h f k q = (omega arith, omega arith, omega arith)

pub returns-then-locks-w-eq1 : goal.returns-then-locks-w-eq1
returns-then-locks-w-eq1 c =
    let w = c.wide-w in
    let a = c.args in
    changed_left a.inputs a.nodes (words (goal.at.returns-then-locks-w-eq1 c).Start) a.locks.now a.scratch.now a.v c.requires.1 c.requires.0 c.requires.3 c.requires.4 (locked_here a.locks.now a.v w.result _ w.ensures c.if-locks-w-eq1.true)

pub is_plain-requires : goal.is_plain-requires
is_plain-requires c = (c.requires.0, omega (arith, c.requires.1, c.wide-w.ensures))

pub returns-then-is_plain : goal.returns-then-is_plain
returns-then-is_plain c =
    let p = c.is_plain in
    let w = c.wide-w in
    let a = c.args in
    changed_left a.inputs a.nodes (words (goal.at.returns-then-is_plain c).Start) a.locks.now a.scratch.now a.v c.requires.1 c.requires.0 c.requires.3 c.requires.4
    (free_here (graph (goal.at.returns-then-is_plain c).Start) a.locks.now a.v w.result p.result true w.ensures c.if-locks-w-eq1.false p.ensures c.if-is_plain.true)

pub try_near-found-requires : goal.try_near-found-requires
try_near-found-requires c = (c.requires.0, c.requires.3.room, c.requires.1, c.requires.3.facts, c.requires.4, clean_tells (graph (goal.at.try_near-found-requires c).Start) c.args.v c.args.scratch.now c.requires.3)

pub make_found-requires : goal.make_found-requires
make_found-requires c =
    let e = c.wide-w.ensures in
    (c.requires.0, omega (arith, c.requires.1, e), rw e c.try_near-found.ensures.gives)

pub store-requires : goal.store-requires
store-requires c =
    room c.args.v _ c.args.nodes _ _ c.wide-w.ensures c.requires.1 c.requires.0.few_nodes c.requires.3.room c.try_near-found.ensures.framed.same

pub returns : goal.returns
returns c =
    let d = c.store in
    let t = c.try_near-found in
    let m = c.make_found in
    let p = c.is_plain in
    let w = c.wide-w in
    let a = c.args in
    let z : Stored a.v 2 0 t.new.scratch d.new.scratch = rw w.ensures at d.ensures in
    let b : Becomes (graph (goal.at.returns c).Start) a.v (trial_byte t.result) _ _ = rw w.ensures at m.ensures in
    changed_tried a.inputs a.nodes (words (goal.at.returns c).Start) a.locks.now a.scratch.now a.v c.requires.1 c.requires.0 c.requires.3 c.requires.4 (trial_byte t.result) _ _ t.new.scratch d.new.scratch
    (free_here (graph (goal.at.returns c).Start) a.locks.now a.v w.result p.result false w.ensures c.if-locks-w-eq1.false p.ensures c.if-is_plain.false) t.ensures b z
