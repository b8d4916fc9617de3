-- `turns_of` meets its contract: by where the index stands. From what its turns cost.
use native.Mathlib.Omega.{arith}
use mathlib.Core.Path.{refl}
use Prim.Native.Nat.{◌+◌, ◌-◌}
use Rattle.graph.specs.Graph.{Graph}
use Rattle.graph.proofs.Words.{readable}
use Rattle.resistive_call.proofs.Reading.{turns_input, turns_root, turns_below, turns_own, turns_above}
use Rattle.resistive_call.proofs.numbers.turns_of.Goals as goal
use Rattle.resistive_call.proofs.numbers.turns_of.Goals.{Start}
use Rattle.graph.specs.Tables.{lent_graph}

abbrev graph-of : Start → Graph
graph-of s = lent_graph s.args.lent.now

pub returns-then-u-lent : goal.returns-then-u-lent
returns-then-u-lent c = turns_input _ _ _ _ _ (omega arith)

pub returns-then-read : goal.returns-then-read
returns-then-read c = turns_root _ _ _ _ _ _ (omega arith) refl (omega (arith, c.read.ensures))

pub returns-then-w-v : goal.returns-then-w-v
returns-then-w-v c = turns_below _ _ _ _ _ _ (omega arith) refl (λ e. omega (arith, c.read.ensures)) (omega arith) _ c.read-x.ensures

pub returns-then-w-v-2 : goal.returns-then-w-v-2
returns-then-w-v-2 c = turns_own _ _ _ _ _ _ (omega arith) refl (λ e. omega (arith, c.read.ensures)) (omega arith) c.requires.2

pub is_xor-requires : goal.is_xor-requires
is_xor-requires c =
    readable (graph-of (goal.at.is_xor-requires c).Start) c.requires.0.admitted (c.args.u - (c.args.lent.now.inputs + 1)) (omega (arith, c.requires.3))

pub returns : goal.returns
returns c =
    let t = c.turns_readers.ensures in
    turns_above _ _ _ _ _ _ (omega arith) refl (λ e. omega (arith, c.read.ensures)) (omega arith) (λ e. omega arith) _ _ _ c.read-x.ensures (c.is_xor.ensures _ _ _ _) t.0 t.1
