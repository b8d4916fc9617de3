-- `put_node` meets its contract: the third word decides. From the lines of a node by the words that were read.
use Prim.Native.Nat.{◌+◌, ◌*◌}
use native.Mathlib.Nat.{add-zero}
use native.Mathlib.Omega.{arith}
use mathlib.Core.Path.{◌≡◌}
use lib.ListN.{get_or}
use Rattle.graph.specs.Graph.{Graph}
use Rattle.graph.proofs.Words.{readable}
use Rattle.aiger.proofs.Gates.{word_early, word_third}
use Rattle.aiger_export.proofs.Named.{Read, read_majority, xor_first, majority_first, xor_is, majority_is}
use Rattle.aiger_export.proofs.Widths.{base_low}
use Rattle.aiger_export.proofs.text.put_node.Goals as goal
use Rattle.aiger_export.proofs.text.put_node.Goals.{After-word_of-z, Start}
use Rattle.graph.specs.Tables.{lent_graph}

abbrev graph : Start → Graph
graph s = let a = s.args in lent_graph a.circuit.now.lent

-- where the three words have been read

read : (c : After-word_of-z) → let a = c.args in Read (lent_graph a.circuit.now.lent) c.args.v (get_or c.args.scratch.now c.args.v 0) c.word_of-x.result c.word_of-y.result c.word_of-z.result c.literal-p.result c.literal-q.result
read c =
    let e : 3 * c.args.v + 0 ≡ 3 * c.args.v = add-zero _ in
    record {
      last = c.requires.1 c.args.v c.requires.2;
      one = rw e at c.word_of-x.ensures;
      one_is = c.literal-p.ensures;
      two = c.word_of-y.ensures;
      two_is = c.literal-q.ensures;
      three = c.word_of-z.ensures;
    }

pub three_at-three-requires : goal.three_at-three-requires
three_at-three-requires c = readable _ c.args.circuit.now.admitted c.args.v c.requires.2

pub word_of-x-requires : goal.word_of-x-requires
word_of-x-requires c = (readable _ c.args.circuit.now.admitted c.args.v c.requires.2, omega arith, c.three_at-three.ensures)

pub literal-p-requires : goal.literal-p-requires
literal-p-requires c =
    let h = c.requires in
    let w = word_early (graph (goal.at.literal-p-requires c).Start) c.args.circuit.now.admitted c.args.v h.2 0 (omega arith) in
    (h.0, h.1, rw c.word_of-x.ensures (omega arith))

pub word_of-y-requires : goal.word_of-y-requires
word_of-y-requires c = (readable _ c.args.circuit.now.admitted c.args.v c.requires.2, omega arith, c.three_at-three.ensures)

pub literal-q-requires : goal.literal-q-requires
literal-q-requires c =
    let h = c.requires in
    let w = word_early (graph (goal.at.literal-q-requires c).Start) c.args.circuit.now.admitted c.args.v h.2 1 (omega arith) in
    (h.0, h.1, rw c.word_of-y.ensures (omega arith))

pub word_of-z-requires : goal.word_of-z-requires
word_of-z-requires c = (readable _ c.args.circuit.now.admitted c.args.v c.requires.2, omega arith, c.three_at-three.ensures)

pub overflow_sub-last : goal.overflow_sub-last
overflow_sub-last c = (xor_first _ _ _ _ _ _ _ _ (read (goal.at.overflow_sub-last c).After-word_of-z) c.if-z.true).0

pub put_xor-requires : goal.put_xor-requires
put_xor-requires c =
    let h = c.requires in
    let f = (xor_first _ _ _ _ _ _ _ _ (read (goal.at.put_xor-requires c).After-word_of-z) c.if-z.true).1 in
    (omega (arith, base_low (graph (goal.at.put_xor-requires c).Start) c.args.circuit.now.admitted c.args.v h.2), rw (xor_is _ _ _ _ _ _ _ _ (read (goal.at.put_xor-requires c).After-word_of-z) c.if-z.true) h.3)

pub returns-then-z : goal.returns-then-z
returns-then-z c =
    rw (← xor_is _ _ _ _ _ _ _ _ (read (goal.at.returns-then-z c).After-word_of-z) c.if-z.true) c.put_xor.ensures

pub literal-r-requires : goal.literal-r-requires
literal-r-requires c =
    let h = c.requires in
    let w = word_third (graph (goal.at.literal-r-requires c).Start) c.args.circuit.now.admitted c.args.v h.2 (read_majority _ _ _ _ _ _ _ _ (read (goal.at.literal-r-requires c).After-word_of-z) c.if-z.false) in
    (h.0, h.1, rw c.word_of-z.ensures (omega arith))

pub overflow_sub-last-2 : goal.overflow_sub-last-2
overflow_sub-last-2 c = (majority_first _ _ _ _ _ _ _ _ (read (goal.at.overflow_sub-last-2 c).After-word_of-z) c.if-z.false).0

pub put_majority-requires : goal.put_majority-requires
put_majority-requires c =
    let h = c.requires in
    let f = (majority_first _ _ _ _ _ _ _ _ (read (goal.at.put_majority-requires c).After-word_of-z) c.if-z.false).1 in
    (omega (arith, base_low (graph (goal.at.put_majority-requires c).Start) c.args.circuit.now.admitted c.args.v h.2), rw (majority_is _ _ _ _ _ _ _ _ (read (goal.at.put_majority-requires c).After-word_of-z) c.if-z.false _ c.literal-r.ensures) h.3)

pub returns : goal.returns
returns c =
    rw (← majority_is _ _ _ _ _ _ _ _ (read (goal.at.returns c).After-word_of-z) c.if-z.false _ c.literal-r.ensures) c.put_majority.ensures
