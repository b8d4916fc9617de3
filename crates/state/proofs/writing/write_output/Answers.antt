-- `write_output` turns an output as often as is due. From the laws of what is due.
use mathlib.Core.Path.{◌≡◌, ap, ◌∙◌}
use Prim.Native.Nat.{◌<◌}
use native.Mathlib.Omega.{arith}
use lib.ListN.{get_or}
use Rattle.graph.specs.Graph.{index}
use Rattle.graph.specs.Literals.{literals}
use Rattle.graph.specs.Turned.{turned_table, only}
use Rattle.state.specs.State.{pending_at, due_in}
use Rattle.state.proofs.Pending.{pending_names, pending_index}
use Rattle.state.proofs.writing.write_output.Goals as goal
use Rattle.state.proofs.writing.write_output.Goals.{After-due_of-t}

is-due : (c : After-due_of-t)
    → c.due_of-t.result ≡ due_in c.args.inputs c.args.nodes c.args.scratch.now (literals c.args.table.now c.args.bits.now) c.args.j
is-due c =
    let a = c.args in
    c.due_of-t.ensures.0 ∙ pending_index a.inputs a.nodes a.scratch.now (get_or (literals a.table.now a.bits.now) a.j 0) c.index_at-u.result c.requires.0.few_inputs c.requires.0.few_nodes c.index_at-u.ensures

pub turn_word-requires : goal.turn_word-requires
turn_word-requires c =
    let a = c.args in
    let u = index (get_or (literals a.table.now a.bits.now) a.j 0) in (
      omega (arith, c.due_of-t.ensures.1),
      c.requires.1,
      λ p.
          let w : 0 < pending_at a.inputs a.nodes a.scratch.now u = omega (arith, is-due (goal.at.turn_word-requires c).After-due_of-t) in
          omega (arith, pending_names a.inputs a.nodes a.scratch.now u w, c.requires.0.few_inputs, c.requires.0.few_nodes),
    )

pub returns : goal.returns
returns c =
    let a = c.args in
    c.turn_word.ensures ∙ ap (λ t. turned_table (literals a.table.now a.bits.now) (only a.j t)) (is-due (goal.at.returns c).After-due_of-t)
