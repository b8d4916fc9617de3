-- `turn_reader` meets its contract. From what the index table tells, and the laws of turned tables.
use mathlib.Core.Path.{refl, sym, ap, ◌∙◌}
use mathlib.Core.List.{List}
use Prim.Native.Nat.{ℕ}
use lib.ListN.{get_or}
use Rattle.graph.specs.Graph.{index}
use Rattle.graph.specs.Literals.{literals}
use Rattle.graph.specs.Turned.{turned_table, only}
use Rattle.graph.proofs.Literals.{names_yes, names_no}
use Rattle.graph.proofs.Places.{unturned}
use Rattle.graph.proofs.Tests.{equal, unequal}
use Rattle.node_call.specs.Write.{read_turns}
use Rattle.node_call.proofs.write.turn_reader.Goals as goal

pub returns-then-index_at-u : goal.returns-then-index_at-u
unfolding read_turns
returns-then-index_at-u c =
    let a = c.args in
    let l : List ℕ = literals a.table.now a.bits.now in
    c.turn_word.ensures
    ∙ ap (λ (x : ℕ). turned_table l (only a.j x)) (equal (index (get_or l a.j 0)) a.u a.t 0 (names_yes c.index_at.ensures a.u c.requires.1 c.if-index_at-u.true) refl)

pub returns-else-index_at-u : goal.returns-else-index_at-u
unfolding read_turns
returns-else-index_at-u c =
    let a = c.args in
    let l : List ℕ = literals a.table.now a.bits.now in
    unturned l a.j _ (sym (unequal (index (get_or l a.j 0)) a.u a.t 0 (names_no c.index_at.ensures a.u c.requires.1 c.if-index_at-u.false) refl))
