-- A root, by its readers and those in the node table.
use mathlib.Core.Path.{sym, ◌∙◌}
use Rattle.graph.specs.Graph.{Graph}
use Rattle.tree_call.proofs.Refused.{root_several, root_read, no_root}
use Rattle.tree_call.proofs.faults.check_root.Goals as goal
use Rattle.graph.specs.Tables.{lent_graph}

pub returns-then-r-ne1 : goal.returns-then-r-ne1
returns-then-r-ne1 c =
    let a = c.args in
    let g : Graph = lent_graph a.lent.now in
    root_several g a.root (λ z. c.if-r-ne1.true (c.readers_of-r.ensures.all ∙ z))

pub returns-then-r-ne1-2 : goal.returns-then-r-ne1-2
returns-then-r-ne1-2 c =
    let a = c.args in
    let g : Graph = lent_graph a.lent.now in
    root_read g a.root (λ z. c.if-r-ne1-2.true (c.readers_of-r.ensures.in_nodes ∙ z))

pub returns : goal.returns
returns c =
    let a = c.args in
    let g : Graph = lent_graph a.lent.now in
    no_root g a.root (sym c.readers_of-r.ensures.all ∙ c.if-r-ne1.false) (sym c.readers_of-r.ensures.in_nodes ∙ c.if-r-ne1-2.false)
