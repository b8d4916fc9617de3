-- `preview` meets its contract: a refusal changes nothing, and else the tree is decided and told.
use Rattle.std.proofs.Common.{length, refl, sym}
use Rattle.graph.specs.Tables.{lent_graph}
use Rattle.preview.proofs.Refusing.{accepted_preview, refused_preview, told_preview}
use Rattle.preview.proofs.preview.Goals as goal

pub returns-in_err-check_preview : goal.returns-in_err-check_preview
returns-in_err-check_preview c =
    let a = c.args in
    let f = refused_preview (lent_graph a.lent.now) a.lent.now.locks.now a.bytes.now (length a.scratch.now) a.root _ _ c.from_residual.ensures.1 c.in_err-check_preview.ensures in
    record { answer = f.0; bytes = f.1; scratch = λ z. refl }

pub preview_tree-requires : goal.preview_tree-requires
preview_tree-requires c =
    let a = c.args in
    accepted_preview (lent_graph a.lent.now) a.lent.now.locks.now (length a.bytes.now) (length a.scratch.now) a.root (sym c.in_ok-check_preview.ensures)

pub returns : goal.returns
returns c =
    let a = c.args in
    let t = c.preview_tree.ensures in
    let f = told_preview (lent_graph a.lent.now) a.lent.now.locks.now a.bytes.now _ (length a.scratch.now) a.root _ (sym c.in_ok-check_preview.ensures) t.0 t.1 in
    record { answer = f.0; bytes = f.1; scratch = λ z. absurd (z f.2) }
