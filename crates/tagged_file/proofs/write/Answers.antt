-- `write` meets its contract: the number decides, and the file goes to the front of the buffer. From the laws on the whole of writing.
use mathlib.Core.Path.{sym}
use Rattle.graph.specs.Graph.{Graph}
use Rattle.graph.proofs.Admit.{admitted, locks_admitted}
use Rattle.tagged_file.proofs.WholeWrite.{write_passed, write_refused, write_accepted}
use Rattle.tagged_file.proofs.write.Goals as goal
use Rattle.graph.specs.Tables.{lent_graph}

pub returns-in_err-check_write : goal.returns-in_err-check_write
returns-in_err-check_write c = write_refused _ _ _ _ _ c.from_residual.ensures.1 c.in_err-check_write.ensures

pub put_file-requires : goal.put_file-requires
put_file-requires c =
    let a = c.args in
    let g : Graph = lent_graph a.lent.now in
    let p = write_passed g a.lent.now.locks.now _ (sym c.in_ok-check_write.ensures) in
    (admitted g a.lent.now.locks.now p.0, (locks_admitted g a.lent.now.locks.now p.0).enough, p.1)

pub returns : goal.returns
returns c = write_accepted _ _ _ _ _ (sym c.in_ok-check_write.ensures) c.put_file.ensures.0 c.put_file.ensures.1
