-- `fill::fill_output` meets its contract. From what a line that is there says.
use Rattle.aiger_import.proofs.Filled.{there, after}
use Rattle.aiger_import.proofs.fill.fill_output.Goals as goal

pub known_number-x-requires : goal.known_number-x-requires
known_number-x-requires c = c.requires.0.one

pub put_word-got-requires : goal.put_word-got-requires
put_word-got-requires c = let p = c.requires in (p.1, rw c.known_number-x.ensures.0 p.0.word)

pub returns : goal.returns
returns c =
    let e = c.known_number-x.ensures.1 in
    ((there c.args.s.now _ c.requires.0.one e, after c.args.s.now _ c.requires.0.one e), rw c.known_number-x.ensures.0 at c.put_word-got.ensures)
