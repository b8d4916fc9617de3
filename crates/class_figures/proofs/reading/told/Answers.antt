-- `reading::told` meets its contract. From what the totals are at most.
use Rattle.std.proofs.Common.{◌<◌, ◌∷◌, [], get_or, arith, ◌∙◌}
use Rattle.graph.proofs.Difference.{at_least, read_back}
use Rattle.class_figures.specs.Figures.{figures}
use Rattle.class_figures.proofs.Refusing.{same_figures}
use Rattle.class_figures.proofs.reading.told.Goals as goal

pub less-requires : goal.less-requires
less-requires c = (omega (arith, c.requires.1 0 (omega arith)), omega (arith, c.requires.1 1 (omega arith)))

pub less-requires-2 : goal.less-requires-2
less-requires-2 c = (omega (arith, c.requires.1 0 (omega arith)), omega arith)

pub returns : goal.returns
unfolding figures
returns c =
    let t = c.args.totals.now in
    let b : get_or t 0 0 < 9223372036854775808 = omega (arith, c.requires.1 0 (omega arith)) in
    let a : get_or t 1 0 < 9223372036854775808 = omega (arith, c.requires.1 1 (omega arith)) in
    same_figures (c.args.count ∷ get_or t 0 0 ∷ get_or t 1 0 ∷ get_or t 2 0 ∷ get_or t 3 0 ∷ get_or t 4 0 ∷ [])
    (read_back (get_or t 0 0) (get_or t 1 0) b a c.less.result c.less.ensures)
    (read_back (get_or t 0 0) 0 b (omega arith) c.less-2.result c.less-2.ensures ∙ at_least (get_or t 0 0) 0 (get_or t 0 0) (omega arith))
