-- `settle_admitted` fills scratch, makes all rounds and writes the pending turns out: that is settling.
use mathlib.Core.Path.{sym, ap, ◌∙◌}
use Rattle.graph.specs.Count.{C}
use Rattle.settling.proofs.Answering.{settled_to}
use Rattle.settling.proofs.all.settle_admitted.Goals as goal

pub all_rounds-made-requires : goal.all_rounds-made-requires
all_rounds-made-requires c =
    (c.fill_scratch.ensures.0, c.complemented-before.ensures.0 ∙ ap C (sym c.fill_scratch.ensures.1), c.requires.2)

pub write_out-requires : goal.write_out-requires
write_out-requires c = c.all_rounds-made.ensures.ordered

pub returns : goal.returns
returns c =
    settled_to _ _ _ _ _ _ _ c.fill_scratch.ensures.1 c.all_rounds-made.ensures c.write_out.ensures c.complemented-before.ensures.0
