-- `nearer_open` meets its contract. From the laws on open indices.
use mathlib.Core.Path.{refl}
use mathlib.Core.Logic.{inl}
use Rattle.finder.proofs.Opens.{chosen_open}
use Rattle.finder.proofs.down.nearer_open.Goals as goal

pub returns-then-is_open : goal.returns-then-is_open
returns-then-is_open c =
    chosen_open c.args.inputs c.args.scratch.now c.args.best c.args.index _ (c.is_open.ensures c.if-is_open.true) c.nearer.ensures

pub returns : goal.returns
returns c = inl refl
