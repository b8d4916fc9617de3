-- `key_of` meets its contract. From the definition.
use Rattle.resistive_call.proofs.Families.{key_locked, key_free}
use Rattle.resistive_call.proofs.family.key_of.Goals as goal

pub returns-then-moves-eq1 : goal.returns-then-moves-eq1
returns-then-moves-eq1 c = key_locked _ _ _ c.if-moves-eq1.true

pub returns : goal.returns
returns c = key_free _ _ _ _ _ _ c.if-moves-eq1.false c.turn_least.ensures.0 c.turn_least-2.ensures.0 c.pack.ensures
