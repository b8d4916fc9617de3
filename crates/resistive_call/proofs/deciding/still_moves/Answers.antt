-- `still_moves` meets its contract. From the definition.
use Rattle.resistive_call.proofs.Families.{still_xor, still_majority}
use Rattle.resistive_call.proofs.deciding.still_moves.Goals as goal

pub returns-then-xor : goal.returns-then-xor
returns-then-xor c = still_xor _ _ _ c.if-xor.true c.min.ensures

pub returns : goal.returns
returns c = still_majority _ _ _ c.if-xor.false c.min-2.ensures
