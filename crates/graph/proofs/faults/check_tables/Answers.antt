-- `check_tables` meets its contract. From its callees' contracts.
use Rattle.std.proofs.Common.{◌∙◌}
use Rattle.graph.specs.Admission.{tables_number}
use Rattle.graph.proofs.faults.check_tables.Goals as goal

pub returns : goal.returns
unfolding tables_number
returns c = c.check_room.ensures ∙ rw (c.room_of-2.ensures, c.room_of.ensures)
