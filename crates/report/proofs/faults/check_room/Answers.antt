-- `check_room` meets its contract: short scratch, or what the buffer's length decides. From the laws on rooms.
use Rattle.std.proofs.Common.{◌∙◌}
use Rattle.report.proofs.Room.{short_scratch, long_scratch}
use Rattle.report.proofs.faults.check_room.Goals as goal

pub returns-then-words-node_room : goal.returns-then-words-node_room
returns-then-words-node_room c = short_scratch _ _ _ _ c.if-words-node_room.true

pub returns : goal.returns
returns c = c.check_buffer.ensures ∙ long_scratch _ _ _ _ c.if-words-node_room.false
