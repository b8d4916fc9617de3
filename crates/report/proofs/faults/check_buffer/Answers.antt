-- `check_buffer` meets its contract: each way out by its tests. From the laws on rooms.
use native.Mathlib.Omega.{arith}
use Rattle.report.proofs.Room.{short, long}
use Rattle.report.proofs.faults.check_buffer.Goals as goal

pub returns-then-room-lt128 : goal.returns-then-room-lt128
returns-then-room-lt128 c = short _ _ _ (omega arith)

pub returns-then-words-node_room : goal.returns-then-words-node_room
returns-then-words-node_room c = short _ _ _ (omega arith)

pub returns-then-words-node_room-2 : goal.returns-then-words-node_room-2
returns-then-words-node_room-2 c = short _ _ _ (omega arith)

pub returns : goal.returns
returns c = long _ _ _ (omega arith)
