-- `check_room` meets its contract, from the laws on tests.
use Rattle.std.proofs.Common.{refl, arith}
use Rattle.graph.specs.Admission.{room_number}
use Rattle.graph.proofs.Tests.{less, no_less}
use Rattle.graph.proofs.faults.check_room.Goals as goal

pub returns-then-inputs-gt4096 : goal.returns-then-inputs-gt4096
unfolding room_number
returns-then-inputs-gt4096 c = less _ _ _ _ (omega arith) refl

pub returns-then-nodes-gt100000 : goal.returns-then-nodes-gt100000
unfolding room_number
returns-then-nodes-gt100000 c = no_less _ _ _ _ (omega arith) (less _ _ _ _ (omega arith) refl)

pub returns-then-outputs-gt4096 : goal.returns-then-outputs-gt4096
unfolding room_number
returns-then-outputs-gt4096 c = no_less _ _ _ _ (omega arith) (no_less _ _ _ _ (omega arith) (less _ _ _ _ (omega arith) refl))

pub returns-then-node_room-nodes : goal.returns-then-node_room-nodes
unfolding room_number
returns-then-node_room-nodes c = no_less _ _ _ _ (omega arith) (no_less _ _ _ _ (omega arith) (no_less _ _ _ _ (omega arith) (less _ _ _ _ (omega arith) refl)))

pub returns-then-output_room-outputs : goal.returns-then-output_room-outputs
unfolding room_number
returns-then-output_room-outputs c = no_less _ _ _ _ (omega arith) (no_less _ _ _ _ (omega arith) (no_less _ _ _ _ (omega arith) (no_less _ _ _ _ (omega arith) (less _ _ _ _ (omega arith) refl))))

pub returns-then-lock_room-nodes : goal.returns-then-lock_room-nodes
unfolding room_number
returns-then-lock_room-nodes c = no_less _ _ _ _ (omega arith) (no_less _ _ _ _ (omega arith) (no_less _ _ _ _ (omega arith) (no_less _ _ _ _ (omega arith) (no_less _ _ _ _ (omega arith) (less _ _ _ _ (omega arith) refl)))))

pub returns : goal.returns
unfolding room_number
returns c = no_less _ _ _ _ (omega arith) (no_less _ _ _ _ (omega arith) (no_less _ _ _ _ (omega arith) (no_less _ _ _ _ (omega arith) (no_less _ _ _ _ (omega arith) (no_less _ _ _ _ (omega arith) refl)))))
