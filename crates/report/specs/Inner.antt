-- No promise to a caller: what the checks of the report say.
use Rattle.std.specs.Prelude.{Result, Ok, Err}
use Rattle.graph.specs.Words.{ℕ}
use Rattle.report.specs.declared.RoomFault.{RoomFault}
use Rattle.report.specs.Report.{room_number}

-- the number of what refuses a report, 0 where nothing does
abbrev pub fault_number : {T : Type 0} → Result T RoomFault → ℕ
fault_number (Ok x) = 0
fault_number (Err f) = room_number f
