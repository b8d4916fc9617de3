-- `check_nodes` walks as `node_fields_number` does: the walk over what is left comes to the whole. From the steps of the walk.
use Prim.Native.Nat.{◌-◌}
use mathlib.Core.Path.{◌≡◌}
use Rattle.file_checks.specs.File.{node_fields_number}
use Rattle.file_checks.proofs.faults.check_nodes.Given as goal

abbrev pub invariant-loop-index : goal.invariant-loop-index
invariant-loop-index l = node_fields_number (l.end - l.index) l.outputs l.s l.start l.index ≡ node_fields_number l.nodes l.outputs l.rest l.start l.start
