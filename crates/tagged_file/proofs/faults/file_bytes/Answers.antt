-- `file_bytes` is the length of the file. From the length by its parts.
use native.Mathlib.Omega.{arith}
use Prim.Native.Nat.{◌+◌}
use Rattle.graph.specs.Graph.{graph_of}
use Rattle.tagged_file.proofs.WholeWrite.{length_file}
use Rattle.tagged_file.proofs.faults.file_bytes.Goals as goal
use Rattle.graph.specs.Tables.{lent_table}

pub returns : goal.returns
returns c =
    λ i os.
    let a = c.args in
    omega (arith, length_file (graph_of i a.nodes a.outputs (lent_table a.node_table.now) os) a.locks.now, c.locks_bytes.ensures.0 (i + 1))
