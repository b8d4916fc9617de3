-- `put_output` meets its contract. From the line of an output by the word that was read.
use Rattle.aiger_export.proofs.Named.{output_is}
use native.Mathlib.Omega.{arith}
use Rattle.graph.proofs.Words.{out_low}
use Rattle.aiger_export.proofs.text.put_output.Goals as goal

pub edge_at-x-requires : goal.edge_at-x-requires
edge_at-x-requires c = let p = c.requires in (omega (arith, p.2, c.args.circuit.now.admitted.held_outputs), out_low _ c.args.circuit.now.admitted c.args.j p.2)

pub literal-y-requires : goal.literal-y-requires
literal-y-requires c =
    let h = c.requires in
    (h.0, h.1, rw c.edge_at-x.ensures (c.args.circuit.now.admitted.output_below c.args.j h.2))

pub put_ended-requires : goal.put_ended-requires
put_ended-requires c =
    rw (output_is _ c.args.j _ _ c.edge_at-x.ensures c.literal-y.ensures) c.requires.3

pub returns : goal.returns
returns c =
    rw (← output_is _ c.args.j _ _ c.edge_at-x.ensures c.literal-y.ensures) c.put_ended.ensures
