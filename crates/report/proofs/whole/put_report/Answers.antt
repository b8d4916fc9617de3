-- `put_report` meets its contract: a loaded graph is settled, a refusal is a line. From the laws on outcomes.
use mathlib.Core.Path.{refl, sym, ap, ◌∙◌}
use Rattle.graph.specs.Answer.{LockedOutcome}
use Rattle.report.specs.Report.{settled_file, printed}
use Rattle.report.proofs.Outcomes.{loaded_then, refused_then, refused_printed}
use native.Mathlib.Omega.{arith}
use Rattle.graph.proofs.Literals.{held_literals}
use Rattle.report.proofs.whole.put_report.Goals as goal

pub put_settling-requires : goal.put_settling-requires
put_settling-requires c =
    let a = c.args in
    let e = c.load in
    omega (
      arith,
      c.requires,
      held_literals a.node_table.now a.node_bits.now,
      held_literals a.output_table.now a.output_bits.now,
      held_literals e.new.node_table e.new.node_bits,
      held_literals e.new.output_table e.new.output_bits,
      e.auto.node_table,
      e.auto.node_bits,
      e.auto.output_table,
      e.auto.output_bits,
    )

pub returns-in-Ok : goal.returns-in-Ok
unfolding settled_file
returns-in-Ok c =
    let l = c.in-Ok.ensures in record {
      buffer_after = c.put_settling.ensures ∙ ap (λ (x : LockedOutcome). printed x c.args.buffer.now) (loaded_then _ _ _ _ _ l);
      fact = λ n. absurd (n (sym (ap (λ (o : LockedOutcome). o.answer.number) l)));
    }

pub returns-in-Err : goal.returns-in-Err
unfolding settled_file
returns-in-Err c =
    record {
      buffer_after = refused_printed _ _ _ _ _ _ c.in-Err.refusal (refused_then _ c.in-Err.refusal _ _ _ c.in-Err.ensures) c.put_refused.ensures;
      fact = λ n. refl;
    }
