-- `print_report` is safe: the text lies within the buffer. From what reporting ensures.
use Rattle.std.proofs.Common.{sym}
use Rattle.std.proofs.Math.Seq.{length-take-le}
use Rattle.report.proofs.Within.{within}
use Rattle.settle_report.proofs.print_report.Goals as goal

pub slice_bounds-buffer-end : goal.slice_bounds-buffer-end
slice_bounds-buffer-end g c = within _ _ _ _ _ _ _ _ _ _ _ c.in-Ok.ensures.buffer_value

pub slice_bounds-write_all-end : goal.slice_bounds-write_all-end
slice_bounds-write_all-end g c = sym (length-take-le _ _ (within _ _ _ _ _ _ _ _ _ _ _ c.in-Ok.ensures.buffer_value))
