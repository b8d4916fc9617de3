-- `put_text` meets its contract. From the laws on texts put in a row.
use Rattle.std.proofs.Common.{refl, arith}
use Rattle.report.proofs.Put.{copied}
use Rattle.report.proofs.text.put_text.Goals as goal

pub returns : goal.returns
returns c = (refl, copied _ _ _ _ _ c.copy_from_slice.ensures.after (omega arith) c.requires)
