-- `put_single` stores a field of one number, part after part. From the laws on runs of stores.
use Rattle.tagged_file.proofs.FieldBytes.{single_stored}
use Rattle.tagged_file.proofs.emit.put_single.Goals as goal

pub returns : goal.returns
returns c = single_stored _ _ _ _ _ _ c.put_head.ensures c.put_number.ensures
