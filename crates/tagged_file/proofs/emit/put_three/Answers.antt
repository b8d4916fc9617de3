-- `put_three` stores a field of three numbers, part after part. From the laws on runs of stores.
use Rattle.tagged_file.proofs.FieldBytes.{three_stored}
use Rattle.tagged_file.proofs.emit.put_three.Goals as goal

pub returns : goal.returns
returns c = three_stored _ _ _ _ _ _ _ _ _ _ c.put_head.ensures c.put_number.ensures c.put_number-2.ensures c.put_number-3.ensures
