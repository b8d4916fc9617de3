-- The promises of crate packed, each from its proof.
use Rattle.packed.specs.Promises.{Promises}
use Rattle.packed.proofs.Slices.{tells_all, ones_are_c}
use Rattle.packed.proofs.Old.{same_rule, refused_alike}
use Rattle.packed.proofs.Packing.{every_old}
use Rattle.packed.proofs.Corresponds.{corresponds}
use Rattle.packed.proofs.Fills.{fills_correspond}
use Rattle.packed.proofs.Joins.{joins_correspond}
use Rattle.packed.proofs.File.{file_kept, one_file}
use Rattle.packed.proofs.Worked.{worked_tables}

pub promises : Promises
promises =
    record {
      tells_all = tells_all;
      ones_are_c = ones_are_c;
      same_rule = same_rule;
      refused_alike = refused_alike;
      every_old = every_old;
      corresponds = corresponds;
      fills_correspond = fills_correspond;
      joins_correspond = joins_correspond;
      file_kept = file_kept;
      one_file = one_file;
      worked_tables = worked_tables;
    }
