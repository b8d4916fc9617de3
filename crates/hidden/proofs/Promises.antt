-- The promises of crate hidden, each from its proof.
use Rattle.hidden.specs.Promises.{Promises}
use Rattle.hidden.proofs.Classes.{class_table}
use Rattle.hidden.proofs.Over.{truth_holds}
use Rattle.hidden.proofs.MajorityCall.{majority_keeps}
use Rattle.hidden.proofs.Pass.{locked_passed}
use Rattle.hidden.proofs.Live.{lives_by_rule}
use Rattle.hidden.proofs.FindCall.{finder_keeps}
use Rattle.hidden.proofs.Ways.{not_covered}
use Rattle.hidden.proofs.Worked.{worked}

pub promises : Promises
promises =
    record {
      class_table = class_table;
      truth_holds = truth_holds;
      not_covered = not_covered;
      majority_keeps = majority_keeps;
      finder_keeps = finder_keeps;
      locked_passed = locked_passed;
      lives_by_rule = lives_by_rule;
      worked = worked;
    }
