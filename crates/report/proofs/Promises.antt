-- The promises of crate report, each from its proof.
use Rattle.report.specs.Promises.{Promises}
use Rattle.report.proofs.Settles.{always_settles}
use Rattle.report.proofs.Worked.{p1_report}

pub promises : Promises
promises = record { p1_report = p1_report; always_settles = always_settles }
