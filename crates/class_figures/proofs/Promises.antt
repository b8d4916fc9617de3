-- The promises of crate class_figures, each from its proof.
use Rattle.class_figures.specs.Promises.{Promises}
use Rattle.class_figures.proofs.Afresh.{always_afresh, takes_a_thousand}
use Rattle.class_figures.proofs.Worked.{worked}

pub promises : Promises
promises = record { always_afresh = always_afresh; takes_a_thousand = λ r handed h e. takes_a_thousand r handed e h; worked = worked }
