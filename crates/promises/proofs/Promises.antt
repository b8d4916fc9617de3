-- The promises of crate promises, each from its proof.
use Rattle.promises.specs.Promises.{Promises}
use Rattle.promises.proofs.Lists.{demand, after_load, after_import, after_join}
use Rattle.promises.proofs.Worked as worked
use Rattle.promises.proofs.Found.{found_again}
use Rattle.promises.proofs.Stages.{stages}

pub promises : Promises
promises =
    record {
      demand = demand;
      after_load = after_load;
      after_import = after_import;
      after_join = after_join;
      stages = stages;
      worked_graphs = worked.graphs;
      worked_list = worked.there_and_back;
      worked_loss = worked.lost_and_won;
      worked_trials = worked.trials;
      found_again = found_again;
    }
