-- Demand 3, and what it is worked out on.
use Rattle.std.specs.Prelude.{◌≡◌}
use Rattle.graph.specs.All.{ℕ, List, Graph, Admitted, LockBytes}
use Rattle.tagged_file.specs.All.{load_call}
use Rattle.aiger.specs.All.{import_call}
use Rattle.join.specs.All.{join_call}
use Rattle.promises.specs.{Demand.Call, Demand.Locked, Demand.left, Demand.Demand, Worked.WorkedGraphs, Worked.ThereAndBack, Worked.LostAndWon, Worked.WorkedTrials, Found.FoundAgain, Stages.StagesSettled}

pub record Promises : Type 0 where
  -- whatever the list of calls: from an admitted start, and so after an accepted load, an accepted import and an accepted join
  pub demand : (d : Locked) → Admitted d.graph → LockBytes d.graph.N d.locks → (calls : List Call) → Demand d calls
  pub after_load : (s ns os ls : List ℕ) → (load_call s ns os ls).answer.number ≡ 0 → (calls : List Call) → Demand (left (load_call s ns os ls)) calls
  pub after_import : (s ns os ls : List ℕ) → (import_call s ns os ls).answer.number ≡ 0 → (calls : List Call) → Demand (left (import_call s ns os ls)) calls
  pub after_join : (g : Graph) (ls : List ℕ) (h : Graph) (ks ns os rs : List ℕ) → (join_call g ls h ks ns os rs).answer.number ≡ 0
      → (calls : List Call) → Demand (left (join_call g ls h ks ns os rs)) calls
  -- stages settled apart, joined and settled whole
  pub stages : (g : Graph) (ls : List ℕ) (s : ℕ) (h : Graph) (ks : List ℕ) (t : ℕ) (ns os rs : List ℕ) (w : ℕ) → StagesSettled g ls s h ks t ns os rs w
  -- what is worked out by hand
  pub worked_graphs : WorkedGraphs
  pub worked_list : ThereAndBack
  pub worked_loss : LostAndWon
  pub worked_trials : WorkedTrials
  pub found_again : FoundAgain
