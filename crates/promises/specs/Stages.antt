-- Stages settled apart, joined and settled whole (document 02's M-113).
use Rattle.std.specs.Prelude.{◌≤◌, ◌<◌, ◌≡◌}
use Rattle.graph.specs.All.{ℕ, List, Graph, C, Assignment, output_value, LockedOutcome}
use Rattle.rounds.specs.All.{settle_call}
use Rattle.join.specs.All.{join_call}

-- both parts settled, each under its locks and with so many words of scratch, and joined in the lent slices ns, os and rs
abbrev pub join_settled : Graph → List ℕ → ℕ → Graph → List ℕ → ℕ → (ns os rs : List ℕ) → LockedOutcome
join_settled g ls s h ks t ns os rs = join_call (settle_call g ls s).graph ls (settle_call h ks t).graph ks ns os rs

-- what it leaves, settled whole with w words of scratch: every output has the second's value on the first's outputs, of the parts as they were,
-- and C is at most that of the join of the settled parts
pub record Stages (g h : Graph) (o : LockedOutcome) (w : ℕ) : Type 0 where
  pub values : (a : Assignment) (j : ℕ) → j < h.O → output_value (settle_call o.graph o.locks w).graph a j ≡ output_value h (output_value g a) j
  pub count : C (settle_call o.graph o.locks w).graph ≤ C o.graph

-- where the join is accepted; a settling that is refused has changed nothing
abbrev pub StagesSettled : Graph → List ℕ → ℕ → Graph → List ℕ → ℕ → (ns os rs : List ℕ) → ℕ → Type 0
StagesSettled g ls s h ks t ns os rs w = let o = join_settled g ls s h ks t ns os rs in o.answer.number ≡ 0 → Stages g h o w
