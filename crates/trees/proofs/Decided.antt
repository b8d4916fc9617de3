-- A tree that is decided stays so while its moves stand in scratch. From the laws on states.
use mathlib.Core.Path.{◌≡◌, ap, ◌∙◌, fun_ext}
use mathlib.Core.List.{List, map}
use Prim.Native.Nat.{ℕ, ◌+◌, ◌-◌}
use native.Mathlib.Omega.{arith}
use Rattle.graph.specs.Graph.{Graph}
use Rattle.moves.specs.Apply.{Choice}
use Rattle.moves.specs.Tree.{tree}
use Rattle.state.specs.State.{stands}
use Rattle.state.specs.Step.{TreesKept}
use Rattle.trees.specs.Costing.{CostsOnly}
use Rattle.trees.specs.Deciding.{moves_in, TreeDecided}
use Rattle.trees.proofs.Ready.{stands_costs}

-- where deciding has changed nothing of what the state stands for
pub decided_costs : (g : Graph) (sc sc₁ : List ℕ) → CostsOnly sc sc₁ → (ls : List ℕ) (u : ℕ) → TreeDecided (stands g sc) ls u sc₁ → TreeDecided (stands g sc₁) ls u sc₁
decided_costs g sc sc₁ co ls u t = rw (← stands_costs g sc sc₁ co) at t

-- where a step has left the trees
pub decided_kept : (h : Graph) (ls : List ℕ) (u : ℕ) (sc sc' : List ℕ) → TreesKept sc sc' → TreeDecided h ls u sc → TreeDecided h ls u sc'
unfolding moves_in
decided_kept h ls u sc sc' k t =
    record {
      permitted = λ v l e. rw (k.others v 4 (omega arith) (λ z. omega arith) (λ z. omega arith)) (t.permitted v l e);
      best = ap (λ (f : Choice). map f (tree h u)) same_moves ∙ t.best;
    }
  where
    same_moves : moves_in h.I sc' ≡ moves_in h.I sc
    same_moves = fun_ext (λ w. k.others (w - (h.I + 1)) 4 (omega arith) (λ z. omega arith) (λ z. omega arith))
