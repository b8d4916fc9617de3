-- `decide_tree` meets its contract: costs change nothing of what the state stands for. From the laws on states.
use mathlib.Core.Path.{◌∙◌}
use mathlib.Core.List.{List}
use Prim.Native.Nat.{ℕ}
use Rattle.graph.specs.Graph.{Graph}
use Rattle.state.specs.State.{stands}
use Rattle.trees.specs.Costing.{CostedBelow, CostsOnly}
use Rattle.trees.specs.Deciding.{TreeDecided}
use Rattle.trees.proofs.Ready.{ordered_costs, stands_costs}
use Rattle.trees.proofs.deciding.decide_tree.Goals as goal

module _ (g : Graph) (ls sc sc₁ : List ℕ) (co : CostsOnly sc sc₁) where
  same-costs : (u r : ℕ) → CostedBelow (stands g sc) ls sc₁ u r → CostedBelow (stands g sc₁) ls sc₁ u r
  same-costs u r t = rw (← stands_costs g sc sc₁ co) at t

  both : (u : ℕ) (sc₂ : List ℕ) → TreeDecided (stands g sc₁) ls u sc₂ → CostsOnly sc₁ sc₂ → TreeDecided (stands g sc) ls u sc₂ × CostsOnly sc sc₂
  both u sc₂ td c =
      ((rw (stands_costs g sc sc₁ co) at td), record { same = c.same ∙ co.same; kept = λ j d. c.kept j d ∙ co.kept j d })

pub fill_moves-requires : goal.fill_moves-requires
fill_moves-requires c =
    let p = c.requires in
    let f = c.fill_costs.ensures in
    (ordered_costs _ _ _ f.1 p.0, p.1, p.2, same-costs _ _ _ _ f.1 _ _ f.0, p.3)

pub returns : goal.returns
returns c = let m = c.fill_moves.ensures in both _ _ _ _ c.fill_costs.ensures.1 _ _ m.0 m.1
