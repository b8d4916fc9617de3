-- `tree_step` meets its contract: deciding changes nothing of what the state stands for. From the laws on states.
use mathlib.Core.Path.{◌≡◌, sym, ap, ◌∙◌}
use mathlib.Core.List.{List}
use Prim.Native.Nat.{ℕ}
use Rattle.graph.specs.Graph.{Graph}
use Rattle.graph.specs.Count.{C}
use Rattle.moves.specs.Call.{rewrite}
use Rattle.moves.specs.Tree.{tree}
use Rattle.state.specs.State.{stands}
use Rattle.state.specs.Step.{Made, Parted}
use Rattle.state.specs.declared.moving.Step.{Step}
use Rattle.trees.specs.Costing.{CostsOnly}
use Rattle.trees.specs.Stepping.{TreeMade, tree_moved}
use Rattle.trees.proofs.Ready.{ordered_costs, stands_costs, field_kept}
use Rattle.trees.proofs.Decided.{decided_costs}
use Rattle.trees.proofs.making.tree_step.Goals as goal

module _ (g : Graph) (sc sc₁ : List ℕ) (co : CostsOnly sc sc₁) where
  same_count : (c : ℕ) → c ≡ C (stands g sc) → c ≡ C (stands g sc₁)
  same_count c e = e ∙ ap C (sym (stands_costs g sc sc₁ co))

  module _ (ls : List ℕ) (u : ℕ) (s : Step) where
    same_parts : Parted (rewrite (stands g sc₁) ls (tree (stands g sc₁) u)) s → Parted (rewrite (stands g sc) ls (tree (stands g sc) u)) s
    same_parts p = rw (stands_costs g sc sc₁ co) at p

    same-made : (sc' : List ℕ) → Made sc₁ g sc' (tree_moved (stands g sc₁) ls u) s.count → TreeMade sc g sc' (tree_moved (stands g sc) ls u) s.count
    same-made sc' m =
        let e = ap (λ h. tree_moved h ls u) (stands_costs g sc sc₁ co) in
        record {
          ordered = m.became.ordered;
          stands_for = m.became.stands_for ∙ e;
          long = m.became.kept.long ∙ co.same;
          kept = λ v f l p q d. m.became.kept.others v f l p q ∙ field_kept g sc sc₁ co v f l d;
          count = m.count ∙ ap C e;
        }

pub decided_step-requires : goal.decided_step-requires
decided_step-requires c =
    let p = c.requires in
    let f = c.decide_tree.ensures in
    (ordered_costs _ _ _ f.1 p.0, p.1, p.2, same_count _ _ _ f.1 _ p.3, decided_costs _ _ _ f.1 _ _ f.0, p.4)

pub returns : goal.returns
returns c =
    let f = c.decide_tree.ensures in
    let d = c.decided_step in
    (same-made _ _ _ f.1 _ _ d.result _ d.ensures.0, same_parts _ _ _ f.1 _ _ d.result d.ensures.1)
