-- What the call leaves and saves: its moves, written, leave the graph of the choice, and other edges add what they added. And the call, accepted.
use mathlib.Core.Path.{◌≡◌, sym, ap, ◌∙◌}
use mathlib.Core.List.{List}
use Prim.Native.Nat.{ℕ, ◌+◌, ◌-◌}
use native.Mathlib.Omega.{arith}
use Rattle.graph.specs.Admission.{Admitted}
use Rattle.graph.specs.Answer.{Answer, Outcome, outcome}
use Rattle.graph.specs.Count.{C}
use Rattle.graph.specs.Finite.{difference}
use Rattle.graph.specs.Graph.{Graph, node}
use Rattle.graph.proofs.Answers.{accepted_outcome}
use Rattle.graph.proofs.DifferenceSum.{no_difference}
use Rattle.moves.specs.Call.{moved, tree_number, rewrite_by, split}
use Rattle.moves.specs.Compose.{IsRoot}
use Rattle.moves.specs.Outside.{saved_by}
use Rattle.moves.specs.Tree.{tree}
use Rattle.moves.proofs.Apply.{admitted}
use Rattle.moves.proofs.Split.{saved_by_lem}
use Rattle.resistive.specs.Resistive.{best_still, resistive_call}
use Rattle.resistive.proofs.Meaning.{no_others}
use Rattle.tree_call.proofs.Saved.{root_node}
use Rattle.trees.specs.Costing.{CostsOnly}
use Rattle.trees.specs.Deciding.{stored_moved}
use Rattle.resistive_call.specs.Keys.{StillDecided}

pub costs_then : (sc sc₁ sc₂ : List ℕ) → CostsOnly sc sc₁ → CostsOnly sc₁ sc₂ → CostsOnly sc sc₂
costs_then sc sc₁ sc₂ a b = record { same = b.same ∙ a.same; kept = λ j d. b.kept j d ∙ a.kept j d }

pub written_admitted : (g k : Graph) (u : ℕ) (sc : List ℕ) → Admitted g → k ≡ stored_moved g u sc → Admitted k
unfolding moved
written_admitted g k u sc adm e = rw e (admitted g _ adm)

-- the moves decided are written as k, and counts before and after tell what they save
pub rewrite_is : (g k : Graph) (ls sc : List ℕ) (r v b a : ℕ) (x : Answer) → Admitted g → IsRoot g r → v ≡ r - (g.I + 1) → StillDecided g ls (node g v) sc → k ≡ stored_moved g (node g v) sc
    → b ≡ C g → a ≡ C k → x ≡ saved_by b a 0 0 → outcome x k ≡ rewrite_by g (tree g r) (best_still g ls r)
rewrite_is g k ls sc r v b a x adm i e td w p q y =
    let n : node g v ≡ r = omega (arith, e, i.after_inputs) in
    let t = root_node g r v i e in
    let after : k ≡ moved g (tree g (node g v)) (best_still g ls (node g v)) = w ∙ ap (moved g (tree g (node g v))) td.best in
    let others : (split (tree g (node g v)) g k).others ≡ difference 0 0 =
    ap (λ (z : Graph). (split (tree g (node g v)) g z).others) after ∙ no_others g ls v adm t.0 t.1 ∙ sym (no_difference 0) in
    ap (λ (z : Answer). outcome z k) y ∙
    saved_by_lem g (tree g (node g v)) (best_still g ls (node g v)) k b a 0 0 after (omega (arith, p, q)) others ∙
    ap (λ (u : ℕ). rewrite_by g (tree g u) (best_still g ls u)) n

-- the call, accepted
pub accepted_call : (g : Graph) (ls : List ℕ) (s r : ℕ) (o : Outcome) → tree_number g ls s r ≡ 0 → o ≡ rewrite_by g (tree g r) (best_still g ls r) → o ≡ resistive_call g ls s r
unfolding resistive_call
accepted_call g ls s r o e q = q ∙ accepted_outcome (tree_number g ls s r) g (rewrite_by g (tree g r) (best_still g ls r)) e

pub accepted_number : (g : Graph) (ls : List ℕ) (r : ℕ) (a : Answer) (h : Graph) → outcome a h ≡ rewrite_by g (tree g r) (best_still g ls r) → a.number ≡ 0
accepted_number g ls r a h e = ap (λ (o : Outcome). o.answer.number) e
