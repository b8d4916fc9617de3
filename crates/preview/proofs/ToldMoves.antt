-- What is told of a decided tree is the moves of the tree call. From the law on the choice that a tree call makes.
use mathlib.Core.Path.{◌≡◌, sym, ap, ◌∙◌}
use mathlib.Core.List.{List}
use mathlib.Core.Logic.{⊎_elim, ◌≢◌}
use Prim.Native.Nat.{ℕ, ◌+◌, ◌≤◌, ◌<◌}
use native.Mathlib.Omega.{arith}
use borrow.Author.Tests.{eq-eqb, ne_eqb, lt-ltb}
use lib.ListN.{length, get_or}
use lib.Seq.{ext_get_or}
use Rattle.graph.specs.Finite.{tab, if_less}
use Rattle.graph.specs.Graph.{Graph, node}
use Rattle.graph.proofs.Cases.{eq_or_ne, lt_or_le}
use Rattle.graph.proofs.Finite.{length_tab, get_d_tab}
use Rattle.graph.proofs.Tests.{less, no_less}
use Rattle.moves.specs.Apply.{Choice, none, put}
use Rattle.moves.proofs.Moves.{moves_no_more}
use Rattle.moves.specs.Tree.{root_of, tree}
use Rattle.moves.proofs.Written.{within, put_tree}
use Rattle.state.specs.State.{stands, Ordered}
use Rattle.trees.specs.Costing.{CostsOnly}
use Rattle.trees.proofs.Ready.{stands_costs}
use Rattle.trees.specs.Deciding.{moves_in, TreeDecided}
use Rattle.trees.proofs.DecidePass.{moves_at_lem}
use Rattle.preview.specs.Preview.{tree_moves, moves_told}
use Rattle.preview.specs.Telling.{Cleared, MovesStored, Told, DecidedAs}

within_in : (g : Graph) (u : ℕ) (m : Choice) (v : ℕ) → v < g.N → root_of g (node g v) ≡ u → within g u m (node g v) ≡ m (node g v)
unfolding within
within_in g u m v l e = rw (lt-ltb g.I (node g v) (omega arith), lt-ltb (node g v) (g.I + 1 + g.N) (omega arith), eq-eqb (root_of g (node g v)) u e)

within_out : (g : Graph) (u : ℕ) (m : Choice) (v : ℕ) → v < g.N → root_of g (node g v) ≢ u → within g u m (node g v) ≡ 0
unfolding within
within_out g u m v l e = rw (lt-ltb g.I (node g v) (omega arith), lt-ltb (node g v) (g.I + 1 + g.N) (omega arith), ne_eqb (root_of g (node g v)) u e)

module _ (g : Graph) (ls : List ℕ) (u : ℕ) (sc bs bs₁ bs₂ : List ℕ) (td : TreeDecided g ls u sc) (cl : Cleared g.N bs bs₁) (to : Told g u sc bs₁ bs₂) where
  moves_are : tree_moves g ls u ≡ within g u (moves_in g.I sc)
  unfolding tree_moves
  moves_are = ap (put none (tree g u)) (sym td.best) ∙ put_tree g u (moves_in g.I sc)

  at_node : (v : ℕ) → v < g.N → get_or bs₂ v 0 ≡ tree_moves g ls u (node g v)
  at_node v l =
      ⊎_elim
      (λ (e : root_of g (node g v) ≡ u).
      to.told v l e ∙ sym (moves_at_lem g sc v) ∙ sym (within_in g u (moves_in g.I sc) v l e) ∙ ap (λ f. f (node g v)) (sym moves_are))
      (λ (e : root_of g (node g v) ≢ u).
      to.kept v (λ z. e) ∙ cl.none v l ∙ sym (within_out g u (moves_in g.I sc) v l e) ∙ ap (λ f. f (node g v)) (sym moves_are))
      (eq_or_ne (root_of g (node g v)) u)

  entry : (j : ℕ) → get_or bs₂ j 0 ≡ if_less j g.N (tree_moves g ls u (node g j)) (get_or bs j 0)
  entry j =
      ⊎_elim
      (λ (l : j < g.N). less j g.N (tree_moves g ls u (node g j)) (get_or bs j 0) l (at_node j l))
      (λ (l : g.N ≤ j). no_less j g.N (tree_moves g ls u (node g j)) (get_or bs j 0) l (to.kept j (λ z. absurd (omega arith)) ∙ cl.kept j l))
      (lt_or_le j g.N)

  pub told_is : bs₂ ≡ moves_told g ls u bs
  unfolding moves_told
  told_is =
      ext_get_or 0 bs₂ (tab (length bs) (λ j. if_less j g.N (tree_moves g ls u (node g j)) (get_or bs j 0))) (to.same ∙ cl.same ∙ sym (length_tab (length bs) _))
      (λ j l. entry j ∙ sym (get_d_tab (length bs) (λ j. if_less j g.N (tree_moves g ls u (node g j)) (get_or bs j 0)) j (omega (arith, l, to.same, cl.same))))

-- g filled and decided, and its moves told
module _ (g : Graph) (ls sc sc' bs bs₁ bs₂ : List ℕ) (v : ℕ) (s : stands g sc ≡ g) (td : TreeDecided (stands g sc) ls (node g v) sc') (co : CostsOnly sc sc')
    (cl : Cleared g.N bs bs₁) (to : Told (stands g sc') (node g v) sc' bs₁ bs₂) where
  decided : TreeDecided g ls (node g v) sc'
  decided = rw s at td

  told : Told g (node g v) sc' bs₁ bs₂
  told = let e : stands g sc' ≡ g = stands_costs g sc sc' co ∙ s in rw e at to

  pub told_tree : bs₂ ≡ moves_told g ls (node g v) bs
  told_tree = told_is g ls (node g v) sc' bs bs₁ bs₂ decided cl told

  -- and the tree stands decided in scratch
  pub told_decided : Ordered g sc' → DecidedAs g ls (node g v) sc'
  told_decided o = record { ordered = o; itself = stands_costs g sc sc' co ∙ s; decided = decided }

-- the moves stored are still those of the state
pub still_stored : (g : Graph) (ls sc sc' : List ℕ) (u : ℕ) → CostsOnly sc sc' → TreeDecided (stands g sc) ls u sc' → MovesStored (stands g sc') u sc'
still_stored g ls sc sc' u co td =
    rw (stands_costs g sc sc' co) (λ v l e. omega (arith, td.permitted v l e, moves_no_more (stands g sc) ls (node (stands g sc) v)))

pub decided_itself : (g : Graph) (ls : List ℕ) (u : ℕ) (sc : List ℕ) → DecidedAs g ls u sc → TreeDecided (stands g sc) ls u sc
decided_itself g ls u sc d = rw d.itself d.decided
