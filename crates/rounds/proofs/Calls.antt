-- Each call keeps the graph but for complement bits, both numbers that it answers add to what C falls by, and one that does not lower
-- C changes nothing; then no choice of moves at its nodes lowers C. On an admitted graph none is refused. From the laws of rewriting (crate moves,
-- Kept and Split).
use mathlib.Core.Path.{◌≡◌, refl, sym, ◌∙◌}
use mathlib.Core.Bool.{Bool, true, false, cond}
use mathlib.Core.List.{List, [], ◌∷◌, map}
use Prim.Native.Nat.{ℕ, zero, suc, ◌-◌, ◌*◌, ◌≤◌, ◌<◌}
use native.Mathlib.Omega.{arith}
use borrow.Author.Tests.{lt-ltb}
use lib.IntN.{pos}
use Rattle.graph.specs.Graph.{Graph, node}
use Rattle.graph.specs.Count.{C}
use Rattle.graph.specs.Admission.{Admitted, LockBytes}
use Rattle.graph.specs.Answer.{refused, gained, saving_of, Outcome, outcome, guarded}
use Rattle.graph.specs.Finite.{difference}
use Rattle.graph.proofs.DifferenceSum.{no_difference}
use Rattle.graph.proofs.Tests.{none, no_less}
use Rattle.graph.proofs.Admit.{admission_none}
use Rattle.choice.specs.Choice.{Fits}
use Rattle.moves.specs.Rows.{moves_at}
use Rattle.moves.specs.Tree.{is_root, tree}
use Rattle.moves.specs.Call.{moved, best_at, rewrite, is_node, node_fault, word_fault, root_fault, scratch_fault, node_number, node_call, named_by, pair_number, pair_rewrite, pair_call, tree_number, tree_call}
use Rattle.moves.proofs.Kept.{Kept, kept_none, best_lowest, best_idle, rewrite_kept}
use Rattle.moves.proofs.Split.{split_whole}
use Rattle.rounds.specs.Promises.{AsCalls}

-- what a call does to an admitted graph
pub record Honest (call : Graph → Outcome) : Type 0 where
  pub keeps : (g : Graph) → Admitted g → Kept g (call g).graph (C g - C (call g).graph)
  pub adds : (g : Graph) → saving_of (call g).answer ≡ difference (C g) (C (call g).graph)
  pub still : (g : Graph) → Admitted g → C g ≤ C (call g).graph → (call g).graph ≡ g

-- the same of one outcome on one graph
record HonestOn (g : Graph) (o : Outcome) : Type 0 where
  keeps : Admitted g → Kept g o.graph (C g - C o.graph)
  adds : saving_of o.answer ≡ difference (C g) (C o.graph)
  still : Admitted g → C g ≤ C o.graph → o.graph ≡ g

-- a call that changes nothing
same_honest : (g : Graph) (o : Outcome) → o.graph ≡ g → saving_of o.answer ≡ pos 0 → HonestOn g o
same_honest g o e q =
    record {
      keeps = λ adm. let z : C g - C g ≡ 0 = omega arith in rw (e, z) (kept_none g adm);
      adds = q ∙ rw e (sym (no_difference (C g)));
      still = λ adm l. e;
    }

guarded_honest : (k : ℕ) (g : Graph) (o : Outcome) → HonestOn g o → HonestOn g (guarded k g o)
unfolding guarded
guarded_honest zero g o h = h
guarded_honest (suc k) g o h = same_honest g (outcome (refused (suc k)) g) refl refl

rewrite_honest : (g : Graph) (ls us : List ℕ) → HonestOn g (rewrite g ls us)
unfolding rewrite
rewrite_honest g ls us =
    record {
      keeps = λ adm. rewrite_kept g ls adm us;
      adds = split_whole us g (moved g us (best_at g ls us));
      still = λ adm l. best_idle g ls adm us l;
    }

nothing_honest : (g : Graph) → HonestOn g (outcome (gained [] (pos 0) (pos 0)) g)
nothing_honest g = same_honest g (outcome (gained [] (pos 0) (pos 0)) g) refl refl

cond_honest : (g : Graph) (b : Bool) (x y : Outcome) → HonestOn g x → HonestOn g y → HonestOn g (cond b x y)
cond_honest g true x y p q = p
cond_honest g false x y p q = q

by_each : (call : Graph → Outcome) → ((g : Graph) → HonestOn g (call g)) → Honest call
by_each call h = record { keeps = λ g. (h g).keeps; adds = λ g. (h g).adds; still = λ g. (h g).still }

-- what is rewritten at the nodes that a graph names
pub rewrites_honest : (ls : List ℕ) (at : Graph → List ℕ) → Honest (λ g. rewrite g ls (at g))
rewrites_honest ls at = by_each (λ g. rewrite g ls (at g)) (λ g. rewrite_honest g ls (at g))

pair_rewrite_honest : (g : Graph) (ls : List ℕ) (u k : ℕ) → HonestOn g (pair_rewrite g ls u k)
unfolding pair_rewrite
pair_rewrite_honest g ls u k = cond_honest g (is_node g (named_by g u k)) _ _ (rewrite_honest g ls (named_by g u k ∷ u ∷ [])) (nothing_honest g)

pub pairs_honest : (ls : List ℕ) (at : Graph → ℕ) (k : ℕ) → Honest (λ g. pair_rewrite g ls (at g) k)
pairs_honest ls at k = by_each (λ g. pair_rewrite g ls (at g) k) (λ g. pair_rewrite_honest g ls (at g) k)

pub node_honest : (ls : List ℕ) (at : Graph → ℕ) → Honest (λ g. node_call g ls (at g))
unfolding node_call
node_honest ls at = by_each (λ g. node_call g ls (at g)) (λ g. guarded_honest (node_number g ls (at g)) g (rewrite g ls (at g ∷ [])) (rewrite_honest g ls (at g ∷ [])))

pub pair_honest : (ls : List ℕ) (at : Graph → ℕ) (k : ℕ) → Honest (λ g. pair_call g ls (at g) k)
unfolding pair_call
pair_honest ls at k =
    by_each (λ g. pair_call g ls (at g) k) (λ g. guarded_honest (pair_number g ls (at g) k) g (pair_rewrite g ls (at g) k) (pair_rewrite_honest g ls (at g) k))

pub tree_honest : (ls : List ℕ) (at : Graph → ℕ) (s : ℕ) → Honest (λ g. tree_call g ls s (at g))
unfolding tree_call
tree_honest ls at s = by_each (λ g. tree_call g ls s (at g)) (λ g. guarded_honest (tree_number g ls s (at g)) g (rewrite g ls (tree g (at g))) (rewrite_honest g ls (tree g (at g))))

guarded_none : (k : ℕ) (g : Graph) (o : Outcome) → k ≡ 0 → guarded k g o ≡ o
unfolding guarded
guarded_none zero g o e = refl
guarded_none (suc k) g o e = absurd (omega arith)

pub is_node_lem : (g : Graph) (v : ℕ) → v < g.N → is_node g (node g v) ≡ true
unfolding is_node
is_node_lem g v h = rw (lt-ltb g.I (node g v) (omega arith), lt-ltb (node g v) (node g g.N) (omega arith))

module _ (g : Graph) (adm : Admitted g) (ls : List ℕ) where
  -- a rewriting that does not lower C: no choice of moves at its nodes does
  pub rewrite_nothing : (us : List ℕ) → C g ≤ C (rewrite g ls us).graph → (ms : List ℕ) → Fits (map (moves_at g ls) us) ms → C g ≤ C (moved g us ms)
  unfolding rewrite
  rewrite_nothing us e ms f = omega (arith, best_lowest g ls adm us ms f)

  pub pair_nothing : (u k : ℕ) → is_node g (named_by g u k) ≡ true → C g ≤ C (pair_rewrite g ls u k).graph
      → (a b : ℕ) → a < moves_at g ls (named_by g u k) → b < moves_at g ls u → C g ≤ C (moved g (named_by g u k ∷ u ∷ []) (a ∷ b ∷ []))
  unfolding pair_rewrite
  pair_nothing u k i e a b la lb = rewrite_nothing (named_by g u k ∷ u ∷ []) (rw i at e) (a ∷ b ∷ []) (la, (lb, tt))

-- none of a round's calls is refused
module _ (g : Graph) (adm : Admitted g) (ls : List ℕ) (ok : LockBytes g.N ls) where
  no_node_fault : (v : ℕ) → v < g.N → node_fault g (node g v) ≡ 0
  unfolding node_fault
  no_node_fault v h = rw (is_node_lem g v h)

  node_passes : (v : ℕ) → v < g.N → node_number g ls (node g v) ≡ 0
  unfolding node_number
  node_passes v h = sym (none _ _ (admission_none g adm ls ok) (sym (no_node_fault v h)))

  pair_passes : (v k : ℕ) → v < g.N → word_fault g (node g v) k ≡ 0 → pair_number g ls (node g v) k ≡ 0
  unfolding pair_number
  pair_passes v k h w = sym (none _ _ (admission_none g adm ls ok) (none _ _ (no_node_fault v h) (sym w)))

  tree_passes : (s v : ℕ) → v < g.N → is_root g (node g v) ≡ true → 8 * g.N ≤ s → tree_number g ls s (node g v) ≡ 0
  unfolding tree_number root_fault scratch_fault
  tree_passes s v h r l =
      sym (none _ _ (admission_none g adm ls ok) (none _ _ (no_node_fault v h) (none _ _ (rw r) (no_less s (8 * g.N) 8 0 l refl))))

  -- so that each is the rewriting that it makes
  pub as_calls : (s v : ℕ) → 8 * g.N ≤ s → v < g.N → AsCalls g ls s v
  unfolding tree_call node_call pair_call
  as_calls s v l h =
      record {
        tree_step = λ r. guarded_none _ g _ (tree_passes s v h r l);
        node_step = guarded_none _ g _ (node_passes v h);
        pair_step = λ k w. guarded_none _ g _ (pair_passes v k h w);
      }
