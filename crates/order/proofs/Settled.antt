-- Settling a graph on which nothing lowers C makes one round and changes nothing, and such a graph is what settling leaves. From the laws of
-- best choices, of calls and of rounds.
use mathlib.Core.Path.{◌≡◌, refl, sym, ap, ◌∙◌}
use mathlib.Core.Bool.{Bool, true, false, cond}
use mathlib.Core.List.{List, [], ◌∷◌, map}
use mathlib.Core.Logic.{⊎_elim, ◌≢◌}
use Prim.Native.Nat.{ℕ, zero, suc, ◌+◌, ◌-◌, ◌*◌, ◌≤◌, ◌<◌}
use native.Mathlib.Omega.{arith}
use borrow.Author.Tests.{eqb-true}
use lib.Dec.{eqb}
use lib.IntN.{pos, +ℤ_idr}
use lib.ListN.{get_or}
use Rattle.graph.specs.Finite.{if_less}
use Rattle.graph.specs.Graph.{Graph, node}
use Rattle.graph.specs.Count.{C}
use Rattle.graph.specs.Admission.{Admitted, LockBytes}
use Rattle.graph.specs.Answer.{gained, Outcome, outcome}
use Rattle.graph.proofs.Answers.{accepted_outcome}
use Rattle.graph.proofs.Admit.{admitted, locks_admitted, admission_none}
use Rattle.graph.proofs.Cases.{lt_or_le, eq_or_ne}
use Rattle.graph.proofs.Tests.{both, none, less, no_less}
use Rattle.choice.specs.Choice.{Fits}
use Rattle.moves.specs.Rows.{lock_at, moves_at}
use Rattle.moves.specs.Tree.{is_root, tree}
use Rattle.moves.specs.Call.{moved, best_at, rewrite, is_node, word_fault, scratch_fault, named_by, pair_rewrite}
use Rattle.moves.proofs.Kept.{best_idle}
use Rattle.moves.proofs.Locks.{best_fits}
use Rattle.moves.proofs.Moves.{moves_locked, moves_free, moves_pos, moves_no_more}
use Rattle.moves.proofs.Split.{split_none}
use Rattle.rounds.specs.Round.{Progress, start, after, each, tree_at, node_at, pair_at, pairs_at, round}
use Rattle.rounds.specs.Settle.{settle, settled, settle_number, settle_call, NothingLowers}
use Rattle.rounds.proofs.Rounds.{settle_in_last, settle_ended}
use Rattle.order.specs.Settled.{SettledUnder, LowestUnder, OneRound, Settling, MoreLocked, StaysSettled}

-- what a call that changes nothing comes to
abbrev Nothing : Graph → Outcome
Nothing g = outcome (gained [] (pos 0) (pos 0)) g

-- rewriting where no choice of moves lowers C
rewrite_nothing : (g : Graph) (ls : List ℕ) → Admitted g → (us : List ℕ) → ((ms : List ℕ) → Fits (map (moves_at g ls) us) ms → C g ≤ C (moved g us ms)) → rewrite g ls us ≡ Nothing g
unfolding rewrite
rewrite_nothing g ls adm us h =
    let e : moved g us (best_at g ls us) ≡ g = best_idle g ls adm us (h (best_at g ls us) (best_fits g ls us)) in
    let z = split_none us g in
    rw (e, z.0, z.1)

-- a step that makes such a call, on the way so far
after_nothing : (call : Graph → Outcome) (p : Progress) → call p.graph ≡ Nothing p.graph → after call p ≡ p
unfolding after
after_nothing call p e = rw e (λ t. record { own = +ℤ_idr p.own t; others = +ℤ_idr p.others t; graph = p.graph })

each_nothing : (step : ℕ → Progress → Progress) (n : ℕ) (p : Progress) → ((v : ℕ) → v < n → step v p ≡ p) → each step n p ≡ p
unfolding each
each_nothing step zero p h = refl
each_nothing step (suc n) p h = ap (step n) (each_nothing step n p (λ v l. h v (omega arith))) ∙ h n (omega arith)

cond_nothing : (b : Bool) (p q : Progress) → (b ≡ true → q ≡ p) → cond b q p ≡ p
cond_nothing true p q h = h refl
cond_nothing false p q h = refl

module _ (ls : List ℕ) (p : Progress) (adm : Admitted p.graph) (low : NothingLowers p.graph ls) where
  abbrev g : Graph
  g = p.graph

  tree_nothing : (v : ℕ) → v < g.N → tree_at ls v p ≡ p
  unfolding tree_at
  tree_nothing v h =
      cond_nothing (is_root g (node g v)) p (after (λ x. rewrite x ls (tree x (node x v))) p)
      (λ r. after_nothing (λ x. rewrite x ls (tree x (node x v))) p (rewrite_nothing g ls adm (tree g (node g v)) (low.on_tree v h r)))

  one_move : (v : ℕ) → v < g.N → (ms : List ℕ) → Fits (map (moves_at g ls) (node g v ∷ [])) ms → C g ≤ C (moved g (node g v ∷ []) ms)
  one_move v h [] f = absurd f
  one_move v h (m ∷ []) f = low.at_node v h m f.0
  one_move v h (m ∷ n ∷ ms) f = absurd f.1

  node_nothing : (v : ℕ) → v < g.N → node_at ls v p ≡ p
  unfolding node_at
  node_nothing v h = after_nothing (λ x. rewrite x ls (node x v ∷ [])) p (rewrite_nothing g ls adm (node g v ∷ []) (one_move v h))

  two_moves : (v k : ℕ) → v < g.N → word_fault g (node g v) k ≡ 0 → is_node g (named_by g (node g v) k) ≡ true
      → (ms : List ℕ) → Fits (map (moves_at g ls) (named_by g (node g v) k ∷ node g v ∷ [])) ms → C g ≤ C (moved g (named_by g (node g v) k ∷ node g v ∷ []) ms)
  two_moves v k h w n [] f = absurd f
  two_moves v k h w n (a ∷ []) f = absurd f.1
  two_moves v k h w n (a ∷ b ∷ []) f = low.on_pair v k h w n a b f.0 f.1.0
  two_moves v k h w n (a ∷ b ∷ c ∷ ms) f = absurd f.1.1

  pair_rewrite_lem : (v k : ℕ) → v < g.N → word_fault g (node g v) k ≡ 0 → (t : Bool) → is_node g (named_by g (node g v) k) ≡ t
      → cond t (rewrite g ls (named_by g (node g v) k ∷ node g v ∷ [])) (Nothing g) ≡ Nothing g
  pair_rewrite_lem v k h w true e = rewrite_nothing g ls adm (named_by g (node g v) k ∷ node g v ∷ []) (two_moves v k h w e)
  pair_rewrite_lem v k h w false e = refl

  pair_nothing : (v k : ℕ) → v < g.N → pair_at ls v k p ≡ p
  unfolding pair_at pair_rewrite
  pair_nothing v k h =
      cond_nothing (eqb (word_fault g (node g v) k) 0) p (after (λ x. pair_rewrite x ls (node x v) k) p)
      (λ r.
      after_nothing (λ x. pair_rewrite x ls (node x v) k) p
      (pair_rewrite_lem v k h (eqb-true (word_fault g (node g v) k) 0 r) (is_node g (named_by g (node g v) k)) refl))

  pairs_nothing : (v : ℕ) → v < g.N → pairs_at ls v p ≡ p
  unfolding pairs_at
  pairs_nothing v h = rw (pair_nothing v 1 h, pair_nothing v 2 h, pair_nothing v 3 h)

  round_nothing : round ls p ≡ p
  unfolding round
  round_nothing =
      rw (each_nothing (tree_at ls) g.N p tree_nothing, each_nothing (node_at ls) g.N p node_nothing) (each_nothing (pairs_at ls) g.N p pairs_nothing)

-- a graph on which nothing lowers C
module _ (ls : List ℕ) (g : Graph) (low : LowestUnder ls g) where
  passes : (s : ℕ) → 8 * g.N ≤ s → settle_number g ls s ≡ 0
  unfolding settle_number scratch_fault
  passes s l = sym (none _ _ (admission_none g low.admitted ls low.locks) (no_less s (8 * g.N) 8 0 l refl))

  start_nothing : round ls (start g) ≡ start g
  unfolding start
  start_nothing = round_nothing ls (start g) low.admitted low.lowest

  settle_once : settle ls g ≡ record { rounds = 1; made = start g }
  unfolding settle
  settle_once = let e = start_nothing in settle_in_last ls (C g) (start g) (omega (arith, ap (λ (q : Progress). C q.graph) e)) ∙ rw e

  pub lowest_once : OneRound ls g
  unfolding settle_call start
  lowest_once s l = sym (accepted_outcome (settle_number g ls s) g (settled g (settle ls g)) (passes s l)) ∙ rw settle_once

  pub lowest_settled : SettledUnder ls g
  lowest_settled =
      record {
        before = g;
        scratch = 8 * g.N;
        accepted = passes (8 * g.N) (omega arith);
        left = ap (λ (o : Outcome). o.graph) (lowest_once (8 * g.N) (omega arith));
      }

-- and what an accepted settling has left is one
module _ (ls : List ℕ) (g : Graph) (s : ℕ) (z : settle_number g ls s ≡ 0) where
  fine : (Admitted g) × (LockBytes g.N ls)
  unfolding settle_number
  fine = let a = (both _ _ z).0 in (admitted g ls a, locks_admitted g ls a)

  after_is : (settle_call g ls s).graph ≡ (settle ls g).made.graph
  unfolding settle_call
  after_is = sym (ap (λ (o : Outcome). o.graph) (accepted_outcome (settle_number g ls s) g (settled g (settle ls g)) z))

  left_lowest : LowestUnder ls (settle_call g ls s).graph
  left_lowest =
      let e = settle_ended ls g fine.0 in
      let k = e.keeps.stays in
      rw after_is (record { admitted = k.admitted; locks = rw k.same_N fine.1; lowest = e.lowest })

pub settled_lowest : (ls : List ℕ) (g : Graph) → SettledUnder ls g → LowestUnder ls g
settled_lowest ls g e = rw e.left at (left_lowest ls e.before e.scratch e.accepted)

-- M-111: settling a settled graph makes one round and no change
pub settling : (ls : List ℕ) (g : Graph) → Settling ls g
settling ls g =
    record {
      once = λ e. lowest_once ls g (settled_lowest ls g e);
      senses = (settled_lowest ls g, lowest_settled ls g);
    }

-- With more nodes locked it is settled too: the choices that are left are some of those that were there
module _ (g : Graph) (ls ks : List ℕ) (more : MoreLocked g.N ls ks) where
  lock_more : (u : ℕ) → lock_at g ls u ≡ 1 → lock_at g ks u ≡ 1
  unfolding lock_at
  lock_more u e =
      ⊎_elim
      (λ (a : g.I < u).
      ⊎_elim
      (λ (b : u < node g g.N).
      let v : ℕ = u - (g.I + 1) in
      sym (less g.I u _ 0 a (less u (node g g.N) _ 0 b (sym (more v (omega arith) (less g.I u _ 0 a (less u (node g g.N) _ 0 b refl) ∙ e))))))
      (λ (b : node g g.N ≤ u). absurd (omega (arith, less g.I u (if_less u (node g g.N) (get_or ls (u - (g.I + 1)) 0) 0) 0 a (no_less u (node g g.N) (get_or ls (u - (g.I + 1)) 0) 0 b refl), e)))
      (lt_or_le u (node g g.N)))
      (λ (a : u ≤ g.I). absurd (omega (arith, no_less g.I u (if_less u (node g g.N) (get_or ls (u - (g.I + 1)) 0) 0) 0 a refl, e)))
      (lt_or_le g.I u)

  fewer : (u : ℕ) → moves_at g ks u ≤ moves_at g ls u
  fewer u =
      ⊎_elim
      (λ (e : lock_at g ls u ≡ 1). omega (arith, moves_locked g ks u (lock_more u e), moves_pos g ls u))
      (λ (n : lock_at g ls u ≢ 1). omega (arith, moves_free g ls u n, moves_no_more g ks u))
      (eq_or_ne (lock_at g ls u) 1)

  fit_fewer : (us ms : List ℕ) → Fits (map (moves_at g ks) us) ms → Fits (map (moves_at g ls) us) ms
  fit_fewer [] [] f = tt
  fit_fewer [] (m ∷ ms) f = absurd f
  fit_fewer (u ∷ us) [] f = absurd f
  fit_fewer (u ∷ us) (m ∷ ms) f = (omega (arith, f.0, fewer u), fit_fewer us ms f.1)

  pub still_lowest : LockBytes g.N ks → LowestUnder ls g → LowestUnder ks g
  still_lowest ok low =
      record {
        admitted = low.admitted;
        locks = ok;
        lowest = record {
          at_node = λ v h m l. low.lowest.at_node v h m (omega (arith, l, fewer (node g v)));
          on_pair = λ v k h w n a b la lb.
              low.lowest.on_pair v k h w n a b (omega (arith, la, fewer (named_by g (node g v) k))) (omega (arith, lb, fewer (node g v)));
          on_tree = λ v h r ms f. low.lowest.on_tree v h r ms (fit_fewer (tree g (node g v)) ms f);
        };
      }

-- M-111 with locks: settled under some, it is settled under any that lock no fewer nodes
pub settled_more : (ls ks : List ℕ) (g : Graph) → StaysSettled ls ks g
settled_more ls ks g more ok e = lowest_settled ks g (still_lowest g ls ks more ok (settled_lowest ls g e))
