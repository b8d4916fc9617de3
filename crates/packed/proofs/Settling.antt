-- Settling on an admitted graph makes the rounds that it makes on the trimmed one, answers alike, and leaves the trimmed graph of what it
-- leaves. From the calls on a trimmed graph, and from the nodes that rounds keep (crate rounds, Rounds).
use mathlib.Core.Path.{◌≡◌, refl, ap, ◌∙◌}
use mathlib.Core.List.{List, [], ◌∷◌}
use Prim.Native.Nat.{ℕ, zero, suc, ◌≤◌, ◌<◌}
use native.Mathlib.Omega.{arith}
use borrow.Author.Tests.{eqb-true}
use lib.Dec.{eqb}
use Rattle.graph.specs.Admission.{Admitted}
use Rattle.graph.specs.Answer.{Outcome}
use Rattle.graph.specs.Count.{C}
use Rattle.graph.specs.Graph.{Graph, node}
use Rattle.moves.specs.Tree.{is_root, tree}
use Rattle.moves.specs.Call.{rewrite, pair_rewrite, word_fault}
use Rattle.rounds.specs.Round.{Progress, start, after, each, tree_at, node_at, pair_at, pairs_at, round}
use Rattle.rounds.specs.Settle.{Rounds, settle_in, settle, settle_number, settle_call}
use Rattle.rounds.proofs.Calls.{is_node_lem}
use Rattle.rounds.proofs.Steps.{Sound, each_sound}
use Rattle.rounds.proofs.Rounds.{tree_sound, node_sound, pair_sound, pairs_sound, round_moves}
use Rattle.packed.specs.Old.{trimmed}
use Rattle.packed.proofs.Admitting.{admission_in}
use Rattle.packed.proofs.Calls.{scratch_fault_in, word_fault_in, pair_rewrite_in}
use Rattle.packed.proofs.Choosing.{trimmed_outcome, cond_ap, if_less_ap, guarded_when}
use Rattle.packed.proofs.Trimmed.{root_in_lem, tree_in, C_in, rewrite_in, one_in, tree_moves_lem}

abbrev trimmed_progress : Progress → Progress
trimmed_progress p = record { own = p.own; others = p.others; graph = trimmed p.graph }

abbrev trimmed_rounds : Rounds → Rounds
trimmed_rounds r = record { rounds = r.rounds; made = trimmed_progress r.made }

after_in : (call : Graph → Outcome) (p : Progress) → call (trimmed p.graph) ≡ trimmed_outcome (call p.graph) → after call (trimmed_progress p) ≡ trimmed_progress (after call p)
unfolding after
after_in call p e = rw e

-- an admitted graph of n nodes
module _ (n : ℕ) (ls : List ℕ) where
  record Fit (g : Graph) : Type 0 where
    adm : Admitted g
    size : g.N ≡ n

  -- a step that comes to the same before and after trimming
  abbrev InStep : (Progress → Progress) → Type 0
  InStep a = (p : Progress) → Fit p.graph → a (trimmed_progress p) ≡ trimmed_progress (a p)

  tree_step : (v : ℕ) → InStep (tree_at ls v)
  unfolding tree_at
  tree_step v p f =
      let g : Graph = p.graph in
      rw (root_in_lem g (node g v))
      (cond_ap trimmed_progress (is_root g (node g v)) _ p _
      (λ e. after_in (λ h. rewrite h ls (tree h (node h v))) p (rw (tree_in g (node g v)) (rewrite_in g ls (tree g (node g v)) (tree_moves_lem g ls (node g v))))))

  node_step : (v : ℕ) → v < n → InStep (node_at ls v)
  unfolding node_at
  node_step v l p f =
      let g : Graph = p.graph in
      after_in (λ h. rewrite h ls (node h v ∷ [])) p (rewrite_in g ls (node g v ∷ []) (one_in g ls (node g v) (is_node_lem g v (rw f.size l))))

  pair_step : (v k : ℕ) → v < n → InStep (pair_at ls v k)
  unfolding pair_at
  pair_step v k l p f =
      let g : Graph = p.graph in
      rw (word_fault_in g (node g v) k (is_node_lem g v (rw f.size l)))
      (cond_ap trimmed_progress (eqb (word_fault g (node g v) k) 0) _ p _ (λ e. after_in (λ h. pair_rewrite h ls (node h v) k) p (pair_rewrite_in g f.adm ls (node g v) k (is_node_lem g v (rw f.size l)) (eqb-true _ 0 e))))

  -- a sound step leaves such a graph
  fits : (step : Progress → Progress) (P : Graph → Type 0) → Sound step P → (p : Progress) → Fit p.graph → Fit (step p).graph
  fits step P h p f = let k = (h.moves p f.adm).keeps.stays in record { adm = k.admitted; size = k.same_N ∙ f.size }

  pairs_step : (v : ℕ) → v < n → InStep (pairs_at ls v)
  unfolding pairs_at
  pairs_step v l p f =
      let p₁ : Progress = pair_at ls v 1 p in
      let f₁ = fits (pair_at ls v 1) _ (pair_sound ls v 1) p f in
      let p₂ : Progress = pair_at ls v 2 p₁ in
      let f₂ = fits (pair_at ls v 2) _ (pair_sound ls v 2) p₁ f₁ in
      rw (pair_step v 1 l p f, pair_step v 2 l p₁ f₁, pair_step v 3 l p₂ f₂)

  module _ (step : ℕ → Progress → Progress) (P : ℕ → Graph → Type 0) (h : (v : ℕ) → Sound (step v) (P v)) (e : (v : ℕ) → v < n → InStep (step v)) where
    each_step : (m : ℕ) → m ≤ n → InStep (each step m)
    unfolding each
    each_step zero l p f = refl
    each_step (suc m) l p f = ap (step m) (each_step m (omega arith) p f) ∙ e m (omega arith) (each step m p) (fits (each step m) _ (each_sound step P h m) p f)

  round_step : InStep (round ls)
  unfolding round
  round_step p f =
      let m : ℕ = p.graph.N in
      let l : m ≤ n = omega (arith, f.size) in
      let p₁ : Progress = each (tree_at ls) m p in
      let f₁ = fits (each (tree_at ls) m) _ (each_sound (tree_at ls) _ (tree_sound ls) m) p f in
      let p₂ : Progress = each (node_at ls) m p₁ in
      let f₂ = fits (each (node_at ls) m) _ (each_sound (node_at ls) _ (node_sound ls) m) p₁ f₁ in
      ap (λ (q : Progress). each (pairs_at ls) m (each (node_at ls) m q)) (each_step (tree_at ls) _ (tree_sound ls) (λ v h. tree_step v) m l p f)
      ∙ ap (each (pairs_at ls) m) (each_step (node_at ls) _ (node_sound ls) node_step m l p₁ f₁)
      ∙ each_step (pairs_at ls) _ (pairs_sound ls) pairs_step m l p₂ f₂

  settle_in_step : (f : ℕ) (p : Progress) → Fit p.graph → settle_in f ls (trimmed_progress p) ≡ trimmed_rounds (settle_in f ls p)
  unfolding settle_in
  settle_in_step zero p h = refl
  settle_in_step (suc f) p h =
      let q : Progress = round ls p in
      let k = (round_moves ls p h.adm).keeps.stays in
      rw (round_step p h, C_in q.graph, C_in p.graph, settle_in_step f q (record { adm = k.admitted; size = k.same_N ∙ h.size }))
      (if_less_ap trimmed_rounds (C q.graph) (C p.graph) _ _)

module _ (g : Graph) (adm : Admitted g) (ls : List ℕ) (s : ℕ) where
  settle_in_lem : settle ls (trimmed g) ≡ trimmed_rounds (settle ls g)
  unfolding settle start
  settle_in_lem = rw (C_in g) (settle_in_step g.N ls (suc (C g)) (start g) (record { adm = adm; size = refl }))

  settle_number_in : settle_number (trimmed g) ls s ≡ settle_number g ls s
  unfolding settle_number
  settle_number_in = rw (admission_in g adm ls, scratch_fault_in g s)

  pub settle_call_in : settle_call (trimmed g) ls s ≡ trimmed_outcome (settle_call g ls s)
  unfolding settle_call
  settle_call_in =
      rw (settle_number_in, settle_in_lem, C_in g, C_in (settle ls g).made.graph) (guarded_when (settle_number g ls s) g _ _ (λ e. refl))
