-- Where no node is locked, settling is what it is with no locks at all. From rewriting, which is the same then (crate moves, Locks), and from the
-- nodes that rounds keep (Rounds).
use mathlib.Core.Path.{◌≡◌, refl, ap, ◌∙◌}
use mathlib.Core.List.{List, [], ◌∷◌}
use Prim.Native.Nat.{ℕ, zero, suc, ◌<◌}
use lib.ListN.{get_or}
use Rattle.graph.specs.Graph.{Graph, node}
use Rattle.graph.specs.Count.{C}
use Rattle.graph.specs.Admission.{Admitted}
use Rattle.graph.specs.Answer.{Outcome, guarded}
use Rattle.graph.proofs.Tests.{both}
use Rattle.graph.proofs.Admit.{admitted}
use Rattle.moves.specs.Tree.{tree}
use Rattle.moves.specs.Call.{rewrite, named_by, pair_rewrite}
use Rattle.moves.proofs.Locks.{rewrite_free}
use Rattle.rounds.specs.Round.{Progress, start, after, each, tree_at, node_at, pair_at, pairs_at, round}
use Rattle.rounds.specs.Settle.{settle_in, settle, settled, settle_number, settle_call}
use Rattle.rounds.specs.Promises.{SettleFree}
use Rattle.rounds.proofs.Steps.{Sound, each_sound}
use Rattle.rounds.proofs.Rounds.{tree_sound, node_sound, pair_sound, pairs_sound, round_moves}

after_same : (f h : Graph → Outcome) (p : Progress) → f p.graph ≡ h p.graph → after f p ≡ after h p
unfolding after
after_same f h p e = rw e

-- n nodes with free locks
module _ (n : ℕ) (ls : List ℕ) (free : (v : ℕ) → v < n → get_or ls v 0 ≡ 0) where
  record Fit (g : Graph) : Type 0 where
    adm : Admitted g
    size : g.N ≡ n

  made_free : (g : Graph) → Fit g → (us : List ℕ) → rewrite g ls us ≡ rewrite g [] us
  made_free g f us = rewrite_free g ls us (λ v h. free v (rw f.size at h))

  pair_free : (g : Graph) → Fit g → (u k : ℕ) → pair_rewrite g ls u k ≡ pair_rewrite g [] u k
  unfolding pair_rewrite
  pair_free g f u k = rw (made_free g f (named_by g u k ∷ u ∷ []))

  -- steps that come to the same where the graph has n nodes
  abbrev Alike : (Progress → Progress) → (Progress → Progress) → Type 0
  Alike a b = (p : Progress) → Fit p.graph → a p ≡ b p

  tree_alike : (v : ℕ) → Alike (tree_at ls v) (tree_at [] v)
  unfolding tree_at
  tree_alike v p f = rw (after_same (λ g. rewrite g ls (tree g (node g v))) (λ g. rewrite g [] (tree g (node g v))) p (made_free p.graph f (tree p.graph (node p.graph v))))

  node_alike : (v : ℕ) → Alike (node_at ls v) (node_at [] v)
  unfolding node_at
  node_alike v p f = after_same _ _ p (made_free p.graph f (node p.graph v ∷ []))

  pair_alike : (v k : ℕ) → Alike (pair_at ls v k) (pair_at [] v k)
  unfolding pair_at
  pair_alike v k p f = rw (after_same (λ g. pair_rewrite g ls (node g v) k) (λ g. pair_rewrite g [] (node g v) k) p (pair_free p.graph f (node p.graph v) k))

  -- a sound step leaves such a graph
  fits : (step : Progress → Progress) (P : Graph → Type 0) → Sound step P → (p : Progress) → Fit p.graph → Fit (step p).graph
  fits step P h p f = let k = (h.moves p f.adm).keeps.stays in record { adm = k.admitted; size = k.same_N ∙ f.size }

  pairs_alike : (v : ℕ) → Alike (pairs_at ls v) (pairs_at [] v)
  unfolding pairs_at
  pairs_alike v p f =
      let p₁ : Progress = pair_at ls v 1 p in
      let f₁ = fits (pair_at ls v 1) _ (pair_sound ls v 1) p f in
      let p₂ : Progress = pair_at ls v 2 p₁ in
      let f₂ = fits (pair_at ls v 2) _ (pair_sound ls v 2) p₁ f₁ in
      pair_alike v 3 p₂ f₂ ∙ ap (pair_at [] v 3) (pair_alike v 2 p₁ f₁ ∙ ap (pair_at [] v 2) (pair_alike v 1 p f))

  module _ (step other : ℕ → Progress → Progress) (P : ℕ → Graph → Type 0) (h : (v : ℕ) → Sound (step v) (P v)) (e : (v : ℕ) → Alike (step v) (other v)) where
    each_alike : (m : ℕ) → Alike (each step m) (each other m)
    unfolding each
    each_alike zero p f = refl
    each_alike (suc m) p f = e m (each step m p) (fits (each step m) _ (each_sound step P h m) p f) ∙ ap (other m) (each_alike m p f)

  round_alike : Alike (round ls) (round [])
  unfolding round
  round_alike p f =
      let m : ℕ = p.graph.N in
      let p₁ : Progress = each (tree_at ls) m p in
      let f₁ = fits (each (tree_at ls) m) _ (each_sound (tree_at ls) _ (tree_sound ls) m) p f in
      let p₂ : Progress = each (node_at ls) m p₁ in
      let f₂ = fits (each (node_at ls) m) _ (each_sound (node_at ls) _ (node_sound ls) m) p₁ f₁ in
      each_alike (pairs_at ls) (pairs_at []) _ (pairs_sound ls) pairs_alike m p₂ f₂
      ∙ ap (each (pairs_at []) m)
      (each_alike (node_at ls) (node_at []) _ (node_sound ls) node_alike m p₁ f₁
      ∙ ap (each (node_at []) m) (each_alike (tree_at ls) (tree_at []) _ (tree_sound ls) tree_alike m p f))

  settle_in_alike : (m : ℕ) (p : Progress) → Fit p.graph → settle_in m ls p ≡ settle_in m [] p
  unfolding settle_in
  settle_in_alike zero p f = refl
  settle_in_alike (suc m) p f =
      let k = (round_moves ls p f.adm).keeps.stays in
      let q : Progress = round ls p in
      rw (← round_alike p f, ← settle_in_alike m q (record { adm = k.admitted; size = k.same_N ∙ f.size }))

guarded_same : (g : Graph) (k : ℕ) (x y : Outcome) → (k ≡ 0 → x ≡ y) → guarded k g x ≡ guarded k g y
unfolding guarded
guarded_same g zero x y h = h refl
guarded_same g (suc k) x y h = refl

-- on every graph, refused or not
pub settle_free : (g : Graph) (ls : List ℕ) (s : ℕ) → SettleFree g ls s
unfolding settle_call settle settle_number start
settle_free g ls s free =
    guarded_same g (settle_number g ls s) _ _
    (λ e. ap (settled g) (settle_in_alike g.N ls free (suc (C g)) (start g) (record { adm = admitted g ls (both _ _ e).0; size = refl })))
