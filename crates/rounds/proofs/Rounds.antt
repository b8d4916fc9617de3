-- Rounds: what one saves is what C falls by; one that does not lower C changed nothing, and then nothing lowers C. So settling
-- ends with such a graph, in at most as many rounds as its fall and one more, and both its sums add to that fall. From steps (Steps)
-- and calls (Calls).
use mathlib.Core.Path.{◌≡◌, refl, sym}
use mathlib.Core.Bool.{Bool, true, false, cond}
use mathlib.Core.List.{List, [], ◌∷◌}
use mathlib.Core.Logic.{⊎_elim}
use Prim.Native.Nat.{ℕ, zero, suc, ◌+◌, ◌-◌, ◌≤◌, ◌<◌}
use native.Mathlib.Omega.{arith}
use borrow.Author.Tests.{eq-eqb, leb-true}
use lib.Dec.{eqb, leb}
use Rattle.graph.specs.Graph.{Graph, node, is_xor}
use Rattle.graph.specs.Count.{C}
use Rattle.graph.specs.Admission.{Admitted}
use Rattle.graph.proofs.Cases.{lt_or_le}
use Rattle.graph.proofs.DifferenceSum.{no_difference}
use Rattle.graph.proofs.Tests.{less, no_less, passes}
use Rattle.moves.specs.Tree.{is_root, tree}
use Rattle.moves.specs.Call.{rewrite, pair_rewrite, word_fault}
use Rattle.moves.proofs.Readers.{both_true}
use Rattle.moves.proofs.Kept.{Kept, kept_then}
use Rattle.rounds.specs.Round.{Progress, start, tree_at, node_at, pair_at, pairs_at, round}
use Rattle.rounds.specs.Inner.{phases}
use Rattle.rounds.specs.Settle.{Rounds, settle_in, settle, NothingLowers}
use Rattle.rounds.proofs.Calls.{rewrites_honest, pairs_honest, rewrite_nothing, pair_nothing}
use Rattle.rounds.proofs.Steps.{Sums, Moved, Sound, after_sound, cond_sound, then_sound, each_sound}

-- with the locks ls
module _ (ls : List ℕ) where
  -- what holds of a graph on which a call does not lower C
  abbrev TreeIdle : ℕ → Graph → Type 0
  TreeIdle v g = is_root g (node g v) ≡ true → C g ≤ C (rewrite g ls (tree g (node g v))).graph

  abbrev NodeIdle : ℕ → Graph → Type 0
  NodeIdle v g = C g ≤ C (rewrite g ls (node g v ∷ [])).graph

  abbrev PairIdle : ℕ → ℕ → Graph → Type 0
  PairIdle v k g = eqb (word_fault g (node g v) k) 0 ≡ true → C g ≤ C (pair_rewrite g ls (node g v) k).graph

  pub tree_sound : (v : ℕ) → Sound (tree_at ls v) (TreeIdle v)
  unfolding tree_at
  tree_sound v =
      cond_sound (λ g. is_root g (node g v)) _ (λ g. C g ≤ C (rewrite g ls (tree g (node g v))).graph) (after_sound _ (rewrites_honest ls (λ g. tree g (node g v))))

  pub node_sound : (v : ℕ) → Sound (node_at ls v) (NodeIdle v)
  unfolding node_at
  node_sound v = after_sound _ (rewrites_honest ls (λ g. node g v ∷ []))

  pub pair_sound : (v k : ℕ) → Sound (pair_at ls v k) (PairIdle v k)
  unfolding pair_at
  pair_sound v k =
      cond_sound (λ g. eqb (word_fault g (node g v) k) 0) _ (λ g. C g ≤ C (pair_rewrite g ls (node g v) k).graph) (after_sound _ (pairs_honest ls (λ g. node g v) k))

  abbrev PairsIdle : ℕ → Graph → Type 0
  PairsIdle v g = (PairIdle v 1 g × PairIdle v 2 g) × PairIdle v 3 g

  pub pairs_sound : (v : ℕ) → Sound (pairs_at ls v) (PairsIdle v)
  unfolding pairs_at
  pairs_sound v =
      then_sound (λ p. pair_at ls v 2 (pair_at ls v 1 p)) (pair_at ls v 3) (λ g. PairIdle v 1 g × PairIdle v 2 g) (PairIdle v 3)
      (then_sound (pair_at ls v 1) (pair_at ls v 2) (PairIdle v 1) (PairIdle v 2) (pair_sound v 1) (pair_sound v 2)) (pair_sound v 3)

  -- what holds of a graph on which no call of a round over n nodes lowers C
  record Idle (n : ℕ) (g : Graph) : Type 0 where
    trees : (v : ℕ) → v < n → TreeIdle v g
    nodes : (v : ℕ) → v < n → NodeIdle v g
    pairs : (v : ℕ) → v < n → PairsIdle v g

  phases_sound : (n : ℕ) → Sound (phases ls n) (Idle n)
  phases_sound n =
      let trees = each_sound (tree_at ls) TreeIdle tree_sound n in
      let nodes = each_sound (node_at ls) NodeIdle node_sound n in
      let pairs = each_sound (pairs_at ls) PairsIdle pairs_sound n in
      let all = then_sound _ _ _ _ (then_sound _ _ _ _ trees nodes) pairs in
      record {
        saves = all.saves;
        moves = all.moves;
        still = λ p adm e. let x = all.still p adm e in (x.0, record { trees = x.1.0.0; nodes = x.1.0.1; pairs = x.1.1 });
      }

  three : (x : Bool) (k : ℕ) → leb k (cond x 2 3) ≡ true → k ≤ 3
  three true k e = omega (arith, leb-true k 2 e)
  three false k e = leb-true k 3 e

  module _ (p : Progress) (adm : Admitted p.graph) where
    pub round_moves : Moved p (round ls p) (C p.graph - C (round ls p).graph)
    unfolding round
    round_moves =
        let h = phases_sound p.graph.N in
        let m = h.moves p adm in
        let e : C p.graph - C (round ls p).graph ≡ h.saves p = omega (arith, m.keeps.count) in
        rw e m

    round_still : C p.graph ≤ C (round ls p).graph → ((round ls p).graph ≡ p.graph) × Idle p.graph.N p.graph
    unfolding round
    round_still e = let h = phases_sound p.graph.N in h.still p adm (omega (arith, (h.moves p adm).keeps.count))

  module _ (g : Graph) (adm : Admitted g) where
    word_bound : (v k : ℕ) → word_fault g (node g v) k ≡ 0 → (1 ≤ k) × (k ≤ 3)
    unfolding word_fault
    word_bound v k e =
        let b = both_true (leb 1 k) _ (passes _ 6 e) in
        (leb-true 1 k b.0, three (is_xor g (node g v - (g.I + 1))) k b.1)

    idle_pair : (v k : ℕ) → PairsIdle v g → 1 ≤ k → k ≤ 3 → PairIdle v k g
    idle_pair v zero h l m = absurd (omega arith)
    idle_pair v (suc zero) h l m = h.0.0
    idle_pair v (suc (suc zero)) h l m = h.0.1
    idle_pair v (suc (suc (suc zero))) h l m = h.1
    idle_pair v (suc (suc (suc (suc k)))) h l m = absurd (omega arith)

    idle_lowest : Idle g.N g → NothingLowers g ls
    idle_lowest i =
        record {
          at_node = λ v h m b. rewrite_nothing g adm ls (node g v ∷ []) (i.nodes v h) (m ∷ []) (b, tt);
          on_pair = λ v k h w n a b la lb.
              let r = word_bound v k w in
              pair_nothing g adm ls (node g v) k n (idle_pair v k (i.pairs v h) r.0 r.1 (eq-eqb _ _ w)) a b la lb;
          on_tree = λ v h t ms f. rewrite_nothing g adm ls (tree g (node g v)) (i.trees v h t) ms f;
        }

  -- what rounds after p come to
  record EndedFrom (p : Progress) (r : Rounds) : Type 0 where
    moves : Moved p r.made (C p.graph - C r.made.graph)
    few : r.rounds ≤ (C p.graph - C r.made.graph) + 1
    lowest : NothingLowers r.made.graph ls

  -- a round that does not lower C leaves the graph as it is, and nothing lowers C
  last_ended : (p : Progress) → Admitted p.graph → C p.graph ≤ C (round ls p).graph → EndedFrom p (record { rounds = 1; made = round ls p })
  last_ended p adm e =
      let x = round_still p adm e in
      record { moves = round_moves p adm; few = omega arith; lowest = rw x.0 (idle_lowest p.graph adm x.1) }

  more_ended : (p : Progress) (r : Rounds) → Admitted p.graph → C (round ls p).graph < C p.graph → EndedFrom (round ls p) r
      → EndedFrom p (record { rounds = suc r.rounds; made = r.made })
  more_ended p r adm l e =
      let m = round_moves p adm in
      let n = e.moves in
      let t = kept_then p.graph (round ls p).graph r.made.graph _ _ m.keeps n.keeps in
      let z : C p.graph - C (round ls p).graph + (C (round ls p).graph - C r.made.graph) ≡ C p.graph - C r.made.graph = omega (arith, m.keeps.count, n.keeps.count) in
      record {
        moves = record { sums = λ c q. n.sums c (m.sums c q); keeps = rw z at t };
        few = omega (arith, e.few, n.keeps.count);
        lowest = e.lowest;
      }

  -- a round is the last, or more follow
  module _ (f : ℕ) (p : Progress) where
    abbrev more : Rounds
    more = record { rounds = suc (settle_in f ls (round ls p)).rounds; made = (settle_in f ls (round ls p)).made }

    abbrev last : Rounds
    last = record { rounds = 1; made = round ls p }

    pub settle_in_more : C (round ls p).graph < C p.graph → settle_in (suc f) ls p ≡ more
    unfolding settle_in
    settle_in_more b = sym (less (C (round ls p).graph) (C p.graph) more last b refl)

    pub settle_in_last : C p.graph ≤ C (round ls p).graph → settle_in (suc f) ls p ≡ last
    unfolding settle_in
    settle_in_last b = sym (no_less (C (round ls p).graph) (C p.graph) more last b refl)

  settle_in_ended : (f : ℕ) (p : Progress) → Admitted p.graph → C p.graph < f → EndedFrom p (settle_in f ls p)
  settle_in_ended zero p adm h = absurd (omega arith)
  settle_in_ended (suc f) p adm h =
      let k = (round_moves p adm).keeps.stays in
      ⊎_elim
      (λ (b : C (round ls p).graph < C p.graph).
      rw (settle_in_more f p b)
      (more_ended p (settle_in f ls (round ls p)) adm b
      (settle_in_ended f (round ls p) k.admitted (omega arith))))
      (λ (b : C p.graph ≤ C (round ls p).graph). rw (settle_in_last f p b) (last_ended p adm b))
      (lt_or_le (C (round ls p).graph) (C p.graph))

  -- what settling comes to
  pub record Ended (g : Graph) (r : Rounds) : Type 0 where
    pub keeps : Kept g r.made.graph (C g - C r.made.graph)
    pub few : r.rounds ≤ (C g - C r.made.graph) + 1
    pub lowest : NothingLowers r.made.graph ls
    pub sums : Sums (C g) r.made

  start_sums : (g : Graph) → Sums (C g) (start g)
  unfolding start
  start_sums g = sym (no_difference (C g))

  pub settle_ended : (g : Graph) → Admitted g → Ended g (settle ls g)
  unfolding settle start
  settle_ended g adm =
      let e = settle_in_ended (suc (C g)) (start g) adm (omega arith) in
      record { keeps = e.moves.keeps; few = e.few; lowest = e.lowest; sums = e.moves.sums (C g) (start_sums g) }
