-- A decision from numbers, written, is the rewriting that the calls define. From the laws of best moves by numbers.
use mathlib.Core.Path.{◌≡◌, ap, ◌∙◌}
use mathlib.Core.List.{List, [], ◌∷◌}
use Prim.Native.Nat.{ℕ, ◌+◌, ◌-◌, ◌≤◌, ◌<◌}
use native.Mathlib.Omega.{arith}
use Rattle.graph.specs.Admission.{Admitted}
use borrow.Author.Tests.{lt-ltb, le-ltb}
use lib.IntN.{ℤ, pos, nat_abs}
use lib.ListN.{get_or}
use Rattle.graph.specs.Answer.{Answer, gained, Outcome, outcome}
use Rattle.graph.specs.Count.{C}
use Rattle.graph.specs.Finite.{difference}
use Rattle.graph.specs.Graph.{Graph, node}
use Rattle.graph.proofs.Difference.{at_least}
use Rattle.choice.specs.Inner.{FirstBelow}
use Rattle.moves.specs.Apply.{none, at, put, apply}
use Rattle.moves.specs.Call.{moved, moved_c, rewrite, is_node, named_by, pair_rewrite, split, trial_saving}
use Rattle.moves.specs.Decide.{cost_of, pair_cost, FirstPair, numbers_of, naming, Counted}
use Rattle.moves.specs.Outside.{NodeOdds, PairOdds, saved_by}
use Rattle.moves.specs.Pair.{pair_saving, FirstGreatest}
use Rattle.moves.specs.Rows.{kind_moves, moves_at}
use Rattle.moves.specs.declared.decide.NodeNumbers.{NodeNumbers}
use Rattle.moves.specs.declared.gains.Odds.{Odds}
use Rattle.moves.proofs.Deciding.{numbers_low, naming_le}
use Rattle.moves.proofs.NodeBest.{node_cost_lem, node_best, zero_is, pair_cost_is, pair_best, zeros_are}
use Rattle.moves.proofs.Pair.{least_of_greatest, pair_saving_lem}
use Rattle.moves.proofs.Moves.{moves_no_more}
use Rattle.moves.proofs.PairOthers.{pair_others}
use Rattle.moves.proofs.Rooted.{node_others}
use Rattle.moves.proofs.Split.{saved_outcome}
use Rattle.node_call.proofs.Refusing.{AcceptedWord, AcceptedTrial, named_below}

-- the numbers are such as can be
pub counted : (g : Graph) (ls : List ℕ) (v : ℕ) (n : NodeNumbers) → Admitted g → n ≡ numbers_of g ls v → Counted n
counted g ls v n adm e = rw e (numbers_low g ls v adm)

pub naming_bits : (g : Graph) (v u : ℕ) (w : List ℕ) → w ≡ naming g v u → (i : ℕ) → get_or w i 0 ≤ 1
naming_bits g v u w e i = rw e (naming_le g v u i)

module _ (g : Graph) (ls : List ℕ) (adm : Admitted g) (v : ℕ) (h : v < g.N) (n : NodeNumbers) (e : n ≡ numbers_of g ls v) (m : ℕ) (b : FirstBelow (cost_of n) n.moves m) where
  by_numbers : FirstBelow (cost_of (numbers_of g ls v)) (moves_at g ls (node g v)) m
  unfolding numbers_of
  by_numbers = rw e at b

  pub move_fits : m < kind_moves g (node g v)
  move_fits = omega (arith, by_numbers.below, moves_no_more g ls (node g v))

  same_fall : C g + cost_of n m ≡ C (apply g (at none (node g v) m)) + cost_of n 0
  same_fall = rw e (omega (arith, zero_is g ls adm v h, node_cost_lem g ls adm v h 0, node_cost_lem g ls adm v h m))

  odds_are : (o : Odds) → NodeOdds n m o → (split (node g v ∷ []) g (moved g (node g v ∷ []) (m ∷ []))).others ≡ difference o.before o.after
  odds_are o r = node_others g adm v ls h m o (rw e at r)

  pub node_outcome : (k : Graph) (b a : ℕ) (o : Odds) → k ≡ apply g (at none (node g v) m) → b ≡ cost_of n 0 → a ≡ cost_of n m → NodeOdds n m o
      → (x : Answer) → x ≡ saved_by b a o.before o.after → outcome x k ≡ rewrite g ls (node g v ∷ [])
  unfolding moved put
  node_outcome k b a o q t u r x y =
      ap (λ (z : Answer). outcome z k) y ∙
      saved_outcome g ls (node g v ∷ []) k b a o.before o.after (q ∙ rw (← node_best g ls adm v h m by_numbers)) (rw (q, t, u) same_fall) (rw q (odds_are o r))

module _ (g : Graph) (ls : List ℕ) (adm : Admitted g) (p v : ℕ) (l : p < v) (h : v < g.N) (a n : NodeNumbers) (w : List ℕ) (f : a ≡ numbers_of g ls p) (e : n ≡ numbers_of g ls v) (i : w ≡ naming g v (node g p))
    (k m : ℕ) (b : FirstGreatest (pair_saving a n w) a.moves n.moves k m) where
  least_pair : FirstPair (pair_cost a n w) a.moves n.moves k m
  least_pair = least_of_greatest a n w a.moves n.moves k m b

  both_by_numbers : FirstPair (pair_cost (numbers_of g ls p) (numbers_of g ls v) (naming g v (node g p))) (moves_at g ls (node g p)) (moves_at g ls (node g v)) k m
  unfolding numbers_of
  both_by_numbers = rw (f, e, i) at least_pair

  pub both_fit : (k < kind_moves g (node g p)) × (m < kind_moves g (node g v))
  both_fit = (omega (arith, both_by_numbers.below, moves_no_more g ls (node g p)), omega (arith, both_by_numbers.fits, moves_no_more g ls (node g v)))

  both_fall : C g + pair_cost a n w k m ≡ C (apply g (at (at none (node g p) k) (node g v) m)) + pair_cost a n w 0 0
  both_fall = rw (f, e, i) (omega (arith, zeros_are g ls adm p v l h, pair_cost_is g ls adm p v l h 0 0, pair_cost_is g ls adm p v l h k m))

  both_odds : (o : Odds) → PairOdds a n w k m o → (split (node g p ∷ node g v ∷ []) g (moved g (node g p ∷ node g v ∷ []) (k ∷ m ∷ []))).others ≡ difference o.before o.after
  both_odds o r = pair_others g ls adm p v l h k m o (rw (f, e, i) at r)

  saved_is : (s : ℕ) → pos s ≡ pair_saving a n w k m → pair_cost a n w k m + s ≡ pair_cost a n w 0 0
  unfolding pair_saving
  saved_is s r =
      let low = least_pair.low 0 0 (omega (arith, b.below)) (omega (arith, b.fits)) in
      let q : s ≡ pair_cost a n w 0 0 - pair_cost a n w k m = ap nat_abs (r ∙ at_least (pair_cost a n w 0 0) (pair_cost a n w k m) (pair_cost a n w 0 0 - pair_cost a n w k m) (omega (arith, low))) in
      omega (arith, q, low)

  pub pair_outcome : (t : Graph) (s : ℕ) (o : Odds) → t ≡ apply g (at (at none (node g p) k) (node g v) m) → pos s ≡ pair_saving a n w k m → PairOdds a n w k m o
      → (x : Answer) → x ≡ saved_by s 0 o.before o.after → outcome x t ≡ rewrite g ls (node g p ∷ node g v ∷ [])
  unfolding moved put
  pair_outcome t s o q r d x y =
      ap (λ (z : Answer). outcome z t) y ∙
      saved_outcome g ls (node g p ∷ node g v ∷ []) t s 0 o.before o.after (q ∙ rw (← pair_best g ls adm p v l h k m both_by_numbers)) (rw q (omega (arith, both_fall, saved_is s r))) (rw q (both_odds o d))

-- a trial from the numbers of both nodes, which have these moves
module _ (g : Graph) (ls : List ℕ) (adm : Admitted g) (p v : ℕ) (l : p < v) (h : v < g.N) (a n : NodeNumbers) (w : List ℕ) (f : a ≡ numbers_of g ls p) (e : n ≡ numbers_of g ls v) (i : w ≡ naming g v (node g p)) (k m : ℕ) where
  pub tried_fit : k < moves_at g ls (node g p) → m < moves_at g ls (node g v) → (k < a.moves) × (m < n.moves)
  unfolding numbers_of
  tried_fit x y = rw (f, e) (x, y)

  pub tried_saving : pair_saving a n w k m ≡ difference (C g) (moved_c g (node g p ∷ node g v ∷ []) (k ∷ m ∷ []))
  tried_saving = rw (f, e, i) (pair_saving_lem g ls adm p v l h k m)

-- the word of a pair names a node, or none
module _ (g : Graph) (ls : List ℕ) (u k n : ℕ) (e : n ≡ named_by g u k) where
  pub no_node : n ≤ g.I → outcome (gained [] (pos 0) (pos 0)) g ≡ pair_rewrite g ls u k
  unfolding pair_rewrite is_node
  no_node h = rw (← e, le-ltb g.I n h)

  pub no_gain : (a m : ℕ) → n ≤ g.I → pos 0 ≡ trial_saving g u k a m
  unfolding trial_saving is_node
  no_gain a m h = rw (← e, le-ltb g.I n h)

  -- moves that a trial accepts are ones that both nodes have, and what they save is its gain
  module _ (a m : ℕ) (t : AcceptedTrial g ls u k a m) (h : g.I < n) where
    there : n < node g g.N
    there = omega (arith, t.at_word.at_node.before, named_below g ls u k t.at_word)

    pub both_had : (a < moves_at g ls (node g (n - (g.I + 1)))) × (m < moves_at g ls (node g (u - (g.I + 1))))
    unfolding is_node
    both_had =
        let p : node g (n - (g.I + 1)) ≡ n = omega arith in
        let v : node g (u - (g.I + 1)) ≡ u = omega (arith, t.at_word.at_node.after) in
        rw (p, v, e) (t.named_has (rw (← e, lt-ltb g.I n h, lt-ltb n (node g g.N) there)), t.node_has)

    pub a_gain : (z : ℤ) → z ≡ difference (C g) (moved_c g (node g (n - (g.I + 1)) ∷ node g (u - (g.I + 1)) ∷ []) (a ∷ m ∷ [])) → z ≡ trial_saving g u k a m
    unfolding trial_saving is_node
    a_gain z q =
        let p : node g (n - (g.I + 1)) ≡ n = omega arith in
        let v : node g (u - (g.I + 1)) ≡ u = omega (arith, t.at_word.at_node.after) in
        q ∙ rw (p, v, ← e, lt-ltb g.I n h, lt-ltb n (node g g.N) there)

  pub a_node : AcceptedWord g ls u k → g.I < n → (o : Outcome) → o ≡ rewrite g ls ((g.I + 1 + (n - (g.I + 1))) ∷ (g.I + 1 + (u - (g.I + 1))) ∷ []) → o ≡ pair_rewrite g ls u k
  unfolding pair_rewrite is_node
  a_node w h o q =
      let a = w.at_node in
      let p : g.I + 1 + (n - (g.I + 1)) ≡ n = omega arith in
      let v : g.I + 1 + (u - (g.I + 1)) ≡ u = omega (arith, a.after) in
      let b : n < node g g.N = omega (arith, a.before, named_below g ls u k w) in
      q ∙ rw (p, v, ← e, lt-ltb g.I n h, lt-ltb n (node g g.N) b)
