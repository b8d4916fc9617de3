-- The first least move by a node's numbers is the best of the node, and the first least pair the best of both nodes. From
-- the law of one more move, and that only `best` has the properties of `best`.
use Rattle.std.proofs.Common.{◌≡◌, ℕ, zero, suc, ◌+◌, ◌-◌, ◌*◌, ◌/◌, ◌%◌, ◌<◌, ◌≤◌, Bool, true, false, cond, eqb, ◌≢◌, List, [], ◌∷◌, map, get_or, sym, refl, ap, ◌∙◌, inl, inr, ⊎_elim, arith, eq-eqb, ne_eqb}
use Rattle.graph.specs.Admission.{Admitted}
use Rattle.graph.specs.Count.{C, adds, readers}
use Rattle.graph.specs.Finite.{if_equal}
use Rattle.graph.specs.Graph.{Graph, is_xor, node, word}
use Rattle.choice.specs.Choice.{Fits}
use Rattle.choice.specs.Inner.{◌≺◌, FirstBelow}
use Rattle.choice.proofs.Best.{unique}
use Rattle.moves.specs.Apply.{Choice, none, at, put, seen, apply}
use Rattle.moves.specs.Call.{moved, moved_c, best_at}
use Rattle.moves.specs.Cost.{shown}
use Rattle.moves.specs.Decide.{cost_by, cost_with, word_after, own_costs, swapped, given, others, cost_of, cost_given, pair_cost, FirstPair, numbers_of, naming}
use Rattle.moves.specs.Rows.{flag, moves_at}
use Rattle.graph.proofs.Cases.{eq_or_ne}
use Rattle.graph.proofs.Turn.{turn_bit}
use Rattle.moves.proofs.Changed.{at_same, at_other, seen_other, seen_none, flag_zero}
use Rattle.moves.proofs.Compose.{seen_node}
use Rattle.moves.proofs.Flags.{flag_bit}
use Rattle.moves.proofs.Kept.{apply_idle}
use Rattle.moves.proofs.Step.{after_move, costs_after, rest_of, Below, at_zero, cost_step}

-- a word's cost after a choice: the choice turns it where it turns the readers of what the word names
module _ (g : Graph) (d : Choice) (v i t : ℕ) where
  after_is : after_move g d v i t ≡ word_after g v i ((t + seen g d (word g (3 * v + i) / 2)) % 2)
  unfolding after_move word_after adds
  after_is =
      let x : ℕ = word g (3 * v + i) in
      let s : ℕ = seen g d (x / 2) in
      let e : (x + (t + s) % 2) % 2 ≡ (x + t + s) % 2 = omega arith in
      rw (turn_bit ((t + s) % 2) x, e)

module _ (g : Graph) (v : ℕ) where
  at_own : (i t : ℕ) → i < 3 → t ≤ 1 → word_after g v i t ≡ get_or (own_costs g v) (2 * i + t) 0
  unfolding own_costs
  at_own zero zero l m = refl
  at_own zero (suc zero) l m = refl
  at_own zero (suc (suc t)) l m = absurd (omega arith)
  at_own (suc zero) zero l m = refl
  at_own (suc zero) (suc zero) l m = refl
  at_own (suc zero) (suc (suc t)) l m = absurd (omega arith)
  at_own (suc (suc zero)) zero l m = refl
  at_own (suc (suc zero)) (suc zero) l m = refl
  at_own (suc (suc zero)) (suc (suc t)) l m = absurd (omega arith)
  at_own (suc (suc (suc i))) t l m = absurd (omega arith)

  module _ (d : Choice) (i p : ℕ) (l : i < 3) where
    as_seen : (s : ℕ) → s ≡ seen g d (word g (3 * v + i) / 2) → s ≤ 1 → p ≡ 2 * i + s → after_move g d v i 0 ≡ get_or (own_costs g v) p 0
    as_seen s e m q =
        let z : (0 + s) % 2 ≡ s = omega arith in
        rw (after_is g d v i 0, ← e, z, q) (at_own i s l m)

    as_turned : (s : ℕ) → s ≡ seen g d (word g (3 * v + i) / 2) → s ≤ 1 → p ≡ 2 * i + 1 - s → after_move g d v i 1 ≡ get_or (own_costs g v) p 0
    as_turned s e m q =
        let z : (1 + s) % 2 ≡ 1 - s = omega arith in
        let y : 2 * i + 1 - s ≡ 2 * i + (1 - s) = omega arith in
        rw (after_is g d v i 1, ← e, z, q, y) (at_own i (1 - s) l (omega arith))

  module _ (d : Choice) (a b c : ℕ) (p : a ≡ seen g d (word g (3 * v + 0) / 2)) (q : b ≡ seen g d (word g (3 * v + 1) / 2)) (r : c ≡ seen g d (word g (3 * v + 2) / 2))
      (a1 : a ≤ 1) (b1 : b ≤ 1) (c1 : c ≤ 1) where
    pub costs_swapped : costs_after g d v ≡ swapped (own_costs g v) a b c
    unfolding costs_after swapped
    costs_swapped =
        rw (
          as_seen d 0 a (omega arith) a p a1 (omega arith),
          as_turned d 0 (1 - a) (omega arith) a p a1 (omega arith),
          as_seen d 1 (2 + b) (omega arith) b q b1 (omega arith),
          as_turned d 1 (3 - b) (omega arith) b q b1 (omega arith),
          as_seen d 2 (4 + c) (omega arith) c r c1 (omega arith),
          as_turned d 2 (5 - c) (omega arith) c r c1 (omega arith),
        )

  same_unswapped : swapped (own_costs g v) 0 0 0 ≡ own_costs g v
  unfolding swapped own_costs
  same_unswapped = refl

  pub costs_none : costs_after g none v ≡ own_costs g v
  costs_none =
      let n : (u : ℕ) → 0 ≡ seen g none u = λ u. sym (seen_none g none u refl) in
      costs_swapped none 0 0 0 (n _) (n _) (n _) (omega arith) (omega arith) (omega arith) ∙ same_unswapped

-- a move at the node p turns the words that name it, where it turns its readers
module _ (g : Graph) (p : ℕ) (h : p < g.N) (a : ℕ) where
  seen_named : (x : ℕ) → if_equal (flag (is_xor g p) a 3) 0 0 (if_equal x (node g p) 1 0) ≡ seen g (at none (node g p) a) x
  unfolding if_equal
  seen_named x =
      ⊎_elim
      (λ (e : x ≡ node g p). rw (e, eq-eqb (node g p) (node g p) refl, seen_node g (at none (node g p) a) p h, at_same none (node g p) a) (go (flag (is_xor g p) a 3) (flag_bit (is_xor g p) a 3 (omega arith))))
      (λ (e : x ≢ node g p). rw (ne_eqb x (node g p) e, seen_other none (node g p) a g x e, seen_none g none x refl) (nothing (eqb (flag (is_xor g p) a 3) 0)))
      (eq_or_ne x (node g p))
    where
      go : (f : ℕ) → f ≤ 1 → cond (eqb f 0) 0 1 ≡ f
      go zero l = refl
      go (suc zero) l = refl
      go (suc (suc f)) l = absurd (omega arith)

      nothing : (b : Bool) → ◌≡◌ {A = ℕ} (cond b 0 0) 0
      nothing true = refl
      nothing false = refl

  seen_bit : (x : ℕ) → seen g (at none (node g p) a) x ≤ 1
  seen_bit x =
      ⊎_elim
      (λ (e : x ≡ node g p). rw (e, seen_node g (at none (node g p) a) p h) (flag_bit (is_xor g p) (at none (node g p) a (node g p)) 3 (omega arith)))
      (λ (e : x ≢ node g p). rw (seen_other none (node g p) a g x e, seen_none g none x refl) (omega arith))
      (eq_or_ne x (node g p))

  named_bit : (x : ℕ) → if_equal (flag (is_xor g p) a 3) 0 0 (if_equal x (node g p) 1 0) ≤ 1
  named_bit x = rw (seen_named x) (seen_bit x)

  pub costs_given : (v : ℕ) → costs_after g (at none (node g p) a) v ≡ given (own_costs g v) (naming g v (node g p)) (flag (is_xor g p) a 3)
  unfolding given naming
  costs_given v =
      costs_swapped g v (at none (node g p) a) _ _ _ (seen_named (word g (3 * v + 0) / 2)) (seen_named (word g (3 * v + 1) / 2)) (seen_named (word g (3 * v + 2) / 2))
      (named_bit (word g (3 * v + 0) / 2)) (named_bit (word g (3 * v + 1) / 2)) (named_bit (word g (3 * v + 2) / 2))

-- each word adds as it stands or turned, whatever was turned before
swap_sum : (z : List ℕ) (n a : ℕ) → a ≤ 1 → get_or z (n + a) 0 + get_or z (n + 1 - a) 0 ≡ get_or z n 0 + get_or z (n + 1) 0
swap_sum z n zero l = let e : n + 0 ≡ n = omega arith in let f : n + 1 - 0 ≡ n + 1 = omega arith in rw (e, f)
swap_sum z n (suc zero) l = let e : n + 1 - 1 ≡ n = omega arith in rw e (omega arith)
swap_sum z n (suc (suc a)) l = absurd (omega arith)

-- all six numbers
unfoldable pub whole : List ℕ → ℕ
whole z = get_or z 0 0 + get_or z 1 0 + (get_or z 2 0 + get_or z 3 0) + (get_or z 4 0 + get_or z 5 0)

stands : List ℕ → ℕ
stands z = get_or z 0 0 + get_or z 2 0 + get_or z 4 0

swapped_sum : (z : List ℕ) (a b c : ℕ) → a ≤ 1 → b ≤ 1 → c ≤ 1 → others (swapped z a b c) + stands (swapped z a b c) ≡ whole z
unfolding others swapped whole stands
swapped_sum z a b c l m n =
    let p : 0 + a ≡ a = omega arith in
    let q : 0 + 1 - a ≡ 1 - a = omega arith in
    let e : get_or z a 0 + get_or z (1 - a) 0 ≡ get_or z 0 0 + get_or z 1 0 = rw (p, q) at (swap_sum z 0 a l) in
    omega (arith, e, swap_sum z 2 b m, swap_sum z 4 c n)

cost_stands : (x : Bool) (z : List ℕ) (r d : ℕ) → cost_with x z r d 0 ≡ stands z + d
unfolding cost_with cost_by stands if_equal
cost_stands x z r d = rw (flag_zero x 0, flag_zero x 1, flag_zero x 2, flag_zero x 3) (omega arith)

given_sum : (g : Graph) (p : ℕ) (h : p < g.N) (a v : ℕ) → let z = given (own_costs g v) (naming g v (node g p)) (flag (is_xor g p) a 3) in others z + stands z ≡ whole (own_costs g v)
unfolding given naming
given_sum g p h a v =
    swapped_sum (own_costs g v) _ _ _ (named_bit g p h a (word g (3 * v + 0) / 2)) (named_bit g p h a (word g (3 * v + 1) / 2)) (named_bit g p h a (word g (3 * v + 2) / 2))

-- the node call's decision, with the locks ls
module _ (g : Graph) (ls : List ℕ) (adm : Admitted g) (v : ℕ) (h : v < g.N) where
  pub node_cost_lem : (k : ℕ) → C (apply g (at none (node g v) k)) ≡ cost_of (numbers_of g ls v) k + rest_of g none v
  unfolding numbers_of
  node_cost_lem k = rw (← costs_none g v) (cost_step g adm none v h (λ w l. refl) k)

  node_run : (k : ℕ) → moved_c g (node g v ∷ []) (k ∷ []) ≡ cost_of (numbers_of g ls v) k + rest_of g none v
  unfolding moved_c moved put
  node_run k = node_cost_lem k

  pub node_best : (m : ℕ) → FirstBelow (cost_of (numbers_of g ls v)) (moves_at g ls (node g v)) m → m ∷ [] ≡ best_at g ls (node g v ∷ [])
  unfolding best_at
  node_best m b = unique (moved_c g (node g v ∷ [])) (map (moves_at g ls) (node g v ∷ [])) (m ∷ []) (record {
    fits = (b.below, tt);
    none_less = none_less;
    earlier_more = earlier_more;
  })
    where
      none_less : (l : List ℕ) → Fits (map (moves_at g ls) (node g v ∷ [])) l → moved_c g (node g v ∷ []) (m ∷ []) ≤ moved_c g (node g v ∷ []) l
      none_less [] f = absurd f
      none_less (k ∷ []) f = omega (arith, node_run k, node_run m, b.low k f.0)
      none_less (k ∷ j ∷ l) f = absurd f.1

      earlier_more : (l : List ℕ) → Fits (map (moves_at g ls) (node g v ∷ [])) l → l ≺ (m ∷ []) → moved_c g (node g v ∷ []) (m ∷ []) < moved_c g (node g v ∷ []) l
      earlier_more [] f e = absurd f
      earlier_more (k ∷ []) f (inl e) = omega (arith, node_run k, node_run m, b.first k e)
      earlier_more (k ∷ []) f (inr e) = absurd e.1
      earlier_more (k ∷ j ∷ l) f e = absurd f.1

  -- no move at all
  pub zero_is : C (apply g (at none (node g v) 0)) ≡ C g
  zero_is = rw (at_zero none (node g v) refl) (ap C (apply_idle g none adm (λ u. refl)))

-- the pair call's
module _ (g : Graph) (ls : List ℕ) (adm : Admitted g) (p v : ℕ) (l : p < v) (h : v < g.N) where
  lower : p < g.N
  lower = omega arith

  below : (a : ℕ) → Below (at none (node g p) a) (node g v)
  below a w i = at_other none (node g p) a w (λ z. omega arith)

  -- what no choice of two moves changes
  pub both_rest : ℕ
  both_rest = rest_of g none p

  pub both_costs : ℕ
  both_costs = whole (own_costs g v) + shown g (node g v) 0

  pub pair_cost_is : (a k : ℕ) → C (apply g (at (at none (node g p) a) (node g v) k)) + both_costs ≡ pair_cost (numbers_of g ls p) (numbers_of g ls v) (naming g v (node g p)) a k + both_rest
  unfolding numbers_of pair_cost cost_given both_rest both_costs
  pair_cost_is a k =
      let d : Choice = at none (node g p) a in
      let z : List ℕ = given (own_costs g v) (naming g v (node g p)) (flag (is_xor g p) a 3) in
      let x : Bool = is_xor g v in
      let r : ℕ = readers g (node g v) in
      let o : ℕ = shown g (node g v) 0 in
      let step : (j : ℕ) → C (apply g (at d (node g v) j)) ≡ cost_with x z r o j + rest_of g d v = λ j. rw (← costs_given g p lower a v) (cost_step g adm d v h (below a) j) in
      let zero-step : C (apply g d) ≡ cost_with x z r o 0 + rest_of g d v = rw (at_zero d (node g v) (below a (node g v) (omega arith))) at (step 0) in
      omega (arith, step k, zero-step, node_cost_lem g ls adm p lower a, cost_stands x z r o, given_sum g p lower a v)

  run_is : (a k : ℕ) → moved_c g (node g p ∷ node g v ∷ []) (a ∷ k ∷ []) ≡ C (apply g (at (at none (node g p) a) (node g v) k))
  unfolding moved_c moved put
  run_is a k = refl

  pub pair_best : (a k : ℕ) → FirstPair (pair_cost (numbers_of g ls p) (numbers_of g ls v) (naming g v (node g p))) (moves_at g ls (node g p)) (moves_at g ls (node g v)) a k
      → a ∷ k ∷ [] ≡ best_at g ls (node g p ∷ node g v ∷ [])
  unfolding best_at
  pair_best a k b = unique (moved_c g (node g p ∷ node g v ∷ [])) (map (moves_at g ls) (node g p ∷ node g v ∷ [])) (a ∷ k ∷ []) (record {
    fits = (b.below, (b.fits, tt));
    none_less = none_less;
    earlier_more = earlier_more;
  })
    where
      none_less : (l : List ℕ) → Fits (map (moves_at g ls) (node g p ∷ node g v ∷ [])) l → moved_c g (node g p ∷ node g v ∷ []) (a ∷ k ∷ []) ≤ moved_c g (node g p ∷ node g v ∷ []) l
      none_less [] f = absurd f
      none_less (c ∷ []) f = absurd f.1
      none_less (c ∷ j ∷ []) f =
          omega (arith, run_is a k, run_is c j, pair_cost_is a k, pair_cost_is c j, b.low c j f.0 f.1.0)
      none_less (c ∷ j ∷ i ∷ l) f = absurd f.1.1

      earlier_more : (l : List ℕ) → Fits (map (moves_at g ls) (node g p ∷ node g v ∷ [])) l → l ≺ (a ∷ k ∷ [])
          → moved_c g (node g p ∷ node g v ∷ []) (a ∷ k ∷ []) < moved_c g (node g p ∷ node g v ∷ []) l
      earlier_more [] f e = absurd f
      earlier_more (c ∷ []) f e = absurd f.1
      earlier_more (c ∷ j ∷ []) f (inl e) =
          omega (arith, run_is a k, run_is c j, pair_cost_is a k, pair_cost_is c j, b.first c j e f.1.0)
      earlier_more (c ∷ j ∷ []) f (inr e) =
          ⊎_elim
          (λ (i : j < k). rw e.0 (omega (arith, run_is a k, run_is a j, pair_cost_is a k, pair_cost_is a j, b.second j i)))
          (λ i. absurd i.1)
          e.1
      earlier_more (c ∷ j ∷ i ∷ l) f e = absurd f.1.1

  pub zeros_are : C (apply g (at (at none (node g p) 0) (node g v) 0)) ≡ C g
  zeros_are = rw (at_zero none (node g p) refl, at_zero none (node g v) refl) (ap C (apply_idle g none adm (λ u. refl)))
