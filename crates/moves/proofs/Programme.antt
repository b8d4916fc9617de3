-- Moves decided from the root of a tree down are the best of the tree, for any cost of a choice that a potential follows, and
-- any number of moves a node. Nothing here speaks of C.
use Rattle.std.proofs.Common.{◌≡◌, ℕ, zero, suc, ◌+◌, ◌<◌, ◌≤◌, true, cond, eqb, ◌≢◌, ◌⊎◌, List, [], ◌∷◌, map, sym, refl, ap, ◌∙◌, inl, inr, ⊎_elim, le_of_suc-le-suc, eq-or-lt_of_le, arith, eq-eqb, ne_eqb}
use Rattle.graph.specs.Admission.{Admitted}
use Rattle.graph.specs.Finite.{sum}
use Rattle.graph.specs.Graph.{Graph, node}
use Rattle.moves.specs.Apply.{Choice, at, none, put}
use Rattle.moves.specs.Cost.{pick}
use Rattle.moves.specs.Tree.{is_root, root_of, members, tree}
use Rattle.graph.proofs.Cases.{eq_or_ne}
use Rattle.choice.specs.Choice.{best, choices, least}
use Rattle.choice.specs.Inner.{FirstBelow}
use Rattle.choice.proofs.Best.{best_cons, least_below, first_shift}
use Rattle.moves.proofs.Readers.{root_of_root, root_of_above}
use Rattle.moves.proofs.Changed.{at_same, at_other}
use Rattle.moves.proofs.Moves.{some_fit}

module _ (g : Graph) (r : ℕ) where
  pub members_zero : members g r zero ≡ []
  unfolding members
  members_zero = refl

  pub members_in : (n : ℕ) → root_of g (node g n) ≡ r → members g r (suc n) ≡ node g n ∷ members g r n
  unfolding members
  members_in n e = rw (eq-eqb _ _ e)

  pub members_out : (n : ℕ) → root_of g (node g n) ≢ r → members g r (suc n) ≡ members g r n
  unfolding members
  members_out n e = rw (ne_eqb _ _ e)

-- what the costs of the tree's first n nodes leave out
offs : Graph → ℕ → (ℕ → ℕ) → ℕ → ℕ
offs g r o n = sum n (λ v. cond (eqb (root_of g (node g v)) r) (o v) 0)

module _ (g : Graph) (r : ℕ) (o : ℕ → ℕ) where
  offs_zero : offs g r o 0 ≡ 0
  unfolding offs sum
  offs_zero = refl

  offs_in : (n : ℕ) → root_of g (node g n) ≡ r → offs g r o (suc n) ≡ offs g r o n + o n
  unfolding offs sum
  offs_in n e = rw (eq-eqb (root_of g (node g n)) r e)

  offs_out : (n : ℕ) → root_of g (node g n) ≢ r → offs g r o (suc n) ≡ offs g r o n
  unfolding offs sum
  offs_out n e = rw (ne_eqb (root_of g (node g n)) r e) (omega arith)

-- f is the cost of a choice, mv how many moves the node with an index has
module _ (f : Choice → ℕ) (mv : ℕ → ℕ) where
  -- the cost after a list of moves at a list of nodes
  abbrev pub after : List ℕ → Choice → List ℕ → ℕ
  after us d l = f (put d us l)

  -- of all lists of moves at the nodes us, on top of d, the first that costs least
  abbrev pub best_of : List ℕ → Choice → List ℕ
  best_of us d = best (after us d) (map mv us)

  best_none : (d : Choice) → after [] d (best_of [] d) ≡ f d
  unfolding best choices least put
  best_none d = refl

  best_nil : (d : Choice) → best_of [] d ≡ []
  unfolding best choices least
  best_nil d = refl

  module _ (u : ℕ) (us : List ℕ) (d : Choice) where
    after_first : (m : ℕ) (l : List ℕ) → after (u ∷ us) d (m ∷ l) ≡ after us (at d u m) l
    unfolding put
    after_first m l = refl

  module _ (pos : (u : ℕ) → 0 < mv u) where
    -- by the first node: what the rest costs at best is e k, up to a constant, at the first node's move k
    by_first : (u : ℕ) (us : List ℕ) (d : Choice) (e : ℕ → ℕ) (a b m : ℕ) → ((k : ℕ) → k < mv u → after us (at d u k) (best_of us (at d u k)) + a ≡ e k + b)
        → FirstBelow e (mv u) m → best_of (u ∷ us) d ≡ m ∷ best_of us (at d u m)
    unfolding put
    by_first u us d e a b m q h =
        best_cons (after (u ∷ us) d) (mv u) (map mv us) (some_fit mv pos us) m (first_shift _ e a b (mv u) m q h)

    -- a programme for the tree of r, whose root is node t: a potential Φ n d of the choices d that are good, in which the tree's
    -- nodes below n are undecided. At node n of the tree, not its root, e n d k is what its move k costs, and a n d the least
    -- that one costs, less a number o n which no choice changes
    pub record Programme (g : Graph) (r t : ℕ) (Good : Choice → Type 0) (Φ : ℕ → Choice → ℕ) (a : ℕ → Choice → ℕ) (e : ℕ → Choice → ℕ → ℕ) (o : ℕ → ℕ) : Type 0 where
      pub ends : (d : Choice) → Good d → Φ 0 d ≡ f d
      pub kept : (n k : ℕ) (d : Choice) → n < t → root_of g (node g n) ≡ r → k < mv (node g n) → Good d → Good (at d (node g n) k)
      pub passes : (n : ℕ) (d : Choice) → n < t → root_of g (node g n) ≢ r → Good d → Φ (suc n) d ≡ Φ n d
      pub steps : (n k : ℕ) (d : Choice) → n < t → root_of g (node g n) ≡ r → k < mv (node g n) → Good d
          → Φ n (at d (node g n) k) + a n d ≡ Φ (suc n) d + e n d k
      pub tight : (n m : ℕ) (d : Choice) → n < t → root_of g (node g n) ≡ r → Good d → FirstBelow (e n d) (mv (node g n)) m → a n d + o n ≡ e n d m

    -- d has m's moves at the tree's nodes from n on
    abbrev pub Agree : Graph → ℕ → Choice → ℕ → Choice → Type 0
    Agree g r m n d = (v : ℕ) → n ≤ v → v < g.N → root_of g (node g v) ≡ r → d (node g v) ≡ m (node g v)

    -- m is decided: at the root the first least of e₀, at any other node of the tree that of e, the nodes above being decided
    pub record Decides (g : Graph) (r t : ℕ) (Good : Choice → Type 0) (Φ : ℕ → Choice → ℕ) (e : ℕ → Choice → ℕ → ℕ) (m : Choice) (e₀ : ℕ → ℕ) (a₀ b₀ : ℕ) : Type 0 where
      pub good : (k : ℕ) → k < mv r → Good (at none r k)
      pub root : (k : ℕ) → k < mv r → Φ t (at none r k) + a₀ ≡ e₀ k + b₀
      pub top : FirstBelow e₀ (mv r) (m r)
      pub rest : (n : ℕ) (d : Choice) → n < t → root_of g (node g n) ≡ r → Good d → Agree g r m (suc n) d → FirstBelow (e n d) (mv (node g n)) (m (node g n))

    module _ (g : Graph) (r t : ℕ) (Good : Choice → Type 0) (Φ : ℕ → Choice → ℕ) (a : ℕ → Choice → ℕ) (e : ℕ → Choice → ℕ → ℕ) (o : ℕ → ℕ) (p : Programme g r t Good Φ a e o) where
      -- a node of the tree, not its root, whose nodes below are done
      module _ (n : ℕ) (h : n < t) (i : root_of g (node g n) ≡ r) (d : Choice) (good : Good d)
          (ih : (d : Choice) → Good d → after (members g r n) d (best_of (members g r n) d) ≡ Φ n d + offs g r o n) where
        by_move : (k : ℕ) → k < mv (node g n) → after (members g r n) (at d (node g n) k) (best_of (members g r n) (at d (node g n) k)) + a n d
            ≡ e n d k + (Φ (suc n) d + offs g r o n)
        by_move k l = omega (arith, ih (at d (node g n) k) (p.kept n k d h i l good), p.steps n k d h i l good)

        list_in : (m : ℕ) → FirstBelow (e n d) (mv (node g n)) m → best_of (node g n ∷ members g r n) d ≡ m ∷ best_of (members g r n) (at d (node g n) m)
        list_in m b = by_first (node g n) (members g r n) d (e n d) _ _ m by_move b

        value_in : after (node g n ∷ members g r n) d (best_of (node g n ∷ members g r n) d) ≡ Φ (suc n) d + offs g r o (suc n)
        unfolding pick
        value_in =
            let m : ℕ = pick (e n d) (mv (node g n)) in
            let b : FirstBelow (e n d) (mv (node g n)) m = least_below (e n d) (mv (node g n)) (pos (node g n)) in
            rw (list_in m b, after_first (node g n) (members g r n) d m)
            (omega (arith, by_move m b.below, p.tight n m d h i good b, offs_in g r o n i))

      -- the potential is what is left at best
      value : (n : ℕ) → n ≤ t → (d : Choice) → Good d → after (members g r n) d (best_of (members g r n) d) ≡ Φ n d + offs g r o n
      value zero h d good = rw (members_zero g r) (omega (arith, best_none d, p.ends d good, offs_zero g r o))
      value (suc n) h d good = go (value n (omega arith)) (eq_or_ne (root_of g (node g n)) r)
        where
          go : ((d : Choice) → Good d → after (members g r n) d (best_of (members g r n) d) ≡ Φ n d + offs g r o n)
              → (root_of g (node g n) ≡ r) ⊎ (root_of g (node g n) ≢ r)
              → after (members g r (suc n)) d (best_of (members g r (suc n)) d) ≡ Φ (suc n) d + offs g r o (suc n)
          go ih (inr i) = rw (members_out g r n i) (omega (arith, ih d good, p.passes n d h i good, offs_out g r o n i))
          go ih (inl i) = rw (members_in g r n i) (value_in n h i d good ih)

      module _ (m : Choice) (e₀ : ℕ → ℕ) (a₀ b₀ : ℕ) (dec : Decides g r t Good Φ e m e₀ a₀ b₀) where
        lists : (n : ℕ) → n ≤ t → (d : Choice) → Good d → Agree g r m n d → best_of (members g r n) d ≡ map m (members g r n)
        lists zero h d good ag = rw (members_zero g r) (best_nil d)
        lists (suc n) h d good ag = go (lists n (omega arith)) (eq_or_ne (root_of g (node g n)) r)
          where
            go : ((d : Choice) → Good d → Agree g r m n d → best_of (members g r n) d ≡ map m (members g r n))
                → (root_of g (node g n) ≡ r) ⊎ (root_of g (node g n) ≢ r)
                → best_of (members g r (suc n)) d ≡ map m (members g r (suc n))
            go ih (inr i) =
                rw (members_out g r n i)
                (ih d good (λ v j l q. ⊎_elim (λ (s : n ≡ v). absurd (i (ap (λ x. root_of g (node g x)) s ∙ q))) (λ (s : n < v). ag v s l q) (eq-or-lt_of_le j)))
            go ih (inl i) =
                let b : FirstBelow (e n d) (mv (node g n)) (m (node g n)) = dec.rest n d h i good ag in
                rw (members_in g r n i)
                (list_in n h i d good (value n (omega arith)) (m (node g n)) b ∙
                ap (λ x. m (node g n) ∷ x)
                (ih (at d (node g n) (m (node g n))) (p.kept n (m (node g n)) d h i b.below good)
                (λ v j l q.
                ⊎_elim
                (λ (s : n ≡ v). rw (← s) (at_same d (node g n) (m (node g n))))
                (λ (s : n < v). at_other d (node g n) (m (node g n)) (node g v) (λ z. omega arith) ∙ ag v s l q)
                (eq-or-lt_of_le j))))

        module _ (adm : Admitted g) (h : t < g.N) (here : node g t ≡ r) (isr : is_root g r ≡ true) where
          -- a tree's root stands first, and nothing above it belongs to the tree
          members_top : (k : ℕ) → t < k → members g r k ≡ r ∷ members g r t
          members_top zero i = absurd (omega arith)
          members_top (suc k) i =
              ⊎_elim
              (λ (q : t ≡ k). rw (← q) (members_in g r t (rw here (root_of_root g adm r isr)) ∙ ap (λ x. x ∷ members g r t) here))
              (λ (l : t < k). members_out g r k (λ q. omega (arith, root_of_above g adm (node g k))) ∙ members_top k l)
              (eq-or-lt_of_le (le_of_suc-le-suc i))

          tree_top : tree g r ≡ r ∷ members g r t
          unfolding tree
          tree_top = members_top g.N h

          -- the decided moves, by falling index, are the best of the tree
          pub programme_best : map m (tree g r) ≡ best_of (tree g r) none
          programme_best =
              rw tree_top
              (sym
              (by_first r (members g r t) none e₀ a₀ (b₀ + offs g r o t) (m r)
              (λ k l. omega (arith, value t (omega arith) (at none r k) (dec.good k l), dec.root k l))
              dec.top ∙
              ap (λ x. m r ∷ x)
              (lists t (omega arith) (at none r (m r)) (dec.good (m r) dec.top.below)
              (λ v i j q.
              let s : v ≡ t = omega (arith, root_of_above g adm (node g v)) in
              rw (s, here) (at_same none r (m r))))))
