-- The potential: what is decided counts as it stands, what is not at its cost.
use Rattle.std.proofs.Common.{◌≡◌, ℕ, suc, ◌+◌, ◌*◌, ◌/◌, ◌%◌, ◌<◌, ◌≤◌, Bool, true, false, cond, ◌&&◌, eqb, ltb, ◌≢◌, sym, refl, ap, ◌∙◌, ⊎_elim, arith, ltb-true, le-ltb, lt-ltb, eq-eqb, eqb-true}
use mathlib.Core.Bool.{and-false}
use Rattle.graph.specs.Admission.{Admitted}
use Rattle.graph.specs.Count.{node_adds, output_adds, C}
use Rattle.graph.specs.Finite.{sum}
use Rattle.graph.specs.Graph.{Graph, is_edge, is_xor, node, word, output}
use Rattle.graph.specs.Turned.{turned_by}
use Rattle.moves.specs.Apply.{Choice, own, seen, apply, at}
use Rattle.moves.specs.Cost.{inner, edge_cost, turned_cost, word_cost, own_cost, move_cost, shows}
use Rattle.moves.specs.Rows.{flag}
use Rattle.moves.specs.Tree.{is_root, place, root_of}
use Rattle.graph.proofs.Cases.{true_or_false, lt_or_le}
use Rattle.graph.proofs.Finite.{sum_same}
use Rattle.moves.proofs.Compose.{seen_low}
use Rattle.moves.proofs.Count.{clash, sum_but_node_and_one}
use Rattle.moves.proofs.Readers.{both_true, names, named_by_lem, single, reader_is, root_of_inner, root_of_above, not_root}
use Rattle.moves.proofs.Changed.{at_same, seen_other, own_other, own_at, seen_none, plain, plain_node, node_adds_lem, out_adds}

-- one of the first n nodes, and in the tree of r
unfoldable pub undecided : Graph → ℕ → ℕ → ℕ → Bool
undecided g r n u = (ltb g.I u && ltb u (node g n)) && eqb (root_of g u) r

-- an edge that names u, its bit being b after its own node's move
unfoldable pub part : Graph → (ℕ → ℕ → ℕ) → ℕ → ℕ → Choice → ℕ → ℕ → ℕ
part g c r n d u b = cond (undecided g r n u) (c u (b % 2)) (plain g d u b)

unfoldable pub term : Graph → (ℕ → ℕ → ℕ) → ℕ → ℕ → Choice → ℕ → ℕ
term g c r n d j = cond (undecided g r n (node g (j / 3))) 0 (cond (is_edge g j) (part g c r n d (word g j / 2) (word g j + own g d j)) 0)

unfoldable pub Φ : Graph → (ℕ → ℕ → ℕ) → ℕ → ℕ → Choice → ℕ
Φ g c r n d = sum (3 * g.N) (term g c r n d) + sum g.O (output_adds (apply g d))

-- no move outside the tree
abbrev pub Off : Graph → ℕ → Choice → Type 0
Off g r d = (u : ℕ) → root_of g u ≢ r → d u ≡ 0

module _ (g : Graph) (r : ℕ) where
  pub record Undecided (n u : ℕ) : Type 0 where
    pub high : g.I < u
    pub low : u < node g n
    pub here : root_of g u ≡ r

  undecided_is : (n u : ℕ) → undecided g r n u ≡ true → Undecided n u
  unfolding undecided
  undecided_is n u e =
      let a = both_true (ltb g.I u && ltb u (node g n)) (eqb (root_of g u) r) e in
      let b = both_true (ltb g.I u) (ltb u (node g n)) a.0 in
      record { high = ltb-true _ _ b.0; low = ltb-true _ _ b.1; here = eqb-true _ _ a.1 }

  pub undecided_yes : (n u : ℕ) → g.I < u → u < node g n → root_of g u ≡ r → undecided g r n u ≡ true
  unfolding undecided
  undecided_yes n u h l e = rw (lt-ltb _ _ h, lt-ltb _ _ l, eq-eqb _ _ e)

  pub undecided_no : (n u : ℕ) → (Undecided n u → ⊥) → undecided g r n u ≡ false
  undecided_no n u h =
      ⊎_elim (λ (t : undecided g r n u ≡ true). absurd (h (undecided_is n u t))) (λ (t : undecided g r n u ≡ false). t) (true_or_false (undecided g r n u))

  pub undecided_past : (n u : ℕ) → node g n ≤ u → undecided g r n u ≡ false
  undecided_past n u h = undecided_no n u (λ x. omega (arith, x.low))

  -- one node fewer is undecided, and that only in the tree
  pub undecided_same : (n u : ℕ) → ((u ≡ node g n) → root_of g u ≢ r) → undecided g r (suc n) u ≡ undecided g r n u
  undecided_same n u h =
      ⊎_elim
      (λ (t : undecided g r n u ≡ true).
      let x = undecided_is n u t in
      undecided_yes (suc n) u x.high (omega (arith, x.low)) x.here ∙ sym t)
      (λ (t : undecided g r n u ≡ false).
      undecided_no (suc n) u
      (λ x.
      let e : u ≡ node g n =
      ⊎_elim (λ (l : u < node g n). absurd (clash (undecided_yes n u x.high l x.here) t)) (λ (l : node g n ≤ u). omega (arith, x.low)) (lt_or_le u (node g n)) in
      h e x.here) ∙ sym t)
      (true_or_false (undecided g r n u))

module _ (g : Graph) (c : ℕ → ℕ → ℕ) (r : ℕ) (adm : Admitted g) where
  -- nothing undecided: C
  term_zero : (d : Choice) (j : ℕ) → j < 3 * g.N → term g c r 0 d j ≡ node_adds (apply g d) j
  unfolding term part
  term_zero d j h =
      rw (undecided_no g r 0 (node g (j / 3)) (λ x. omega (arith, x.low)), undecided_no g r 0 (word g j / 2) (λ x. omega (arith, x.low, x.high)))
      (sym (node_adds_lem g d adm j h))

  pub Φ_zero : (d : Choice) → Φ g c r 0 d ≡ C (apply g d)
  unfolding Φ C apply turned_by
  Φ_zero d = ap (λ x. x + sum g.O (output_adds (apply g d))) (sum_same (3 * g.N) _ _ (term_zero d))

  -- a node outside the tree
  pub Φ_other : (n : ℕ) (d : Choice) → root_of g (node g n) ≢ r → Φ g c r (suc n) d ≡ Φ g c r n d
  unfolding Φ term part
  Φ_other n d h =
      let s : (u : ℕ) → undecided g r (suc n) u ≡ undecided g r n u = λ u. undecided_same g r n u (λ e. rw e h) in
      ap (λ x. x + sum g.O (output_adds (apply g d))) (sum_same (3 * g.N) _ _ (λ j l. rw (s (node g (j / 3)), s (word g j / 2))))

  -- the own words of a node v of the tree, once v is decided
  module _ (n : ℕ) (h : n < g.N) (t : root_of g (node g n) ≡ r) where
    module _ (i : ℕ) (l : i < 3) (e : is_edge g (3 * n + i) ≡ true) where
      lower : word g (3 * n + i) / 2 < node g n
      lower = omega (arith, adm.below (3 * n + i) (omega arith) e)

      -- the non-roots that it names are just those undecided
      pub inner_is : undecided g r n (word g (3 * n + i) / 2) ≡ inner g (word g (3 * n + i) / 2)
      unfolding inner
      inner_is =
          let u : ℕ = word g (3 * n + i) / 2 in
          ⊎_elim
          (λ (y : undecided g r n u ≡ true).
          let x = undecided_is g r n u y in
          rw (lt-ltb _ _ x.high, not_root g adm r u x.here (λ q. omega (arith, root_of_above g adm (node g n), lower)), y))
          (λ (y : undecided g r n u ≡ false).
          y ∙ sym
          (⊎_elim
          (λ (p : g.I < u).
          ⊎_elim
          (λ (q : is_root g u ≡ true). rw (q, and-false))
          (λ (q : is_root g u ≡ false).
          absurd (clash (undecided_yes g r n u p lower
          (root_of_inner g adm u p (omega (arith, lower)) q ∙ ap (root_of g) (reader_is g adm u n q i l h e refl) ∙ t)) y))
          (true_or_false (is_root g u)))
          (λ (p : u ≤ g.I). rw (le-ltb _ _ p))
          (lt_or_le g.I u)))
          (true_or_false (undecided g r n u))

    module _ (d : Choice) (off : Off g r d) (k : ℕ) where
      own_edge : (i : ℕ) → i < 3 → is_edge g (3 * n + i) ≡ true → (b : ℕ)
          → part g c r n (at d (node g n) k) (word g (3 * n + i) / 2) b ≡ edge_cost (inner g) c (word g (3 * n + i) / 2) (b % 2)
      unfolding part edge_cost
      own_edge i l e b =
          let u : ℕ = word g (3 * n + i) / 2 in
          let q : inner g u ≡ undecided g r n u = sym (inner_is i l e) in
          ⊎_elim
          (λ (y : undecided g r n u ≡ true). rw (q, y))
          (λ (y : undecided g r n u ≡ false).
          let z : seen g (at d (node g n) k) u ≡ 0 =
          seen_other d (node g n) k g u (λ z. omega (arith, lower i l e)) ∙
          ⊎_elim
          (λ (p : g.I < u). seen_none g d u (off u (λ w. clash (undecided_yes g r n u p (lower i l e) w) y)))
          (λ (p : u ≤ g.I). seen_low g d u p)
          (lt_or_le g.I u) in
          let w : b + 0 ≡ b = omega arith in
          rw (q, y, z, w))
          (true_or_false (undecided g r n u))

      pub own_word : (i : ℕ) → i < 3 → term g c r n (at d (node g n) k) (3 * n + i) ≡ word_cost g (inner g) c n k i
      unfolding term word_cost turned_cost
      own_word i l =
          let q : (3 * n + i) / 3 ≡ n = omega arith in
          rw (q, undecided_past g r n (node g n) (omega arith), own_at g (at d (node g n) k) n i l, at_same d (node g n) k)
          (⊎_elim
          (λ (e : is_edge g (3 * n + i) ≡ true). rw e (own_edge i l e _))
          (λ (e : is_edge g (3 * n + i) ≡ false). rw e)
          (true_or_false (is_edge g (3 * n + i))))

      -- elsewhere nothing changes but at words that name v
      pub away_word : (j : ℕ) → j / 3 ≢ n → (is_edge g j ≡ true → word g j / 2 ≢ node g n)
          → term g c r (suc n) d j ≡ term g c r n (at d (node g n) k) j
      unfolding term part
      away_word j p f =
          let o : node g (j / 3) ≢ node g n = λ z. p (omega arith) in
          rw (undecided_same g r n (node g (j / 3)) (λ z. absurd (o z)), own_other d (node g n) k g j o)
          (⊎_elim
          (λ (e : is_edge g j ≡ true).
          rw (e, undecided_same g r n (word g j / 2) (λ z. absurd (f e z)), seen_other d (node g n) k g (word g j / 2) (f e)))
          (λ (e : is_edge g j ≡ false). rw e)
          (true_or_false (is_edge g j)))

      pub away_out : (j : ℕ) → j < g.O → output g j / 2 ≢ node g n → output_adds (apply g d) j ≡ output_adds (apply g (at d (node g n) k)) j
      away_out j l f = rw (out_adds g d adm j l, out_adds g (at d (node g n) k) adm j l, seen_other d (node g n) k g (output g j / 2) f)

      -- the word that names a non-root v
      module _ (s : is_root g (node g n) ≡ false) where
        at_place : (is_edge g (place g (node g n)) ≡ true) × (word g (place g (node g n)) / 2 ≡ node g n) × (place g (node g n) < 3 * g.N) × (n < place g (node g n) / 3)
        at_place =
            let o = (single g (node g n) s).at in
            let m = names g (node g n) (place g (node g n)) o.passes in
            (m.0, m.1, o.below, omega (arith, adm.below (place g (node g n)) o.below m.0, m.1))

        read_before : term g c r (suc n) d (place g (node g n)) ≡ c (node g n) (shows g d (node g n))
        unfolding term part shows
        read_before =
            let a = at_place in
            rw (undecided_past g r (suc n) (node g (place g (node g n) / 3)) (omega arith), a.0, a.1, undecided_yes g r (suc n) (node g n) (omega arith) (omega arith) t)

        read_after : term g c r n (at d (node g n) k) (place g (node g n)) ≡ (shows g d (node g n) + flag (is_xor g n) k 3) % 2
        unfolding term part shows
        read_after =
            let a = at_place in
            rw (
              undecided_past g r n (node g (place g (node g n) / 3)) (omega arith),
              a.0,
              a.1,
              undecided_past g r n (node g n) (omega arith),
              own_other d (node g n) k g (place g (node g n)) (λ z. omega arith),
              plain_node g (at d (node g n) k) n (word g (place g (node g n)) + own g d (place g (node g n))) h,
              at_same d (node g n) k,
            )
            (omega arith)

        own_before : (i : ℕ) → i < 3 → term g c r (suc n) d (3 * n + i) ≡ 0
        unfolding term
        own_before i l =
            let q : (3 * n + i) / 3 ≡ n = omega arith in
            rw (q, undecided_yes g r (suc n) (node g n) (omega arith) (omega arith) t)

        pub Φ_step : Φ g c r n (at d (node g n) k) + c (node g n) (shows g d (node g n)) ≡ Φ g c r (suc n) d + move_cost g (inner g) c n (shows g d (node g n)) k
        unfolding Φ move_cost own_cost
        Φ_step =
            let a = at_place in
            let o = single g (node g n) s in
            let w = sum_but_node_and_one (3 * g.N) (term g c r (suc n) d) (term g c r n (at d (node g n) k)) n (place g (node g n)) (omega arith) a.2 (λ z. omega arith)
            (λ j l p q. away_word j p (λ e z. q (o.at.only j l (named_by_lem g (node g n) j e z)))) in
            let os = sum_same g.O _ _ (λ j l. away_out j l (o.no_out j l)) in
            omega (
              arith,
              w,
              os,
              read_before,
              read_after,
              own_before 0 (omega arith),
              own_before 1 (omega arith),
              own_before 2 (omega arith),
              own_word 0 (omega arith),
              own_word 1 (omega arith),
              own_word 2 (omega arith),
            )
