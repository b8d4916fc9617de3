-- What is read of two graphs' bits, once it is noted whose readers the told choice turns: how often each word is to be turned, and from that the
-- first word of a node that cannot be, whether the node's readers are turned, and its move. From the laws of what is told.
use mathlib.Core.Path.{◌≡◌, refl, sym, ap, ap₂, ◌∙◌}
use mathlib.Core.Bool.{Bool, true, false, cond}
use mathlib.Core.List.{List}
use mathlib.Core.Logic.{◌⊎◌, inl, inr, ⊎_elim, ◌≢◌}
use Prim.Native.Nat.{ℕ, zero, suc, ◌+◌, ◌*◌, ◌%◌, ◌≤◌, ◌<◌}
use native.Mathlib.Omega.{arith}
use borrow.Author.Tests.{eq-eqb, ne_eqb}
use lib.Dec.{eqb}
use lib.ListN.{length, get_or}
use Rattle.std.specs.Prelude.{Option, Some, None}
use Rattle.std.proofs.lemmas.Option.{none-some, same_Some}
use Rattle.graph.specs.Admission.{Admitted}
use Rattle.graph.specs.Graph.{Graph, graph_of, node, word, index, is_xor, is_edge}
use Rattle.graph.specs.Literals.{bit_at}
use Rattle.graph.specs.Turned.{only}
use Rattle.graph.proofs.Cases.{eq_or_ne}
use Rattle.graph.proofs.Edge.{third_majority}
use Rattle.graph.proofs.Tests.{equal, unequal}
use Rattle.moves.specs.Apply.{Choice, own, seen}
use Rattle.moves.specs.Rows.{flag}
use Rattle.moves.proofs.Compose.{seen_node}
use Rattle.moves.proofs.Count.{last_or_below}
use Rattle.moves.proofs.Flags.{flag_bit}
use Rattle.many.specs.Making.{Noted, bare, named}
use Rattle.many.proofs.Sweeping.{bare_seen, noted_next}
use Rattle.order.specs.Inner.{tells}
use Rattle.compare.specs.Compare.{passing}
use Rattle.compare.specs.Telling.{apart, own_turn, wanted, wanted_out, told_to, told, fits, out_fits, unfit}
use Rattle.compare.proofs.Passing.{passing_is, passing_same}
use Rattle.compare.proofs.Told.{edge_below, early, told_is, first_fits, second_fits, third_fits}

-- the first word that cannot be turned as it is to be, by cases
unfit_cases : (x : Bool) (a b c : ℕ) → let p = cond x true (eqb a b) in let q = cond x true (eqb a c) in
    ((unfit x a b c ≡ None) × (p ≡ true) × (q ≡ true)) ⊎ (((unfit x a b c ≡ Some 1) × (p ≡ false)) ⊎ ((unfit x a b c ≡ Some 2) × (p ≡ true) × (q ≡ false)))
unfolding unfit
unfit_cases true a b c = inl (refl, refl, refl)
unfit_cases false a b c =
    ⊎_elim
    (λ (e : a ≡ b).
    ⊎_elim
    (λ (f : a ≡ c). inl (sym (equal a b _ (Some 1) e (equal a c None (Some 2) f refl)), eq-eqb a b e, eq-eqb a c f))
    (λ (n : a ≢ c). inr (inr (sym (equal a b _ (Some 1) e (unequal a c None (Some 2) n refl)), eq-eqb a b e, ne_eqb a c n)))
    (eq_or_ne a c))
    (λ (n : a ≢ b). inr (inl (sym (unequal a b _ (Some 1) n refl), ne_eqb a b n)))
    (eq_or_ne a b)

pub unfit_same : (x : Bool) (a b c a' b' c' : ℕ) → a ≡ a' → b ≡ b' → (x ≡ false → c ≡ c') → unfit x a b c ≡ unfit x a' b' c'
unfolding unfit
unfit_same true a b c a' b' c' p q r = refl
unfit_same false a b c a' b' c' p q r = rw (p, q, r refl)

module _ (i n : ℕ) (l ds : List ℕ) (adm : Admitted (bare i n l)) where
  abbrev g : Graph
  g = bare i n l

  abbrev w : ℕ → ℕ
  w = apart l ds

  abbrev t : Choice
  t = told g w

  -- as it is noted, so it is wanted
  own_wanted : (sn : List ℕ) (u j : ℕ) → Noted g t sn u → index (get_or l j 0) < u → own_turn sn l ds j ≡ wanted g w t j
  unfolding own_turn wanted named
  own_wanted sn u j b h = ap (λ (s : ℕ). (apart l ds j + s) % 2) (b.below (index (get_or l j 0)) h)

  module _ (sn : List ℕ) (v : ℕ) (h : v < n) (b : Noted g t sn (i + 1 + v)) where
    edge_wanted : (k : ℕ) → k < 3 → is_edge g (3 * v + k) ≡ true → own_turn sn l ds (3 * v + k) ≡ wanted g w t (3 * v + k)
    edge_wanted k m e = own_wanted sn (i + 1 + v) (3 * v + k) b (edge_below g w adm v h k m e)

    first_wanted : own_turn sn l ds (3 * v + 0) ≡ wanted g w t (3 * v)
    first_wanted = let z : 3 * v + 0 ≡ 3 * v = omega arith in edge_wanted 0 (omega arith) (early g w adm v h 0 (omega arith)) ∙ ap (wanted g w t) z

    second_wanted : own_turn sn l ds (3 * v + 1) ≡ wanted g w t (3 * v + 1)
    second_wanted = edge_wanted 1 (omega arith) (early g w adm v h 1 (omega arith))

    unfit_is : unfit (is_xor g v) (own_turn sn l ds (3 * v + 0)) (own_turn sn l ds (3 * v + 1)) (own_turn sn l ds (3 * v + 2))
        ≡ unfit (is_xor g v) (wanted g w t (3 * v)) (wanted g w t (3 * v + 1)) (wanted g w t (3 * v + 2))
    unfit_is = unfit_same (is_xor g v) _ _ _ _ _ _ first_wanted second_wanted (λ e. edge_wanted 2 (omega arith) (third_majority g v e))

    abbrev Fine : ℕ → Type 0
    Fine k = (j : ℕ) → j < k → fits g w t j ≡ true

    fine_next : (k : ℕ) → Fine k → fits g w t k ≡ true → Fine (suc k)
    fine_next k f e j m = ⊎_elim (λ (q : j ≡ k). rw q e) (λ (q : j < k). f j q) (last_or_below m)

    module _ (r : Option ℕ) (e : r ≡ unfit (is_xor g v) (own_turn sn l ds (3 * v + 0)) (own_turn sn l ds (3 * v + 1)) (own_turn sn l ds (3 * v + 2))) (f : Fine (3 * v)) where
      after_first : Fine (3 * v + 1)
      after_first = let z : suc (3 * v) ≡ 3 * v + 1 = omega arith in rw z at (fine_next (3 * v) f (first_fits g w adm v h))

      after_second : fits g w t (3 * v + 1) ≡ true → Fine (3 * v + 2)
      after_second p = let z : suc (3 * v + 1) ≡ 3 * v + 2 = omega arith in rw z at (fine_next (3 * v + 1) after_first p)

      -- all its words are turned as they are to be, or the sweep stops
      pub node_goes : r ≡ None → Fine (3 * (v + 1))
      node_goes z =
          let y : suc (3 * v + 2) ≡ 3 * (v + 1) = omega arith in
          ⊎_elim
          (λ c. rw y at (fine_next (3 * v + 2) (after_second (second_fits g w adm v h ∙ c.1)) (third_fits g w adm v h ∙ c.2)))
          (λ d. absurd (⊎_elim (λ c. none-some _ (sym z ∙ e ∙ unfit_is ∙ c.0)) (λ c. none-some _ (sym z ∙ e ∙ unfit_is ∙ c.0)) d))
          (unfit_cases (is_xor g v) (wanted g w t (3 * v)) (wanted g w t (3 * v + 1)) (wanted g w t (3 * v + 2)))

      pub node_stops : (k : ℕ) → r ≡ Some k → 3 * v + k ≡ passing (3 * n) (fits g w t)
      node_stops k z =
          ⊎_elim
          (λ c. absurd (none-some _ (sym c.0 ∙ sym unfit_is ∙ sym e ∙ z)))
          (λ d.
          ⊎_elim
          (λ c.
          let q : k ≡ 1 = same_Some k 1 (sym z ∙ e ∙ unfit_is ∙ c.0) in
          rw q (passing_is (3 * n) (fits g w t) (3 * v + 1) (omega arith) after_first (λ m. second_fits g w adm v h ∙ c.1)))
          (λ c.
          let q : k ≡ 2 = same_Some k 2 (sym z ∙ e ∙ unfit_is ∙ c.0) in
          rw q (passing_is (3 * n) (fits g w t) (3 * v + 2) (omega arith) (after_second (second_fits g w adm v h ∙ c.1)) (λ m. third_fits g w adm v h ∙ c.2)))
          d)
          (unfit_cases (is_xor g v) (wanted g w t (3 * v)) (wanted g w t (3 * v + 1)) (wanted g w t (3 * v + 2)))

      pub word_few : (k : ℕ) → r ≡ Some k → k ≤ 2
      word_few k z =
          ⊎_elim
          (λ c. absurd (none-some _ (sym c.0 ∙ sym unfit_is ∙ sym e ∙ z)))
          (λ d. ⊎_elim (λ c. omega (arith, same_Some k 1 (sym z ∙ e ∙ unfit_is ∙ c.0))) (λ c. omega (arith, same_Some k 2 (sym z ∙ e ∙ unfit_is ∙ c.0))) d)
          (unfit_cases (is_xor g v) (wanted g w t (3 * v)) (wanted g w t (3 * v + 1)) (wanted g w t (3 * v + 2)))

    readers_are : flag (is_xor g v) (tells (is_xor g v) (own_turn sn l ds (3 * v + 0)) (own_turn sn l ds (3 * v + 1))) 3 ≡ seen g t (i + 1 + v)
    readers_are =
        ap (λ (m : ℕ). flag (is_xor g v) m 3) (ap₂ (tells (is_xor g v)) first_wanted second_wanted ∙ sym (told_is g w adm v h)) ∙ sym (seen_node g t v h)

    pub node_noted : (sn' : List ℕ) → length sn' ≡ length sn
        → ((u : ℕ) → bit_at sn' u ≡ (bit_at sn u + only (i + 1 + v) (flag (is_xor g v) (tells (is_xor g v) (own_turn sn l ds (3 * v + 0)) (own_turn sn l ds (3 * v + 1))) 3) u) % 2)
        → Noted g t sn' (i + 1 + (v + 1))
    node_noted sn' q f =
        let z : i + 1 + v + 1 ≡ i + 1 + (v + 1) = omega arith in
        rw z at (noted_next g t sn sn' (i + 1 + v) _ b q (flag_bit (is_xor g v) _ 3 (omega arith)) readers_are f)

  -- with all noted: the moves
  pub moves_are : (sn : List ℕ) → Noted g t sn (i + 1 + n) → (v : ℕ) → v < n → tells (is_xor g v) (own_turn sn l ds (3 * v)) (own_turn sn l ds (3 * v + 1)) ≡ t (node g v)
  moves_are sn b v h =
      let z : 3 * v + 0 ≡ 3 * v = omega arith in
      let f : index (word g (3 * v)) < node g v = rw z at (edge_below g w adm v h 0 (omega arith) (early g w adm v h 0 (omega arith))) in
      ap₂ (tells (is_xor g v))
      (own_wanted sn (i + 1 + n) (3 * v) b (omega arith))
      (own_wanted sn (i + 1 + n) (3 * v + 1) b (omega (arith, edge_below g w adm v h 1 (omega arith) (early g w adm v h 1 (omega arith)))))
      ∙ sym (told_is g w adm v h)

-- a graph of nodes alone tells the same
module _ (i n o : ℕ) (l os : List ℕ) (w : ℕ → ℕ) where
  abbrev whole : Graph
  whole = graph_of i n o l os

  bare_told_to : (k : ℕ) → told_to (bare i n l) w k ≡ told_to whole w k
  unfolding told_to wanted seen is_xor
  bare_told_to zero = refl
  bare_told_to (suc k) = rw (bare_told_to k)

  pub bare_told : told (bare i n l) w ≡ told whole w
  bare_told = bare_told_to n

  bare_fit : (m : Choice) (j : ℕ) → fits (bare i n l) w m j ≡ fits whole w m j
  unfolding fits own wanted seen is_xor is_edge
  bare_fit m j = refl

  pub bare_fits : passing (3 * n) (fits (bare i n l) w (told (bare i n l) w)) ≡ passing (3 * n) (fits whole w (told whole w))
  bare_fits = passing_same (3 * n) _ _ (λ j h. bare_fit (told (bare i n l) w) j ∙ ap (λ (m : Choice). fits whole w m j) bare_told)

  -- outputs, by what is noted
  out_is : (es sn : List ℕ) → Admitted whole → Noted (bare i n l) (told (bare i n l) w) sn (i + 1 + n)
      → (j : ℕ) → j < o → eqb (own_turn sn os es j) 0 ≡ out_fits whole (apart os es) (told whole w) j
  unfolding out_fits wanted_out own_turn named
  out_is es sn adm b j h =
      ap (λ (s : ℕ). eqb ((apart os es j + s) % 2) 0)
      (b.below (index (get_or os j 0)) (adm.output_below j h) ∙ bare_seen i n o l os (told (bare i n l) w) (index (get_or os j 0)) ∙ ap (λ (m : Choice). seen whole m (index (get_or os j 0))) bare_told)

  pub outs_are : (es sn : List ℕ) → Admitted whole → Noted (bare i n l) (told (bare i n l) w) sn (i + 1 + n)
      → passing o (λ j. eqb (own_turn sn os es j) 0) ≡ passing o (out_fits whole (apart os es) (told whole w))
  outs_are es sn adm b = passing_same o _ _ (λ j h. out_is es sn adm b j h)
