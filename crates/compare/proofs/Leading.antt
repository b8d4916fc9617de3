-- No choice of the kinds' moves leads farther than the one that is told, and one that leads as far has its moves. So the best of all lists of moves
-- is told. From the laws of what is told and of `best`.
use mathlib.Core.Path.{◌≡◌, refl, sym, ap, ap₂, ◌∙◌}
use mathlib.Core.Bool.{Bool, true, false}
use mathlib.Core.List.{List, [], ◌∷◌, map}
use mathlib.Core.Logic.{⊎_elim, ◌≢◌}
use Prim.Native.Nat.{ℕ, zero, suc, ◌+◌, ◌-◌, ◌*◌, ◌/◌, ◌%◌, ◌≤◌, ◌<◌}
use native.Mathlib.Omega.{arith}
use borrow.Author.Tests.{eqb-true}
use lib.Dec.{eqb}
use lib.ListN.{length, get_or}
use Rattle.graph.specs.Admission.{Admitted}
use Rattle.graph.specs.Finite.{tab}
use Rattle.graph.specs.Graph.{Graph, node, word, output, index, is_xor, is_edge}
use Rattle.graph.proofs.Cases.{lt_or_le, eq_or_ne, true_or_false}
use Rattle.graph.proofs.Finite.{length_tab, get_d_tab}
use Rattle.choice.specs.Choice.{Fits}
use Rattle.choice.proofs.Best.{best_is}
use Rattle.moves.specs.Apply.{Choice, none, put, apply, own, seen}
use Rattle.moves.specs.Call.{moved}
use Rattle.moves.specs.Compose.{Permitted}
use Rattle.moves.specs.Rows.{flag, kind_moves}
use Rattle.moves.proofs.Changed.{own_at}
use Rattle.moves.proofs.Count.{last_or_below}
use Rattle.moves.proofs.Moves.{node_row}
use Rattle.order.specs.Inner.{tells}
use Rattle.order.specs.Sheets.{every_node}
use Rattle.order.proofs.Short.{every_length, every_at, node_put}
use Rattle.order.proofs.Telling.{move_told, seen_same}
use Rattle.compare.specs.Compare.{passing, places, word_in, led_to, leading}
use Rattle.compare.specs.Telling.{wanted, wanted_out, told, fits, out_fits}
use Rattle.compare.proofs.Agreeing.{second, Alike, Sums, agree_low, agree_high}
use Rattle.compare.proofs.Passing.{passing_le, passing_each, passing_most, passing_same}
use Rattle.compare.proofs.Told.{wanted_same, fits_edge, fits_mark, edge_below, early, told_is, first_fits, told_permitted}

-- lists of moves that fit
fit_length : (f : ℕ → ℕ) (us ms : List ℕ) → Fits (map f us) ms → length ms ≡ length us
fit_length f [] [] h = refl
fit_length f [] (m ∷ ms) h = absurd h
fit_length f (u ∷ us) [] h = absurd h
fit_length f (u ∷ us) (m ∷ ms) h = ap suc (fit_length f us ms h.1)

fit_at : (f : ℕ → ℕ) (us ms : List ℕ) → Fits (map f us) ms → (v : ℕ) → v < length us → get_or ms v 0 < f (get_or us v 0)
fit_at f [] ms h v l = absurd (omega arith)
fit_at f (u ∷ us) [] h v l = absurd h
fit_at f (u ∷ us) (m ∷ ms) h zero l = h.0
fit_at f (u ∷ us) (m ∷ ms) h (suc v) l = fit_at f us ms h.1 v (omega arith)

fit_by : (f : ℕ → ℕ) (us ms : List ℕ) → length ms ≡ length us → ((v : ℕ) → v < length us → get_or ms v 0 < f (get_or us v 0)) → Fits (map f us) ms
fit_by f [] [] e h = tt
fit_by f [] (m ∷ ms) e h = absurd (omega arith)
fit_by f (u ∷ us) [] e h = absurd (omega arith)
fit_by f (u ∷ us) (m ∷ ms) e h = (h 0 (omega arith), fit_by f us ms (omega arith) (λ v l. h (suc v) (omega arith)))

module _ (g : Graph) (w : ℕ → ℕ) where
  -- two choices with the same move at a node, that turn the readers of its word's index alike
  own_same : (m n : Choice) (j : ℕ) → m (node g (j / 3)) ≡ n (node g (j / 3)) → own g m j ≡ own g n j
  unfolding own
  own_same m n j e = ap (λ (k : ℕ). flag (is_xor g (j / 3)) k (j % 3)) e

  fits_same : (m n : Choice) (j : ℕ) → m (node g (j / 3)) ≡ n (node g (j / 3)) → (is_edge g j ≡ true → seen g m (index (word g j)) ≡ seen g n (index (word g j))) → fits g w m j ≡ fits g w n j
  fits_same m n j e s =
      ⊎_elim
      (λ (t : is_edge g j ≡ true). fits_edge g w m j t ∙ ap₂ eqb (own_same m n j e) (wanted_same g w m n j (s t)) ∙ sym (fits_edge g w n j t))
      (λ (t : is_edge g j ≡ false). fits_mark g w m j t ∙ sym (fits_mark g w n j t))
      (true_or_false (is_edge g j))

  out_fits_same : (x : ℕ → ℕ) (m n : Choice) (j : ℕ) → seen g m (index (output g j)) ≡ seen g n (index (output g j)) → out_fits g x m j ≡ out_fits g x n j
  unfolding out_fits wanted_out
  out_fits_same x m n j e = ap (λ (s : ℕ). eqb ((x j + s) % 2) 0) e

  module _ (adm : Admitted g) where
    -- choices with the same moves at all nodes
    all_fits_same : (m n : Choice) → ((v : ℕ) → v < g.N → m (node g v) ≡ n (node g v)) → (j : ℕ) → j < 3 * g.N → fits g w m j ≡ fits g w n j
    all_fits_same m n e j l =
        fits_same m n j (e (j / 3) (omega arith))
        (λ t. seen_same g m n g.N (omega arith) e (index (word g j)) (omega (arith, adm.below j l t)))

    all_outs_same : (x : ℕ → ℕ) (m n : Choice) → ((v : ℕ) → v < g.N → m (node g v) ≡ n (node g v)) → (j : ℕ) → j < g.O → out_fits g x m j ≡ out_fits g x n j
    all_outs_same x m n e j l = out_fits_same x m n j (seen_same g m n g.N (omega arith) e (index (output g j)) (adm.output_below j l))

    -- a choice of the kinds' moves that fits up to some place
    module _ (n : Choice) (p : Permitted g n) where
      abbrev all_told : Choice
      all_told = told g w

      told_word : (v k : ℕ) → v < g.N → k < 2 → ((u : ℕ) → u < v → n (node g u) ≡ all_told (node g u)) → fits g w n (3 * v + k) ≡ true
          → flag (is_xor g v) (n (node g v)) k ≡ wanted g w all_told (3 * v + k)
      told_word v k h l b f =
          let e = early g w adm v h k l in
          sym (own_at g n v k (omega arith))
          ∙ eqb-true (own g n (3 * v + k)) (wanted g w n (3 * v + k)) (sym (fits_edge g w n (3 * v + k) e) ∙ f)
          ∙ wanted_same g w n all_told (3 * v + k) (seen_same g n all_told v (omega arith) b (index (word g (3 * v + k))) (edge_below g w adm v h k (omega arith) e))

      told_at : (v : ℕ) → v < g.N → ((u : ℕ) → u < v → n (node g u) ≡ all_told (node g u)) → fits g w n (3 * v) ≡ true → fits g w n (3 * v + 1) ≡ true → n (node g v) ≡ all_told (node g v)
      told_at v h b f₁ f₂ =
          let z : 3 * v ≡ 3 * v + 0 = omega arith in
          let q : flag (is_xor g v) (n (node g v)) 0 ≡ wanted g w all_told (3 * v) = told_word v 0 h (omega arith) b (rw z at f₁) ∙ ap (wanted g w all_told) (sym z) in
          move_told (is_xor g v) (n (node g v)) (node_row g v (n (node g v)) (p v h))
          ∙ ap₂ (tells (is_xor g v)) q (told_word v 1 h (omega arith) b f₂)
          ∙ sym (told_is g w adm v h)

      pub told_below : (v : ℕ) → v ≤ g.N → ((j : ℕ) → j < 3 * v → fits g w n j ≡ true) → (u : ℕ) → u < v → n (node g u) ≡ all_told (node g u)
      told_below zero h f u l = absurd (omega arith)
      told_below (suc v) h f u l =
          let b = told_below v (omega arith) (λ j i. f j (omega arith)) in
          ⊎_elim
          (λ (e : u ≡ v). rw e (told_at v (omega arith) b (f (3 * v) (omega arith)) (f (3 * v + 1) (omega arith))))
          (λ (i : u < v). b u i)
          (last_or_below l)

      -- the told choice fits there too
      pub told_fits : (j : ℕ) → j < 3 * g.N → ((i : ℕ) → i ≤ j → fits g w n i ≡ true) → fits g w all_told j ≡ true
      told_fits j l f =
          let v : ℕ = j / 3 in
          let h : v < g.N = omega arith in
          let b = told_below v (omega arith) (λ i k. f i (omega arith)) in
          ⊎_elim
          (λ (e : j % 3 ≡ 0). let q : j ≡ 3 * v = omega arith in rw q (first_fits g w adm v h))
          (λ (d : j % 3 ≢ 0).
          let k : ℕ = j % 3 in
          let q : 3 * v + k ≡ j = omega arith in
          sym (fits_same n all_told j (told_at v h b (f (3 * v) (omega arith)) (f (3 * v + 1) (omega arith)))
          (λ e. seen_same g n all_told v (omega arith) b (index (word g j)) (rw q at (edge_below g w adm v h k (omega arith) (rw (sym q) at e)))))
          ∙ f j (omega arith))
          (eq_or_ne (j % 3) 0)

module _ (g : Graph) (ns os : List ℕ) (a : Alike g ns os) (w x : ℕ → ℕ) (s : Sums g ns os w x) where
  abbrev h : Graph
  h = second g ns os

  abbrev t : Choice
  t = told g w

  abbrev adm : Admitted g
  adm = a.admitted

  -- a choice agrees with the second graph at a place of the row
  abbrev pub agrees : Choice → ℕ → Bool
  agrees m p = eqb (word_in (apply g m) p) (word_in h p)

  pub low : (m : Choice) (p : ℕ) → p < 3 * g.N → agrees m p ≡ fits g w m p
  low m p l = agree_low g ns os a w x s m p l

  pub high : (m : Choice) (j : ℕ) → j < g.O → agrees m (3 * g.N + j) ≡ out_fits g x m j
  high m j l = agree_high g ns os a w x s m j l

  pub farthest : (n : Choice) → Permitted g n → (k : ℕ) → k ≤ places g → ((p : ℕ) → p < k → agrees n p ≡ true) → (p : ℕ) → p < k → agrees t p ≡ true
  farthest n pn k l f p i =
      ⊎_elim
      (λ (c : p < 3 * g.N). low t p c ∙ told_fits g w adm n pn p c (λ q d. sym (low n q (omega arith)) ∙ f q (omega arith)))
      (λ (c : 3 * g.N ≤ p).
      let j : ℕ = p - 3 * g.N in
      let e : 3 * g.N + j ≡ p = omega arith in
      let b = told_below g w adm n pn g.N (omega arith) (λ q d. sym (low n q d) ∙ f q (omega arith)) in
      rw e at (high t j (omega arith) ∙ sym (all_outs_same g w adm x n t b j (omega arith)) ∙ sym (high n j (omega arith)) ∙ ap (agrees n) e ∙ f p i))
      (lt_or_le p (3 * g.N))

  -- lists of moves, one for each node, as choices
  abbrev numbers : List ℕ
  numbers = map (kind_moves g) (every_node g)

  abbrev pub chosen : List ℕ → Choice
  chosen ms = put none (every_node g) ms

  module _ (ms : List ℕ) (f : Fits numbers ms) where
    pub list_at : (v : ℕ) → v < g.N → chosen ms (node g v) ≡ get_or ms v 0
    list_at v l = node_put g ms (omega (arith, fit_length (kind_moves g) (every_node g) ms f, every_length g)) v l

    pub list_permitted : Permitted g (chosen ms)
    list_permitted v l = rw (list_at v l, ← every_at g v l) (fit_at (kind_moves g) (every_node g) ms f v (omega (arith, every_length g)))

  pub led_is : (ms : List ℕ) → led_to g h ms ≡ passing (places g) (agrees (chosen ms))
  unfolding led_to moved
  led_is ms = refl

  -- the told moves as a list
  abbrev tells_all : List ℕ
  tells_all = tab g.N (λ v. t (node g v))

  told_at_list : (v : ℕ) → v < g.N → get_or tells_all v 0 ≡ t (node g v)
  told_at_list v l = get_d_tab g.N (λ u. t (node g u)) v l

  told_list_fits : Fits numbers tells_all
  told_list_fits =
      fit_by (kind_moves g) (every_node g) tells_all (length_tab g.N (λ v. t (node g v)) ∙ sym (every_length g))
      (λ v l.
      let i : v < g.N = omega (arith, every_length g) in
      rw (told_at_list v i, every_at g v i) (told_permitted g w adm v i))

  -- choices with the same moves at all nodes agree alike
  pub same_agrees : (m n : Choice) → ((v : ℕ) → v < g.N → m (node g v) ≡ n (node g v)) → (p : ℕ) → p < places g → agrees m p ≡ agrees n p
  same_agrees m n e p l =
      ⊎_elim
      (λ (c : p < 3 * g.N). low m p c ∙ all_fits_same g w adm m n e p c ∙ sym (low n p c))
      (λ (c : 3 * g.N ≤ p).
      let j : ℕ = p - 3 * g.N in
      let q : 3 * g.N + j ≡ p = omega arith in
      rw q at (high m j (omega arith) ∙ all_outs_same g w adm x m n e j (omega arith) ∙ sym (high n j (omega arith))))
      (lt_or_le p (3 * g.N))

  as_told : (p : ℕ) → p < places g → agrees (chosen tells_all) p ≡ agrees t p
  as_told = same_agrees (chosen tells_all) t (λ v i. list_at tells_all told_list_fits v i ∙ told_at_list v i)

  abbrev pub far : ℕ
  far = passing (places g) (agrees t)

  pub best_fits : Fits numbers (leading g h)
  unfolding leading
  best_fits = (best_is (λ ms. places g - led_to g h ms) numbers tells_all told_list_fits).fits

  best_far : places g - led_to g h (leading g h) ≤ places g - led_to g h tells_all
  unfolding leading
  best_far = (best_is (λ ms. places g - led_to g h ms) numbers tells_all told_list_fits).none_less tells_all told_list_fits

  -- the best leads just as far
  pub led_far : led_to g h (leading g h) ≡ far
  led_far =
      let l : List ℕ = leading g h in
      let k : ℕ = passing (places g) (agrees (chosen l)) in
      let u : led_to g h tells_all ≡ far = led_is tells_all ∙ passing_same (places g) (agrees (chosen tells_all)) (agrees t) as_told in
      let v : k ≤ far =
      passing_most (places g) (agrees t) k (passing_le (places g) (agrees (chosen l)))
      (farthest (chosen l) (list_permitted l best_fits) k (passing_le (places g) (agrees (chosen l))) (passing_each (places g) (agrees (chosen l)))) in
      omega (arith, u, v, led_is l, best_far, passing_le (places g) (agrees t))

  -- and where that is to the end, it is the told one
  pub led_told : far ≡ places g → (v : ℕ) → v < g.N → get_or (leading g h) v 0 ≡ t (node g v)
  led_told e v l =
      let ms : List ℕ = leading g h in
      let q : passing (places g) (agrees (chosen ms)) ≡ places g = sym (led_is ms) ∙ led_far ∙ e in
      sym (list_at ms best_fits v l)
      ∙ told_below g w adm (chosen ms) (list_permitted ms best_fits) g.N (omega arith)
      (λ j i. sym (low (chosen ms) j i) ∙ passing_each (places g) (agrees (chosen ms)) j (omega (arith, q, i))) v l
