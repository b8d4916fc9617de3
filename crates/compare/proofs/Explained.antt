-- What two graphs of one wiring come to, by the moves that are told: the definition's answer and bytes. From the law that no choice leads farther.
use mathlib.Core.Path.{◌≡◌, refl, sym, ap, ◌∙◌}
use mathlib.Core.List.{List, [], ◌∷◌}
use mathlib.Core.Logic.{⊎_elim}
use Prim.Native.Nat.{ℕ, ◌+◌, ◌-◌, ◌*◌, ◌%◌, ◌≤◌, ◌<◌}
use native.Mathlib.Omega.{arith}
use lib.ListN.{length, get_or}
use Rattle.graph.specs.Answer.{Answer, accepted}
use Rattle.graph.specs.Finite.{tab, if_less}
use Rattle.graph.specs.Graph.{Graph, node, word, output}
use Rattle.graph.specs.Literals.{bit_at, index_at, literals, graph_in}
use Rattle.graph.proofs.Cases.{lt_or_le}
use Rattle.graph.proofs.Finite.{tab_same}
use Rattle.graph.proofs.Tests.{less, no_less}
use Rattle.graph.proofs.Words.{edge_low, out_low}
use Rattle.compare.specs.Compare.{passing, places, wired_to, led_to, leading, Compared, compared, place_told, words_compared}
use Rattle.compare.specs.Telling.{apart, told, fits, out_fits, explained}
use Rattle.compare.proofs.Agreeing.{second, Alike, Sums, edge_same}
use Rattle.compare.proofs.Leading.{agrees, far, low, high, led_far, led_told}
use Rattle.compare.proofs.Passing.{passing_le, passing_same, first_stops, both_pass}
use Rattle.compare.proofs.Wired.{raw_edge}

-- the three ways to end
module _ (g : Graph) (w x : ℕ → ℕ) (bs : List ℕ) where
  abbrev pub fit : ℕ
  fit = passing (3 * g.N) (fits g w (told g w))

  abbrev pub out_fit : ℕ
  out_fit = passing g.O (out_fits g x (told g w))

  abbrev pub filled : List ℕ
  filled = tab (length bs) (λ v. if_less v g.N (told g w (node g v)) (get_or bs v 0))

  abbrev past_nodes : Compared
  past_nodes = if_less out_fit g.O (compared (accepted (5 ∷ out_fit ∷ [])) bs) (compared (accepted (0 ∷ 0 ∷ [])) filled)

  pub stops_at_node : (k : ℕ) → k ≡ fit → k < 3 * g.N → compared (accepted (4 ∷ k ∷ [])) bs ≡ explained g w x bs
  unfolding explained
  stops_at_node k e l = less fit (3 * g.N) (compared (accepted (4 ∷ fit ∷ [])) bs) past_nodes (omega arith) (ap (λ (y : ℕ). compared (accepted (4 ∷ y ∷ [])) bs) e)

  pub stops_at_output : (j : ℕ) → fit ≡ 3 * g.N → j ≡ out_fit → j < g.O → compared (accepted (5 ∷ j ∷ [])) bs ≡ explained g w x bs
  unfolding explained
  stops_at_output j f e l =
      no_less fit (3 * g.N) (compared (accepted (4 ∷ fit ∷ [])) bs) past_nodes (omega arith)
      (less out_fit g.O (compared (accepted (5 ∷ out_fit ∷ [])) bs) (compared (accepted (0 ∷ 0 ∷ [])) filled) (omega arith) (ap (λ (y : ℕ). compared (accepted (5 ∷ y ∷ [])) bs) e))

  pub all_told : (ms : List ℕ) → fit ≡ 3 * g.N → g.O ≤ out_fit → ms ≡ filled → compared (accepted (0 ∷ 0 ∷ [])) ms ≡ explained g w x bs
  unfolding explained
  all_told ms f e q =
      no_less fit (3 * g.N) (compared (accepted (4 ∷ fit ∷ [])) bs) past_nodes (omega arith)
      (no_less out_fit g.O (compared (accepted (5 ∷ out_fit ∷ [])) bs) (compared (accepted (0 ∷ 0 ∷ [])) filled) e (ap (λ (y : List ℕ). compared (accepted (0 ∷ 0 ∷ [])) y) q))

-- a place at which an index differs
pub words_wired : (g h : Graph) (bs : List ℕ) (k : ℕ) (a : Answer) → k ≡ wired_to g h → k < places g → a ≡ if_less k (3 * g.N) (accepted (2 ∷ k ∷ [])) (accepted (3 ∷ (k - 3 * g.N) ∷ []))
    → compared a bs ≡ words_compared g h bs
unfolding words_compared place_told
words_wired g h bs k a e l q =
    less (wired_to g h) (places g) (compared (place_told g 2 (wired_to g h)) bs) _ (omega arith) (ap (λ (y : Answer). compared y bs) (q ∙ ap (place_told g 2) e))

module _ (g : Graph) (ns os : List ℕ) (a : Alike g ns os) (w x : ℕ → ℕ) (s : Sums g ns os w x) (bs : List ℕ) where
  abbrev h : Graph
  h = second g ns os

  abbrev k₁ : ℕ
  k₁ = fit g w x bs

  abbrev j₁ : ℕ
  j₁ = out_fit g w x bs

  abbrev led : ℕ
  led = led_to g h (leading g h)

  abbrev pub reached : Compared
  reached = compared (accepted (0 ∷ 0 ∷ [])) (tab (length bs) (λ j. if_less j g.N (get_or (leading g h) j 0) (get_or bs j 0)))

  abbrev pub left : Compared
  left = if_less led (places g) (compared (place_told g 4 led) bs) reached

  pub past_wires : words_compared g h bs ≡ left
  unfolding words_compared
  past_wires = sym (no_less (wired_to g h) (places g) (compared (place_told g 2 (wired_to g h)) bs) left (omega (arith, a.wired)) refl)

  nodes_fit : passing (3 * g.N) (agrees g ns os a w x s (told g w)) ≡ k₁
  nodes_fit = passing_same (3 * g.N) _ _ (λ p l. low g ns os a w x s (told g w) p l)

  outs_fit : passing g.O (λ j. agrees g ns os a w x s (told g w) (3 * g.N + j)) ≡ j₁
  outs_fit = passing_same g.O _ _ (λ j l. high g ns os a w x s (told g w) j l)

  led_node : k₁ < 3 * g.N → led ≡ k₁
  led_node l =
      led_far g ns os a w x s ∙ sym (first_stops (3 * g.N) g.O (agrees g ns os a w x s (told g w)) (omega (arith, nodes_fit))) ∙ nodes_fit

  led_past : k₁ ≡ 3 * g.N → led ≡ 3 * g.N + j₁
  led_past e =
      led_far g ns os a w x s ∙ sym (both_pass (3 * g.N) g.O (agrees g ns os a w x s (told g w)) (nodes_fit ∙ e)) ∙ ap (λ (y : ℕ). 3 * g.N + y) outs_fit

  at_node : k₁ < 3 * g.N → left ≡ compared (accepted (4 ∷ k₁ ∷ [])) bs
  unfolding place_told
  at_node l =
      let e = led_node l in
      sym (less led (places g) (compared (place_told g 4 led) bs) reached (omega arith) (ap (λ (y : Answer). compared y bs) (less led (3 * g.N) (accepted (4 ∷ led ∷ [])) _ (omega arith) refl)))
      ∙ ap (λ (y : ℕ). compared (accepted (4 ∷ y ∷ [])) bs) e

  at_output : k₁ ≡ 3 * g.N → j₁ < g.O → left ≡ compared (accepted (5 ∷ j₁ ∷ [])) bs
  unfolding place_told
  at_output f l =
      let e = led_past f in
      let q : led - 3 * g.N ≡ j₁ = omega arith in
      sym (less led (places g) (compared (place_told g 4 led) bs) reached (omega arith) (ap (λ (y : Answer). compared y bs) (no_less led (3 * g.N) _ (accepted (5 ∷ (led - 3 * g.N) ∷ [])) (omega arith) refl)))
      ∙ ap (λ (y : ℕ). compared (accepted (5 ∷ y ∷ [])) bs) q

  same_byte : k₁ ≡ 3 * g.N → g.O ≤ j₁ → (j : ℕ) → if_less j g.N (get_or (leading g h) j 0) (get_or bs j 0) ≡ if_less j g.N (told g w (node g j)) (get_or bs j 0)
  same_byte f l j =
      let e : far g ns os a w x s ≡ places g = sym (led_far g ns os a w x s) ∙ led_past f ∙ omega (arith, l, passing_le g.O (out_fits g x (told g w))) in
      ⊎_elim
      (λ (i : j < g.N). ap (λ (y : ℕ). if_less j g.N y (get_or bs j 0)) (led_told g ns os a w x s e j i))
      (λ (i : g.N ≤ j). sym (no_less j g.N (get_or (leading g h) j 0) (get_or bs j 0) i refl) ∙ no_less j g.N (told g w (node g j)) (get_or bs j 0) i refl)
      (lt_or_le j g.N)

  to_the_end : k₁ ≡ 3 * g.N → g.O ≤ j₁ → left ≡ compared (accepted (0 ∷ 0 ∷ [])) (filled g w x bs)
  to_the_end f l =
      let e = led_past f in
      sym (no_less led (places g) (compared (place_told g 4 led) bs) reached (omega arith) refl)
      ∙ ap (λ (y : List ℕ). compared (accepted (0 ∷ 0 ∷ [])) y) (tab_same (length bs) _ _ (λ j i. same_byte f l j))

  -- what is told is what the definition says
  pub words_told : explained g w x bs ≡ words_compared g h bs
  words_told =
      ⊎_elim
      (λ (l : k₁ < 3 * g.N). sym (stops_at_node g w x bs k₁ refl l) ∙ sym (at_node l) ∙ sym past_wires)
      (λ (l : 3 * g.N ≤ k₁).
      let f : k₁ ≡ 3 * g.N = omega (arith, l, passing_le (3 * g.N) (fits g w (told g w))) in
      ⊎_elim
      (λ (m : j₁ < g.O). sym (stops_at_output g w x bs j₁ f refl m) ∙ sym (at_output f m) ∙ sym past_wires)
      (λ (m : g.O ≤ j₁). sym (all_told g w x bs (filled g w x bs) f m refl) ∙ sym (to_the_end f m) ∙ sym past_wires)
      (lt_or_le j₁ g.O))
      (lt_or_le k₁ (3 * g.N))

-- of lent tables: both bits added say how often a word is to be turned
module _ (i n o : ℕ) (us bs vs es us' bs' vs' es' : List ℕ) where
  abbrev given : Graph
  given = graph_in i n o us bs vs es

  bits_same : (A u b : ℕ) → (A + b) % 2 ≡ (A + (2 * u + b)) % 2
  bits_same A u b = omega arith

  pub lent_sums : Alike given (literals us' bs') (literals vs' es') → Sums given (literals us' bs') (literals vs' es') (apart given.nodes bs') (apart given.outputs es')
  unfolding apart
  lent_sums a =
      let k : Graph = second given (literals us' bs') (literals vs' es') in
      record {
        words = λ j l e.
            let q = (raw_edge us' bs' j (omega (arith, l, a.admitted_second.held_nodes)) (edge_low k a.admitted_second j l (edge_same given (literals us' bs') (literals vs' es') a j l e).0)).1 in
            bits_same (word given j) (index_at us' j) (bit_at bs' j) ∙ ap (λ (y : ℕ). (word given j + y) % 2) (sym q);
        outs = λ j l.
            let q = (raw_edge vs' es' j (omega (arith, l, a.admitted_second.held_outputs)) (out_low k a.admitted_second j l)).1 in
            bits_same (output given j) (index_at vs' j) (bit_at es' j) ∙ ap (λ (y : ℕ). (output given j + y) % 2) (sym q);
      }
