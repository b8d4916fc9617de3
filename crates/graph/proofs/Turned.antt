-- Laws of a turned table and a turned graph, and of a sweep half done. From the laws of one turned literal.
use Rattle.std.proofs.Common.{◌≡◌, ℕ, ◌+◌, ◌*◌, ◌/◌, ◌%◌, ◌<◌, ◌≤◌, true, false, eqb, ◌≢◌, List, length, get_or, set, sym, refl, ap, ◌∙◌, ⊎_elim, arith, length-set, get_or-set_other, get_or-set_same, ext_get_or, ne_eqb}
use lib.ListN.{get_or-eq_default}
use Rattle.graph.specs.Admission.{Admitted}
use Rattle.graph.specs.Finite.{if_less, if_equal}
use Rattle.graph.specs.Graph.{Graph, graph_of, mark, word, output, index, is_edge, turn}
use Rattle.graph.specs.Literals.{held}
use Rattle.graph.proofs.Alike.{Alike}
use Rattle.graph.proofs.Cases.{lt_or_le, eq_or_ne, true_or_false, cond_same}
use Rattle.graph.proofs.Finite.{length_tab, get_d_tab, tab_same}
use Rattle.graph.proofs.Literals.{held_le, held_same}
use Rattle.graph.proofs.Tests.{less, no_less, equal, unequal}
use Rattle.graph.proofs.Turn.{turn_half, turn_zero, turn_turn, turn_same}
use Rattle.graph.specs.Turned.{turned_table, turned_by, never, only, up_to, Low}

pub same_graph : (i n o : ℕ) {ns ns' os os' : List ℕ} → ns ≡ ns' → os ≡ os' → graph_of i n o ns os ≡ graph_of i n o ns' os'
same_graph i n o p q = λ k. record { I = i; N = n; O = o; nodes = p k; outputs = q k }

-- a graph is turned where both tables are
pub turned_both : (g : Graph) (t o : ℕ → ℕ) (ns os : List ℕ) → ns ≡ turned_table g.nodes t → os ≡ turned_table g.outputs o → graph_of g.I g.N g.O ns os ≡ turned_by g t o
unfolding turned_by
turned_both g t o ns os p q = same_graph g.I g.N g.O p q

pub only_at : (j t : ℕ) → only j t j ≡ t
unfolding only
only_at j t = sym (equal j j t 0 refl refl)

pub only_off : (j t i : ℕ) → i ≢ j → only j t i ≡ 0
unfolding only
only_off j t i n = sym (unequal i j t 0 n refl)

pub up_to_past : (j : ℕ) (t : ℕ → ℕ) (i : ℕ) → j ≤ i → up_to j t i ≡ 0
unfolding up_to
up_to_past j t i h = sym (no_less i j (t i) 0 h refl)

pub up_to_in : (j : ℕ) (t : ℕ → ℕ) (i : ℕ) → i < j → up_to j t i ≡ t i
unfolding up_to
up_to_in j t i h = sym (less i j (t i) 0 h refl)

up_to_next : (j : ℕ) (t : ℕ → ℕ) (i : ℕ) → up_to j t i + only j (t j) i ≡ up_to (j + 1) t i
up_to_next j t i =
    ⊎_elim
    (λ (l : i < j). omega (arith, up_to_in j t i l, up_to_in (j + 1) t i (omega arith), only_off j (t j) i (omega arith)))
    (λ (l : j ≤ i).
    ⊎_elim
    (λ (e : i ≡ j). rw e (omega (arith, up_to_past j t j (omega arith), up_to_in (j + 1) t j (omega arith), only_at j (t j))))
    (λ (n : i ≢ j). omega (arith, up_to_past j t i l, up_to_past (j + 1) t i (omega arith), only_off j (t j) i n))
    (eq_or_ne i j))
    (lt_or_le i j)

module _ (l : List ℕ) where
  pub turned_length : (t : ℕ → ℕ) → length (turned_table l t) ≡ length l
  unfolding turned_table
  turned_length t = length_tab _ _

  pub turned_at : (t : ℕ → ℕ) (j : ℕ) → j < length l → get_or (turned_table l t) j 0 ≡ turn (t j) (get_or l j 0)
  unfolding turned_table
  turned_at t j h = get_d_tab _ _ j h

  -- it holds as many literals
  pub turned_held : (t : ℕ → ℕ) → held (turned_table l t) ≡ held l
  turned_held t = held_same (turned_table l t) l (turned_length t) (λ j h. rw (turned_at t j h) (turn_half (t j) (get_or l j 0)))

  -- a table is the turned one where its words are
  pub turned_by_lem : (t : ℕ → ℕ) (m : List ℕ) → length m ≡ length l → ((j : ℕ) → j < length l → get_or m j 0 ≡ turn (t j) (get_or l j 0)) → m ≡ turned_table l t
  turned_by_lem t m e f = ext_get_or 0 _ _ (e ∙ sym (turned_length t)) (λ j h. let k : j < length l = omega arith in f j k ∙ sym (turned_at t j k))

  -- only the turns' parity counts
  pub turned_even : (t s : ℕ → ℕ) → ((j : ℕ) → j < length l → t j % 2 ≡ s j % 2) → turned_table l t ≡ turned_table l s
  unfolding turned_table
  turned_even t s e = tab_same _ _ _ (λ j h. turn_same (t j) (s j) (get_or l j 0) (e j h))

  pub turned_same : (t s : ℕ → ℕ) → ((j : ℕ) → j < length l → t j ≡ s j) → turned_table l t ≡ turned_table l s
  turned_same t s e = turned_even t s (λ j h. ap (λ (x : ℕ). x % 2) (e j h))

  pub turned_never : (t : ℕ → ℕ) → ((j : ℕ) → t j ≡ 0) → turned_table l t ≡ l
  turned_never t z = sym (turned_by_lem t l refl (λ j h. rw (z j) (sym (turn_zero (get_or l j 0)))))

  -- at every place, where nothing is turned from place n of the table on
  pub turned_any : (t : ℕ → ℕ) (n : ℕ) → n ≤ length l → ((j : ℕ) → n ≤ j → t j ≡ 0) → (j : ℕ) → get_or (turned_table l t) j 0 ≡ turn (t j) (get_or l j 0)
  turned_any t n b z j =
      ⊎_elim
      (λ (h : j < length l). turned_at t j h)
      (λ (h : length l ≤ j).
      get_or-eq_default (turned_table l t) 0 {n = j} (rw (turned_length t) h) ∙ sym (rw (get_or-eq_default l 0 h, z j (omega arith)) (turn_zero 0)))
      (lt_or_le j (length l))

-- turns one after the other
pub turned_turned : (l : List ℕ) (t s : ℕ → ℕ) → turned_table (turned_table l t) s ≡ turned_table l (λ j. t j + s j)
turned_turned l t s =
    turned_by_lem l (λ j. t j + s j) (turned_table (turned_table l t) s)
    (turned_length (turned_table l t) s ∙ turned_length l t)
    (λ j h. turned_at (turned_table l t) s j (rw (turned_length l t) h) ∙ ap (λ (x : ℕ). turn (s j) x) (turned_at l t j h) ∙ turn_turn (s j) (t j) (get_or l j 0))

-- the same of a graph
pub by_by : (g : Graph) (t o t' o' : ℕ → ℕ) → turned_by (turned_by g t o) t' o' ≡ turned_by g (λ j. t j + t' j) (λ j. o j + o' j)
unfolding turned_by
by_by g t o t' o' = same_graph g.I g.N g.O (turned_turned g.nodes t t') (turned_turned g.outputs o o')

pub by_same : (g : Graph) (t o t' o' : ℕ → ℕ) → ((j : ℕ) → t j % 2 ≡ t' j % 2) → ((j : ℕ) → o j % 2 ≡ o' j % 2) → turned_by g t o ≡ turned_by g t' o'
unfolding turned_by
by_same g t o t' o' p q = same_graph g.I g.N g.O (turned_even g.nodes t t' (λ j h. p j)) (turned_even g.outputs o o' (λ j h. q j))

pub by_never : (g : Graph) (t o : ℕ → ℕ) → ((j : ℕ) → t j ≡ 0) → ((j : ℕ) → o j ≡ 0) → turned_by g t o ≡ g
unfolding turned_by
by_never g t o p q = same_graph g.I g.N g.O (turned_never g.nodes t p) (turned_never g.outputs o q)

-- neither marks nor what stands past the graph are turned
pub record Sparing (g : Graph) (t o : ℕ → ℕ) : Type 0 where
  pub past : (j : ℕ) → 3 * g.N ≤ j → t j ≡ 0
  pub at_mark : (j : ℕ) → is_edge g j ≡ false → t j ≡ 0
  pub out_past : (j : ℕ) → g.O ≤ j → o j ≡ 0

low_mark : (g : Graph) (adm : Admitted g) (j x : ℕ) → j < 3 * g.N → x / 2 < g.I + 1 + j / 3 → eqb x mark ≡ false
low_mark g adm j x h b = ne_eqb x mark (omega (arith, adm.few_inputs, adm.few_nodes))

-- then every word is the turned one, and the wiring is left
module _ (g : Graph) (t o : ℕ → ℕ) (adm : Admitted g) (s : Sparing g t o) where
  pub by_word : (j : ℕ) → word (turned_by g t o) j ≡ turn (t j) (word g j)
  unfolding turned_by
  by_word = turned_any g.nodes t (3 * g.N) adm.long_nodes s.past

  pub by_out : (j : ℕ) → output (turned_by g t o) j ≡ turn (o j) (output g j)
  unfolding turned_by
  by_out = turned_any g.outputs o g.O adm.long_outputs s.out_past

  by_wired : (j : ℕ) → word (turned_by g t o) j / 2 ≡ word g j / 2
  by_wired j = rw (by_word j) (turn_half _ _)

  by_still : (j : ℕ) → t j ≡ 0 → word (turned_by g t o) j ≡ word g j
  by_still j e = rw (by_word j, e) (turn_zero _)

  by_marked : (j : ℕ) → eqb (word (turned_by g t o) j) mark ≡ eqb (word g j) mark
  by_marked j =
      ⊎_elim
      (λ (h : j < 3 * g.N).
      ⊎_elim
      (λ (e : is_edge g j ≡ true).
      let b = adm.below j h e in
      low_mark g adm j (word (turned_by g t o) j) h (rw (by_wired j) b) ∙ sym (low_mark g adm j (word g j) h b))
      (λ (e : is_edge g j ≡ false). rw (by_still j (s.at_mark j e)))
      (true_or_false (is_edge g j)))
      (λ (h : 3 * g.N ≤ j). rw (by_still j (s.past j h)))
      (lt_or_le j (3 * g.N))

  pub by_alike : Alike g (turned_by g t o)
  unfolding turned_by
  by_alike =
      record {
        same_I = refl;
        same_N = refl;
        same_O = refl;
        same_nodes = turned_length g.nodes t;
        same_outputs = turned_length g.outputs o;
        wired = by_wired;
        out_wired = λ j. rw (by_out j) (turn_half _ _);
        marked = by_marked;
        past = λ j l. by_still j (s.past j l);
        out_past = λ j l. rw (by_out j, s.out_past j l) (turn_zero _);
      }

-- a sweep: the words of l below j are turned as t says
module _ (l : List ℕ) (t : ℕ → ℕ) where
  pub turned_start : l ≡ turned_table l (up_to 0 t)
  turned_start = sym (turned_never l (up_to 0 t) (λ j. up_to_past 0 t j (omega arith)))

  pub turned_left : (j : ℕ) (m : List ℕ) → m ≡ turned_table l (up_to j t) → j < length l → get_or m j 0 ≡ get_or l j 0
  turned_left j m e h = ap (λ (r : List ℕ). get_or r j 0) e ∙ turned_at l (up_to j t) j h ∙ rw (up_to_past j t j (omega arith)) (turn_zero (get_or l j 0))

  pub turned_more : (j : ℕ) (m k : List ℕ) → m ≡ turned_table l (up_to j t) → k ≡ turned_table m (only j (t j)) → k ≡ turned_table l (up_to (j + 1) t)
  turned_more j m k e f =
      f ∙ ap (λ (y : List ℕ). turned_table y (only j (t j))) e ∙ turned_turned l (up_to j t) (only j (t j)) ∙ turned_same l _ _ (λ i p. up_to_next j t i)

-- each as often as a function of its place and the word says
abbrev pub SweptTo : (ℕ → ℕ → ℕ) → List ℕ → ℕ → List ℕ → Type 0
SweptTo τ l j m = m ≡ turned_table l (up_to j (λ i. τ i (get_or l i 0)))

module _ (τ : ℕ → ℕ → ℕ) (l : List ℕ) where
  abbrev often : ℕ → ℕ
  often i = τ i (get_or l i 0)

  pub swept_none : SweptTo τ l 0 l
  swept_none = turned_start l often

  pub swept_length : (j : ℕ) (m : List ℕ) → SweptTo τ l j m → length m ≡ length l
  swept_length j m e = ap length e ∙ turned_length l (up_to j often)

  pub swept_held : (j : ℕ) (m : List ℕ) → SweptTo τ l j m → held m ≡ held l
  swept_held j m e = ap held e ∙ turned_held l (up_to j often)

  pub swept_left : (j : ℕ) (m : List ℕ) → SweptTo τ l j m → j < length l → get_or m j 0 ≡ get_or l j 0
  swept_left = turned_left l often

  -- what turning the word at place j asks
  pub swept_turn : (n j x t : ℕ) (m : List ℕ) → j < n → n ≤ held l → Low τ n l → SweptTo τ l j m → x ≡ get_or m j 0 → t ≡ τ j x → t ≤ 2
      → (t ≤ 2) × (j < length m) × ((0 < t) → index (get_or m j 0) < 2147483647)
  swept_turn n j x t m h b low e r q two =
      let k : j < length l = omega (arith, held_le l) in
      let w = swept_left j m e k in
      (two, omega (arith, swept_length j m e), (λ p. rw w (low j h (rw (q, r, w) at p))))

  -- what the leaves say of place j: the sweep is one place further
  pub swept_next : (j x t : ℕ) (m k : List ℕ) → j < held l → SweptTo τ l j m → x ≡ get_or m j 0 → t ≡ τ j x → k ≡ turned_table m (only j t) → SweptTo τ l (j + 1) k
  swept_next j x t m k h e r q f =
      turned_more l often j m k e (f ∙ ap (λ (y : ℕ). turned_table m (only j y)) (q ∙ ap (λ (y : ℕ). τ j y) (r ∙ swept_left j m e (omega (arith, held_le l)))))

  pub swept_all : (e j : ℕ) (m : List ℕ) → j ≡ e → SweptTo τ l j m → SweptTo τ l e m
  swept_all e j m q s = rw q at s

-- a table with one word stored that is a turned one
pub table_set : (l : List ℕ) (j t x : ℕ) → j < length l → x ≡ turn t (get_or l j 0) → set l j x ≡ turned_table l (only j t)
table_set l j t x h e =
    turned_by_lem l (only j t) (set l j x) (length-set l j x)
    (λ i k.
    ⊎_elim
    (λ (q : i ≡ j). rw (q, only_at j t) (get_or-set_same l j x 0 h ∙ e))
    (λ (q : i ≢ j). rw (only_off j t i q) (get_or-set_other l j i x 0 q ∙ sym (turn_zero (get_or l i 0))))
    (eq_or_ne i j))

-- What a graph's turns are made of: up to a place, and at one place.
pub up_to_zero : (k : ℕ) (t : ℕ → ℕ) (i : ℕ) → t i ≡ 0 → up_to k t i ≡ 0
unfolding up_to if_less
up_to_zero k t i e = rw (e, cond_same)

pub up_to_adds : (k : ℕ) (a b c : ℕ → ℕ) (i : ℕ) → a i % 2 ≡ (b i + c i) % 2 → up_to k a i % 2 ≡ (up_to k b i + up_to k c i) % 2
up_to_adds k a b c i e =
    ⊎_elim
    (λ (h : i < k). rw (up_to_in k a i h, up_to_in k b i h, up_to_in k c i h) e)
    (λ (h : k ≤ i). rw (up_to_past k a i h, up_to_past k b i h, up_to_past k c i h))
    (lt_or_le i k)

pub only_zero : (j i : ℕ) → only j 0 i ≡ 0
unfolding only if_equal
only_zero j i = cond_same (eqb i j) 0

-- one word turned, and no mark: marks and tails are spared
pub only_sparing : (g : Graph) (j f : ℕ) → j < 3 * g.N → (is_edge g j ≡ false → f ≡ 0) → Sparing g (only j f) never
only_sparing g j f h e =
    record {
      past = λ i l. only_off j f i (omega arith);
      at_mark = λ i q. ⊎_elim (λ (w : i ≡ j). rw (w, only_at j f) (e (rw w at q))) (λ (w : i ≢ j). only_off j f i w) (eq_or_ne i j);
      out_past = λ i l. refl;
    }
