-- Words turned place by place, as a listed choice turns them: the graph stays one on which the list can be made, and after both sweeps
-- it is the one that the choice gives. From the laws of a sweep and of graphs alike in kinds and wiring.
use mathlib.Core.Path.{◌≡◌, refl, sym, ap, ap₂, ◌∙◌}
use mathlib.Core.Bool.{Bool, true, false, cond}
use mathlib.Core.List.{List, [], ◌∷◌}
use mathlib.Core.Logic.{⊎_elim, ◌≢◌}
use Prim.Native.Nat.{ℕ, zero, suc, ◌+◌, ◌*◌, ◌/◌, ◌%◌, ◌^◌, ◌≤◌, ◌<◌}
use native.Mathlib.Omega.{arith}
use native.Mathlib.Nat.{zero-div}
use mir.Val.{bool_byte}
use lib.ListN.{length, get_or, replicate, length-replicate}
use Rattle.graph.specs.Admission.{Admitted}
use Rattle.graph.specs.Graph.{Graph, graph_of, node, output, index, is_edge, is_xor}
use Rattle.graph.specs.Finite.{if_less, sum}
use Rattle.graph.specs.Literals.{bit, bit_at, held, strays}
use Rattle.graph.specs.Inner.{three_turns}
use Rattle.graph.specs.Turned.{turned_table, never, only, up_to}
use Rattle.graph.proofs.Alike.{Alike, alike_xor, alike_admitted}
use Rattle.graph.proofs.Cases.{eq_or_ne, lt_or_le}
use Rattle.graph.proofs.Literals.{bit_at_le, held_le}
use Rattle.graph.proofs.Edge.{edge_early, third_majority, third_xor}
use Rattle.graph.proofs.Places.{three_turned}
use Rattle.graph.proofs.Turned.{Sparing, turned_both, turned_held, turned_left, turned_same, turned_never, turned_more, turned_start, up_to_in, up_to_past, up_to_zero, only_at, only_off, by_alike}
use Rattle.moves.specs.Apply.{Choice, none, at, put, own, seen, turns, output_turns, apply}
use Rattle.moves.specs.Call.{moved}
use Rattle.moves.specs.Rows.{arity, first_row, flag, kind_moves, rows}
use Rattle.moves.proofs.Apply.{admitted, turns_past, turns_mark, turns_edge, output_turns_past, output_turns_at}
use Rattle.moves.proofs.Changed.{at_same, at_other, own_by_move, seen_by_move}
use Rattle.moves.proofs.Compose.{alike_turns, seen_low}
use Rattle.moves.proofs.Moves.{kind_moves_lem, kind_pos}
use Rattle.many.specs.Making.{Listed, Ready, Noted, Row, bare, chosen, nodes_to, named}

-- every move of a listed choice is one that its node's kind has
pub put_has : (K : ℕ → ℕ) (us ms : List ℕ) (d : Choice) → ((u : ℕ) → d u < K u) → ((j : ℕ) → j < length us → get_or ms j 0 < K (get_or us j 0)) → (u : ℕ) → put d us ms u < K u
unfolding put
put_has K [] ms d b h u = b u
put_has K (w ∷ us) [] d b h u = b u
put_has K (w ∷ us) (k ∷ ms) d b h u =
    put_has K us ms (at d w k)
    (λ x.
    ⊎_elim
    (λ (e : x ≡ w). rw (e, at_same d w k) (h 0 (omega arith)))
    (λ (n : x ≢ w). rw (at_other d w k x n) (b x))
    (eq_or_ne x w))
    (λ j l. h (suc j) (omega arith)) u

pub chosen_has : (g : Graph) (us ms : List ℕ) → Listed g us ms → (u : ℕ) → chosen us ms u < kind_moves g u
chosen_has g us ms l = put_has (kind_moves g) us ms none (kind_pos g) l.have

-- by the kind that was read
pub kind_row : (g : Graph) (v k : ℕ) (x : Bool) → x ≡ is_xor g v → k < kind_moves g (node g v) → k < arity x
kind_row g v k x q h = rw (q, ← kind_moves_lem g v) h

-- with the words of its nodes turned, and no mark, a graph is alike
nodes_alike : (g : Graph) (t : ℕ → ℕ) (k : List ℕ) → Admitted g → Sparing g t never → k ≡ turned_table g.nodes t → Alike g (graph_of g.I g.N g.O k g.outputs)
nodes_alike g t k adm s e = rw (turned_both g t never k g.outputs e (sym (turned_never g.outputs never (λ j. refl)))) (by_alike g t never adm s)

to_sparing : (g : Graph) (m : Choice) (j : ℕ) → Sparing g (up_to j (turns g m)) never
to_sparing g m j =
    record {
      past = λ i h. up_to_zero j (turns g m) i (turns_past g m i h);
      at_mark = λ i e. up_to_zero j (turns g m) i (turns_mark g m i e);
      out_past = λ i h. refl;
    }

-- a choice looks at the nodes alone
pub bare_seen : (i n o : ℕ) (ns os : List ℕ) (m : Choice) (u : ℕ) → seen (bare i n ns) m u ≡ seen (graph_of i n o ns os) m u
unfolding seen is_xor
bare_seen i n o ns os m u = refl

bare_turns : (i n o : ℕ) (ns os : List ℕ) (m : Choice) (j : ℕ) → turns (bare i n ns) m j ≡ turns (graph_of i n o ns os) m j
unfolding turns own seen is_xor is_edge
bare_turns i n o ns os m j = refl

-- and at kinds
alike_seen : (g h : Graph) → Alike g h → (m : Choice) (u : ℕ) → seen h m u ≡ seen g m u
unfolding seen
alike_seen g h a m u = rw (alike_xor g h a, a.same_I, a.same_N)

no_strays : (l : List ℕ) → strays 0 l ≡ 0
unfolding strays sum
no_strays l = refl

pub bare_admitted : (i n o : ℕ) (ns os : List ℕ) → Admitted (graph_of i n o ns os) → Admitted (bare i n ns)
unfolding is_edge
bare_admitted i n o ns os a =
    record {
      few_inputs = a.few_inputs;
      few_nodes = a.few_nodes;
      few_outputs = omega arith;
      long_nodes = a.long_nodes;
      long_outputs = omega arith;
      held_nodes = a.held_nodes;
      held_outputs = omega arith;
      clean_nodes = a.clean_nodes;
      clean_outputs = no_strays [];
      below = a.below;
      output_below = λ j h. absurd (omega arith);
    }

pub ready_first : (g : Graph) (us ms : List ℕ) → Admitted g → Listed g us ms → Ready g.I g.N g.nodes us ms
unfolding kind_moves is_xor
ready_first g us ms a l = record { admitted = bare_admitted g.I g.N g.O g.nodes g.outputs a; listed = record { rises = l.rises; enough = l.enough; nodes = l.nodes; have = l.have } }

pub made_admitted : (g : Graph) (us ms : List ℕ) → Admitted g → Admitted (moved g us ms)
unfolding moved
made_admitted g us ms adm = admitted g (put none us ms) adm

module _ (i n : ℕ) (us ms : List ℕ) where
  ready_alike : (ns k : List ℕ) → Ready i n ns us ms → Alike (bare i n ns) (bare i n k) → Ready i n k us ms
  unfolding kind_moves
  ready_alike ns k r a =
      record {
        admitted = alike_admitted (bare i n ns) (bare i n k) a r.admitted;
        listed = record {
          rises = r.listed.rises;
          enough = r.listed.enough;
          nodes = r.listed.nodes;
          have = λ j h. rw (alike_xor (bare i n ns) (bare i n k) a) (r.listed.have j h);
        };
      }

-- what turning an edge asks
edge_asks : (i n : ℕ) (m : List ℕ) (j : ℕ) → Admitted (bare i n m) → j < 3 * n → is_edge (bare i n m) j ≡ true → (j < held m) × (index (get_or m j 0) < 104128)
edge_asks i n m j adm h z = (omega (arith, adm.held_nodes), omega (arith, adm.below j h z, adm.few_inputs, adm.few_nodes))

module _ (i n : ℕ) (d : Choice) where
  -- a sweep at its start, and one that has come to place j
  pub to_start : (ns : List ℕ) → ns ≡ nodes_to i n ns d 0
  unfolding nodes_to
  to_start ns = turned_start ns (turns (bare i n ns) d)

  module _ (ns : List ℕ) (j : ℕ) (m : List ℕ) (e : m ≡ nodes_to i n ns d j) where
    to_alike : Admitted (bare i n ns) → Alike (bare i n ns) (bare i n m)
    unfolding nodes_to
    to_alike adm = nodes_alike (bare i n ns) (up_to j (turns (bare i n ns) d)) m adm (to_sparing (bare i n ns) d j) e

    pub ready_to : (us ms : List ℕ) → Ready i n ns us ms → Ready i n m us ms
    ready_to us ms r = ready_alike i n us ms ns m r (to_alike r.admitted)

-- what the words of node v are: two edges, and a third unless it is an XOR
module _ (i n : ℕ) (m : List ℕ) (v : ℕ) (adm : Admitted (bare i n m)) (h : v < n) where
  pub first_asks : (3 * v < held m) × (index (get_or m (3 * v) 0) < 104128)
  first_asks = edge_asks i n m (3 * v) adm (omega arith) (edge_early (bare i n m) _ (λ y. omega arith))

  pub second_asks : (3 * v + 1 < held m) × (index (get_or m (3 * v + 1) 0) < 104128)
  second_asks = edge_asks i n m (3 * v + 1) adm (omega arith) (edge_early (bare i n m) _ (λ y. omega arith))

  pub third_there : 3 * v + 2 < held m
  third_there = omega (arith, adm.held_nodes)

  pub third_asks : (x : Bool) → x ≡ is_xor (bare i n m) v → x ≡ false → index (get_or m (3 * v + 2) 0) < 104128
  third_asks x q z = (edge_asks i n m (3 * v + 2) adm (omega arith) (third_majority (bare i n m) v (sym q ∙ z))).1

-- the row of a move, as it is computed
pub row_is : (x : Bool) (m : ℕ) → m < arity x → Row x m (11088112 / 2 ^ (4 * (2 * bool_byte x + m)) % 16)
unfolding arity flag rows first_row if_less
row_is true zero h = record { first = refl; second = refl; third = refl; readers = refl }
row_is true (suc zero) h = record { first = refl; second = refl; third = refl; readers = refl }
row_is true (suc (suc zero)) h = record { first = refl; second = refl; third = refl; readers = refl }
row_is true (suc (suc (suc zero))) h = record { first = refl; second = refl; third = refl; readers = refl }
row_is true (suc (suc (suc (suc m)))) h = absurd (omega arith)
row_is false zero h = record { first = refl; second = refl; third = refl; readers = refl }
row_is false (suc zero) h = record { first = refl; second = refl; third = refl; readers = refl }
row_is false (suc (suc m)) h = absurd (omega arith)

pub row_low : (x : Bool) (m : ℕ) → m < arity x → 2 * bool_byte x + m < 6
unfolding arity
row_low true m h = omega arith
row_low false m h = omega arith

-- three places further
three_more : (l : List ℕ) (t : ℕ → ℕ) (j : ℕ) (m k : List ℕ) (a b c : ℕ) → m ≡ turned_table l (up_to j t) → a ≡ t j → b ≡ t (j + 1) → c ≡ t (j + 2) → k ≡ turned_table m (three_turns j a b c)
    → k ≡ turned_table l (up_to (j + 3) t)
three_more l t j m k a b c e p q r f =
    let m₁ : List ℕ = turned_table m (only j a) in
    let m₂ : List ℕ = turned_table m₁ (only (j + 1) b) in
    let m₃ : List ℕ = turned_table m₂ (only (j + 2) c) in
    let i₂ : j + 1 + 1 ≡ j + 2 = omega arith in
    let i₃ : j + 2 + 1 ≡ j + 3 = omega arith in
    let e₁ = turned_more l t j m m₁ e (ap (λ (y : ℕ). turned_table m (only j y)) p) in
    let e₂ = turned_more l t (j + 1) m₁ m₂ e₁ (ap (λ (y : ℕ). turned_table m₁ (only (j + 1) y)) q) ∙ ap (λ (y : ℕ). turned_table l (up_to y t)) i₂ in
    let e₃ = turned_more l t (j + 2) m₂ m₃ e₂ (ap (λ (y : ℕ). turned_table m₂ (only (j + 2) y)) r) ∙ ap (λ (y : ℕ). turned_table l (up_to y t)) i₃ in
    f ∙ sym (three_turned m m₁ m₂ m₃ j a b c refl refl refl) ∙ e₃

-- a sweep that has come to node v, and knows of the indices below it
module _ (i n : ℕ) (d : Choice) (ns : List ℕ) (adm : Admitted (bare i n ns)) (bs : List ℕ) (v : ℕ) (b : Noted (bare i n ns) d bs (i + 1 + v)) (h : v < n) (l : List ℕ) (e : l ≡ nodes_to i n ns d (3 * v))
    (x : Bool) (q : x ≡ is_xor (bare i n l) v) (r : ℕ) (w : Row x (d (i + 1 + v)) r) where
  here : Alike (bare i n ns) (bare i n l)
  here = to_alike i n d ns (3 * v) l e adm

  edge_turns : (k j f : ℕ) → k < 3 → j ≡ 3 * v + k → f ≡ flag x (d (i + 1 + v)) k → is_edge (bare i n l) j ≡ true → f + named bs l j ≡ turns (bare i n ns) d j
  unfolding named
  edge_turns k j f c o p z =
      let g : Graph = bare i n l in
      let u : index (get_or l j 0) < i + 1 + v = omega (arith, (alike_admitted (bare i n ns) g here adm).below j (omega arith) z) in
      ap₂ ◌+◌ (own_by_move g d v _ x q k j f c o refl p) (b.below (index (get_or l j 0)) u ∙ sym (alike_seen (bare i n ns) g here d (index (get_or l j 0))))
      ∙ sym (turns_edge g d j (omega arith) z)
      ∙ alike_turns (bare i n ns) g here d j

  third_turns : (k : Bool) → x ≡ k → cond k 0 (r / 4 % 2 + named bs l (3 * v + 2)) ≡ turns (bare i n ns) d (3 * v + 2)
  third_turns true c = sym (sym (alike_turns (bare i n ns) (bare i n l) here d (3 * v + 2)) ∙ turns_mark (bare i n l) d (3 * v + 2) (third_xor (bare i n l) v (sym q ∙ c)))
  third_turns false c = edge_turns 2 (3 * v + 2) _ (omega arith) refl w.third (third_majority (bare i n l) v (sym q ∙ c))

  -- it goes past the node's words
  pub words_turned : (a c z : ℕ) (k : List ℕ) → a ≡ r % 2 + named bs l (3 * v) → c ≡ r / 2 % 2 + named bs l (3 * v + 1) → z ≡ cond x 0 (r / 4 % 2 + named bs l (3 * v + 2))
      → k ≡ turned_table l (three_turns (3 * v) a c z) → k ≡ nodes_to i n ns d (3 * v + 3)
  unfolding nodes_to
  words_turned a c z k p₁ p₂ p₃ f =
      three_more ns (turns (bare i n ns) d) (3 * v) l k a c z e
      (p₁ ∙ edge_turns 0 (3 * v) _ (omega arith) (omega arith) w.first (edge_early (bare i n l) _ (λ y. omega arith)))
      (p₂ ∙ edge_turns 1 (3 * v + 1) _ (omega arith) refl w.second (edge_early (bare i n l) _ (λ y. omega arith)))
      (p₃ ∙ third_turns x refl) f

  -- whether the node's readers are turned
  pub readers_turned_lem : r / 8 % 2 ≡ seen (bare i n ns) d (i + 1 + v)
  readers_turned_lem = seen_by_move (bare i n ns) d v _ x (q ∙ alike_xor (bare i n ns) (bare i n l) here v) (i + 1 + v) _ (omega arith) (omega arith) (omega arith) refl w.readers

-- words of 0 have no bit set
zeros_at : (n k : ℕ) → ◌≡◌ {A = ℕ} (get_or (replicate n 0) k 0) 0
zeros_at zero k = refl
zeros_at (suc n) zero = refl
zeros_at (suc n) (suc k) = zeros_at n k

no_bits : (n w : ℕ) → bit_at (replicate n 0) w ≡ 0
unfolding bit_at bit
no_bits n w = rw (zeros_at n (w / 64)) (ap (λ (x : ℕ). x % 2) (zero-div (2 ^ (w % 64))))

-- what is noted: of nothing, and of one index more
pub noted_none : (g : Graph) (m : Choice) → Noted g m (replicate 1627 0) (g.I + 1)
noted_none g m =
    record {
      room = length-replicate {A = ℕ} 1627 0;
      below = λ w h. no_bits 1627 w ∙ sym (seen_low g m w (omega arith));
      after = λ w h. no_bits 1627 w;
    }

pub noted_next : (g : Graph) (m : Choice) (bs ds : List ℕ) (u t : ℕ) → Noted g m bs u → length ds ≡ length bs → t ≤ 1 → t ≡ seen g m u → ((w : ℕ) → bit_at ds w ≡ (bit_at bs w + only u t w) % 2) → Noted g m ds (u + 1)
noted_next g m bs ds u t b e l s f =
    record {
      room = e ∙ b.room;
      below = λ w h.
          ⊎_elim
          (λ (q : w ≡ u). rw q (f u ∙ rw (b.after u (omega arith), only_at u t) (omega arith) ∙ s))
          (λ (q : w ≢ u). f w ∙ rw (only_off u t w q) (omega (arith, bit_at_le bs w)) ∙ b.below w (omega arith))
          (eq_or_ne w u);
      after = λ w h. f w ∙ rw (b.after w (omega arith), only_off u t w (λ q. omega arith));
    }

-- a table whose words below place j are turned by the bits of the indices that they name
module _ (bs l : List ℕ) (j : ℕ) (m : List ℕ) (e : m ≡ turned_table l (up_to j (named bs l))) (n : ℕ) (h : j < n) (q : n ≤ held l) where
  named_left : get_or m j 0 ≡ get_or l j 0
  named_left = turned_left l (named bs l) j m e (omega (arith, held_le l))

  pub named_asks : index (get_or l j 0) < 104128 → (j < held m) × (index (get_or m j 0) < 104128)
  named_asks b = (omega (arith, ap held e ∙ turned_held l _), omega (arith, named_left))

  pub named_more : (t : ℕ) (k : List ℕ) → t ≡ 0 + named bs m j → k ≡ turned_table m (only j t) → k ≡ turned_table l (up_to (j + 1) (named bs l))
  unfolding named
  named_more t k p f =
      let z : 0 + bit_at bs (index (get_or m j 0)) ≡ bit_at bs (index (get_or l j 0)) = rw named_left (omega arith) in
      turned_more l _ j m k e (f ∙ ap (λ (y : ℕ). turned_table m (only j y)) (p ∙ z))

-- both sweeps
module _ (g : Graph) (us ms ns : List ℕ) (adm : Admitted g) (e : ns ≡ nodes_to g.I g.N g.nodes (chosen us ms) (3 * g.N)) where
  abbrev m : Choice
  m = chosen us ms

  nodes_are : ns ≡ turned_table g.nodes (turns g m)
  unfolding nodes_to
  nodes_are =
      e
      ∙ turned_same g.nodes _ _
      (λ j q.
      ⊎_elim
      (λ (l : j < 3 * g.N). up_to_in (3 * g.N) _ j l ∙ bare_turns g.I g.N g.O g.nodes g.outputs m j)
      (λ (l : 3 * g.N ≤ j). up_to_past (3 * g.N) _ j l ∙ sym (turns_past g m j l))
      (lt_or_le j (3 * g.N)))

  module _ (bs : List ℕ) (b : Noted (bare g.I g.N g.nodes) m bs (g.I + 1 + g.N)) where
    noted_output : (j : ℕ) → j < g.O → named bs g.outputs j ≡ output_turns g m j
    unfolding named
    noted_output j h =
        b.below (index (output g j)) (adm.output_below j h)
        ∙ bare_seen g.I g.N g.O g.nodes g.outputs m (index (output g j))
        ∙ sym (output_turns_at g m j h)

    pub both_made : (os : List ℕ) → os ≡ turned_table g.outputs (up_to g.O (named bs g.outputs)) → graph_of g.I g.N g.O ns os ≡ moved g us ms
    unfolding moved apply
    both_made os f =
        turned_both g (turns g m) (output_turns g m) ns os nodes_are
        (f
        ∙ turned_same g.outputs _ _
        (λ j q.
        ⊎_elim
        (λ (l : j < g.O). up_to_in g.O _ j l ∙ noted_output j l)
        (λ (l : g.O ≤ j). up_to_past g.O _ j l ∙ sym (output_turns_past g m j l))
        (lt_or_le j g.O)))
