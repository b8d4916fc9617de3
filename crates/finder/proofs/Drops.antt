-- The drop as a whole: what is moved together is the definition's graph. From the laws on compaction, on moved words and on what is kept.
use mathlib.Core.Path.{◌≡◌, sym, ap, ◌∙◌}
use mathlib.Core.Bool.{Bool, true, false, cond, not, ◌&&◌}
use mathlib.Core.Logic.{⊎_elim}
use mathlib.Core.List.{List}
use Prim.Native.Nat.{ℕ, ◌+◌, ◌-◌, ◌*◌, ◌/◌, ◌%◌, ◌≤◌, ◌<◌}
use native.Mathlib.Omega.{arith}
use lib.Dec.{eqb}
use lib.ListN.{length, get_or}
use lib.Seq.{ext_get_or}
use Rattle.graph.specs.Admission.{Admitted}
use Rattle.graph.specs.Graph.{Graph, graph_of, mark, node, word, output, is_edge}
use Rattle.graph.proofs.Cases.{true_or_false, lt_or_le}
use Rattle.graph.proofs.Finite.{length_tab, get_d_tab}
use Rattle.graph.proofs.Tests.{less, no_less}
use Rattle.hidden.specs.Drop.{live, kept, new_word, new_nodes, new_outputs, new_locks, keeping, dropped, dropped_locks}
use Rattle.hidden.proofs.Kept.{rank, Stands, stands}
use Rattle.hidden.proofs.Keeping.{Closed}
use Rattle.finder.specs.Numbering.{rank_of, Numbers}
use Rattle.finder.specs.Compacting.{Holds, NodeHolds, OutputsMoved, Compacted, Moves, Cleared}
use Rattle.finder.proofs.Ranks.{rank_low}
use Rattle.finder.proofs.Moved.{word_moved, output_moved}

module _ (g : Graph) (l : ℕ → Bool) (ls₀ : List ℕ) (t : ℕ) (ns ls : List ℕ) (c : Compacted g l ls₀ g.N t ns ls) where
  stands_at : (j : ℕ) → j < rank_of l g.N → Stands l g.N j (get_or (kept l g.N) j 0)
  unfolding rank
  stands_at j h = stands l g.N j h

  place_at : (j w : ℕ) → Stands l g.N j w → rank_of l w ≡ j
  unfolding rank
  place_at j w s = s.place

  front_word : (j : ℕ) → j < 3 * rank_of l g.N → get_or ns j 0 ≡ new_word g l (3 * get_or (kept l g.N) (j / 3) 0 + j % 3)
  front_word j h =
      let w : ℕ = get_or (kept l g.N) (j / 3) 0 in
      let s : Stands l g.N (j / 3) (get_or (kept l g.N) (j / 3) 0) = stands_at (j / 3) (omega arith) in
      let e : 3 * rank_of l (get_or (kept l g.N) (j / 3) 0) + j % 3 ≡ j = omega (arith, place_at (j / 3) (get_or (kept l g.N) (j / 3) 0) s) in
      ap (λ (k : ℕ). get_or ns k 0) (sym e) ∙ c.done (get_or (kept l g.N) (j / 3) 0) (j % 3) s.within s.lives (omega arith)

  front_lock : (j : ℕ) → j < rank_of l g.N → get_or ls j 0 ≡ get_or ls₀ (get_or (kept l g.N) j 0) 0
  front_lock j h =
      let s : Stands l g.N j (get_or (kept l g.N) j 0) = stands_at j h in
      ap (λ (k : ℕ). get_or ls k 0) (sym (place_at j (get_or (kept l g.N) j 0) s)) ∙ c.locks_done (get_or (kept l g.N) j 0) s.within s.lives

  pub nodes_cut : (ns' : List ℕ) → Cleared (3 * t) (3 * g.N) ns ns' → ns' ≡ new_nodes g l
  unfolding new_nodes
  nodes_cut ns' z =
      ext_get_or 0 _ _ (z.same ∙ c.same ∙ sym (length_tab _ _))
      (λ j h.
      let b : j < length g.nodes = omega (arith, h, z.same, c.same) in
      ⊎_elim
      (λ (p : j < 3 * rank_of l g.N).
      z.below j (omega (arith, p, c.count)) ∙ less j (3 * rank_of l g.N) _ _ p (front_word j p))
      (λ (p : 3 * rank_of l g.N ≤ j).
      no_less j (3 * rank_of l g.N) _ _ p
      (⊎_elim
      (λ (q : j < 3 * g.N). less j (3 * g.N) 0 (word g j) q (z.zero j (omega (arith, p, c.count)) q))
      (λ (q : 3 * g.N ≤ j). no_less j (3 * g.N) 0 (word g j) q (z.above j q ∙ c.due j (omega (arith, p, c.count))))
      (lt_or_le j (3 * g.N))))
      (lt_or_le j (3 * rank_of l g.N))
      ∙ sym (get_d_tab _ _ j b))

  pub locks_cut : (ls' : List ℕ) → Cleared t g.N ls ls' → ls' ≡ new_locks g ls₀ l
  unfolding new_locks
  locks_cut ls' z =
      ext_get_or 0 _ _ (z.same ∙ c.same_locks ∙ sym (length_tab _ _))
      (λ j h.
      let b : j < length ls₀ = omega (arith, h, z.same, c.same_locks) in
      ⊎_elim
      (λ (p : j < rank_of l g.N).
      z.below j (omega (arith, p, c.count)) ∙ less j (rank_of l g.N) _ _ p (front_lock j p))
      (λ (p : rank_of l g.N ≤ j).
      no_less j (rank_of l g.N) _ _ p
      (⊎_elim
      (λ (q : j < g.N). less j g.N 0 (get_or ls₀ j 0) q (z.zero j (omega (arith, p, c.count)) q))
      (λ (q : g.N ≤ j). no_less j g.N 0 (get_or ls₀ j 0) q (z.above j q ∙ c.locks_due j (omega (arith, p, c.count))))
      (lt_or_le j g.N)))
      (lt_or_le j (rank_of l g.N))
      ∙ sym (get_d_tab _ _ j b))

module _ (g : Graph) (adm : Admitted g) (l : ℕ → Bool) (closed : Closed g l) (sc : List ℕ) (m : Numbers g.I l g.N sc) where
  pub moves_here_lem : Moves g l sc
  moves_here_lem = record { numbers = m; words = λ v k h e b. word_moved g l sc m adm closed v k h e b }

  small : (w : ℕ) → w < g.N → get_or sc w 0 < 1000000
  small w h =
      ⊎_elim
      (λ (e : l w ≡ true). let z : get_or sc w 0 ≡ cond true (g.I + 1 + rank_of l w) 0 = rw e at (m w h) in omega (arith, z, rank_low l w, adm.few_inputs, adm.few_nodes))
      (λ (e : l w ≡ false). let z : get_or sc w 0 ≡ cond false (g.I + 1 + rank_of l w) 0 = rw e at (m w h) in omega (arith, z))
      (true_or_false (l w))

  module _ (long : g.N ≤ length sc) where
    literal_holds : (x : ℕ) → x / 2 < node g g.N → Holds g.I sc x
    literal_holds x h =
        record { low = omega (arith, h, adm.few_inputs, adm.few_nodes); number = λ k. (omega arith, small (x / 2 - (g.I + 1)) (omega arith)) }

    pub node_holds : (v : ℕ) → v < g.N → NodeHolds g.I sc g.nodes v
    unfolding is_edge
    node_holds v h k b q =
        let d : not (eqb ((3 * v + k) % 3) 2 && eqb (word g (3 * v + k)) mark) ≡ true = rw q in
        literal_holds (word g (3 * v + k)) (omega (arith, adm.below (3 * v + k) (omega arith) d))

    pub output_holds : (j : ℕ) → j < g.O → Holds g.I sc (output g j)
    output_holds j h = literal_holds (output g j) (adm.output_below j h)

  pub outputs_cut : (os' : List ℕ) → OutputsMoved g.I g.O sc g.outputs os' → os' ≡ new_outputs g l
  unfolding new_outputs
  outputs_cut os' o =
      ext_get_or 0 _ _ (o.same ∙ sym (length_tab _ _))
      (λ j h.
      let b : j < length g.outputs = omega (arith, h, o.same) in
      ⊎_elim
      (λ (p : j < g.O). o.done j p ∙ less j g.O _ _ p (output_moved g l sc m (output g j) (adm.output_below j p) (closed.outputs j p)))
      (λ (p : g.O ≤ j). no_less j g.O _ _ p (o.due j p))
      (lt_or_le j g.O)
      ∙ sym (get_d_tab _ _ j b))

pub dropped_is : (g : Graph) (ls : List ℕ) (r : ℕ) (ns os : List ℕ) → r ≡ rank_of (live g ls) g.N → ns ≡ new_nodes g (live g ls) → os ≡ new_outputs g (live g ls) → graph_of g.I r g.O ns os ≡ dropped g ls
unfolding dropped keeping
dropped_is g ls r ns os a b c = rw (a, b, c)

pub locks_are : (g : Graph) (ls ls' : List ℕ) → ls' ≡ new_locks g ls (live g ls) → ls' ≡ dropped_locks g ls
unfolding dropped_locks
locks_are g ls ls' e = e
