-- Two admitted packed graphs have one file just where the words that they need are the same, and that file is the old graph's. From what
-- loading a written file gives (crate tagged_file, RoundTrip), and from the laws of a place.
use mathlib.Core.Path.{◌≡◌, sym, ap, ◌∙◌}
use mathlib.Core.Logic.{⊎_elim, ◌≢◌}
use mathlib.Core.List.{List, [], ◌∷◌, ◌++◌}
use Prim.Native.Nat.{ℕ, zero, suc, ◌+◌, ◌-◌, ◌*◌, ◌/◌, ◌≤◌, ◌<◌}
use native.Mathlib.Omega.{arith}
use lib.Seq.{get_or-take, length-take-le}
use lib.ListN.{length, get_or, take, drop, get_or-append}
use Rattle.graph.specs.Admission.{Admitted, LockBytes}
use Rattle.graph.specs.Answer.{LockedOutcome, locked_outcome, accepted}
use Rattle.graph.specs.Finite.{tab, sum}
use Rattle.graph.specs.Graph.{Graph}
use Rattle.graph.specs.Literals.{bit_at, index_at, literal_of, literals, held, filled, bit_of, words_for, strays}
use Rattle.graph.proofs.Cases.{lt_or_le, eq_or_ne}
use Rattle.graph.proofs.Filled.{filled_in}
use Rattle.graph.proofs.Finite.{length_tab, get_d_tab}
use Rattle.graph.proofs.Literals.{bit_at_le, index_at_le, index_is, literal_bit, held_at, held_all, held_literals, bit_at_lem}
use Rattle.tagged_file.specs.Load.{load_call}
use Rattle.tagged_file.specs.Write.{file_of}
use Rattle.tagged_file.specs.Promises.{SameGraph}
use Rattle.tagged_file.proofs.RoundTrip.{file_same, loads_written}
use Rattle.packed.specs.File.{PackedGraph, as_graph, file, AdmittedPacked, SameWords, SamePacked, OneFile, FileKept}
use Rattle.packed.specs.Old.{Indices, BitWords}
use Rattle.packed.proofs.Old.{old_is}
use Rattle.packed.proofs.Reading.{file_in}
use Rattle.packed.proofs.Slices.{index_told, word_same}

-- a table of n zeros, into which that many literals can be loaded
abbrev zeros : ℕ → List ℕ
zeros n = tab n (λ j. 0)

zeros_held : (n : ℕ) → n ≤ held (zeros n)
zeros_held n = held_all n (zeros n) (omega (arith, length_tab n (λ j. 0))) (λ j l. omega (arith, get_d_tab n (λ j. 0) j l))

-- two admitted graphs with one file: it loads as both
module _ (g h : Graph) (ls ks : List ℕ) (a : Admitted g) (b : Admitted h) (x : LockBytes g.N ls) (y : LockBytes h.N ks) (e : file_of g ls ≡ file_of h ks) where
  abbrev ns : List ℕ
  ns = zeros (3 * g.N + 3 * h.N)

  abbrev os : List ℕ
  os = zeros (g.O + h.O)

  abbrev bytes : List ℕ
  bytes = zeros (g.N + h.N)

  loaded : ◌≡◌ {A = LockedOutcome}
      (locked_outcome (accepted (g.I ∷ g.N ∷ g.O ∷ []))
      (record { I = g.I; N = g.N; O = g.O; nodes = filled (take (3 * g.N) g.nodes) ns; outputs = filled (take g.O g.outputs) os })
      (take g.N ls ++ drop g.N bytes))
      (locked_outcome (accepted (h.I ∷ h.N ∷ h.O ∷ []))
      (record { I = h.I; N = h.N; O = h.O; nodes = filled (take (3 * h.N) h.nodes) ns; outputs = filled (take h.O h.outputs) os })
      (take h.N ks ++ drop h.N bytes))
  loaded =
      let room = zeros_held (3 * g.N + 3 * h.N) in
      let out = zeros_held (g.O + h.O) in
      let long = length_tab (g.N + h.N) (λ j. 0) in
      sym (loads_written g ls a x ns os bytes (omega arith) (omega arith) (omega arith))
      ∙ ap (λ (s : List ℕ). load_call s ns os bytes) e
      ∙ loads_written h ks b y ns os bytes (omega arith) (omega arith) (omega arith)

  same_N : g.N ≡ h.N
  same_N = ap (λ (o : LockedOutcome). o.graph.N) loaded

  same_O : g.O ≡ h.O
  same_O = ap (λ (o : LockedOutcome). o.graph.O) loaded

  -- a word of a filled table
  front : (n : ℕ) (l t : List ℕ) → n ≤ length l → (j : ℕ) → j < n → get_or (filled (take n l) t) j 0 ≡ get_or l j 0
  front n l t p j k = filled_in (take n l) t j (rw (length-take-le n l p) k) ∙ get_or-take n l j 0 k

  lock_front : (n : ℕ) (l t : List ℕ) → n ≤ length l → (j : ℕ) → j < n → get_or (take n l ++ t) j 0 ≡ get_or l j 0
  lock_front n l t p j k = get_or-append (take n l) t 0 j (rw (length-take-le n l p) k) ∙ get_or-take n l j 0 k

  file_told : SameGraph g h ls ks
  file_told =
      record {
        inputs = ap (λ (o : LockedOutcome). o.graph.I) loaded;
        nodes = same_N;
        outputs = same_O;
        words = λ j l.
            sym (front (3 * g.N) g.nodes ns a.long_nodes j l)
            ∙ ap (λ (o : LockedOutcome). get_or o.graph.nodes j 0) loaded
            ∙ front (3 * h.N) h.nodes ns b.long_nodes j (omega (arith, same_N));
        output_words = λ j l.
            sym (front g.O g.outputs os a.long_outputs j l)
            ∙ ap (λ (o : LockedOutcome). get_or o.graph.outputs j 0) loaded
            ∙ front h.O h.outputs os b.long_outputs j (omega (arith, same_O));
        locks = λ v l.
            sym (lock_front g.N ls (drop g.N bytes) x.enough v l)
            ∙ ap (λ (o : LockedOutcome). get_or o.locks v 0) loaded
            ∙ lock_front h.N ks (drop h.N bytes) y.enough v (omega (arith, same_N));
      }

sum_zero : (m : ℕ) (f : ℕ → ℕ) → sum m f ≡ 0 → (j : ℕ) → j < m → f j ≡ 0
unfolding sum
sum_zero zero f e j l = absurd (omega arith)
sum_zero (suc m) f e j l = ⊎_elim (λ (q : j ≡ m). rw q (omega arith)) (λ (q : j ≢ m). sum_zero m f (omega arith) j (omega arith)) (eq_or_ne j m)

-- a bit past the last of n literals, in its word
stray : (n : ℕ) (us bs : List ℕ) → n ≤ held (literals us bs) → strays n (literals us bs) ≡ 0 → (j : ℕ) → n ≤ j → j < 64 * words_for n → bit_at bs j ≡ 0
unfolding strays
stray n us bs h z j l k =
    let e : n + (j - n) ≡ j = omega arith in
    sym (bit_at_lem us bs j (omega (arith, held_literals us bs)))
    ∙ rw e at (sum_zero (64 * words_for n - n) (λ i. bit_of (get_or (literals us bs) (n + i) 0)) z (j - n) (omega arith))

-- two tables of n literals
module _ (n : ℕ) (us bs vs ds : List ℕ) (h : n ≤ held (literals us bs)) (k : n ≤ held (literals vs ds)) where
  module _ (clean : strays n (literals us bs) ≡ 0) (clean' : strays n (literals vs ds) ≡ 0) (e : (j : ℕ) → j < n → get_or (literals us bs) j 0 ≡ get_or (literals vs ds) j 0) where
    place : (j : ℕ) → j < n → literal_of (index_at us j) (bit_at bs j) ≡ literal_of (index_at vs j) (bit_at ds j)
    place j l = sym (held_at us bs j (omega arith)) ∙ e j l ∙ held_at vs ds j (omega arith)

    bit_in_lem : (j : ℕ) → j < n → bit_at bs j ≡ bit_at ds j
    bit_in_lem j l =
        sym (literal_bit (index_at us j) (bit_at bs j) (index_at_le us j) (bit_at_le bs j))
        ∙ ap bit_of (place j l)
        ∙ literal_bit (index_at vs j) (bit_at ds j) (index_at_le vs j) (bit_at_le ds j)

    bit_same : (j : ℕ) → j < 64 * words_for n → bit_at bs j ≡ bit_at ds j
    bit_same j l = ⊎_elim (bit_in_lem j) (λ (p : n ≤ j). stray n us bs h clean j p l ∙ sym (stray n vs ds k clean' j p l)) (lt_or_le j n)

    index_same : (j : ℕ) → j < n → index_at us j ≡ index_at vs j
    index_same j l =
        index_told (index_at us j) (index_at vs j) (bit_at bs j) (index_at_le us j) (index_at_le vs j) (bit_at_le bs j)
        (place j l ∙ ap (literal_of (index_at vs j)) (sym (bit_in_lem j l)))

    words_same : Indices us → Indices vs → BitWords bs → BitWords ds → SameWords n us bs vs ds
    words_same iu iv wb wd =
        record {
          indices = λ j l. index_is us j (iu j) ∙ index_same j l ∙ sym (index_is vs j (iv j));
          bits = λ m l. word_same bs ds m (wb m) (wd m) (λ j i. bit_same j (omega arith));
        }

  -- by words
  module _ (s : SameWords n us bs vs ds) where
    literal_same : (j : ℕ) → j < n → get_or (literals us bs) j 0 ≡ get_or (literals vs ds) j 0
    unfolding index_at bit_at
    literal_same j l = held_at us bs j (omega arith) ∙ rw (s.indices j l, s.bits (j / 64) (omega arith)) (sym (held_at vs ds j (omega arith)))

module _ (p q : PackedGraph) where
  told : AdmittedPacked p → AdmittedPacked q → file p ≡ file q → SamePacked p q
  told s t e =
      let w = file_told (as_graph p) (as_graph q) p.locks q.locks s.admitted t.admitted s.locked t.locked e in
      record {
        inputs = w.inputs;
        nodes = w.nodes;
        outputs = w.outputs;
        words =
            words_same (3 * p.N) p.node_table p.node_bits q.node_table q.node_bits s.admitted.held_nodes (rw w.nodes t.admitted.held_nodes)
            s.admitted.clean_nodes (rw w.nodes t.admitted.clean_nodes) w.words s.indices t.indices s.bits t.bits;
        output_words =
            words_same p.O p.output_table p.output_bits q.output_table q.output_bits s.admitted.held_outputs (rw w.outputs t.admitted.held_outputs)
            s.admitted.clean_outputs (rw w.outputs t.admitted.clean_outputs) w.output_words s.output_indices t.output_indices s.output_bits t.output_bits;
        locks = w.locks;
      }

  one : AdmittedPacked p → AdmittedPacked q → SamePacked p q → file p ≡ file q
  one s t e =
      file_same (as_graph p) (as_graph q) p.locks q.locks
      (record {
        inputs = e.inputs;
        nodes = e.nodes;
        outputs = e.outputs;
        words = literal_same (3 * p.N) p.node_table p.node_bits q.node_table q.node_bits s.admitted.held_nodes (rw e.nodes t.admitted.held_nodes) e.words;
        output_words = literal_same p.O p.output_table p.output_bits q.output_table q.output_bits s.admitted.held_outputs (rw e.outputs t.admitted.held_outputs) e.output_words;
        locks = e.locks;
      })

pub one_file : (p q : PackedGraph) → OneFile p q
one_file p q = record { told = told p q; one = one p q }

pub file_kept : (p : PackedGraph) → FileKept p
file_kept p adm =
    sym (file_in (as_graph p) p.locks)
    ∙ ap (λ (g : Graph). file_of g p.locks) (old_is p.I p.N p.O p.node_table p.node_bits p.output_table p.output_bits adm)
