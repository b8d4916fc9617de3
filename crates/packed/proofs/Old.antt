-- The old graph of a packed one is its literals in tables without tails; both are refused alike; and what trims a graph alike before and after
-- keeps packed and old graphs in step. From the laws of a place (crate graph, Literals), and from what is read of a trimmed graph.
use mathlib.Core.Path.{◌≡◌, refl, sym, ap, ◌∙◌}
use mathlib.Core.Logic.{◌⊎◌, inl, inr, ⊎_elim}
use mathlib.Core.List.{List}
use Prim.Native.Nat.{ℕ, ◌+◌, ◌*◌, ◌≤◌, ◌<◌}
use native.Mathlib.Omega.{arith}
use lib.Seq.{ext_get_or, get_or-take, length-take-le}
use lib.ListN.{length, get_or, take}
use Rattle.graph.specs.Admission.{tables_number, word_number, output_number, stray_number, strays_number, literal_number, content_number, admission_number, Admitted}
use Rattle.graph.specs.Finite.{if_equal, first, first_of}
use Rattle.graph.specs.Graph.{Graph, mark}
use Rattle.graph.specs.Inner.{IsWord}
use Rattle.graph.specs.Literals.{bit_at, index_at, literal_of, literals, graph_in, held, strays}
use Rattle.graph.proofs.Finite.{length_tab, get_d_tab}
use Rattle.graph.proofs.Literals.{bit_at_le, index_at_le, literal_low, literal_mark, literal_cases, held_at, held_le, held_all}
use Rattle.graph.proofs.Tests.{no_less, equal, unequal, none}
use Rattle.graph.proofs.Turned.{same_graph}
use Rattle.graph.proofs.Words.{is_word, out_low}
use Rattle.packed.specs.Old.{old_table, old_graph, old_tables_number, old_content_number, old_number, IsOld, SameRule, Packed, RefusedAlike, ToldAlike, InStep, InGraph, trimmed}
use Rattle.packed.proofs.Admitting.{room_same, no_strays}
use Rattle.packed.proofs.Choosing.{first_of_same}
use Rattle.packed.proofs.Trimmed.{word_in, output_in, edge_in}

-- a place that is an index and a bit of a table of literals
module _ (u b : ℕ) (w : u ≤ mark) (h : b ≤ 1) where
  place_is : (u < 2147483647) ⊎ ((u ≡ mark) × (b ≡ 0)) → literal_of u b ≡ if_equal u mark mark (2 * u + b)
  place_is f =
      ⊎_elim
      (λ (l : u < 2147483647). unequal u mark mark (2 * u + b) (omega arith) (literal_low u b l))
      (λ (e : (u ≡ mark) × (b ≡ 0)). equal u mark mark (2 * u + b) e.0 (literal_mark u b (omega (arith, e.0)) (omega (arith, e.0, e.1))))
      f

  place_by : IsWord (literal_of u b) → (u < 2147483647) ⊎ ((u ≡ mark) × (b ≡ 0))
  place_by f =
      literal_cases u b {P = (u < 2147483647) ⊎ ((u ≡ mark) × (b ≡ 0))}
      (λ l q. inl l)
      (λ e q. inr (omega arith, omega arith))
      (λ l n q. absurd (omega (arith, f (omega arith))))

  place_fits : (u < 2147483647) ⊎ ((u ≡ mark) × (b ≡ 0)) → if_equal u mark mark (2 * u + b) < 4294967296
  place_fits f =
      ⊎_elim
      (λ (l : u < 2147483647). rw (← place_is f) (omega (arith, literal_low u b l)))
      (λ (e : (u ≡ mark) × (b ≡ 0)). rw (← place_is f) (omega (arith, literal_mark u b (omega (arith, e.0)) (omega (arith, e.0, e.1)))))
      f

-- the literal at place j
pub old_at : (n : ℕ) (us bs : List ℕ) (j : ℕ) → j < n → get_or (old_table n us bs) j 0 ≡ if_equal (index_at us j) mark mark (2 * index_at us j + bit_at bs j)
unfolding old_table
old_at n us bs j l = get_d_tab n _ j l

pub old_long : (n : ℕ) (us bs : List ℕ) → length (old_table n us bs) ≡ n
unfolding old_table
old_long n us bs = length_tab n _

module _ (n : ℕ) (us bs : List ℕ) (p : Packed n us bs) where
  table_is : take n (literals us bs) ≡ old_table n us bs
  table_is =
      let long : length (take n (literals us bs)) ≡ n = length-take-le n (literals us bs) (omega (arith, held_le (literals us bs), p.room)) in
      ext_get_or 0 _ _ (long ∙ sym (old_long n us bs))
      (λ j l.
      let k : j < n = rw long at l in
      get_or-take n (literals us bs) j 0 k
      ∙ held_at us bs j (omega (arith, p.room))
      ∙ place_is (index_at us j) (bit_at bs j) (index_at_le us j) (bit_at_le bs j) (p.unpacks j k)
      ∙ sym (old_at n us bs j k))

  old_fits : (j : ℕ) → j < n → get_or (old_table n us bs) j 0 < 4294967296
  old_fits j l = rw (old_at n us bs j l) (place_fits (index_at us j) (bit_at bs j) (index_at_le us j) (bit_at_le bs j) (p.unpacks j l))

module _ (i n o : ℕ) (us bs vs ds : List ℕ) where
  abbrev g : Graph
  g = graph_in i n o us bs vs ds

  trimmed_is : Packed (3 * n) us bs → Packed o vs ds → trimmed g ≡ old_graph i n o us bs vs ds
  trimmed_is p q = same_graph i n o (table_is (3 * n) us bs p) (table_is o vs ds q)

  is_old : Packed (3 * n) us bs → Packed o vs ds → IsOld (old_graph i n o us bs vs ds)
  is_old p q =
      record { nodes_long = old_long (3 * n) us bs; outputs_long = old_long o vs ds; words = old_fits (3 * n) us bs p; output_words = old_fits o vs ds q }

  always : Admitted g → Packed (3 * n) us bs × Packed o vs ds
  always adm = (
    record {
      room = adm.held_nodes;
      clean = adm.clean_nodes;
      unpacks = λ j l.
          place_by (index_at us j) (bit_at bs j) (index_at_le us j) (bit_at_le bs j) (rw (held_at us bs j (omega (arith, adm.held_nodes))) at (is_word g adm j l));
    },
    record {
      room = adm.held_outputs;
      clean = adm.clean_outputs;
      unpacks = λ j l.
          place_by (index_at vs j) (bit_at ds j) (index_at_le vs j) (bit_at_le ds j)
          (λ d. rw (held_at vs ds j (omega (arith, adm.held_outputs))) at (out_low g adm j l));
    },
  )

  pub old_is : Admitted g → trimmed g ≡ old_graph i n o us bs vs ds
  old_is adm = let p = always adm in trimmed_is p.0 p.1

-- numbers of a graph without stray bits
module _ (g : Graph) (a : strays (3 * g.N) g.nodes ≡ 0) (b : strays g.O g.outputs ≡ 0) where
  strays_none : strays_number g ≡ 0
  unfolding strays_number stray_number
  strays_none = sym (none _ _ (sym (no_less 0 (strays (3 * g.N) g.nodes) 5 0 (omega arith) refl)) (no_less 0 (strays g.O g.outputs) 5 0 (omega arith) refl))

  literals_are : literal_number g ≡ first (first_of (3 * g.N) (word_number g)) (first_of g.O (output_number g))
  unfolding literal_number
  literals_are = sym (none (strays_number g) _ strays_none refl)

  content_is : (ls : List ℕ) → content_number g ls ≡ old_content_number g ls
  unfolding content_number old_content_number
  content_is ls = rw literals_are

pub same_rule : (g : Graph) (ls : List ℕ) → SameRule g ls
unfolding tables_number old_tables_number
same_rule g ls =
    record {
      tables = λ is.
          room_same g.I g.N g.O (held g.nodes) (held g.outputs) (length g.nodes) (length g.outputs) (length ls)
          (held_all (3 * g.N) g.nodes (omega (arith, is.nodes_long)) (λ j l. omega (arith, is.words j l)))
          (held_all g.O g.outputs (omega (arith, is.outputs_long)) (λ j l. omega (arith, is.output_words j l)))
          (omega (arith, is.nodes_long)) (omega (arith, is.outputs_long));
      content = λ is.
          content_is g (no_strays (3 * g.N) g.nodes (omega (arith, is.nodes_long))) (no_strays g.O g.outputs (omega (arith, is.outputs_long))) ls;
    }

-- the numbers of words
word_number_in : (g : Graph) (j : ℕ) → j < 3 * g.N → word_number (trimmed g) j ≡ word_number g j
unfolding word_number
word_number_in g j l = rw (edge_in g j l, word_in g j l)

output_number_in : (g : Graph) (j : ℕ) → j < g.O → output_number (trimmed g) j ≡ output_number g j
unfolding output_number
output_number_in g j l = rw (output_in g j l)

module _ (i n o : ℕ) (us bs vs ds ls : List ℕ) where
  abbrev p : Graph
  p = graph_in i n o us bs vs ds

  module _ (a : Packed (3 * n) us bs) (b : Packed o vs ds) where
    trimmed_tables : tables_number p ls ≡ old_tables_number (trimmed p) ls
    unfolding tables_number old_tables_number
    trimmed_tables =
        let x = length-take-le (3 * n) (literals us bs) (omega (arith, a.room, held_le (literals us bs))) in
        let y = length-take-le o (literals vs ds) (omega (arith, b.room, held_le (literals vs ds))) in
        rw (x, y) (room_same i n o (held (literals us bs)) (held (literals vs ds)) (3 * n) o (length ls) a.room b.room (omega arith) (omega arith))

    trimmed_content : content_number p ls ≡ old_content_number (trimmed p) ls
    unfolding old_content_number
    trimmed_content =
        rw (first_of_same (3 * n) (word_number (trimmed p)) (word_number p) (word_number_in p), first_of_same o (output_number (trimmed p)) (output_number p) (output_number_in p))
        (content_is p a.clean b.clean ls)

    trimmed_number : admission_number p ls ≡ old_number (trimmed p) ls
    unfolding admission_number old_number
    trimmed_number = rw (trimmed_tables, trimmed_content)

pub refused_alike : (i n o : ℕ) (us bs vs ds : List ℕ) → RefusedAlike i n o us bs vs ds
refused_alike i n o us bs vs ds =
    record {
      is_old = is_old i n o us bs vs ds;
      number = λ a b ls. trimmed_number i n o us bs vs ds ls a b ∙ ap (λ (x : Graph). old_number x ls) (trimmed_is i n o us bs vs ds a b);
      always = always i n o us bs vs ds;
    }

-- what goes by the trimmed graph goes by the old one
pub told_alike : {A : Type 0} (tells : Graph → A) → ((g : Graph) → Admitted g → tells (trimmed g) ≡ tells g) → ToldAlike tells
told_alike tells t i n o us bs vs ds adm = ap tells (sym (old_is i n o us bs vs ds adm)) ∙ t (graph_in i n o us bs vs ds) adm

pub in_step : {A : Type 0} (tells : Graph → A) (after : Graph → Graph) → ((g : Graph) → Admitted g → tells (trimmed g) ≡ tells g)
    → ((g : Graph) → Admitted g → after (trimmed g) ≡ trimmed (after g)) → ((g : Graph) → Admitted g → Admitted (after g)) → InStep tells after
in_step tells after t a k i n o us bs vs ds cs es adm e =
    let g : Graph = graph_in i n o us bs vs ds in
    let h : Graph = graph_in i n o us cs vs es in (
      told_alike tells t i n o us bs vs ds adm,
      ap after (sym (old_is i n o us bs vs ds adm)) ∙ a g adm ∙ ap trimmed e ∙ old_is i n o us cs vs es (rw e at (k g adm)),
    )

pub in_graph : {A : Type 0} (tells : Graph → A) (after : Graph → Graph) → ((g : Graph) → Admitted g → tells (trimmed g) ≡ tells g)
    → ((g : Graph) → Admitted g → trimmed (after (trimmed g)) ≡ trimmed (after g)) → ((g : Graph) → Admitted g → Admitted (after g)) → InGraph tells after
in_graph tells after t a k i n o m us bs vs ds ws cs xs es adm e =
    let g : Graph = graph_in i n o us bs vs ds in (
      told_alike tells t i n o us bs vs ds adm,
      ap (λ (h : Graph). trimmed (after h)) (sym (old_is i n o us bs vs ds adm)) ∙ a g adm ∙ ap trimmed e ∙ old_is i m o ws cs xs es (rw e at (k g adm)),
    )
