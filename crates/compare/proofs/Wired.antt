-- What the words of an admitted graph name is what its index tables hold, so that comparing those compares the wiring. From the laws of literals.
use mathlib.Core.Path.{◌≡◌, sym, ap, ap₂, ◌∙◌}
use mathlib.Core.Bool.{Bool, true, false}
use mathlib.Core.List.{List}
use mathlib.Core.Logic.{⊎_elim, ◌≢◌}
use Prim.Native.Nat.{ℕ, ◌+◌, ◌-◌, ◌*◌, ◌<◌}
use native.Mathlib.Omega.{arith}
use lib.Dec.{eqb}
use lib.ListN.{get_or}
use Rattle.graph.specs.Admission.{Admitted}
use Rattle.graph.specs.Graph.{Graph, index, is_edge, wire, output_wire, mark}
use Rattle.graph.specs.Literals.{index_at, bit_at, literals, held, graph_in}
use Rattle.graph.proofs.Cases.{eq_or_ne, true_or_false}
use Rattle.graph.proofs.Edge.{edge_none}
use Rattle.graph.proofs.Literals.{bit_at_le, index_at_le, edge_parts, held_at, literal_no_mark}
use Rattle.graph.proofs.Words.{edge_low, out_low}
use Rattle.compare.specs.Compare.{passing, wire_in, wired_to}
use Rattle.compare.proofs.Agreeing.{low_wire, high_wire}
use Rattle.compare.proofs.Passing.{passing_same, first_stops, both_pass}

-- an edge's index and bit, and a mark's index
pub raw_edge : (us bs : List ℕ) (j : ℕ) → j < held (literals us bs) → index (get_or (literals us bs) j 0) < 2147483647
    → (index (get_or (literals us bs) j 0) ≡ index_at us j) × (get_or (literals us bs) j 0 ≡ 2 * index_at us j + bit_at bs j)
raw_edge us bs j h l =
    let e = held_at us bs j h in
    let p = edge_parts (index_at us j) (bit_at bs j) (bit_at_le bs j) (rw e at l) in
    let q : get_or (literals us bs) j 0 ≡ 2 * index_at us j + bit_at bs j = e ∙ p.1 in
    (omega (arith, q, bit_at_le bs j), q)

raw_mark : (us bs : List ℕ) (j : ℕ) → j < held (literals us bs) → get_or (literals us bs) j 0 ≡ mark → index_at us j ≡ mark
raw_mark us bs j h m =
    ⊎_elim
    (λ (e : index_at us j ≡ mark). e)
    (λ (n : index_at us j ≢ mark). absurd (literal_no_mark (index_at us j) (bit_at bs j) (index_at_le us j) (bit_at_le bs j) n (sym (held_at us bs j h) ∙ m)))
    (eq_or_ne (index_at us j) mark)

module _ (i n o : ℕ) (us bs vs ds : List ℕ) (adm : Admitted (graph_in i n o us bs vs ds)) where
  abbrev g : Graph
  g = graph_in i n o us bs vs ds

  node_raw : (j : ℕ) → j < 3 * n → wire_in g j ≡ index_at us j
  unfolding wire
  node_raw j l =
      let h : j < held (literals us bs) = omega (arith, adm.held_nodes) in
      low_wire g j l
      ∙ ⊎_elim
      (λ (e : is_edge g j ≡ true). rw e (raw_edge us bs j h (edge_low g adm j l e)).0)
      (λ (e : is_edge g j ≡ false). rw e (sym (raw_mark us bs j h (edge_none g j e).1)))
      (true_or_false (is_edge g j))

  out_raw : (j : ℕ) → j < o → wire_in g (3 * n + j) ≡ index_at vs j
  unfolding output_wire
  out_raw j l =
      let z : 3 * n + j - 3 * n ≡ j = omega arith in
      rw z at (high_wire g (3 * n + j) (omega arith)) ∙ (raw_edge vs ds j (omega (arith, adm.held_outputs)) (out_low g adm j l)).0

module _ (i n o : ℕ) (us bs vs ds us' bs' vs' ds' : List ℕ) (adm : Admitted (graph_in i n o us bs vs ds)) (ok : Admitted (graph_in i n o us' bs' vs' ds')) where
  abbrev first : Graph
  first = graph_in i n o us bs vs ds

  abbrev second : Graph
  second = graph_in i n o us' bs' vs' ds'

  abbrev alike : ℕ → Bool
  alike p = eqb (wire_in first p) (wire_in second p)

  nodes_same : passing (3 * n) (λ j. eqb (index_at us j) (index_at us' j)) ≡ passing (3 * n) alike
  nodes_same =
      passing_same (3 * n) (λ j. eqb (index_at us j) (index_at us' j)) alike (λ j l. ap₂ eqb (sym (node_raw i n o us bs vs ds adm j l)) (sym (node_raw i n o us' bs' vs' ds' ok j l)))

  outs_same : passing o (λ j. eqb (index_at vs j) (index_at vs' j)) ≡ passing o (λ j. alike (3 * n + j))
  outs_same =
      passing_same o (λ j. eqb (index_at vs j) (index_at vs' j)) (λ j. alike (3 * n + j)) (λ j l. ap₂ eqb (sym (out_raw i n o us bs vs ds adm j l)) (sym (out_raw i n o us' bs' vs' ds' ok j l)))

  -- the first place where the index tables differ, among the nodes' words and past them
  pub wired_stops : (k : ℕ) → k ≡ passing (3 * n) (λ j. eqb (index_at us j) (index_at us' j)) → k < 3 * n → k ≡ wired_to first second
  unfolding wired_to
  wired_stops k e l = e ∙ nodes_same ∙ first_stops (3 * n) o alike (omega (arith, e, nodes_same))

  pub wired_on : (k r : ℕ) → k ≡ passing (3 * n) (λ j. eqb (index_at us j) (index_at us' j)) → 3 * n ≡ k → r ≡ passing o (λ j. eqb (index_at vs j) (index_at vs' j)) → 3 * n + r ≡ wired_to first second
  unfolding wired_to
  wired_on k r e l f = ap (λ (y : ℕ). 3 * n + y) (f ∙ outs_same) ∙ both_pass (3 * n) o alike (omega (arith, e, nodes_same))
