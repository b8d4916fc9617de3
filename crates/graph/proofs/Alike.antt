-- Two graphs that differ in complement bits alone have the same kinds, edges, wiring and readers, and one is admitted where the
-- other is. From the definitions.
use Rattle.std.proofs.Common.{◌≡◌, ℕ, ◌+◌, ◌*◌, ◌/◌, ◌≤◌, eqb, length, sym, ap, ◌∙◌}
use mathlib.Core.Path.{fun_ext}
use Rattle.graph.specs.Admission.{Admitted}
use Rattle.graph.specs.Count.{named, output_named, node_readers, readers}
use Rattle.graph.specs.Finite.{tab}
use Rattle.graph.specs.Graph.{Graph, mark, word, output, is_edge, is_xor, wire, output_wire, wiring}
use Rattle.graph.proofs.Finite.{tab_same}
use Rattle.graph.proofs.Literals.{held_same, strays_same}

pub record Alike (g h : Graph) : Type 0 where
  pub same_I : h.I ≡ g.I
  pub same_N : h.N ≡ g.N
  pub same_O : h.O ≡ g.O
  pub same_nodes : length h.nodes ≡ length g.nodes
  pub same_outputs : length h.outputs ≡ length g.outputs
  pub wired : (j : ℕ) → word h j / 2 ≡ word g j / 2
  pub out_wired : (j : ℕ) → output h j / 2 ≡ output g j / 2
  pub marked : (j : ℕ) → eqb (word h j) mark ≡ eqb (word g j) mark
  pub past : (j : ℕ) → 3 * g.N ≤ j → word h j ≡ word g j
  pub out_past : (j : ℕ) → g.O ≤ j → output h j ≡ output g j

pub alike_then : (g h k : Graph) → Alike g h → Alike h k → Alike g k
alike_then g h k a b =
    record {
      same_I = b.same_I ∙ a.same_I;
      same_N = b.same_N ∙ a.same_N;
      same_O = b.same_O ∙ a.same_O;
      same_nodes = b.same_nodes ∙ a.same_nodes;
      same_outputs = b.same_outputs ∙ a.same_outputs;
      wired = λ j. b.wired j ∙ a.wired j;
      out_wired = λ j. b.out_wired j ∙ a.out_wired j;
      marked = λ j. b.marked j ∙ a.marked j;
      past = λ j l. b.past j (rw a.same_N l) ∙ a.past j l;
      out_past = λ j l. b.out_past j (rw a.same_O l) ∙ a.out_past j l;
    }

pub alike_back : (g h : Graph) → Alike g h → Alike h g
alike_back g h a =
    record {
      same_I = sym a.same_I;
      same_N = sym a.same_N;
      same_O = sym a.same_O;
      same_nodes = sym a.same_nodes;
      same_outputs = sym a.same_outputs;
      wired = λ j. sym (a.wired j);
      out_wired = λ j. sym (a.out_wired j);
      marked = λ j. sym (a.marked j);
      past = λ j l. sym (a.past j (rw a.same_N at l));
      out_past = λ j l. sym (a.out_past j (rw a.same_O at l));
    }

module _ (g h : Graph) (a : Alike g h) where
  pub alike_edge : (j : ℕ) → is_edge h j ≡ is_edge g j
  unfolding is_edge
  alike_edge j = rw (a.marked j)

  pub alike_xor : (v : ℕ) → is_xor h v ≡ is_xor g v
  unfolding is_xor
  alike_xor v = a.marked (3 * v + 2)

  wire_same : (j : ℕ) → wire h j ≡ wire g j
  unfolding wire
  wire_same j = rw (alike_edge j, a.wired j)

  output_wire_same : (j : ℕ) → output_wire h j ≡ output_wire g j
  unfolding output_wire
  output_wire_same j = a.out_wired j

  pub alike_wiring : wiring h ≡ wiring g
  unfolding wiring
  alike_wiring =
      let ns : tab (3 * h.N) (wire h) ≡ tab (3 * g.N) (wire g) = ap (λ n. tab (3 * n) (wire h)) a.same_N ∙ tab_same (3 * g.N) _ _ (λ j l. wire_same j) in
      let os : tab h.O (output_wire h) ≡ tab g.O (output_wire g) = ap (λ n. tab n (output_wire h)) a.same_O ∙ tab_same g.O _ _ (λ j l. output_wire_same j) in
      λ i. record { I = a.same_I i; N = a.same_N i; O = a.same_O i; nodes = ns i; outputs = os i }

  pub alike_named : (u j : ℕ) → named h u j ≡ named g u j
  unfolding named
  alike_named u j = rw (alike_edge j, a.wired j)

  pub alike_out_named : (u j : ℕ) → output_named h u j ≡ output_named g u j
  unfolding output_named
  alike_out_named u j = rw (a.out_wired j)

  pub named_all : (u : ℕ) → named h u ≡ named g u
  named_all u = fun_ext (alike_named u)

  output_named_all : (u : ℕ) → output_named h u ≡ output_named g u
  output_named_all u = fun_ext (alike_out_named u)

  pub alike_node_readers : (u : ℕ) → node_readers h u ≡ node_readers g u
  unfolding node_readers
  alike_node_readers u = rw (named_all u, a.same_N)

  pub alike_readers : (u : ℕ) → readers h u ≡ readers g u
  unfolding readers
  alike_readers u = rw (alike_node_readers u, output_named_all u, a.same_O)

  pub alike_admitted : Admitted g → Admitted h
  alike_admitted m =
      record {
        few_inputs = rw a.same_I m.few_inputs;
        few_nodes = rw a.same_N m.few_nodes;
        few_outputs = rw a.same_O m.few_outputs;
        long_nodes = rw (a.same_N, a.same_nodes) m.long_nodes;
        long_outputs = rw (a.same_O, a.same_outputs) m.long_outputs;
        held_nodes = rw (a.same_N, held_same h.nodes g.nodes a.same_nodes (λ j l. a.wired j)) m.held_nodes;
        held_outputs = rw (a.same_O, held_same h.outputs g.outputs a.same_outputs (λ j l. a.out_wired j)) m.held_outputs;
        clean_nodes = rw (a.same_N, strays_same (3 * g.N) h.nodes g.nodes a.past) m.clean_nodes;
        clean_outputs = rw (a.same_O, strays_same g.O h.outputs g.outputs a.out_past) m.clean_outputs;
        below = λ j l e. rw (a.same_I, a.wired j) (m.below j (rw a.same_N at l) (rw (alike_edge j) at e));
        output_below = λ j l. rw (a.same_I, a.same_N, a.out_wired j) (m.output_below j (rw a.same_O at l));
      }
