-- The outputs' words from the words by index, and a result slice that has them in front. From the laws on rows and sweeps.
use mathlib.Core.Path.{◌≡◌, refl, sym, ap, ◌∙◌}
use mathlib.Core.List.{List}
use Prim.Native.Nat.{ℕ, ◌+◌, ◌*◌, ◌<◌}
use native.Mathlib.Omega.{arith}
use native.Mathlib.Numerals.{add-one}
use lib.ListN.{length, get_or, set}
use Rattle.graph.specs.Finite.{tab}
use Rattle.graph.specs.Graph.{Graph}
use Rattle.graph.specs.Value.{literal_value, output_value}
use Rattle.graph.specs.Admission.{Admitted}
use Rattle.graph.proofs.Edge.{edge_early, edge_third}
use Rattle.graph.proofs.Finite.{tab_same}
use Rattle.graph.proofs.Sweep.{swept, swept_suc}
use Rattle.evaluation.specs.Inner.{by_index, literal_word, output_word_from, nodes_of, NodeBelow, NodeWords}
use Rattle.evaluation.specs.Evaluation.{assignment_at, output_word}
use Rattle.evaluation.proofs.Gather.{gather_same}
use Rattle.evaluation.proofs.Rows.{values_of_nodes}

output_word_from_is : (ws outputs : List ℕ) (o : ℕ) → output_word_from ws outputs o ≡ literal_word ws (get_or outputs o 0)
unfolding output_word_from
output_word_from_is ws outputs o = refl

-- one output more
pub swept_next : (ws outputs before after : List ℕ) (o w : ℕ) → o < length before → after ≡ swept (output_word_from ws outputs) before o
    → w ≡ literal_word ws (get_or outputs o 0) → set after o w ≡ swept (output_word_from ws outputs) before (o + 1)
swept_next ws outputs before after o w h e q =
    rw (add-one o, e, q ∙ sym (output_word_from_is ws outputs o)) (swept_suc (output_word_from ws outputs) before o h)

module _ (g : Graph) where
  pub node_below : Admitted g → (v : ℕ) → v < g.N → NodeBelow g.I g.nodes v
  node_below adm v h =
      record {
        there = omega (arith, adm.held_nodes);
        few = omega (arith, adm.few_inputs, adm.few_nodes);
        first = omega (arith, adm.below (3 * v) (omega arith) (edge_early g (3 * v) (omega arith)));
        second = omega (arith, adm.below (3 * v + 1) (omega arith) (edge_early g (3 * v + 1) (omega arith)));
        third = λ n. omega (arith, adm.below (3 * v + 2) (omega arith) (edge_third g (3 * v + 2) (omega arith) n));
      }

  -- the outputs' words, from the words of all nodes
  pub output_words : (words node_words : List ℕ) → NodeWords (nodes_of g.I g.N g.nodes) words node_words g.N
      → tab g.O (output_word_from (by_index g.I words node_words) g.outputs) ≡ tab g.O (output_word g words)
  unfolding output_word_from literal_word output_word output_value
  output_words words node_words e =
      tab_same g.O _ _ (λ o h. gather_same _ _ 64 (λ j l.
      ap (λ (vs : List ℕ). literal_value vs (get_or g.outputs o 0)) (e j l ∙ values_of_nodes g (assignment_at words j) g.N)))
