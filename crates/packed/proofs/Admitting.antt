-- An admitted graph is admitted without its tables' tails, and refused by the same numbers with any locks. From what is read of a trimmed
-- graph, and from the laws of what a table holds.
use mathlib.Core.Path.{◌≡◌, refl, sym, ap, ◌∙◌}
use mathlib.Core.List.{List}
use Prim.Native.Nat.{ℕ, ◌+◌, ◌-◌, ◌*◌, ◌≤◌}
use native.Mathlib.Omega.{arith}
use lib.Seq.{length-take-le}
use lib.ListN.{length, get_or, take, get_or-eq_default}
use Rattle.graph.specs.Admission.{room_number, tables_number, content_number, admission_number, Admitted}
use Rattle.graph.specs.Finite.{if_less}
use Rattle.graph.specs.Graph.{Graph}
use Rattle.graph.specs.Literals.{held, bit_of, words_for, strays}
use Rattle.graph.proofs.Admit.{literals_none}
use Rattle.graph.proofs.Counted.{sum_none}
use Rattle.graph.proofs.Literals.{bit_other, held_all}
use Rattle.graph.proofs.Tests.{no_less}
use Rattle.graph.proofs.Words.{word_fits, output_fits}
use Rattle.packed.specs.Old.{trimmed}
use Rattle.packed.proofs.Trimmed.{word_in, output_in, edge_in}

-- tables that both hold enough are told alike
pub room_same : (i n o a b c d l : ℕ) → 3 * n ≤ a → o ≤ b → 3 * n ≤ c → o ≤ d → room_number i n o a b l ≡ room_number i n o c d l
unfolding room_number
room_same i n o a b c d l p q r s =
    let z : ℕ = if_less l n 4 0 in
    let e : (x y : ℕ) → 3 * n ≤ x → o ≤ y → if_less x (3 * n) 4 (if_less y o 4 z) ≡ z = λ x y h k. sym (no_less x (3 * n) 4 (if_less y o 4 z) h (no_less y o 4 z k refl)) in
    rw (e a b p q, e c d r s)

-- a table of n literals has no bits past them
pub no_strays : (n : ℕ) (l : List ℕ) → length l ≤ n → strays n l ≡ 0
unfolding strays
no_strays n l h =
    sum_none (64 * words_for n - n) (λ k. bit_of (get_or l (n + k) 0))
    (λ k p. ap bit_of (get_or-eq_default l 0 (omega arith)) ∙ bit_other 0 (omega arith))

module _ (g : Graph) (adm : Admitted g) where
  nodes_long : length (take (3 * g.N) g.nodes) ≡ 3 * g.N
  nodes_long = length-take-le (3 * g.N) g.nodes adm.long_nodes

  outputs_long : length (take g.O g.outputs) ≡ g.O
  outputs_long = length-take-le g.O g.outputs adm.long_outputs

  pub trimmed_admitted : Admitted (trimmed g)
  trimmed_admitted =
      record {
        few_inputs = adm.few_inputs;
        few_nodes = adm.few_nodes;
        few_outputs = adm.few_outputs;
        long_nodes = omega (arith, nodes_long);
        long_outputs = omega (arith, outputs_long);
        held_nodes = held_all (3 * g.N) (take (3 * g.N) g.nodes) (omega (arith, nodes_long)) (λ j l. rw (word_in g j l) (omega (arith, word_fits g adm j l)));
        held_outputs = held_all g.O (take g.O g.outputs) (omega (arith, outputs_long)) (λ j l. rw (output_in g j l) (omega (arith, output_fits g adm j l)));
        clean_nodes = no_strays (3 * g.N) (take (3 * g.N) g.nodes) (omega (arith, nodes_long));
        clean_outputs = no_strays g.O (take g.O g.outputs) (omega (arith, outputs_long));
        below = λ j l e. rw (word_in g j l) (adm.below j l (rw (edge_in g j l) at e));
        output_below = λ j l. rw (output_in g j l) (adm.output_below j l);
      }

  module _ (ls : List ℕ) where
    pub tables_in : tables_number (trimmed g) ls ≡ tables_number g ls
    unfolding tables_number
    tables_in =
        room_same g.I g.N g.O (held (take (3 * g.N) g.nodes)) (held (take g.O g.outputs)) (held g.nodes) (held g.outputs) (length ls)
        trimmed_admitted.held_nodes trimmed_admitted.held_outputs adm.held_nodes adm.held_outputs

    pub content_in : content_number (trimmed g) ls ≡ content_number g ls
    unfolding content_number
    content_in = rw (literals_none (trimmed g) trimmed_admitted, literals_none g adm)

    pub admission_in : admission_number (trimmed g) ls ≡ admission_number g ls
    unfolding admission_number
    admission_in = rw (tables_in, content_in)
