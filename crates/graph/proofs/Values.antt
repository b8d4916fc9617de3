-- The list of values: its length, its entries, and that each is a bit. Assumes nothing.
use Rattle.std.proofs.Common.{◌≡◌, ℕ, zero, suc, ◌+◌, ◌%◌, ◌<◌, List, [], ◌∷◌, length, get_or, arith, length-append}
use lib.Seq.{get_or_at}
use lib.ListN.{get_or-append}
use Rattle.graph.specs.Graph.{Graph}
use Rattle.graph.specs.Value.{literal_value, node_value, values}
use Rattle.graph.proofs.Finite.{length_tab, get_d_tab}

pub literal_bit : (vs : List ℕ) (x : ℕ) → literal_value vs x < 2
unfolding literal_value
literal_bit vs x = omega arith

module _ (g : Graph) (a : ℕ → ℕ) where
  pub length_values : (n : ℕ) → length (values g a n) ≡ g.I + 1 + n
  unfolding values
  length_values zero = omega (arith, length_tab g.I (λ j. a j % 2))
  length_values (suc n) = omega (arith, length-append (values g a n) (node_value g (values g a n) n ∷ []), length_values n)

  pub values_old : (n i : ℕ) → i < g.I + 1 + n → get_or (values g a (suc n)) i 0 ≡ get_or (values g a n) i 0
  unfolding values
  values_old n i h = get_or-append (values g a n) _ 0 i (rw (length_values n) h)

  pub values_new : (n : ℕ) → get_or (values g a (suc n)) (g.I + 1 + n) 0 ≡ node_value g (values g a n) n
  unfolding values
  values_new n = get_or_at (values g a n) _ [] 0 (g.I + 1 + n) (length_values n)

  pub input_bit : (i : ℕ) → i < g.I + 1 → get_or (values g a 0) i 0 < 2
  unfolding values
  input_bit zero h = omega arith
  input_bit (suc i) h = rw (get_d_tab g.I (λ j. a j % 2) i (omega arith)) (omega arith)
