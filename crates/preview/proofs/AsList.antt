-- The bytes of a preview, as the moves of all nodes, are an accepted list, and it gives the tree call's graph. From the laws of a rising list
-- and of the preview.
use mathlib.Core.Path.{◌≡◌, refl, sym, ap, ◌∙◌, fun_ext}
use mathlib.Core.Bool.{true, false}
use mathlib.Core.List.{List, [], ◌∷◌, map}
use mathlib.Core.Logic.{⊎_elim, ◌≢◌}
use Prim.Native.Nat.{ℕ, zero, suc, ◌+◌, ◌-◌, ◌≤◌, ◌<◌}
use native.Mathlib.Omega.{arith}
use lib.ListN.{length, get_or}
use Rattle.graph.specs.Admission.{admission_number, tables_number, content_number}
use Rattle.graph.specs.Finite.{first}
use Rattle.graph.specs.Graph.{Graph, node}
use Rattle.graph.specs.Answer.{Outcome}
use Rattle.graph.proofs.Answers.{accepted_outcome}
use Rattle.graph.proofs.Cases.{eq_or_ne, true_or_false}
use Rattle.graph.proofs.Finite.{length_tab, get_d_tab}
use Rattle.graph.proofs.Tests.{less, equal, unequal, none, both, all_none, long_slice}
use Rattle.choice.specs.Choice.{Fits}
use Rattle.moves.specs.Apply.{apply}
use Rattle.moves.specs.Apply as choices
use Rattle.moves.specs.Rows.{lock_at, moves_at}
use Rattle.moves.specs.Call.{moved, best_at, is_node, node_fault, move_fault, locked_fault, move_number, tree_number, tree_call}
use Rattle.moves.specs.Tree.{tree}
use Rattle.moves.proofs.Locks.{best_fits, locked_move}
use Rattle.moves.proofs.Moves.{lock_of, moves_pos, moves_no_more}
use Rattle.moves.proofs.Count.{clash}
use Rattle.many.specs.Many.{rising_fault, entry_number, list_number, many_number, many_call}
use Rattle.many.specs.Making.{Rises, chosen}
use Rattle.many.proofs.Rising.{put_out, move_here}
use Rattle.many.proofs.Sweeping.{put_has}
use Rattle.preview.specs.Preview.{tree_moves, moves_told, choice_in, preview_number, preview_bytes, all_nodes, AsList}
use Rattle.preview.proofs.Choices.{choice_at, choice_none}
use Rattle.preview.proofs.SameCall.{node_is, node_of, told_at, tree_accepted, bytes_told, as_tree_call}

-- the list of all nodes
module _ (g : Graph) where
  all_length : length (all_nodes g) ≡ g.N
  unfolding all_nodes
  all_length = length_tab g.N _

  all_at : (v : ℕ) → v < g.N → get_or (all_nodes g) v 0 ≡ node g v
  unfolding all_nodes
  all_at v h = get_d_tab g.N _ v h

  all_rise : Rises (all_nodes g)
  all_rise i j l h = omega (arith, all_length, all_at i (omega (arith, all_length)), all_at j (omega (arith, all_length)))

  -- with a move each it is the choice that the moves tell
  module _ (bs : List ℕ) (b : g.N ≤ length bs) where
    node_chosen : (v : ℕ) → v < g.N → chosen (all_nodes g) bs (node g v) ≡ choice_in g bs (node g v)
    node_chosen v h = sym (move_here (all_nodes g) bs (node g v) v all_rise (omega (arith, all_length)) (omega (arith, all_length)) (all_at v h)) ∙ sym (choice_at g bs v h)

    chosen_is : (u : ℕ) → chosen (all_nodes g) bs u ≡ choice_in g bs u
    chosen_is u =
        ⊎_elim
        (λ (e : is_node g u ≡ true). let k = node_of g u e in rw k.1 at (node_chosen (u - (g.I + 1)) k.0))
        (λ (e : is_node g u ≡ false).
        put_out (all_nodes g) bs choices.none u (λ j h q. let l : j < g.N = omega (arith, all_length) in clash (node_is g j l) (rw (← q, all_at j l) at e))
        ∙ sym (choice_none g bs u e))
        (true_or_false (is_node g u))

    all_moved : moved g (all_nodes g) bs ≡ apply g (choice_in g bs)
    unfolding moved
    all_moved = ap (apply g) (fun_ext chosen_is)

-- the moves of a list that fits are those that nodes have
fits_at : (K : ℕ → ℕ) (us ms : List ℕ) → Fits (map K us) ms → (j : ℕ) → j < length us → get_or ms j 0 < K (get_or us j 0)
fits_at K [] ms f j h = absurd (omega arith)
fits_at K (u ∷ us) [] f j h = absurd f
fits_at K (u ∷ us) (k ∷ ms) f zero h = f.0
fits_at K (u ∷ us) (k ∷ ms) f (suc j) h = fits_at K us ms f.1 j (omega arith)

module _ (g : Graph) (ls bs : List ℕ) (s r : ℕ) (e : preview_number g ls (length bs) s r ≡ 0) where
  abbrev told : List ℕ
  told = preview_bytes g ls bs s r

  long : g.N ≤ length bs
  long = (tree_accepted g ls bs s r e).1

  told_length : length told ≡ length bs
  unfolding moves_told
  told_length = ap length (bytes_told g ls bs s r e) ∙ length_tab _ _

  byte_is : (v : ℕ) → v < g.N → get_or told v 0 ≡ tree_moves g ls r (node g v)
  byte_is v h = ap (λ (l : List ℕ). get_or l v 0) (bytes_told g ls bs s r e) ∙ told_at g ls r bs long v h

  -- each entry is accepted
  moves_had : (u : ℕ) → tree_moves g ls r u < moves_at g ls u
  unfolding tree_moves
  moves_had = put_has (moves_at g ls) (tree g r) (best_at g ls (tree g r)) choices.none (moves_pos g ls) (fits_at (moves_at g ls) (tree g r) (best_at g ls (tree g r)) (best_fits g ls (tree g r)))

  still_locked : (v : ℕ) → v < g.N → lock_at g ls (node g v) ≡ 1 → tree_moves g ls r (node g v) ≡ 0
  unfolding tree_moves
  still_locked v h q = locked_move g ls (tree g r) v h (sym (lock_of g ls v h) ∙ q)

  no_fault : (v : ℕ) → v < g.N → node_fault g (node g v) ≡ 0
  unfolding node_fault
  no_fault v h = rw (node_is g v h)

  rising_fine : (j : ℕ) → j < g.N → rising_fault (all_nodes g) j ≡ 0
  unfolding rising_fault
  rising_fine zero h = refl
  rising_fine (suc j) h = sym (less _ _ 0 14 (all_rise g j (suc j) (omega arith) (omega (arith, all_length g))) refl)

  move_fine : (v : ℕ) → v < g.N → move_fault g (node g v) (tree_moves g ls r (node g v)) ≡ 0
  unfolding move_fault
  move_fine v h = sym (less _ _ 0 15 (omega (arith, moves_had (node g v), moves_no_more g ls (node g v))) refl)

  locked_fine : (v : ℕ) → v < g.N → locked_fault g ls (node g v) (tree_moves g ls r (node g v)) ≡ 0
  unfolding locked_fault
  locked_fine v h =
      ⊎_elim
      (λ (q : lock_at g ls (node g v) ≡ 1). sym (equal _ 1 _ 0 q (equal _ 0 0 16 (still_locked v h q) refl)))
      (λ (n : lock_at g ls (node g v) ≢ 1). sym (unequal _ 1 _ 0 n refl))
      (eq_or_ne (lock_at g ls (node g v)) 1)

  entry_fine : (j : ℕ) → j < g.N → entry_number g ls (all_nodes g) told j ≡ 0
  unfolding entry_number move_number first
  entry_fine j h = rw (all_at g j h, byte_is j h, no_fault j h, rising_fine j h, move_fine j h) (locked_fine j h)

  list_fine : list_number g ls (all_nodes g) told ≡ 0
  unfolding list_number
  list_fine = all_none (length (all_nodes g)) (entry_number g ls (all_nodes g) told) (λ j h. entry_fine j (omega (arith, all_length g)))

  admitted_fine : (tables_number g ls ≡ 0) × (content_number g ls ≡ 0)
  unfolding tree_number admission_number
  admitted_fine = both _ _ (both _ _ (tree_accepted g ls bs s r e).0).0

  number_fine : many_number g ls (all_nodes g) told ≡ 0
  unfolding many_number
  number_fine =
      sym (none _ _ admitted_fine.0
      (none _ _ (sym (long_slice (length told) (length (all_nodes g)) (omega (arith, told_length, all_length g, long)))) (none _ _ admitted_fine.1 (sym list_fine))))

  same : (many_call g ls (all_nodes g) told).graph ≡ (tree_call g ls s r).graph
  unfolding many_call
  same =
      ap (λ (o : Outcome). o.graph) (sym (accepted_outcome (many_number g ls (all_nodes g) told) g _ number_fine))
      ∙ all_moved g told (omega (arith, told_length, long))
      ∙ (as_tree_call g ls bs s r).same_graph e

  pub as_list : AsList g ls bs s r
  as_list = record { accepted = number_fine; same_graph = same }
