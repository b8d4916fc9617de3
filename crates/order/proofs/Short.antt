-- A list of moves as one call: every node, with what its moves combine to. From the laws of a rising list and of a list as one choice.
use mathlib.Core.Path.{◌≡◌, refl, sym, ap, ◌∙◌, fun_ext}
use mathlib.Core.Bool.{true, false}
use mathlib.Core.List.{List, [], ◌∷◌}
use mathlib.Core.Logic.{⊎_elim, ◌≢◌}
use Prim.Native.Nat.{ℕ, zero, suc, ◌+◌, ◌-◌, ◌≤◌, ◌<◌}
use native.Mathlib.Omega.{arith}
use lib.ListN.{length, get_or}
use Rattle.graph.specs.Admission.{Admitted, LockBytes, tables_number, content_number, admission_number}
use Rattle.graph.specs.Finite.{first}
use Rattle.graph.specs.Graph.{Graph, node, is_xor}
use Rattle.graph.proofs.Admit.{admission_none}
use Rattle.graph.proofs.Cases.{eq_or_ne, true_or_false}
use Rattle.graph.proofs.Finite.{length_tab, get_d_tab}
use Rattle.graph.proofs.Tests.{less, equal, unequal, none, both, all_none, long_slice}
use Rattle.moves.specs.Apply.{apply}
use Rattle.moves.specs.Apply as choices
use Rattle.moves.specs.Rows.{lock_at}
use Rattle.moves.specs.Call.{moved, is_node, node_fault, move_fault, locked_fault, move_number}
use Rattle.moves.proofs.Moves.{moves_locked}
use Rattle.moves.proofs.Count.{clash}
use Rattle.many.specs.Many.{Entry, rising_fault, entry_number, list_number, many_number}
use Rattle.many.specs.Making.{Rises, chosen}
use Rattle.many.proofs.Rising.{put_out, move_here}
use Rattle.rounds.proofs.Calls.{is_node_lem}
use Rattle.order.specs.Order.{MovesUnder, combination}
use Rattle.order.specs.Sheets.{every_node, every_move, OneCall, ShortForm}
use Rattle.order.proofs.Combining.{combined_twice, combination_here, combination_other, combination_had, nothing, one_choice}
use Rattle.order.proofs.Order.{no_move, node_of, under}
use Rattle.order.proofs.Sheets.{call_is}

-- every node
module _ (g : Graph) where
  pub every_length : length (every_node g) ≡ g.N
  unfolding every_node
  every_length = length_tab g.N _

  pub every_at : (v : ℕ) → v < g.N → get_or (every_node g) v 0 ≡ node g v
  unfolding every_node
  every_at v h = get_d_tab g.N _ v h

  every_rises : Rises (every_node g)
  every_rises i j l h = omega (arith, every_length, every_at i (omega (arith, every_length)), every_at j (omega (arith, every_length)))

  -- a list of moves at every node has its moves there
  pub node_put : (ms : List ℕ) → g.N ≤ length ms → (v : ℕ) → v < g.N → chosen (every_node g) ms (node g v) ≡ get_or ms v 0
  node_put ms l v h = sym (move_here (every_node g) ms (node g v) v every_rises (omega (arith, every_length)) (omega (arith, every_length)) (every_at v h))

  rising_fine : (j : ℕ) → j < g.N → rising_fault (every_node g) j ≡ 0
  unfolding rising_fault
  rising_fine zero h = refl
  rising_fine (suc j) h = sym (less _ _ 0 14 (every_rises j (suc j) (omega arith) (omega (arith, every_length))) refl)

  no_fault : (v : ℕ) → v < g.N → node_fault g (node g v) ≡ 0
  unfolding node_fault
  no_fault v h = rw (is_node_lem g v h)

  -- with what the moves of a list combine to
  module _ (es : List Entry) where
    moves_length : length (every_move g es) ≡ g.N
    unfolding every_move
    moves_length = length_tab g.N _

    move_at : (v : ℕ) → v < g.N → get_or (every_move g es) v 0 ≡ combination g es (node g v)
    unfolding every_move
    move_at v h = get_d_tab g.N _ v h

    move_fine : (u : ℕ) → move_fault g u (combination g es u) ≡ 0
    unfolding move_fault
    move_fine u = sym (less _ _ 0 15 (combination_had g es u) refl)

    node_chosen : (v : ℕ) → v < g.N → chosen (every_node g) (every_move g es) (node g v) ≡ combination g es (node g v)
    node_chosen v h = node_put (every_move g es) (omega (arith, moves_length)) v h ∙ move_at v h

-- a locked node's moves are all 0
locked_none : (g : Graph) (ls : List ℕ) (es : List Entry) → MovesUnder g ls es → (u : ℕ) → lock_at g ls u ≡ 1 → combination g es u ≡ 0
locked_none g ls [] s u e = nothing g u
locked_none g ls (x ∷ es) s u e =
    ⊎_elim
    (λ (q : u ≡ x.node).
    let z : x.move ≡ 0 = omega (arith, s.1, moves_locked g ls x.node (rw q at e)) in
    let y : combination g es x.node ≡ 0 = rw q at (locked_none g ls es s.2 u e) in
    rw (q, combination_here g x es, z, y) (combined_twice (is_xor g (x.node - (g.I + 1))) 0))
    (λ (n : u ≢ x.node). combination_other g x es u n ∙ locked_none g ls es s.2 u e)
    (eq_or_ne u x.node)

module _ (g : Graph) (adm : Admitted g) (ls : List ℕ) (ok : LockBytes g.N ls) (es : List Entry) (s : MovesUnder g ls es) where
  locked_fine : (u : ℕ) → locked_fault g ls u (combination g es u) ≡ 0
  unfolding locked_fault
  locked_fine u =
      ⊎_elim
      (λ (q : lock_at g ls u ≡ 1). sym (equal _ 1 _ 0 q (equal _ 0 0 16 (locked_none g ls es s u q) refl)))
      (λ (n : lock_at g ls u ≢ 1). sym (unequal _ 1 _ 0 n refl))
      (eq_or_ne (lock_at g ls u) 1)

  entry_fine : (j : ℕ) → j < g.N → entry_number g ls (every_node g) (every_move g es) j ≡ 0
  unfolding entry_number move_number first
  entry_fine j h = rw (every_at g j h, move_at g es j h, no_fault g j h, rising_fine g j h, move_fine g es (node g j)) (locked_fine (node g j))

  list_fine : list_number g ls (every_node g) (every_move g es) ≡ 0
  unfolding list_number
  list_fine = all_none (length (every_node g)) (entry_number g ls (every_node g) (every_move g es)) (λ j h. entry_fine j (omega (arith, every_length g)))

  admitted_fine : (tables_number g ls ≡ 0) × (content_number g ls ≡ 0)
  unfolding admission_number
  admitted_fine = both _ _ (admission_none g adm ls ok)

  number_fine : many_number g ls (every_node g) (every_move g es) ≡ 0
  unfolding many_number
  number_fine =
      sym (none _ _ admitted_fine.0
      (none _ _ (sym (long_slice (length (every_move g es)) (length (every_node g)) (omega (arith, moves_length g es, every_length g)))) (none _ _ admitted_fine.1 (sym list_fine))))

  chosen_is : (u : ℕ) → chosen (every_node g) (every_move g es) u ≡ combination g es u
  chosen_is u =
      ⊎_elim
      (λ (e : is_node g u ≡ true).
      let b = node_of g u e in
      let q : u ≡ node g (u - (g.I + 1)) = omega arith in
      rw q (node_chosen g es (u - (g.I + 1)) (omega arith)))
      (λ (e : is_node g u ≡ false).
      put_out (every_node g) (every_move g es) choices.none u
      (λ j h q. let l : j < g.N = omega (arith, every_length g) in clash (is_node_lem g j l) (rw (← q, every_at g j l) at e))
      ∙ sym (no_move g es (under g adm ls es s) u e))
      (true_or_false (is_node g u))

  all_moved : moved g (every_node g) (every_move g es) ≡ apply g (combination g es)
  unfolding moved
  all_moved = ap (apply g) (fun_ext chosen_is)

  one_call : OneCall g ls es
  one_call =
      record {
        accepted = number_fine;
        same_graph = call_is g ls (every_node g) (every_move g es) number_fine ∙ all_moved ∙ sym (one_choice g adm es (under g adm ls es s));
      }

-- a list of moves that leaves the locked nodes alone is one accepted call
pub short_form : (g : Graph) → Admitted g → (ls : List ℕ) → LockBytes g.N ls → (es : List Entry) → ShortForm g ls es
short_form g adm ls ok es s = one_call g adm ls ok es s
