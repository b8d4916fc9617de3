-- A sheet of calls that are accepted ends where all its moves do, one by one. From every order of a call's moves (crate many), and from
-- the order of moves.
use mathlib.Core.Path.{◌≡◌, refl, sym, ap, ◌∙◌}
use mathlib.Core.Bool.{true}
use mathlib.Core.List.Perm
use mathlib.Core.List.{List, [], ◌∷◌, ◌++◌}
use Prim.Native.Nat.{ℕ, suc, ◌<◌}
use native.Mathlib.Omega.{arith}
use lib.ListN.{length, get_or}
use Rattle.graph.specs.Admission.{Admitted}
use Rattle.graph.specs.Graph.{Graph}
use Rattle.graph.specs.Answer.{Outcome, outcome, whole}
use Rattle.graph.specs.Count.{C}
use Rattle.graph.specs.Finite.{difference}
use Rattle.graph.proofs.Answers.{accepted_outcome}
use Rattle.graph.proofs.Tests.{both, passes, each_none}
use Rattle.moves.specs.Apply.{none, put, apply}
use Rattle.moves.specs.Call.{is_node, node_fault, moved}
use Rattle.moves.specs.Rows.{kind_moves}
use Rattle.moves.proofs.Apply.{admitted}
use Rattle.many.specs.Many.{Entry, entries, one_by_one, entry_number, list_number, many_number, many_call}
use Rattle.many.proofs.EveryOrder.{every_order}
use Rattle.many.proofs.Refusing.{entry_has}
use Rattle.order.specs.Order.{Moves}
use Rattle.order.specs.Sheets.{Listing, sheet_graph, AllAccepted, written, SheetsCompared}
use Rattle.order.proofs.Combining.{list_back}
use Rattle.order.proofs.Order.{moves_both, order}

-- one list after the other
then_more : (g : Graph) (es fs : List Entry) → one_by_one g (es ++ fs) ≡ one_by_one (one_by_one g es) fs
unfolding one_by_one
then_more g [] fs = refl
then_more g (e ∷ es) fs = then_more (moved g (e.node ∷ []) (e.move ∷ [])) es fs

-- entries that are nodes' with moves of their kinds
listed : (g : Graph) (us ms : List ℕ) → ((j : ℕ) → j < length us → (is_node g (get_or us j 0) ≡ true) × (get_or ms j 0 < kind_moves g (get_or us j 0))) → Moves g (entries us ms)
unfolding entries
listed g [] ms h = tt
listed g (u ∷ us) [] h = tt
listed g (u ∷ us) (k ∷ ms) h = let a = h 0 (omega arith) in (a.0, a.1, listed g us ms (λ j l. h (suc j) (omega arith)))

-- a call that is accepted
module _ (g : Graph) (ls us ms : List ℕ) (z : many_number g ls us ms ≡ 0) where
  entry_node : (j : ℕ) → entry_number g ls us ms j ≡ 0 → is_node g (get_or us j 0) ≡ true
  unfolding entry_number node_fault
  entry_node j e = passes (is_node g (get_or us j 0)) 6 (both _ _ e).0

  entries_none : (j : ℕ) → j < length us → entry_number g ls us ms j ≡ 0
  unfolding many_number list_number
  entries_none = each_none (length us) (entry_number g ls us ms) (both _ _ (both _ _ (both _ _ z).1).1).1

  call_moves : Moves g (entries us ms)
  call_moves = listed g us ms (λ j l. let e = entries_none j l in (entry_node j e, entry_has g ls us ms j e))

  pub call_is : (many_call g ls us ms).graph ≡ moved g us ms
  unfolding many_call
  call_is = let h = moved g us ms in sym (ap (λ (o : Outcome). o.graph) (accepted_outcome (many_number g ls us ms) g (outcome (whole (difference (C g) (C h))) h) z))

  call_made : (many_call g ls us ms).graph ≡ one_by_one g (entries us ms)
  call_made = call_is ∙ sym (every_order g ls us ms z (entries us ms) (Perm.refl (entries us ms)))

  call_applied : (many_call g ls us ms).graph ≡ apply g (put none us ms)
  unfolding moved
  call_applied = call_is

-- the whole sheet
module _ (ls : List ℕ) where
  sheet_moves : (g : Graph) → Admitted g → (ps : List Listing) → AllAccepted g ls ps → Moves g (written ps)
  unfolding written
  sheet_moves g adm [] a = tt
  sheet_moves g adm (p ∷ ps) a =
      let m = put none p.nodes p.moves in
      let e = call_applied g ls p.nodes p.moves a.0 in
      moves_both g (entries p.nodes p.moves) (written ps) (call_moves g ls p.nodes p.moves a.0)
      (list_back g m adm (written ps) (sheet_moves (apply g m) (admitted g m adm) ps (rw e at a.1)))

  sheet_made : (g : Graph) (ps : List Listing) → AllAccepted g ls ps → sheet_graph g ls ps ≡ one_by_one g (written ps)
  unfolding sheet_graph written one_by_one
  sheet_made g [] a = refl
  sheet_made g (p ∷ ps) a =
      sheet_made (many_call g ls p.nodes p.moves).graph ps a.1
      ∙ ap (λ (x : Graph). one_by_one x (written ps)) (call_made g ls p.nodes p.moves a.0)
      ∙ sym (then_more g (entries p.nodes p.moves) (written ps))

  -- M-111 of calls
  pub sheets : (g : Graph) → Admitted g → (ps qs : List Listing) → SheetsCompared g ls ps qs
  sheets g adm ps qs a b =
      let o = order g adm (written ps) (written qs) (sheet_moves g adm ps a) (sheet_moves g adm qs b) in
      let p = sheet_made g ps a in
      let q = sheet_made g qs b in
      ((λ e. o.0 (sym p ∙ e ∙ q)), (λ c. p ∙ o.1 c ∙ sym q))
