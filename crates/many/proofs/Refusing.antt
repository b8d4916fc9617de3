-- What refuses an entry, met by the tests on the way, and what an accepted list has. From the laws on tests and on admission.
use mathlib.Core.Path.{◌≡◌, refl}
use mathlib.Core.List.{List}
use mathlib.Core.Logic.{◌≢◌}
use Prim.Native.Nat.{ℕ, zero, suc, ◌+◌, ◌-◌, ◌≤◌, ◌<◌}
use native.Mathlib.Omega.{arith}
use lib.ListN.{length, get_or}
use Rattle.graph.specs.Finite.{if_less, first}
use Rattle.graph.specs.Graph.{Graph, node}
use Rattle.graph.specs.Admission.{Admitted, tables_number, content_number}
use Rattle.graph.specs.Inner.{IsRefusal}
use Rattle.graph.proofs.Tests.{less, no_less, none, both, on, off, each_none}
use Rattle.graph.proofs.Answers.{if_less_le, first_le, first_of_le, tables_le, content_le}
use Rattle.graph.proofs.Admit.{admitted_by}
use Rattle.moves.specs.Rows.{kind_moves}
use Rattle.moves.specs.Call.{node_fault, move_number}
use Rattle.moves.proofs.Known.{node_known, node_fault_le, move_number_le, kind_has}
use Rattle.many.specs.Many.{rising_fault, entry_number, list_number, many_number}
use Rattle.many.specs.Making.{Listed}
use Rattle.many.proofs.Rising.{rises_by}

-- an entry is above the one before
pub first_rises : (us : List ℕ) (j : ℕ) → j ≡ 0 → 0 ≡ rising_fault us j
unfolding rising_fault
first_rises us zero e = refl
first_rises us (suc j) e = absurd (omega arith)

module _ (us : List ℕ) where
  pub later_rises : (j : ℕ) → (j ≡ 0 → ⊥) → get_or us (j - 1) 0 < get_or us j 0 → 0 ≡ rising_fault us j
  unfolding rising_fault
  later_rises zero n h = refl
  later_rises (suc j) n h = let e : suc j - 1 ≡ j = omega arith in less _ _ 0 14 (rw e at h) refl

  pub not_rising : (j : ℕ) → (j ≡ 0 → ⊥) → get_or us j 0 ≤ get_or us (j - 1) 0 → 14 ≡ rising_fault us j
  unfolding rising_fault
  not_rising zero n h = absurd (n refl)
  not_rising (suc j) n h = let e : suc j - 1 ≡ j = omega arith in no_less _ _ 0 14 (rw e at h) refl

above : (us : List ℕ) (j : ℕ) → rising_fault us (suc j) ≡ 0 → get_or us j 0 < get_or us (suc j) 0
unfolding rising_fault
above us j e = (on _ _ 13 0 e).0

-- what the tests of one entry come to
module _ (g : Graph) (ls us ms : List ℕ) (j : ℕ) where
  abbrev u : ℕ
  u = get_or us j 0

  pub entry_move : (m k : ℕ) → node_fault g u ≡ 0 → rising_fault us j ≡ 0 → m ≡ get_or ms j 0 → k ≡ move_number g ls (node g (u - (g.I + 1))) m → k ≡ entry_number g ls us ms j
  unfolding entry_number
  entry_move m k n r s q =
      let i : node g (u - (g.I + 1)) ≡ u = omega (arith, (node_known g u n).0) in
      none _ _ n (none _ _ r (rw (← s) (rw i at q)))

  -- what an accepted entry is
  pub entry_rises : entry_number g ls us ms j ≡ 0 → rising_fault us j ≡ 0
  unfolding entry_number
  entry_rises e = (both _ _ (both _ _ e).1).0

  pub entry_node : entry_number g ls us ms j ≡ 0 → g.I < u
  unfolding entry_number
  entry_node e = (node_known g u (both _ _ e).0).0

  pub entry_has : entry_number g ls us ms j ≡ 0 → get_or ms j 0 < kind_moves g u
  unfolding entry_number
  entry_has e = kind_has g ls u (get_or ms j 0) (both _ _ (both _ _ e).1).1

module _ (g : Graph) (ls us ms : List ℕ) where
  -- what an accepted list may rest on
  pub accepted_many : many_number g ls us ms ≡ 0 → Admitted g × Listed g us ms
  unfolding many_number list_number content_number
  accepted_many e =
      let t = both _ _ e in
      let b = both _ _ t.1 in
      let d = both _ _ b.1 in
      let each = each_none (length us) (entry_number g ls us ms) d.1 in (
        admitted_by g ls t.0 (both _ _ d.0).0,
        record {
          rises = rises_by us (λ j h. above us j (entry_rises g ls us ms (suc j) (each (suc j) h)));
          enough = (off _ _ 3 0 b.0).0;
          nodes = λ j h. entry_node g ls us ms j (each j h);
          have = λ j h. entry_has g ls us ms j (each j h);
        },
      )
