-- What the lock byte of a node says. From the laws on tests.
use mathlib.Core.Path.{◌≡◌, refl, sym, ap, ◌∙◌}
use mathlib.Core.List.{List}
use Prim.Native.Nat.{ℕ, ◌-◌}
use native.Mathlib.Omega.{arith}
use lib.ListN.{get_or}
use Rattle.graph.specs.Finite.{if_equal}
use Rattle.graph.specs.Graph.{Graph, node}
use Rattle.graph.proofs.Tests.{unequal}
use Rattle.moves.specs.Rows.{lock_at}
use Rattle.moves.specs.Call.{node_fault}
use Rattle.moves.proofs.Moves.{lock_of}
use Rattle.moves.proofs.Known.{node_known}
use Rattle.hidden.specs.Call.{lock_fault}

-- a move other than 0 is what a locked node cannot have
pub lock_is : (g : Graph) (ls : List ℕ) (u k v : ℕ) → node_fault g u ≡ 0 → v ≡ u - g.I - 1 → k ≡ if_equal (get_or ls v 0) 1 (if_equal 1 0 0 16) 0 → k ≡ lock_fault g ls u
unfolding lock_fault
lock_is g ls u k v n p e =
    let h = node_known g u n in
    let z : node g v ≡ u = omega (arith, h) in
    let y : get_or ls v 0 ≡ lock_at g ls u = sym (lock_of g ls v (omega (arith, h))) ∙ ap (lock_at g ls) z in
    let w : ◌≡◌ {A = ℕ} (if_equal 1 0 0 16) 16 = sym (unequal 1 0 0 16 (omega arith) refl) in
    rw (e, y, w)
