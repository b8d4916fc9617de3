-- Pending turns read word by word, and written out. From the laws on what is pending and on sweeps.
use mathlib.Core.Path.{◌≡◌, sym, ap, ◌∙◌}
use mathlib.Core.List.{List}
use mathlib.Core.Logic.{⊎_elim, ◌⊎◌}
use Prim.Native.Nat.{ℕ, ◌+◌, ◌<◌, ◌≤◌}
use native.Mathlib.Omega.{arith}
use Rattle.graph.specs.Graph.{index}
use Rattle.graph.specs.Inner.{Names}
use Rattle.graph.proofs.Cases.{lt_or_le}
use Rattle.moves.proofs.NodeOf.{IsNodeOf, IsNearest, node_found, node_missed, Nearby, nearby}
use Rattle.state.specs.State.{bit_in, pending_at}
use Rattle.state.proofs.Stands.{pending_low, pending_high, pending_node}

-- what is pending is so for a node
pub pending_names : (i n : ℕ) (sc : List ℕ) (u : ℕ) → 0 < pending_at i n sc u → u < i + 1 + n
pending_names i n sc u p = ⊎_elim (λ (h : u < i + 1 + n). h) (λ (h : i + 1 + n ≤ u). absurd (omega (arith, pending_high i n sc u h))) (lt_or_le u (i + 1 + n))

pending_none : (i n : ℕ) (sc : List ℕ) (u : ℕ) → (u ≤ i) ⊎ (i + 1 + n ≤ u) → pending_at i n sc u ≡ 0
pending_none i n sc u = ⊎_elim (pending_low i n sc u) (pending_high i n sc u)

-- what is pending for index u, of which `node_of` gives v
module _ (i n : ℕ) (sc : List ℕ) (u v : ℕ) (is : IsNodeOf i u v) where
  pub missed : n ≤ v → 0 ≡ pending_at i n sc u
  missed l = sym (pending_none i n sc u (node_missed i n u v is l))

  pub found : n ≤ 100000 → v < n → bit_in sc v 0 ≡ pending_at i n sc u
  found few l =
      let f = node_found i n u v is few l in
      ap (λ k. bit_in sc k 0) f.1 ∙ sym (pending_node i n sc u f.0 (omega (arith, f.1)))

-- a sweep reads it of node w, the nearest to v
pub due_nearby : (i n : ℕ) (sc : List ℕ) (u v w : ℕ) → 0 < n → n ≤ 100000 → IsNodeOf i u v → IsNearest n v w
    → Nearby n (pending_at i n sc u) (λ k. bit_in sc k 0) v w
due_nearby i n sc u v w p few is near = nearby i n u v w (pending_at i n sc u) (λ k. bit_in sc k 0) p few is near (pending_node i n sc u) (pending_none i n sc u)

-- by what the index table has: it is the index that the word names, or neither is a node's
pub pending_index : (i n : ℕ) (sc : List ℕ) (x u : ℕ) → i ≤ 4096 → n ≤ 100000 → Names x u → pending_at i n sc u ≡ pending_at i n sc (index x)
pending_index i n sc x u p q names =
    ⊎_elim
    (λ (l : u < 2147483647). ap (pending_at i n sc) (sym (names.low l)))
    (λ (l : 2147483647 ≤ u). pending_high i n sc u (omega arith) ∙ sym (pending_high i n sc (index x) (omega (arith, names.high l))))
    (lt_or_le u 2147483647)
