-- The call for resistive memory answers on an admitted graph as on the trimmed one, and leaves the trimmed graph of what it leaves. From what is read of a
-- trimmed graph, and from the tree call's number.
use mathlib.Core.Path.{◌≡◌, refl, ap, ◌∙◌, fun_ext}
use mathlib.Core.Bool.{true}
use mathlib.Core.List.{List}
use Prim.Native.Nat.{ℕ, ◌+◌, ◌-◌, ◌*◌, ◌<◌}
use native.Mathlib.Omega.{arith}
use Rattle.graph.specs.Admission.{Admitted}
use Rattle.graph.specs.Finite.{count}
use Rattle.graph.specs.Graph.{Graph, node}
use Rattle.graph.specs.Turned.{turned_by}
use Rattle.graph.proofs.Finite.{sum_same}
use Rattle.moves.specs.Apply.{apply}
use Rattle.moves.specs.Tree.{tree}
use Rattle.moves.specs.Call.{moved, is_node, tree_number}
use Rattle.resistive.specs.Resistive.{odd_inputs, single, singles, key, still_at, best_still, resistive_call}
use Rattle.packed.specs.Old.{trimmed}
use Rattle.packed.proofs.Calls.{tree_number_in}
use Rattle.packed.proofs.Choosing.{trimmed_outcome, guarded_when}
use Rattle.packed.proofs.Trimmed.{node_known, xor_in, adds_in, C_in, root_of_in, tree_in, moves_in_lem, moved_in, rewrite_by_in, tree_alike}

odd_in : (g : Graph) (v : ℕ) → v < g.N → odd_inputs (trimmed g) v ≡ odd_inputs g v
unfolding odd_inputs
odd_in g v l = rw (adds_in g (3 * v + 0) (omega arith), adds_in g (3 * v + 1) (omega arith), adds_in g (3 * v + 2) (omega arith))

single_in : (g : Graph) (v : ℕ) → v < g.N → single (trimmed g) v ≡ single g v
unfolding single
single_in g v l = rw (xor_in g v l, odd_in g v l)

singles_in : (g h : Graph) (r : ℕ) → h.N ≡ g.N → singles (trimmed g) r (trimmed h) ≡ singles g r h
unfolding singles count
singles_in g h r e = sum_same g.N _ _ (λ v l. rw (root_of_in g (node g v), single_in h v (omega arith)))

key_in : (g h : Graph) (r : ℕ) → h.N ≡ g.N → key (trimmed g) r (trimmed h) ≡ key g r h
unfolding key
key_in g h r e = rw (singles_in g h r e, C_in h)

same_nodes : (g : Graph) (us ms : List ℕ) → (moved g us ms).N ≡ g.N
unfolding moved apply turned_by
same_nodes g us ms = refl

still_in : (g : Graph) (ls : List ℕ) (r u : ℕ) → is_node g u ≡ true → still_at (trimmed g) ls r u ≡ still_at g ls r u
unfolding still_at
still_in g ls r u e = let k = node_known g u e in rw (moves_in_lem g ls u e, xor_in g (u - (g.I + 1)) (omega arith))

-- what the best is least by
keys : Graph → (us : List ℕ) → ℕ → List ℕ → ℕ
keys g us r ms = key g r (moved g us ms)

keys_in : (g : Graph) (us : List ℕ) (r : ℕ) → keys (trimmed g) us r ≡ keys g us r
unfolding keys
keys_in g us r = fun_ext (λ ms. ap (key (trimmed g) r) (moved_in g us ms) ∙ key_in g (moved g us ms) r (same_nodes g us ms))

best_still_in : (g : Graph) (ls : List ℕ) (r : ℕ) → best_still (trimmed g) ls r ≡ best_still g ls r
unfolding best_still keys
best_still_in g ls r = rw (tree_in g r, keys_in g (tree g r) r, tree_alike g ls (still_at (trimmed g) ls r) (still_at g ls r) (still_in g ls r) r)

pub resistive_in : (g : Graph) → Admitted g → (ls : List ℕ) (s r : ℕ) → resistive_call (trimmed g) ls s r ≡ trimmed_outcome (resistive_call g ls s r)
unfolding resistive_call
resistive_in g adm ls s r =
    rw (tree_number_in g adm ls s r, tree_in g r, best_still_in g ls r)
    (guarded_when (tree_number g ls s r) g _ _ (λ e. rewrite_by_in g (tree g r) (best_still g ls r)))
