-- The node, pair, tree and many calls, and a trial, answer on an admitted graph as on the trimmed one, and leave the trimmed graph of what
-- they leave. From what is read of a trimmed graph, and from its numbers.
use mathlib.Core.Path.{◌≡◌, refl, ap}
use mathlib.Core.Bool.{Bool, true, cond}
use mathlib.Core.List.{List, [], ◌∷◌}
use Prim.Native.Nat.{ℕ, ◌+◌, ◌-◌, ◌*◌, ◌≤◌}
use native.Mathlib.Omega.{arith}
use borrow.Author.Tests.{leb-true}
use lib.Dec.{leb}
use lib.ListN.{length, get_or}
use Rattle.graph.specs.Admission.{admission_number, Admitted}
use Rattle.graph.specs.Answer.{whole}
use Rattle.graph.specs.Finite.{first}
use Rattle.graph.specs.Graph.{Graph, is_xor}
use Rattle.graph.proofs.Cases.{cond_le}
use Rattle.graph.proofs.Tests.{both, passes}
use Rattle.moves.specs.Rows.{lock_at}
use Rattle.moves.specs.Tree.{tree}
use Rattle.moves.specs.Call.{moved, moved_c, is_node, node_fault, word_fault, root_fault, scratch_fault, move_fault, locked_fault, move_number, node_number, node_call, named_by, pair_number, pair_rewrite, pair_call, tree_number, tree_call, trial_number, trial_saving, trial_call}
use Rattle.moves.proofs.Readers.{both_true}
use Rattle.many.specs.Many.{rising_fault, entry_number, list_number, many_number, many_call}
use Rattle.packed.specs.Old.{trimmed}
use Rattle.packed.proofs.Admitting.{tables_in, content_in, admission_in}
use Rattle.packed.proofs.Choosing.{trimmed_outcome, cond_when, first_when, first_of_same, unless_when, guarded_when, cond_outcome}
use Rattle.packed.proofs.Trimmed.{node_known, word_in, xor_in, root_in_lem, tree_in, kind_in, moved_in, C_in, rewrite_in, one_in, two_in, tree_moves_lem}

-- what no node fault refuses is a node
pub is_node_by : (g : Graph) (u : ℕ) → node_fault g u ≡ 0 → is_node g u ≡ true
unfolding node_fault
is_node_by g u e = passes (is_node g u) 6 e

is_node_in : (g : Graph) (u : ℕ) → is_node (trimmed g) u ≡ is_node g u
unfolding is_node
is_node_in g u = refl

pub node_fault_in : (g : Graph) (u : ℕ) → node_fault (trimmed g) u ≡ node_fault g u
unfolding node_fault is_node
node_fault_in g u = refl

pub scratch_fault_in : (g : Graph) (s : ℕ) → scratch_fault (trimmed g) s ≡ scratch_fault g s
unfolding scratch_fault
scratch_fault_in g s = refl

pub word_fault_in : (g : Graph) (u k : ℕ) → is_node g u ≡ true → word_fault (trimmed g) u k ≡ word_fault g u k
unfolding word_fault
word_fault_in g u k e = let n = node_known g u e in rw (xor_in g (u - (g.I + 1)) (omega arith))

root_fault_in : (g : Graph) (r : ℕ) → root_fault (trimmed g) r ≡ root_fault g r
unfolding root_fault
root_fault_in g r = rw (root_in_lem g r)

-- a word that a node has is one to three
word_known : (g : Graph) (u k : ℕ) → word_fault g u k ≡ 0 → (1 ≤ k) × (k ≤ 3)
unfolding word_fault
word_known g u k e =
    let x : Bool = is_xor g (u - (g.I + 1)) in
    let b = both_true (leb 1 k) (leb k (cond x 2 3)) (passes _ 6 e) in
    (leb-true 1 k b.0, omega (arith, leb-true k (cond x 2 3) b.1, cond_le x 2 3 3 (omega arith) (omega arith)))

-- what a word of a node names
named_by_in : (g : Graph) (u k : ℕ) → is_node g u ≡ true → word_fault g u k ≡ 0 → named_by (trimmed g) u k ≡ named_by g u k
unfolding named_by
named_by_in g u k e w =
    let n = node_known g u e in
    let b = word_known g u k w in
    rw (word_in g (3 * (u - (g.I + 1)) + (k - 1)) (omega arith))

module _ (g : Graph) (adm : Admitted g) (ls : List ℕ) where
  pub node_number_in : (u : ℕ) → node_number (trimmed g) ls u ≡ node_number g ls u
  unfolding node_number
  node_number_in u = rw (admission_in g adm ls, node_fault_in g u)

  pub node_in : (u : ℕ) → node_call (trimmed g) ls u ≡ trimmed_outcome (node_call g ls u)
  unfolding node_call node_number
  node_in u =
      rw (admission_in g adm ls, node_fault_in g u)
      (guarded_when _ g _ _ (λ e. rewrite_in g ls (u ∷ []) (one_in g ls u (is_node_by g u (both _ _ e).1))))

  pub pair_number_in : (u k : ℕ) → pair_number (trimmed g) ls u k ≡ pair_number g ls u k
  unfolding pair_number
  pair_number_in u k =
      rw (admission_in g adm ls, node_fault_in g u)
      (ap (first (admission_number g ls)) (first_when (node_fault g u) _ _ (λ e. word_fault_in g u k (is_node_by g u e))))

  pub pair_rewrite_in : (u k : ℕ) → is_node g u ≡ true → word_fault g u k ≡ 0 → pair_rewrite (trimmed g) ls u k ≡ trimmed_outcome (pair_rewrite g ls u k)
  unfolding pair_rewrite
  pair_rewrite_in u k n w =
      let p : ℕ = named_by g u k in
      rw (named_by_in g u k n w, is_node_in g p)
      (cond_outcome (is_node g p) _ _ _ _ (λ e. rewrite_in g ls (p ∷ u ∷ []) (two_in g ls p u e n)) refl)

  pair_faults : (u k : ℕ) → pair_number g ls u k ≡ 0 → (node_fault g u ≡ 0) × (word_fault g u k ≡ 0)
  unfolding pair_number
  pair_faults u k e = both _ _ (both _ _ e).1

  pub pair_in : (u k : ℕ) → pair_call (trimmed g) ls u k ≡ trimmed_outcome (pair_call g ls u k)
  unfolding pair_call
  pair_in u k = rw (pair_number_in u k) (guarded_when (pair_number g ls u k) g _ _ (λ e. let f = pair_faults u k e in pair_rewrite_in u k (is_node_by g u f.0) f.1))

  pub tree_number_in : (s r : ℕ) → tree_number (trimmed g) ls s r ≡ tree_number g ls s r
  unfolding tree_number
  tree_number_in s r = rw (admission_in g adm ls, node_fault_in g r, root_fault_in g r, scratch_fault_in g s)

  pub tree_call_in : (s r : ℕ) → tree_call (trimmed g) ls s r ≡ trimmed_outcome (tree_call g ls s r)
  unfolding tree_call
  tree_call_in s r = rw (tree_number_in s r, tree_in g r) (guarded_when (tree_number g ls s r) g _ _ (λ e. rewrite_in g ls (tree g r) (tree_moves_lem g ls r)))

  move_number_in : (u m : ℕ) → is_node g u ≡ true → move_number (trimmed g) ls u m ≡ move_number g ls u m
  unfolding move_number locked_fault lock_at move_fault
  move_number_in u m n = rw (kind_in g u n)

  -- many moves together
  entry_in : (us ms : List ℕ) (j : ℕ) → entry_number (trimmed g) ls us ms j ≡ entry_number g ls us ms j
  unfolding entry_number
  entry_in us ms j =
      let u : ℕ = get_or us j 0 in
      rw (node_fault_in g u) (first_when (node_fault g u) _ _ (λ e. ap (first (rising_fault us j)) (move_number_in u (get_or ms j 0) (is_node_by g u e))))

  list_in : (us ms : List ℕ) → list_number (trimmed g) ls us ms ≡ list_number g ls us ms
  unfolding list_number
  list_in us ms = first_of_same (length us) _ _ (λ j l. entry_in us ms j)

  many_number_in : (us ms : List ℕ) → many_number (trimmed g) ls us ms ≡ many_number g ls us ms
  unfolding many_number
  many_number_in us ms = rw (tables_in g adm ls, content_in g adm ls, list_in us ms)

  pub many_in : (us ms : List ℕ) → many_call (trimmed g) ls us ms ≡ trimmed_outcome (many_call g ls us ms)
  unfolding many_call
  many_in us ms =
      rw (many_number_in us ms, moved_in g us ms, C_in g, C_in (moved g us ms)) (guarded_when (many_number g ls us ms) g _ _ (λ e. refl))

  -- a trial
  trial_faults : (u k a m : ℕ) → trial_number g ls u k a m ≡ 0 → (node_fault g u ≡ 0) × (word_fault g u k ≡ 0)
  unfolding trial_number
  trial_faults u k a m e = pair_faults u k (both _ _ e).0

  trial_number_in : (u k a m : ℕ) → trial_number (trimmed g) ls u k a m ≡ trial_number g ls u k a m
  unfolding trial_number
  trial_number_in u k a m =
      rw (pair_number_in u k)
      (first_when (pair_number g ls u k) _ _
      (λ e.
      let f = pair_faults u k e in
      let n = is_node_by g u f.0 in
      let p : ℕ = named_by g u k in
      rw (named_by_in g u k n f.1, is_node_in g p, move_number_in u m n)
      (ap (λ (x : ℕ). first x (move_number g ls u m)) (cond_when (is_node g p) _ _ 0 (λ t. move_number_in p a t)))))

  saving_in : (u k a m : ℕ) → is_node g u ≡ true → word_fault g u k ≡ 0 → trial_saving (trimmed g) u k a m ≡ trial_saving g u k a m
  unfolding trial_saving moved_c
  saving_in u k a m n w =
      let p : ℕ = named_by g u k in
      let ms : List ℕ = a ∷ m ∷ [] in
      rw (named_by_in g u k n w, is_node_in g p, C_in g, moved_in g (p ∷ u ∷ []) ms, C_in (moved g (p ∷ u ∷ []) ms))

  pub trial_in : (u k a m : ℕ) → trial_call (trimmed g) ls u k a m ≡ trial_call g ls u k a m
  unfolding trial_call
  trial_in u k a m =
      rw (trial_number_in u k a m)
      (unless_when (trial_number g ls u k a m) _ _ (λ e. let f = trial_faults u k a m e in ap whole (saving_in u k a m (is_node_by g u f.0) f.1)))
