-- What is read of a graph is read of it without its tables' tails too: kinds, edges, C, readers, roots and trees; and to make moves and to
-- trim come to the same in either order. From the definitions, which look at places of the graph alone.
use mathlib.Core.Path.{◌≡◌, refl, sym, ap, ◌∙◌, fun_ext}
use mathlib.Core.Bool.{Bool, true, false, cond}
use mathlib.Core.List.{List, [], ◌∷◌, map}
use Prim.Native.Nat.{ℕ, zero, suc, ◌+◌, ◌-◌, ◌*◌, ◌/◌, ◌≤◌, ◌<◌, min}
use native.Mathlib.Omega.{arith}
use borrow.Author.Tests.{ltb-true}
use lib.Dec.{ltb, eqb}
use lib.Seq.{get_or-take}
use lib.ListN.{length, take, length-take}
use Rattle.graph.specs.Count.{C, node_adds, output_adds, named, output_named, node_readers, readers}
use Rattle.graph.specs.Finite.{sum, count}
use Rattle.graph.specs.Graph.{Graph, node, word, output, is_edge, is_xor, turn}
use Rattle.graph.specs.Turned.{turned_table, turned_by}
use Rattle.graph.proofs.Finite.{sum_same}
use Rattle.graph.proofs.Turned.{turned_length, turned_at, turned_by_lem}
use Rattle.moves.specs.Rows.{flag, kind_moves, lock_at, moves_at}
use Rattle.moves.specs.Apply.{Choice, none, put, seen, own, turns, output_turns, apply}
use Rattle.moves.specs.Tree.{is_root, place, reader, root_in, root_of, members, tree}
use Rattle.moves.specs.Call.{moved, moved_c, best_at, rewrite_by, rewrite, is_node, among, own_adds, other_adds, split}
use Rattle.moves.proofs.Readers.{both_true}
use Rattle.rounds.proofs.Calls.{is_node_lem}
use Rattle.packed.specs.Old.{trimmed}
use Rattle.packed.proofs.Choosing.{trimmed_outcome, cond_when, last_same}

pub node_known : (g : Graph) (u : ℕ) → is_node g u ≡ true → (g.I < u) × (u < node g g.N)
unfolding is_node
node_known g u e = let b = both_true (ltb g.I u) (ltb u (node g g.N)) e in (ltb-true _ _ b.0, ltb-true _ _ b.1)

turned_take : (n : ℕ) (l : List ℕ) (t : ℕ → ℕ) → turned_table (take n l) t ≡ take n (turned_table l t)
turned_take n l t =
    sym (turned_by_lem (take n l) t (take n (turned_table l t))
    (rw (length-take n (turned_table l t), length-take n l, turned_length l t))
    (λ j h.
    let k : j < min n (length l) = rw length-take at h in
    get_or-take n (turned_table l t) j 0 (omega arith) ∙ turned_at l t j (omega arith) ∙ ap (turn (t j)) (sym (get_or-take n l j 0 (omega arith)))))

module _ (g : Graph) where
  pub word_in : (j : ℕ) → j < 3 * g.N → word (trimmed g) j ≡ word g j
  word_in j l = get_or-take (3 * g.N) g.nodes j 0 l

  pub output_in : (j : ℕ) → j < g.O → output (trimmed g) j ≡ output g j
  output_in j l = get_or-take g.O g.outputs j 0 l

  pub edge_in : (j : ℕ) → j < 3 * g.N → is_edge (trimmed g) j ≡ is_edge g j
  unfolding is_edge
  edge_in j l = rw (word_in j l)

  pub xor_in : (v : ℕ) → v < g.N → is_xor (trimmed g) v ≡ is_xor g v
  unfolding is_xor
  xor_in v l = rw (word_in (3 * v + 2) (omega arith))

  -- C and readers
  pub adds_in : (j : ℕ) → j < 3 * g.N → node_adds (trimmed g) j ≡ node_adds g j
  unfolding node_adds
  adds_in j l = rw (word_in j l)

  output_adds_in : (j : ℕ) → j < g.O → output_adds (trimmed g) j ≡ output_adds g j
  unfolding output_adds
  output_adds_in j l = rw (output_in j l)

  outputs_add : sum g.O (output_adds (trimmed g)) ≡ sum g.O (output_adds g)
  outputs_add = sum_same g.O _ _ output_adds_in

  pub C_in : C (trimmed g) ≡ C g
  unfolding C
  C_in = rw (sum_same (3 * g.N) (node_adds (trimmed g)) (node_adds g) adds_in, outputs_add)

  pub named_in : (u j : ℕ) → j < 3 * g.N → named (trimmed g) u j ≡ named g u j
  unfolding named
  named_in u j l = rw (edge_in j l, word_in j l)

  pub output_named_in : (u j : ℕ) → j < g.O → output_named (trimmed g) u j ≡ output_named g u j
  unfolding output_named
  output_named_in u j l = rw (output_in j l)

  pub node_readers_in : (u : ℕ) → node_readers (trimmed g) u ≡ node_readers g u
  unfolding node_readers count
  node_readers_in u = sum_same (3 * g.N) _ _ (λ j l. ap (λ (b : Bool). cond b 1 0) (named_in u j l))

  output_readers_in : (u : ℕ) → count g.O (output_named (trimmed g) u) ≡ count g.O (output_named g u)
  unfolding count
  output_readers_in u = sum_same g.O _ _ (λ j l. ap (λ (b : Bool). cond b 1 0) (output_named_in u j l))

  pub readers_in : (u : ℕ) → readers (trimmed g) u ≡ readers g u
  unfolding readers
  readers_in u = rw (node_readers_in u, output_readers_in u)

  -- roots and trees
  pub root_in_lem : (u : ℕ) → is_root (trimmed g) u ≡ is_root g u
  unfolding is_root
  root_in_lem u = rw (readers_in u, node_readers_in u)

  reader_in : (u : ℕ) → reader (trimmed g) u ≡ reader g u
  unfolding reader place
  reader_in u = ap (λ (j : ℕ). node g (j / 3)) (last_same (3 * g.N) _ _ (named_in u))

  root_in_in : (f u : ℕ) → root_in (trimmed g) f u ≡ root_in g f u
  unfolding root_in
  root_in_in zero u = refl
  root_in_in (suc f) u = rw (root_in_lem u, reader_in u, root_in_in f (reader g u))

  pub root_of_in : (u : ℕ) → root_of (trimmed g) u ≡ root_of g u
  unfolding root_of
  root_of_in u = root_in_in g.N u

  members_in : (r n : ℕ) → members (trimmed g) r n ≡ members g r n
  unfolding members
  members_in r zero = refl
  members_in r (suc n) = rw (root_of_in (node g n), members_in r n)

  pub tree_in : (r : ℕ) → tree (trimmed g) r ≡ tree g r
  unfolding tree
  tree_in r = members_in r g.N

  -- the moves of a node
  pub kind_in : (u : ℕ) → is_node g u ≡ true → kind_moves (trimmed g) u ≡ kind_moves g u
  unfolding kind_moves
  kind_in u e = let k = node_known g u e in rw (xor_in (u - (g.I + 1)) (omega arith))

  pub moves_in_lem : (ls : List ℕ) (u : ℕ) → is_node g u ≡ true → moves_at (trimmed g) ls u ≡ moves_at g ls u
  unfolding moves_at lock_at
  moves_in_lem ls u e = rw (kind_in u e)

  -- moves made
  seen_in_lem : (m : Choice) (u : ℕ) → seen (trimmed g) m u ≡ seen g m u
  unfolding seen is_node
  seen_in_lem m u =
      cond_when (is_node g u) _ _ 0
      (λ e. let k = node_known g u e in ap (λ (x : Bool). flag x (m u) 3) (xor_in (u - (g.I + 1)) (omega arith)))

  own_in : (m : Choice) (j : ℕ) → j < 3 * g.N → own (trimmed g) m j ≡ own g m j
  unfolding own
  own_in m j l = rw (xor_in (j / 3) (omega arith))

  turns_in : (m : Choice) (j : ℕ) → turns (trimmed g) m j ≡ turns g m j
  unfolding turns
  turns_in m j =
      cond_when (ltb j (3 * g.N)) _ _ 0
      (λ e. let l = ltb-true j (3 * g.N) e in rw (edge_in j l, own_in m j l, word_in j l, seen_in_lem m (word g j / 2)))

  output_turns_in : (m : Choice) (j : ℕ) → output_turns (trimmed g) m j ≡ output_turns g m j
  unfolding output_turns
  output_turns_in m j =
      cond_when (ltb j g.O) _ _ 0
      (λ e. let l = ltb-true j g.O e in rw (output_in j l, seen_in_lem m (output g j / 2)))

  pub apply_in : (m : Choice) → apply (trimmed g) m ≡ trimmed (apply g m)
  unfolding apply turned_by
  apply_in m =
      let t : turns (trimmed g) m ≡ turns g m = fun_ext (turns_in m) in
      let o : output_turns (trimmed g) m ≡ output_turns g m = fun_ext (output_turns_in m) in
      let p = ap (turned_table (take (3 * g.N) g.nodes)) t ∙ turned_take (3 * g.N) g.nodes (turns g m) in
      let q = ap (turned_table (take g.O g.outputs)) o ∙ turned_take g.O g.outputs (output_turns g m) in
      λ i. record { I = g.I; N = g.N; O = g.O; nodes = p i; outputs = q i }

  pub moved_in : (us ms : List ℕ) → moved (trimmed g) us ms ≡ trimmed (moved g us ms)
  unfolding moved
  moved_in us ms = apply_in (put none us ms)

-- what moves save, in both parts
own_adds_in : (g : Graph) (us : List ℕ) → own_adds (trimmed g) us ≡ own_adds g us
unfolding own_adds
own_adds_in g us = sum_same (3 * g.N) _ _ (λ j l. ap (λ (x : ℕ). cond (among us (node g (j / 3))) x 0) (adds_in g j l))

other_adds_in : (g : Graph) (us : List ℕ) → other_adds (trimmed g) us ≡ other_adds g us
unfolding other_adds
other_adds_in g us =
    let a = sum_same (3 * g.N) (λ j. cond (among us (node g (j / 3))) 0 (node_adds (trimmed g) j)) (λ j. cond (among us (node g (j / 3))) 0 (node_adds g j))
    (λ j l. ap (cond (among us (node g (j / 3))) 0) (adds_in g j l)) in
    rw (a, outputs_add g)

split_in : (us : List ℕ) (g h : Graph) → split us (trimmed g) (trimmed h) ≡ split us g h
unfolding split
split_in us g h = rw (own_adds_in g us, own_adds_in h us, other_adds_in g us, other_adds_in h us)

-- moves made
pub rewrite_by_in : (g : Graph) (us ms : List ℕ) → rewrite_by (trimmed g) us ms ≡ trimmed_outcome (rewrite_by g us ms)
rewrite_by_in g us ms = rw (moved_in g us ms, split_in us g (moved g us ms))

-- the best moves at nodes whose numbers of moves are told alike
module _ (g : Graph) (ls us : List ℕ) (e : map (moves_at (trimmed g) ls) us ≡ map (moves_at g ls) us) where
  moved_c_in : moved_c (trimmed g) us ≡ moved_c g us
  unfolding moved_c
  moved_c_in = fun_ext (λ ms. ap C (moved_in g us ms) ∙ C_in (moved g us ms))

  pub best_in : best_at (trimmed g) ls us ≡ best_at g ls us
  unfolding best_at
  best_in = rw (moved_c_in, e)

  pub rewrite_in : rewrite (trimmed g) ls us ≡ trimmed_outcome (rewrite g ls us)
  unfolding rewrite
  rewrite_in = ap (rewrite_by (trimmed g) us) best_in ∙ rewrite_by_in g us (best_at g ls us)

-- one node, two nodes, and the nodes of a tree
module _ (g : Graph) (ls : List ℕ) where
  pub one_in : (u : ℕ) → is_node g u ≡ true → map (moves_at (trimmed g) ls) (u ∷ []) ≡ map (moves_at g ls) (u ∷ [])
  one_in u e = rw (moves_in_lem g ls u e)

  pub two_in : (p u : ℕ) → is_node g p ≡ true → is_node g u ≡ true → map (moves_at (trimmed g) ls) (p ∷ u ∷ []) ≡ map (moves_at g ls) (p ∷ u ∷ [])
  two_in p u d e = rw (moves_in_lem g ls p d, moves_in_lem g ls u e)

  map_members : (f h : ℕ → ℕ) (b : Bool) (x : ℕ) (l : List ℕ) → f x ≡ h x → map f l ≡ map h l → map f (cond b (x ∷ l) l) ≡ map h (cond b (x ∷ l) l)
  map_members f h true x l p q = rw (p, q)
  map_members f h false x l p q = q

  -- numbers that are told alike of each node
  members_alike : (f h : ℕ → ℕ) → ((u : ℕ) → is_node g u ≡ true → f u ≡ h u) → (r n : ℕ) → n ≤ g.N → map f (members g r n) ≡ map h (members g r n)
  unfolding members
  members_alike f h e r zero l = refl
  members_alike f h e r (suc n) l =
      map_members f h (eqb (root_of g (node g n)) r) (node g n) (members g r n) (e (node g n) (is_node_lem g n l)) (members_alike f h e r n (omega arith))

  pub tree_alike : (f h : ℕ → ℕ) → ((u : ℕ) → is_node g u ≡ true → f u ≡ h u) → (r : ℕ) → map f (tree g r) ≡ map h (tree g r)
  unfolding tree
  tree_alike f h e r = members_alike f h e r g.N (omega arith)

  pub tree_moves_lem : (r : ℕ) → map (moves_at (trimmed g) ls) (tree g r) ≡ map (moves_at g ls) (tree g r)
  tree_moves_lem r = tree_alike (moves_at (trimmed g) ls) (moves_at g ls) (moves_in_lem g ls) r
