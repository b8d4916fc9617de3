-- The loader's walk over written fields: it finds no fault, and reads the words that were written. From the laws on one written field.
use Prim.Native.Nat.{ℕ, zero, suc, ◌+◌, ◌*◌, ◌/◌, ◌<◌, ◌≤◌}
use mathlib.Core.Path.{◌≡◌, refl, sym, ap, ◌∙◌}
use mathlib.Core.Logic.{◌≢◌}
use mathlib.Core.List.{List, ◌++◌, append_assoc}
use native.Mathlib.Omega.{arith}
use native.Mathlib.Nat.{not-suc-le-zero, le_of_suc-le-suc}
use lib.ListN.{get_or}
use Rattle.graph.specs.Graph.{mark}
use Rattle.graph.proofs.Tests.{none}
use Rattle.file_checks.specs.File.{lock_count, lock_fields_number, output_fields_number, node_fields_number, node_words, single_words, after_nodes, after_singles}
use Rattle.tagged_file.specs.Write.{node_field_at, output_field_at, in_order}
use Rattle.tagged_file.proofs.ReadBack.{NodeRead, node_read, OutputRead, output_read_lem}

joined : (f : ℕ → List ℕ) (rest : List ℕ) (n v : ℕ) → in_order f v (suc n) ++ rest ≡ f v ++ (in_order f (v + 1) n ++ rest)
joined f rest n v = append_assoc (f v) (in_order f (v + 1) n) rest

-- o outputs in the table os, each naming an index below top
module _ (os : List ℕ) (o top : ℕ) (small : top ≤ 1000000) (ok : (j : ℕ) → j < o → get_or os j 0 / 2 < top) (rest : List ℕ) where
  output_at : (n v : ℕ) → v < o → OutputRead (output_field_at os v ++ (in_order (output_field_at os) (v + 1) n ++ rest)) top (get_or os v 0) (in_order (output_field_at os) (v + 1) n ++ rest)
  unfolding output_field_at
  output_at n v h = let b = ok v h in output_read_lem (get_or os v 0) (in_order (output_field_at os) (v + 1) n ++ rest) top b (omega arith)

  pub outputs_number : (low : ℕ) → lock_fields_number (lock_count rest) rest low top ≡ 0 → (n v : ℕ) → v + n ≤ o
      → output_fields_number n (in_order (output_field_at os) v n ++ rest) low top ≡ 0
  outputs_number low e zero v h = e
  outputs_number low e (suc n) v h =
      let r = output_at n v (omega arith) in
      rw (joined (output_field_at os) rest n v) (sym (none _ _ r.number (sym (rw r.after (outputs_number low e n (v + 1) (omega arith))))))

  pub outputs_after : (n v : ℕ) → v + n ≤ o → after_singles n (in_order (output_field_at os) v n ++ rest) ≡ rest
  outputs_after zero v h = refl
  outputs_after (suc n) v h = rw (joined (output_field_at os) rest n v, (output_at n v (omega arith)).after) (outputs_after n (v + 1) (omega arith))

  pub outputs_words : (n v : ℕ) → v + n ≤ o → (k : ℕ) → k < n → get_or (single_words n (in_order (output_field_at os) v n ++ rest)) k 0 ≡ get_or os (v + k) 0
  outputs_words zero v h k l = absurd (not-suc-le-zero l)
  outputs_words (suc n) v h zero l = rw (joined (output_field_at os) rest n v) ((output_at n v (omega arith)).one ∙ ap (λ (j : ℕ). get_or os j 0) (omega arith))
  outputs_words (suc n) v h (suc k) l =
      rw (joined (output_field_at os) rest n v, (output_at n v (omega arith)).after)
      (outputs_words n (v + 1) (omega arith) k (le_of_suc-le-suc l) ∙ ap (λ (j : ℕ). get_or os j 0) (omega arith))

-- what the three words of node v, whose index is i, may be
pub record Allowed (ns : List ℕ) (i v : ℕ) : Type 0 where
  pub one : get_or ns (3 * v) 0 / 2 < i
  pub two : get_or ns (3 * v + 1) 0 / 2 < i
  pub last : get_or ns (3 * v + 2) 0 ≢ mark → get_or ns (3 * v + 2) 0 / 2 < i

-- m nodes in the table ns, of which the first has index i
module _ (ns : List ℕ) (m i : ℕ) (small : i + m ≤ 1000000) (ok : (j : ℕ) → j < m → Allowed ns (i + j) j) (rest : List ℕ) where
  node_at_lem : (n v : ℕ) → v < m
      → NodeRead (node_field_at ns v ++ (in_order (node_field_at ns) (v + 1) n ++ rest)) (i + v) (get_or ns (3 * v) 0) (get_or ns (3 * v + 1) 0) (get_or ns (3 * v + 2) 0)
      (in_order (node_field_at ns) (v + 1) n ++ rest)
  unfolding node_field_at
  node_at_lem n v h =
      let a = ok v h in
      node_read (i + v) (get_or ns (3 * v) 0) (get_or ns (3 * v + 1) 0) (get_or ns (3 * v + 2) 0) (in_order (node_field_at ns) (v + 1) n ++ rest)
      (omega (arith, a.one)) (omega (arith, a.two)) a.one a.two a.last (omega arith)

  pub nodes_number : (o low n v : ℕ) → v + n ≡ m → output_fields_number o rest low (i + m) ≡ 0 → node_fields_number n o (in_order (node_field_at ns) v n ++ rest) low (i + v) ≡ 0
  nodes_number o low zero v h e = let q : i + v ≡ i + m = omega arith in rw q e
  nodes_number o low (suc n) v h e =
      let r = node_at_lem n v (omega arith) in
      let q : i + v + 1 ≡ i + (v + 1) = omega arith in
      rw (joined (node_field_at ns) rest n v) (sym (none _ _ r.number (sym (rw (r.after, q) (nodes_number o low n (v + 1) (omega arith) e)))))

  pub nodes_after : (n v : ℕ) → v + n ≤ m → after_nodes n (in_order (node_field_at ns) v n ++ rest) ≡ rest
  nodes_after zero v h = refl
  nodes_after (suc n) v h = rw (joined (node_field_at ns) rest n v, (node_at_lem n v (omega arith)).after) (nodes_after n (v + 1) (omega arith))

  pub nodes_words : (n v : ℕ) → v + n ≤ m → (k : ℕ) → k < 3 * n → get_or (node_words n (in_order (node_field_at ns) v n ++ rest)) k 0 ≡ get_or ns (3 * v + k) 0
  nodes_words zero v h k l = absurd (omega arith)
  nodes_words (suc n) v h zero l = rw (joined (node_field_at ns) rest n v) ((node_at_lem n v (omega arith)).one ∙ ap (λ (j : ℕ). get_or ns j 0) (omega arith))
  nodes_words (suc n) v h (suc zero) l = rw (joined (node_field_at ns) rest n v) (node_at_lem n v (omega arith)).two
  nodes_words (suc n) v h (suc (suc zero)) l = rw (joined (node_field_at ns) rest n v) (node_at_lem n v (omega arith)).last
  nodes_words (suc n) v h (suc (suc (suc k))) l =
      rw (joined (node_field_at ns) rest n v, (node_at_lem n v (omega arith)).after)
      (nodes_words n (v + 1) (omega arith) k (omega arith) ∙ ap (λ (j : ℕ). get_or ns j 0) (omega arith))
