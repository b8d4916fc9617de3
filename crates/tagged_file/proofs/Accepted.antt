-- An accepted file, field after field: it is the file of the words read from it, and they name indices that are allowed.
-- From the laws on one field.
use Prim.Native.Nat.{ℕ, zero, suc, ◌+◌, ◌*◌, ◌/◌, ◌%◌, ◌<◌}
use mathlib.Core.Path.{◌≡◌, refl, ap, ◌∙◌}
use mathlib.Core.Logic.{⊎_elim}
use mathlib.Core.List.{List, ◌++◌, append_assoc}
use native.Mathlib.Omega.{arith}
use native.Mathlib.Nat.{not-suc-le-zero, le_of_suc-le-suc}
use lib.ListN.{get_or, drop}
use Rattle.graph.specs.Graph.{mark}
use Rattle.graph.proofs.Tests.{both, on}
use Rattle.file_checks.specs.File.{be4, node_size, third, output_field_number, lock_count, lock_fields_number, output_fields_number, node_fields_number, node_words, single_words, after_nodes, after_singles}
use Rattle.tagged_file.specs.Write.{node_field_at, output_field_at, in_order}
use Rattle.tagged_file.specs.Promises.{Bytes}
use Rattle.tagged_file.proofs.BigEndian.{bytes_drop}
use Rattle.tagged_file.proofs.OneField.{Majority, Xor, NodeAccepted, node_accepted, node_back, output_back}

-- the table l holds these words from place p on
abbrev pub Holds : List ℕ → ℕ → ℕ → List ℕ → Type 0
Holds l p n ws = (k : ℕ) → k < n → get_or l (p + k) 0 ≡ get_or ws k 0

pub outputs_back : (o : ℕ) (s : List ℕ) (low top : ℕ) (l : List ℕ) (v : ℕ) → Bytes s → output_fields_number o s low top ≡ 0 → Holds l v o (single_words o s)
    → s ≡ in_order (output_field_at l) v o ++ after_singles o s
unfolding output_field_at
outputs_back zero s low top l v h e w = refl
outputs_back (suc o) s low top l v h e w =
    let f = both _ _ e in
    let x : get_or l v 0 ≡ be4 s 3 = ap (λ (k : ℕ). get_or l k 0) (omega arith) ∙ w 0 (omega arith) in
    let r = outputs_back o (drop 7 s) low top l (v + 1) (bytes_drop 7 s h) f.1
    (λ k b. ap (λ (j : ℕ). get_or l j 0) (omega arith) ∙ w (suc k) (omega arith)) in
    output_back s top h f.0 ∙ rw (x, append_assoc, ← r)

pub nodes_back : (n o : ℕ) (s : List ℕ) (low i : ℕ) (l : List ℕ) (v : ℕ) → Bytes s → i + n < 2147483648 → node_fields_number n o s low i ≡ 0
    → Holds l (3 * v) (3 * n) (node_words n s) → s ≡ in_order (node_field_at l) v n ++ after_nodes n s
unfolding node_field_at
nodes_back zero o s low i l v h b e w = refl
nodes_back (suc n) o s low i l v h b e w =
    let f = both _ _ e in
    let x : get_or l (3 * v) 0 ≡ be4 s 3 = ap (λ (k : ℕ). get_or l k 0) (omega arith) ∙ w 0 (omega arith) in
    let y : get_or l (3 * v + 1) 0 ≡ be4 s 7 = w 1 (omega arith) in
    let z : get_or l (3 * v + 2) 0 ≡ third s = w 2 (omega arith) in
    let r = nodes_back n o (drop (node_size s) s) low (i + 1) l (v + 1) (bytes_drop (node_size s) s h) (omega arith) f.1
    (λ k d. ap (λ (j : ℕ). get_or l j 0) (omega arith) ∙ w (suc (suc (suc k))) (omega arith)) in
    node_back s i h (omega arith) f.0 ∙ rw (x, y, z, append_assoc, ← r)

-- the walk over the outputs, once the nodes are passed
pub after_nodes_lem : (n o : ℕ) (s : List ℕ) (low i : ℕ) → node_fields_number n o s low i ≡ 0 → output_fields_number o (after_nodes n s) low (i + n) ≡ 0
after_nodes_lem zero o s low i e = let q : i + 0 ≡ i = omega arith in rw q e
after_nodes_lem (suc n) o s low i e =
    let q : i + suc n ≡ i + 1 + n = omega arith in
    rw q (after_nodes_lem n o (drop (node_size s) s) low (i + 1) (both _ _ e).1)

-- and that over the locks, once the outputs are
pub after_outputs : (o : ℕ) (s : List ℕ) (low top : ℕ) → output_fields_number o s low top ≡ 0
    → lock_fields_number (lock_count (after_singles o s)) (after_singles o s) low top ≡ 0
after_outputs zero s low top e = e
after_outputs (suc o) s low top e = after_outputs o (drop 7 s) low top (both _ _ e).1

pub bytes_singles : (o : ℕ) (s : List ℕ) → Bytes s → Bytes (after_singles o s)
bytes_singles zero s h = h
bytes_singles (suc o) s h = bytes_singles o (drop 7 s) (bytes_drop 7 s h)

pub bytes_after : (n : ℕ) (s : List ℕ) → Bytes s → Bytes (after_nodes n s)
bytes_after zero s h = h
bytes_after (suc n) s h = bytes_after n (drop (node_size s) s) (bytes_drop (node_size s) s h)

-- the words that are read
pub outputs_below : (o : ℕ) (s : List ℕ) (low top : ℕ) → output_fields_number o s low top ≡ 0 → (j : ℕ) → j < o → get_or (single_words o s) j 0 / 2 < top
unfolding output_field_number
outputs_below zero s low top e j h = absurd (not-suc-le-zero h)
outputs_below (suc o) s low top e zero h = (on _ _ _ _ (both _ _ (both _ _ e).0).1).0
outputs_below (suc o) s low top e (suc j) h = outputs_below o (drop 7 s) low top (both _ _ e).1 j (le_of_suc-le-suc h)

third_below : (s : List ℕ) (i : ℕ) → NodeAccepted s i → (third s ≡ mark → ⊥) → third s / 2 < i
third_below s i a n = ⊎_elim (λ (m : Majority s i). m.below) (λ (x : Xor s). absurd (n x.third_is)) a.kind

pub nodes_below : (n o : ℕ) (s : List ℕ) (low i : ℕ) → node_fields_number n o s low i ≡ 0 → (j : ℕ) → j < 3 * n
    → (j % 3 ≡ 2 → get_or (node_words n s) j 0 ≡ mark → ⊥) → get_or (node_words n s) j 0 / 2 < i + j / 3
nodes_below zero o s low i e j h d = absurd (omega arith)
nodes_below (suc n) o s low i e zero h d = omega (arith, (node_accepted s i (both _ _ e).0).one)
nodes_below (suc n) o s low i e (suc zero) h d = omega (arith, (node_accepted s i (both _ _ e).0).two)
nodes_below (suc n) o s low i e (suc (suc zero)) h d =
    omega (arith, third_below s i (node_accepted s i (both _ _ e).0) (λ q. d refl q))
nodes_below (suc n) o s low i e (suc (suc (suc j))) h d =
    let w : ℕ = get_or (node_words n (drop (node_size s) s)) j 0 in
    let r : w / 2 < i + 1 + j / 3 = nodes_below n o (drop (node_size s) s) low (i + 1) (both _ _ e).1 j (omega arith) (λ q. d (omega arith)) in
    omega arith
