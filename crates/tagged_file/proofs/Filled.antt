-- The fill pass: what its loops keep, and what that comes to at the end. From the laws of a table that is filled.
use Prim.Native.Nat.{ℕ, zero, suc, ◌+◌, ◌*◌, ◌-◌, ◌<◌, ◌≤◌}
use mathlib.Core.Path.{◌≡◌, refl, ◌∙◌}
use mathlib.Core.List.{List, [], ◌∷◌}
use native.Mathlib.Omega.{arith}
use lib.ListN.{length, get_or, drop, set, length-set}
use Rattle.graph.specs.Inner.{word_put, words_put}
use Rattle.graph.specs.Literals.{filled}
use Rattle.graph.proofs.Filled.{all_filled}
use Rattle.file_checks.specs.File.{be4, third, node_size, node_words, single_words, after_nodes, after_singles, lock_count, lock_indices}
use Rattle.file_checks.proofs.Checked.{lock_there}
use Rattle.tagged_file.specs.Inner.{locked_at}
use Rattle.tagged_file.proofs.Named.{indices_more, indices_none}
use Rattle.file_checks.specs.Walk.{NodeThere, Nodes, OutputThere, Outputs, LockRoom, Locks}

pub length_node_words : (n : ℕ) (s : List ℕ) → length (node_words n s) ≡ 3 * n
length_node_words zero s = refl
length_node_words (suc n) s = omega (arith, length_node_words n (drop (node_size s) s))

pub length_single_words : (n : ℕ) (s : List ℕ) → length (single_words n s) ≡ n
length_single_words zero s = refl
length_single_words (suc n) s = omega (arith, length_single_words n (drop 7 s))

-- the words of the nodes that are left, of n from number v on, put where they go, come to the whole
pub record NodesLeft (n : ℕ) (bytes t₀ t s : List ℕ) (v : ℕ) : Type 0 where
  pub room : Nodes (n - v) s
  pub words : words_put (3 * v) (node_words (n - v) s) t ≡ words_put 0 (node_words n bytes) t₀
  pub after : after_nodes (n - v) s ≡ after_nodes n bytes

pub nodes_left_start : (n : ℕ) (bytes t₀ : List ℕ) → Nodes n bytes → NodesLeft n bytes t₀ t₀ bytes 0
nodes_left_start n bytes t₀ r = let e : n - 0 ≡ n = omega arith in record { room = rw e r; words = rw e; after = rw e }

module _ (n : ℕ) (bytes t₀ t s : List ℕ) (v : ℕ) (i : NodesLeft n bytes t₀ t s v) where
  module _ (h : v < n) where
    one_left : n - v ≡ suc (n - (v + 1))
    one_left = omega arith

    nodes_room : NodeThere s × Nodes (n - (v + 1)) (drop (node_size s) s)
    nodes_room = rw one_left at i.room

    pub nodes_left_there : NodeThere s
    nodes_left_there = nodes_room.0

    pub nodes_left_more : (s' t' : List ℕ) → s' ≡ drop (node_size s) s → t' ≡ words_put (3 * v) (be4 s 3 ∷ be4 s 7 ∷ third s ∷ []) t → NodesLeft n bytes t₀ t' s' (v + 1)
    nodes_left_more s' t' es et =
        let q : 3 * (v + 1) ≡ suc (suc (suc (3 * v))) = omega arith in
        record {
          room = rw es nodes_room.1;
          words = rw (es, et, q) (rw one_left at i.words);
          after = rw es (rw one_left at i.after);
        }

  pub nodes_left_none : n ≤ v → 3 * n ≤ length t₀ → (s ≡ after_nodes n bytes) × (t ≡ filled (node_words n bytes) t₀)
  nodes_left_none h f =
      let z : n - v ≡ 0 = omega arith in
      (rw z at i.after, rw z at i.words ∙ all_filled (node_words n bytes) t₀ (rw (length_node_words n bytes) f))

pub record OutputsLeft (n : ℕ) (bytes t₀ t s : List ℕ) (v : ℕ) : Type 0 where
  pub room : Outputs (n - v) s
  pub words : words_put v (single_words (n - v) s) t ≡ words_put 0 (single_words n bytes) t₀
  pub after : after_singles (n - v) s ≡ after_singles n bytes

pub outputs_left_start : (n : ℕ) (bytes t₀ : List ℕ) → Outputs n bytes → OutputsLeft n bytes t₀ t₀ bytes 0
outputs_left_start n bytes t₀ r = let e : n - 0 ≡ n = omega arith in record { room = rw e r; words = rw e; after = rw e }

module _ (n : ℕ) (bytes t₀ t s : List ℕ) (v : ℕ) (i : OutputsLeft n bytes t₀ t s v) where
  module _ (h : v < n) where
    one_output_left : n - v ≡ suc (n - (v + 1))
    one_output_left = omega arith

    outputs_room : OutputThere s × Outputs (n - (v + 1)) (drop 7 s)
    outputs_room = rw one_output_left at i.room

    pub outputs_left_there : OutputThere s
    outputs_left_there = outputs_room.0

    pub outputs_left_more : (s' t' : List ℕ) → s' ≡ drop 7 s → t' ≡ word_put v (be4 s 3) t → OutputsLeft n bytes t₀ t' s' (v + 1)
    outputs_left_more s' t' es et =
        let q : v + 1 ≡ suc v = omega arith in
        record {
          room = rw es outputs_room.1;
          words = rw (es, et, q) (rw q at (rw one_output_left at i.words));
          after = rw es (rw one_output_left at i.after);
        }

  pub outputs_left_none : n ≤ v → n ≤ length t₀ → (s ≡ after_singles n bytes) × (t ≡ filled (single_words n bytes) t₀)
  outputs_left_none h f =
      let z : n - v ≡ 0 = omega arith in
      (rw z at i.after, rw z at i.words ∙ all_filled (single_words n bytes) t₀ (rw (length_single_words n bytes) f))

-- the locks that are left are set in t
pub record LocksLeft (low : ℕ) (bytes t₀ t s : List ℕ) : Type 0 where
  pub room : Locks (lock_count s) s low (low + length t₀)
  pub same : length t ≡ length t₀
  pub locked : locked_at low (lock_indices s) t ≡ locked_at low (lock_indices bytes) t₀

module _ (low : ℕ) (bytes t₀ t s : List ℕ) (i : LocksLeft low bytes t₀ t s) where
  left_of : get_or s 0 0 ≡ 6 → Locks (suc (lock_count (drop 7 s))) s low (low + length t₀)
  left_of e = rw (lock_there s e) at i.room

  pub locks_left_room : get_or s 0 0 ≡ 6 → LockRoom s low (low + length t₀)
  locks_left_room e = (left_of e).0

  pub locks_left_more : get_or s 0 0 ≡ 6 → (s' : List ℕ) (x : ℕ) → s' ≡ drop 7 s → x ≡ be4 s 3 → LocksLeft low bytes t₀ (set t (x - low) 1) s'
  locks_left_more e s' x es ex =
      let d : length (set t (x - low) 1) ≡ length t = length-set t (x - low) 1 in
      record {
        room = rw es (left_of e).1;
        same = d ∙ i.same;
        locked = rw (es, ex) (rw (indices_more s e) at i.locked);
      }

  pub locks_left_none : (get_or s 0 0 ≡ 6 → ⊥) → t ≡ locked_at low (lock_indices bytes) t₀
  locks_left_none n = rw (indices_none s n) at i.locked
