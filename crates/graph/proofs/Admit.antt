-- The number of an admission is 0 just where the graph and its locks are admitted. From the laws on tests.
use Rattle.std.proofs.Common.{◌≡◌, ℕ, ◌*◌, ◌/◌, ◌<◌, ◌≤◌, true, false, List, length, get_or, sym, refl, ⊎_elim, arith}
use Rattle.graph.specs.Graph.{Graph, word, output, is_edge, node}
use Rattle.graph.specs.Admission.{room_number, tables_number, word_number, output_number, stray_number, strays_number, literal_number, lock_number, locks_number, content_number, admission_number, Admitted, LockBytes}
use Rattle.graph.specs.Literals.{held, strays}
use Rattle.graph.specs.Promises.{JustAdmitted}
use Rattle.graph.proofs.Cases.{true_or_false}
use Rattle.graph.proofs.Literals.{held_le}
use Rattle.graph.proofs.Tests.{off, on, both, no_less, less, none, all_none, each_none}

-- limits that are kept, and slices that are long enough
pub record Rooms (i n o node_room output_room lock_room : ℕ) : Type 0 where
  pub few_inputs : i ≤ 4096
  pub few_nodes : n ≤ 100000
  pub few_outputs : o ≤ 4096
  pub long_nodes : 3 * n ≤ node_room
  pub long_outputs : o ≤ output_room
  pub enough_locks : n ≤ lock_room

pub rooms : (i n o a b l : ℕ) → room_number i n o a b l ≡ 0 → Rooms i n o a b l
unfolding room_number
rooms i n o a b l e =
    let p = off _ _ _ _ e in
    let q = off _ _ _ _ p.1 in
    let r = off _ _ _ _ q.1 in
    let t = off _ _ _ _ r.1 in
    let u = off _ _ _ _ t.1 in
    let w = off _ _ _ _ u.1 in
    record { few_inputs = p.0; few_nodes = q.0; few_outputs = r.0; long_nodes = t.0; long_outputs = u.0; enough_locks = w.0 }

pub room_none : (i n o a b l : ℕ) → Rooms i n o a b l → room_number i n o a b l ≡ 0
unfolding room_number
room_none i n o a b l r =
    sym (no_less _ _ _ _ r.few_inputs
    (no_less _ _ _ _ r.few_nodes
    (no_less _ _ _ _ r.few_outputs
    (no_less _ _ _ _ r.long_nodes
    (no_less _ _ _ _ r.long_outputs
    (no_less _ _ _ _ r.enough_locks refl))))))

module _ (g : Graph) where
  word_is : (j : ℕ) → is_edge g j ≡ true → word_number g j ≡ 0 → word g j / 2 < node g (j / 3)
  unfolding word_number
  word_is j t e = (on (word g j / 2) (node g (j / 3)) 4 0 (simp t at e)).0

  word_none : (j : ℕ) → (is_edge g j ≡ true → word g j / 2 < node g (j / 3)) → word_number g j ≡ 0
  unfolding word_number
  word_none j h =
      ⊎_elim
      (λ (t : is_edge g j ≡ true). simp t (sym (less (word g j / 2) (node g (j / 3)) 0 5 (h t) refl)))
      (λ (t : is_edge g j ≡ false). simp t)
      (true_or_false (is_edge g j))

  out_is : (j : ℕ) → output_number g j ≡ 0 → output g j / 2 < node g g.N
  unfolding output_number
  out_is j e = (on (output g j / 2) (node g g.N) 4 0 e).0

  stray_none : (n : ℕ) (l : List ℕ) → stray_number n l ≡ 0 → strays n l ≡ 0
  unfolding stray_number
  stray_none n l e = let h = (off 0 (strays n l) 4 0 e).0 in omega arith

  none_stray : (n : ℕ) (l : List ℕ) → strays n l ≡ 0 → stray_number n l ≡ 0
  unfolding stray_number
  none_stray n l e = sym (no_less 0 (strays n l) 5 0 (omega arith) refl)

  pub strays_are : literal_number g ≡ 0 → (strays (3 * g.N) g.nodes ≡ 0) × (strays g.O g.outputs ≡ 0)
  unfolding literal_number strays_number
  strays_are e =
      let b = both _ _ (both _ _ e).0 in
      (stray_none (3 * g.N) g.nodes b.0, stray_none g.O g.outputs b.1)

  pub literals_are : literal_number g ≡ 0
      → ((j : ℕ) → j < 3 * g.N → is_edge g j ≡ true → word g j / 2 < node g (j / 3)) × ((j : ℕ) → j < g.O → output g j / 2 < node g g.N)
  unfolding literal_number
  literals_are e =
      let b = both _ _ (both _ _ e).1 in
      ((λ j h t. word_is j t (each_none (3 * g.N) (word_number g) b.0 j h)), (λ j h. out_is j (each_none g.O (output_number g) b.1 j h)))

  -- of the graph with the locks ls
  module _ (ls : List ℕ) where
    pub tables_are : tables_number g ls ≡ 0 → Rooms g.I g.N g.O (held g.nodes) (held g.outputs) (length ls)
    unfolding tables_number
    tables_are e = rooms _ _ _ _ _ _ e

    pub admitted_by : tables_number g ls ≡ 0 → literal_number g ≡ 0 → Admitted g
    admitted_by t w =
        let r = tables_are t in
        let d = literals_are w in
        record {
          few_inputs = r.few_inputs;
          few_nodes = r.few_nodes;
          few_outputs = r.few_outputs;
          long_nodes = omega (arith, r.long_nodes, held_le g.nodes);
          long_outputs = omega (arith, r.long_outputs, held_le g.outputs);
          held_nodes = r.long_nodes;
          held_outputs = r.long_outputs;
          clean_nodes = (strays_are w).0;
          clean_outputs = (strays_are w).1;
          below = d.0;
          output_below = d.1;
        }

    pub locks_by : tables_number g ls ≡ 0 → locks_number g.N ls ≡ 0 → LockBytes g.N ls
    unfolding locks_number lock_number
    locks_by t w = record { enough = (tables_are t).enough_locks; bits = λ v h. (off 1 (get_or ls v 0) 12 0 (each_none g.N (lock_number ls) w v h)).0 }

    pub admitted : admission_number g ls ≡ 0 → Admitted g
    unfolding admission_number content_number
    admitted e = let a = both _ _ e in admitted_by a.0 (both _ _ a.1).0

    pub locks_admitted : admission_number g ls ≡ 0 → LockBytes g.N ls
    unfolding admission_number content_number
    locks_admitted e = let a = both _ _ e in locks_by a.0 (both _ _ a.1).1

  module _ (adm : Admitted g) where
    pub literals_none : literal_number g ≡ 0
    unfolding literal_number strays_number output_number
    literals_none =
        sym (none _ _ (sym (none _ _ (none_stray _ _ adm.clean_nodes) (sym (none_stray _ _ adm.clean_outputs))))
        (none _ _ (all_none _ _ (λ j h. word_none j (adm.below j h)))
        (sym (all_none _ _ (λ j h. sym (less (output g j / 2) (node g g.N) 0 5 (adm.output_below j h) refl))))))

    module _ (ls : List ℕ) (ok : LockBytes g.N ls) where
      pub tables_none : tables_number g ls ≡ 0
      unfolding tables_number
      tables_none =
          room_none _ _ _ _ _ _
          (record {
            few_inputs = adm.few_inputs;
            few_nodes = adm.few_nodes;
            few_outputs = adm.few_outputs;
            long_nodes = adm.held_nodes;
            long_outputs = adm.held_outputs;
            enough_locks = ok.enough;
          })

      locks_none : locks_number g.N ls ≡ 0
      unfolding locks_number lock_number
      locks_none = all_none _ _ (λ v h. sym (no_less 1 (get_or ls v 0) 13 0 (ok.bits v h) refl))

      pub admission_none : admission_number g ls ≡ 0
      unfolding admission_number content_number
      admission_none = sym (none _ _ tables_none (none _ _ literals_none (sym locks_none)))

pub just_admitted : (g : Graph) (ls : List ℕ) → JustAdmitted g ls
just_admitted g ls = record { admitted = admitted g ls; locks_admitted = locks_admitted g ls; admission_none = λ adm ok. admission_none g adm ls ok }
