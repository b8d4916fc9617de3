-- Dropping keeps the outputs' values and that the graph is admitted, and leaves no unread free node. From the laws on keeping and living.
use mathlib.Core.Path.{◌≡◌, refl, sym, ◌∙◌}
use mathlib.Core.Bool.{Bool, true, false, true≢false, cond, ◌&&◌}
use mathlib.Core.Logic.{◌⊎◌, ⊎_elim}
use mathlib.Core.List.{List}
use Prim.Native.Nat.{ℕ, zero, suc, ◌+◌, ◌*◌, ◌/◌, ◌%◌, ◌≤◌, ◌<◌}
use native.Mathlib.Omega.{arith}
use native.Mathlib.Nat.{eq-or-lt_of_le}
use borrow.Author.Tests.{eqb-true}
use lib.Dec.{eqb}
use lib.ListN.{length, get_or}
use Rattle.graph.specs.Admission.{Admitted}
use Rattle.graph.specs.Finite.{sum, count}
use Rattle.graph.specs.Graph.{Graph, word, output, is_edge}
use Rattle.graph.specs.Count.{named, output_named, node_readers, readers}
use Rattle.graph.proofs.Finite.{length_tab, get_d_tab}
use Rattle.graph.proofs.Tests.{less, no_less}
use Rattle.hidden.specs.Find.{is_locked}
use Rattle.hidden.specs.Drop.{live, kept, new_nodes, new_outputs, new_locks, keeping, dropped, dropped_locks}
use Rattle.hidden.specs.Keeps.{Keeps, AllRead}
use Rattle.moves.proofs.Readers.{both_true}
use Rattle.hidden.proofs.Kept.{rank, rank_le, Stands, stands}
use Rattle.hidden.proofs.Keeping.{keeping_keeps, reader_output, reader_word}
use Rattle.hidden.proofs.Live.{Found, live_closed, lives_why}

count_some : (n : ℕ) (t : ℕ → Bool) (j : ℕ) → j < n → t j ≡ true → 0 < count n t
unfolding count sum
count_some zero t j h e = absurd (omega arith)
count_some (suc n) t j h e =
    ⊎_elim
    (λ (q : j ≡ n). let z : ◌≡◌ {A = ℕ} (cond (t n) 1 0) 1 = rw (← q, e) in omega arith)
    (λ (l : j < n). omega (arith, count_some n t j l e))
    (eq-or-lt_of_le (omega arith))

module _ (g : Graph) (ls : List ℕ) (adm : Admitted g) where
  pub dropped_keeps : Keeps g (dropped g ls)
  unfolding dropped
  dropped_keeps = keeping_keeps g (live g ls) adm (live_closed g ls adm)

  l : ℕ → Bool
  l = live g ls

  ks : List ℕ
  ks = kept l g.N

  few : length ks ≤ g.N
  unfolding ks rank
  few = rank_le l g.N

  module _ (long : g.N ≤ length ls) where
    lock_at_lem : (v : ℕ) → v < length ks → get_or (dropped_locks g ls) v 0 ≡ get_or ls (get_or ks v 0) 0
    unfolding dropped_locks new_locks ks l
    lock_at_lem v b = get_d_tab _ _ v (omega (arith, few)) ∙ sym (less v (length (kept (live g ls) g.N)) _ _ b refl)

    same_lock : (v : ℕ) → v < length ks → is_locked (dropped_locks g ls) v ≡ is_locked ls (get_or ks v 0)
    unfolding is_locked
    same_lock v b = rw (lock_at_lem v b)

    read_by_output : (v : ℕ) → v < length ks → Found g.O (output_named g (g.I + 1 + get_or ks v 0)) → 0 < readers (dropped g ls) (g.I + 1 + v)
    unfolding readers dropped keeping ks l output_named
    read_by_output v b f =
        omega (
          arith,
          count_some g.O (output_named (keeping g (live g ls)) (g.I + 1 + v)) f.place f.within
              (reader_output g (live g ls) adm (live_closed g ls adm) v f.place b f.within (eqb-true (output g f.place / 2) (g.I + 1 + get_or ks v 0) f.is)),
        )

    read_by_word : (v : ℕ) → v < length ks → Found (3 * g.N) (λ j. named g (g.I + 1 + get_or ks v 0) j && l (j / 3)) → 0 < readers (dropped g ls) (g.I + 1 + v)
    unfolding readers node_readers dropped keeping ks l named
    read_by_word v b f =
        let j : ℕ = f.place in
        let p = both_true (named g (g.I + 1 + get_or ks v 0) j) (live g ls (j / 3)) f.is in
        let q = both_true (is_edge g j) (eqb (word g j / 2) (g.I + 1 + get_or ks v 0)) p.0 in
        let r = reader_word g (live g ls) adm (live_closed g ls adm) v j b f.within q.0 (eqb-true (word g j / 2) (g.I + 1 + get_or ks v 0) q.1) p.1 in
        omega (arith, count_some (3 * length (kept (live g ls) g.N)) (named (keeping g (live g ls)) (g.I + 1 + v)) (3 * rank (live g ls) (j / 3) + j % 3) r.0 r.1)

    stands_here : (v : ℕ) → v < length ks → Stands l g.N v (get_or ks v 0)
    unfolding ks rank
    stands_here v b = stands l g.N v b

    read : (v : ℕ) → v < length ks → is_locked (dropped_locks g ls) v ≡ false → 0 < readers (dropped g ls) (g.I + 1 + v)
    unfolding l
    read v b free =
        ⊎_elim
        (λ (e : is_locked ls (get_or ks v 0) ≡ true). absurd (true≢false (sym e ∙ sym (same_lock v b) ∙ free)))
        (λ (s : Found g.O (output_named g (g.I + 1 + get_or ks v 0)) ⊎ Found (3 * g.N) (λ j. named g (g.I + 1 + get_or ks v 0) j && live g ls (j / 3))).
        ⊎_elim (read_by_output v b) (read_by_word v b) s)
        (lives_why g ls adm (get_or ks v 0) (stands_here v b).within (stands_here v b).lives)

    -- no unread free node is left
    pub all_read : AllRead (dropped g ls) (dropped_locks g ls)
    unfolding dropped keeping ks l
    all_read v b free = read v b free

    pub locks_long : (dropped g ls).N ≤ length (dropped_locks g ls)
    unfolding dropped keeping dropped_locks new_locks ks l
    locks_long = rw length_tab (omega (arith, few))

    -- each node that is left keeps its lock
    pub locks_kept : (v : ℕ) → v < (dropped g ls).N → get_or (dropped_locks g ls) v 0 ≡ get_or ls (get_or (kept (live g ls) g.N) v 0) 0
    unfolding dropped keeping ks l
    locks_kept v b = lock_at_lem v b

    -- freed words and lock bytes are 0, and the tails are as they were
    pub locks_freed : (v : ℕ) → (dropped g ls).N ≤ v → v < g.N → get_or (dropped_locks g ls) v 0 ≡ 0
    unfolding dropped keeping dropped_locks new_locks
    locks_freed v b c =
        get_d_tab _ _ v (omega arith) ∙ sym (no_less v (length (kept (live g ls) g.N)) _ _ b (less v g.N 0 _ c refl))

    pub words_freed : (j : ℕ) → 3 * (dropped g ls).N ≤ j → j < 3 * g.N → word (dropped g ls) j ≡ 0
    unfolding dropped keeping new_nodes
    words_freed j b c =
        get_d_tab _ _ j (omega (arith, adm.long_nodes)) ∙ sym (no_less j (3 * length (kept (live g ls) g.N)) _ _ b (less j (3 * g.N) 0 _ c refl))

    pub locks_tail : (v : ℕ) → g.N ≤ v → v < length ls → get_or (dropped_locks g ls) v 0 ≡ get_or ls v 0
    unfolding dropped_locks new_locks ks l
    locks_tail v b c =
        get_d_tab _ _ v (omega arith) ∙ sym (no_less v (length (kept (live g ls) g.N)) _ _ (omega (arith, few)) (no_less v g.N 0 _ b refl))

    pub words_tail : (j : ℕ) → 3 * g.N ≤ j → j < length g.nodes → word (dropped g ls) j ≡ word g j
    unfolding dropped keeping new_nodes ks l
    words_tail j b c =
        get_d_tab _ _ j (omega arith) ∙ sym (no_less j (3 * length (kept (live g ls) g.N)) _ _ (omega (arith, few)) (no_less j (3 * g.N) 0 _ b refl))

    pub outputs_tail : (j : ℕ) → g.O ≤ j → j < length g.outputs → output (dropped g ls) j ≡ output g j
    unfolding dropped keeping new_outputs
    outputs_tail j b c = get_d_tab _ _ j c ∙ sym (no_less j g.O _ _ b refl)

    pub same_lengths : (length (dropped g ls).nodes ≡ length g.nodes) × (length (dropped g ls).outputs ≡ length g.outputs) × (length (dropped_locks g ls) ≡ length ls)
    unfolding dropped keeping new_nodes new_outputs dropped_locks new_locks
    same_lengths = (length_tab _ _, length_tab _ _, length_tab _ _)
