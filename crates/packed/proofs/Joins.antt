-- A join reads of its parts what belongs to the graphs, goes by how much the tables hold, and leaves the old graph of what it leaves in packed ones.
-- From the laws of trimmed graphs and of filled tables.
use mathlib.Core.Path.{◌≡◌, refl, sym, ap, ap₂, ◌∙◌}
use mathlib.Core.List.{List, [], ◌∷◌, ◌++◌}
use Prim.Native.Nat.{ℕ, zero, suc, ◌+◌, ◌-◌, ◌*◌, ◌/◌, ◌%◌, ◌<◌}
use native.Mathlib.Omega.{arith}
use lib.ListN.{length, length-append}
use Rattle.graph.specs.Admission.{Admitted}
use Rattle.graph.specs.Answer.{LockedOutcome, locked_outcome, accepted, guarded_locks}
use Rattle.graph.specs.Finite.{tab}
use Rattle.graph.specs.Graph.{Graph, word, output, turn}
use Rattle.graph.specs.Literals.{held, filled}
use Rattle.graph.proofs.Finite.{length_tab, tab_same}
use Rattle.graph.proofs.Turned.{same_graph}
use Rattle.tagged_file.specs.Load.{blank}
use Rattle.join.specs.Join.{met, met_word, joined_graph, joined_locks, join_number, join_call}
use Rattle.join.proofs.Accepted.{fits, joined_values}
use Rattle.join.proofs.Meeting.{met_constant, met_input, met_node, met_by_lem}
use Rattle.packed.specs.Old.{trimmed}
use Rattle.packed.specs.Corresponds.{JoinsCorrespond}
use Rattle.packed.proofs.Admitting.{admission_in}
use Rattle.packed.proofs.Fills.{take_filled, trimmed_fill, guarded_fill, fills}
use Rattle.packed.proofs.Old.{told_alike}
use Rattle.packed.proofs.Trimmed.{word_in, output_in, edge_in}

guarded_same : (k : ℕ) (g : Graph) (ls : List ℕ) (o p : LockedOutcome) → (k ≡ 0 → o ≡ p) → guarded_locks k g ls o ≡ guarded_locks k g ls p
unfolding guarded_locks
guarded_same zero g ls o p e = e refl
guarded_same (suc k) g ls o p e = refl

-- the first part trimmed
module _ (g h : Graph) (same : g.O ≡ h.I) where
  met_in : (x : ℕ) → met (trimmed g) h x ≡ met g h x
  met_in x =
      met_by_lem g h x (λ y. met (trimmed g) h x ≡ y)
      (λ e. met_constant (trimmed g) h x e)
      (λ d k. met_input (trimmed g) h x d k ∙ ap (turn (x % 2)) (output_in g (x / 2 - 1) (omega arith)))
      (λ k. met_node (trimmed g) h x k)

  met_word_in : (j : ℕ) → met_word (trimmed g) h j ≡ met_word g h j
  unfolding met_word
  met_word_in j = rw (met_in (word h j))

  first_in : (ns os : List ℕ) → joined_graph (trimmed g) h ns os ≡ joined_graph g h ns os
  unfolding joined_graph
  first_in ns os =
      same_graph g.I (g.N + h.N) h.O
      (ap₂ (λ (a b : List ℕ). filled (a ++ b) ns) (tab_same (3 * g.N) (word (trimmed g)) (word g) (word_in g)) (tab_same (3 * h.N) (met_word (trimmed g) h) (met_word g h) (λ j l. met_word_in j)))
      (ap (λ (a : List ℕ). filled a os) (tab_same h.O (λ j. met (trimmed g) h (output h j)) (λ j. met g h (output h j)) (λ j l. met_in (output h j))))

-- the second part trimmed
module _ (g h : Graph) where
  second_word_in : (j : ℕ) → j < 3 * h.N → met_word g (trimmed h) j ≡ met_word g h j
  unfolding met_word met
  second_word_in j l = rw (edge_in h j l, word_in h j l)

  second_output_in : (j : ℕ) → j < h.O → met g (trimmed h) (output (trimmed h) j) ≡ met g h (output h j)
  unfolding met
  second_output_in j l = rw (output_in h j l)

  second_in : (ns os : List ℕ) → joined_graph g (trimmed h) ns os ≡ joined_graph g h ns os
  unfolding joined_graph
  second_in ns os =
      same_graph g.I (g.N + h.N) h.O
      (ap (λ (a : List ℕ). filled (tab (3 * g.N) (word g) ++ a) ns) (tab_same (3 * h.N) (met_word g (trimmed h)) (met_word g h) second_word_in))
      (ap (λ (a : List ℕ). filled a os) (tab_same h.O (λ j. met g (trimmed h) (output (trimmed h) j)) (λ j. met g h (output h j)) second_output_in))

module _ (ls ks : List ℕ) where
  first_alike : (h : Graph) (ns os rs : List ℕ) (g : Graph) → Admitted g → join_call (trimmed g) ls h ks ns os rs ≡ join_call g ls h ks ns os rs
  unfolding join_call join_number
  first_alike h ns os rs g adm =
      rw (admission_in g adm ls)
      (guarded_same (join_number g ls h ks (held ns) (held os) (length rs)) (blank ns os) rs _ _
      (λ z. ap (λ (k : Graph). locked_outcome (accepted (g.I ∷ (g.N + h.N) ∷ h.O ∷ [])) k (joined_locks g.N h.N ls ks rs)) (first_in g h (fits g ls h ks (held ns) (held os) (length rs) z).meet ns os)))

  second_alike : (g : Graph) (ns os rs : List ℕ) (h : Graph) → Admitted h → join_call g ls (trimmed h) ks ns os rs ≡ join_call g ls h ks ns os rs
  unfolding join_call join_number
  second_alike g ns os rs h adm =
      rw (admission_in h adm ks, second_in g h ns os)

  module _ (g h : Graph) where
    abbrev words : List ℕ
    words = tab (3 * g.N) (word g) ++ tab (3 * h.N) (met_word g h)

    abbrev outs : List ℕ
    outs = tab h.O (λ j. met g h (output h j))

    joined_same : (ns os ms ps : List ℕ) → trimmed (joined_graph g h ns os) ≡ trimmed (joined_graph g h ms ps)
    unfolding joined_graph
    joined_same ns os ms ps =
        let p : length words ≡ 3 * (g.N + h.N) = omega (arith, length-append (tab (3 * g.N) (word g)) (tab (3 * h.N) (met_word g h)), length_tab (3 * g.N) (word g), length_tab (3 * h.N) (met_word g h)) in
        let q = length_tab h.O (λ j. met g h (output h j)) in
        let x = take_filled (3 * (g.N + h.N)) words in
        let y = take_filled h.O outs in
        same_graph g.I (g.N + h.N) h.O (x ns p ∙ sym (x ms p)) (y os q ∙ sym (y ps q))

    join_same : (ns os ms ps rs : List ℕ) → held ms ≡ held ns → held ps ≡ held os → trimmed_fill (join_call g ls h ks ms ps rs) ≡ trimmed_fill (join_call g ls h ks ns os rs)
    unfolding join_call
    join_same ns os ms ps rs a b =
        rw (a, b)
        (guarded_fill (join_number g ls h ks (held ns) (held os) (length rs)) ms ps ns os rs _ _
        (λ z. ap (λ (k : Graph). locked_outcome (accepted (g.I ∷ (g.N + h.N) ∷ h.O ∷ [])) k (joined_locks g.N h.N ls ks rs)) (joined_same ms ps ns os)))

pub joins_correspond : (ls ks : List ℕ) → JoinsCorrespond ls ks
joins_correspond ls ks =
    record {
      first = λ h ns os rs. told_alike (λ g. join_call g ls h ks ns os rs) (first_alike ls ks h ns os rs);
      second = λ g ns os rs. told_alike (λ h. join_call g ls h ks ns os rs) (second_alike ls ks g ns os rs);
      joined = λ g h. fills (join_call g ls h ks) (join_same ls ks g h) (λ ns os rs e. (joined_values g ls h ks ns os rs e).admitted);
    }
