-- What a settled graph and a refusal come to is the call's definition. From the laws on answers, tests and kinds.
use mathlib.Core.Path.{◌≡◌, refl, sym, ap, ap₂, ◌∙◌}
use mathlib.Core.List.{List, [], ◌∷◌}
use mathlib.Core.Logic.{⊎_elim, ◌≢◌}
use Prim.Native.Nat.{ℕ, zero, suc, ◌+◌, ◌*◌, ◌<◌}
use native.Mathlib.Omega.{arith}
use lib.IntN.{ℤ}
use lib.ListN.{get_or}
use Rattle.graph.specs.Finite.{sum, first}
use Rattle.graph.specs.Graph.{Graph, is_xor}
use Rattle.graph.specs.Count.{C}
use Rattle.graph.specs.Admission.{Admitted, tables_number, content_number, admission_number}
use Rattle.std.specs.Prelude.{Result}
use Rattle.std.specs.Result.{IsErrAnd}
use Rattle.std.proofs.lemmas.Result.{err_from_is_err_and}
use Rattle.graph.specs.Answer.{Answer, Outcome, number_of, answer_by, outcome, refused, gained}
use Rattle.graph.specs.declared.Refusal.{Refusal}
use Rattle.graph.proofs.Answers.{number_some, refused_outcome, accepted_outcome}
use Rattle.graph.proofs.Cases.{eq_or_ne}
use Rattle.graph.proofs.Steps.{first_assoc}
use Rattle.graph.proofs.Tests.{both, none}
use Rattle.graph.proofs.Words.{readable}
use Rattle.moves.specs.Call.{scratch_fault}
use Rattle.rounds.specs.Settle.{settle, settled, settle_number, settle_call}
use Rattle.rounds.proofs.Rounds.{settle_ended}
use Rattle.settling.proofs.Answering.{passed}
use Rattle.class_figures.specs.Figures.{kind_cells, cells, row_of}
use Rattle.class_figures.specs.Call.{record_number, length_number, class_number, entered, ClassOutcome, class_outcome, guarded_class, settled_in, class_call}
use Rattle.class_figures.specs.Inner.{Countable, node_cells, answer_row}
use Rattle.class_figures.proofs.SameKinds.{same_cells}

pub refused_class : (k m : ℕ) (g : Graph) (r : List ℕ) (o : ClassOutcome) → k ≡ m → m ≢ 0 → class_outcome (refused k) g r ≡ guarded_class m g r o
unfolding guarded_class
refused_class k zero g r o e n = absurd (n refl)
refused_class k (suc m) g r o e n = ap (λ (i : ℕ). class_outcome (refused i) g r) e

accepted_class : (m : ℕ) (g : Graph) (r : List ℕ) (o : ClassOutcome) → m ≡ 0 → o ≡ guarded_class m g r o
unfolding guarded_class
accepted_class zero g r o e = refl
accepted_class (suc m) g r o e = absurd (omega arith)

pub rounds_entered : (n b a x y : ℕ) (own others : ℤ) (r : List ℕ) → x ≡ y
    → entered (b ∷ a ∷ n ∷ (13 * b + x) ∷ (13 * a + x) ∷ []) r ≡ entered (answer_row (gained (n ∷ b ∷ a ∷ []) own others) y) r
unfolding answer_row
rounds_entered n b a x y own others r e = rw e refl

-- its figures are low
pub row_low : (n b a x : ℕ) → n < 4294967296 → b < 4294967296 → a < 4294967296 → x < 4294967296
    → (k : ℕ) → k < 5 → get_or (b ∷ a ∷ n ∷ (13 * b + x) ∷ (13 * a + x) ∷ []) k 0 < 1099511627776
row_low n b a x hn hb ha hx zero h = omega arith
row_low n b a x hn hb ha hx (suc zero) h = omega arith
row_low n b a x hn hb ha hx (suc (suc zero)) h = omega arith
row_low n b a x hn hb ha hx (suc (suc (suc zero))) h = omega arith
row_low n b a x hn hb ha hx (suc (suc (suc (suc zero)))) h = omega arith
row_low n b a x hn hb ha hx (suc (suc (suc (suc (suc k))))) h = absurd (omega arith)

first_cut : (a b d e : ℕ) → first a (first b d) ≢ 0 → first a (first b (first d e)) ≡ first a (first b d)
unfolding first
first_cut (suc a) b d e n = refl
first_cut zero (suc b) d e n = refl
first_cut zero zero (suc d) e n = refl
first_cut zero zero zero e n = absurd (n refl)

same_graph : (a a' : Answer) (h h' : Graph) → outcome a h ≡ outcome a' h' → h ≡ h'
same_graph a a' h h' e = ap (λ (o : Outcome). o.graph) e

same_answer : (a a' : Answer) (h h' : Graph) → outcome a h ≡ outcome a' h' → a ≡ a'
same_answer a a' h h' e = ap (λ (o : Outcome). o.answer) e

-- the cells of a graph's nodes are those of its node table
table_cells : (g : Graph) → node_cells g.N g.nodes ≡ sum g.N (kind_cells g)
unfolding node_cells kind_cells is_xor
table_cells g = refl

row_is : (g h : Graph) (a : Answer) (n x : ℕ) (own others : ℤ) → a ≡ gained (n ∷ C g ∷ C h ∷ []) own others → x ≡ sum g.N (kind_cells g) → x ≡ sum h.N (kind_cells h)
    → answer_row a x ≡ row_of g (outcome a h)
unfolding answer_row row_of cells
row_is g h a n x own others b p q =
    ap (λ (t : Answer). answer_row t x) b
    ∙ ap₂ (λ (y z : ℕ). C g ∷ C h ∷ n ∷ (13 * C g + y) ∷ (13 * C h + z) ∷ []) p q
    ∙ ap (λ (t : Answer). row_of g (outcome t h)) (sym b)

admitted_countable : (h : Graph) → Admitted h → Countable h.N h.nodes
admitted_countable h adm = record { few = adm.few_nodes; words = readable h adm }

module _ (g : Graph) (ls : List ℕ) (s : ℕ) (h : Graph) (a : Answer) (e : outcome a h ≡ settle_call g ls s) where
  -- an accepted answer is that of the rounds, and a refused one tells settling's number
  as_settled : settle_number g ls s ≡ 0 → outcome a h ≡ settled g (settle ls g)
  unfolding settle_call
  as_settled z = e ∙ sym (accepted_outcome (settle_number g ls s) g (settled g (settle ls g)) z)

  as_refused : settle_number g ls s ≢ 0 → outcome a h ≡ outcome (refused (settle_number g ls s)) g
  unfolding settle_call
  as_refused z = let n = settle_number g ls s in e ∙ sym (refused_outcome n n g (settled g (settle ls g)) refl z)

  number_of_lem : settle_number g ls s ≢ 0 → a.number ≡ settle_number g ls s
  number_of_lem z = ap (λ (o : Outcome). o.answer.number) (as_refused z)

  -- the nodes of a settled graph can be counted, and their cells are those from before
  pub countable : a.number ≡ 0 → Countable h.N h.nodes
  countable w =
      ⊎_elim
      (λ (z : settle_number g ls s ≡ 0).
      let d : h ≡ (settle ls g).made.graph = same_graph a _ h _ (as_settled z) in
      rw d (admitted_countable (settle ls g).made.graph (settle_ended ls g (passed g ls s z).0).keeps.stays.admitted))
      (λ (z : settle_number g ls s ≢ 0). absurd (z (sym (number_of_lem z) ∙ w)))
      (eq_or_ne (settle_number g ls s) 0)

  cells_kept : settle_number g ls s ≡ 0 → node_cells h.N h.nodes ≡ sum g.N (kind_cells g)
  cells_kept z =
      let adm = (passed g ls s z).0 in
      let d : h ≡ (settle ls g).made.graph = same_graph a _ h _ (as_settled z) in
      table_cells h ∙ ap (λ (k : Graph). sum k.N (kind_cells k)) d ∙ same_cells g (settle ls g).made.graph adm (settle_ended ls g adm).keeps.stays

  -- an accepted answer's row is that of the settling
  same_row : settle_number g ls s ≡ 0 → (a.number ≡ 0) × (answer_row a (node_cells h.N h.nodes) ≡ row_of g (outcome a h))
  same_row z =
      let w = settle ls g in
      let d : h ≡ w.made.graph = same_graph a _ h _ (as_settled z) in
      let b : a ≡ gained (w.rounds ∷ C g ∷ C w.made.graph ∷ []) w.made.own w.made.others = same_answer a _ h _ (as_settled z) in
      let c = b ∙ ap (λ (k : Graph). gained (w.rounds ∷ C g ∷ C k ∷ []) w.made.own w.made.others) (sym d) in
      (ap (λ (t : Answer). t.number) b, row_is g h a w.rounds _ w.made.own w.made.others c (cells_kept z) (table_cells h))

module _ (r : List ℕ) (g : Graph) (ls : List ℕ) (s : ℕ) where
  -- what is tested before the graph's contents
  abbrev pub early : ℕ
  early = first (record_number 1000 r) (first (tables_number g ls) (length_number r))

  early_fault : early ≢ 0 → class_number r g ls s ≡ early
  unfolding class_number
  early_fault d = first_cut (record_number 1000 r) (tables_number g ls) (length_number r) (first (content_number g ls) (scratch_fault g s)) d

  -- by whose refusal the call ends
  pub ends_early : {T : Type 0} (t : T → Answer) (q : Result T Refusal) (x : Refusal) → IsErrAnd q (λ y. y ≡ x) → number_of x ≡ early → class_outcome (answer_by t q) g r ≡ class_call r g ls s
  unfolding class_call
  ends_early t q x p e =
      let y = err_from_is_err_and q p in
      let n : early ≢ 0 = λ z. number_some x (e ∙ z) in
      let f = early_fault n in
      rw (y.1, y.2) (refused_class (number_of x) (class_number r g ls s) g r (settled_in r g (settle_call g ls s)) (e ∙ sym f) (λ z. n (sym f ∙ z)))

  -- where the record has room, settling's number decides
  pub class_number_lem : record_number 1000 r ≡ 0 → length_number r ≡ 0 → class_number r g ls s ≡ settle_number g ls s
  unfolding class_number settle_number admission_number
  class_number_lem p q =
      let t = tables_number g ls in
      let d = first (content_number g ls) (scratch_fault g s) in
      let l : first (length_number r) d ≡ d = sym (none (length_number r) d q refl) in
      sym (none (record_number 1000 r) (first t (first (length_number r) d)) p (sym (ap (first t) l))) ∙ sym (first_assoc t (content_number g ls) (scratch_fault g s))

  later_number : early ≡ 0 → class_number r g ls s ≡ settle_number g ls s
  later_number e =
      let a = both (record_number 1000 r) _ e in
      class_number_lem a.0 (both (tables_number g ls) (length_number r) a.1).1

  module _ (h : Graph) (a : Answer) (e : outcome a h ≡ settle_call g ls s) where
    -- a graph that settling refuses is not entered
    pub refused_late : early ≡ 0 → a.number ≢ 0 → class_outcome a h r ≡ class_call r g ls s
    unfolding class_call
    refused_late k w =
        let n = settle_number g ls s in
        let z : n ≢ 0 = λ (z : n ≡ 0). w (same_row g ls s h a e z).0 in
        let o = as_refused g ls s h a e z in
        let d : h ≡ g = same_graph a _ h _ o in
        let b : a ≡ refused n = same_answer a _ h _ o in
        let l = later_number k in
        ap₂ (λ (t : Answer) (u : Graph). class_outcome t u r) b d
        ∙ refused_class n (class_number r g ls s) g r (settled_in r g (settle_call g ls s)) (sym l) (λ w. z (sym l ∙ w))

    -- and one that it settles is, by its row
    pub class_is : early ≡ 0 → a.number ≡ 0 → class_outcome a h (entered (answer_row a (node_cells h.N h.nodes)) r) ≡ class_call r g ls s
    unfolding class_call
    class_is k w =
        let z : settle_number g ls s ≡ 0 = ⊎_elim (λ (z : settle_number g ls s ≡ 0). z) (λ (z : settle_number g ls s ≢ 0). absurd (z (sym (number_of_lem g ls s h a e z) ∙ w))) (eq_or_ne (settle_number g ls s) 0) in
        let f = same_row g ls s h a e z in
        let n : class_number r g ls s ≡ 0 = later_number k ∙ z in
        ap (λ (w : List ℕ). class_outcome a h (entered w r)) f.1 ∙ ap (settled_in r g) e ∙ accepted_class (class_number r g ls s) g r (settled_in r g (settle_call g ls s)) n

  pub ends_late : {T : Type 0} (t : T → Answer) (q : Result T Refusal) (x : Refusal) (h : Graph) → IsErrAnd q (λ y. y ≡ x) → outcome (refused (number_of x)) h ≡ settle_call g ls s
      → early ≡ 0 → class_outcome (answer_by t q) h r ≡ class_call r g ls s
  ends_late t q x h p e k = let y = err_from_is_err_and q p in rw (y.1, y.2) (refused_late h (refused (number_of x)) e k (number_some x))
