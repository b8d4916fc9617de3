-- The whole of joining: what the tests that have passed give to what fills the slices, and the definition's outcome. From the laws of an
-- accepted join.
use mathlib.Core.Path.{◌≡◌, refl, sym, ap, ◌∙◌}
use mathlib.Core.List.{List, [], ◌∷◌, ◌++◌}
use Prim.Native.Nat.{ℕ, ◌+◌, ◌*◌, ◌/◌, ◌≤◌, ◌<◌}
use native.Mathlib.Omega.{arith}
use lib.ListN.{length, get_or, take, drop}
use lib.Seq.{paste, take_at, drop_at, drop-drop, length-take-le}
use Rattle.graph.specs.Admission.{LockBytes}
use Rattle.std.proofs.Common.{Result}
use Rattle.std.specs.Result.{IsErrAnd}
use Rattle.graph.specs.Answer.{accepted, number_of, locked_outcome}
use Rattle.graph.specs.declared.Refusal.{Refusal}
use Rattle.graph.specs.Finite.{tab}
use Rattle.graph.specs.Graph.{Graph, graph_of, word, is_edge}
use Rattle.graph.specs.Inner.{words_put}
use Rattle.graph.specs.Literals.{held, filled}
use Rattle.graph.proofs.Filled.{puts_filled}
use Rattle.graph.proofs.Finite.{length_tab, tab_same}
use Rattle.graph.proofs.Literals.{held_le}
use Rattle.graph.proofs.Words.{readable}
use Rattle.tagged_file.specs.Load.{loaded_answer, loaded_graph}
use Rattle.tagged_file.specs.declared.Sizes.{Sizes}
use Rattle.tagged_file.proofs.Whole.{refused_load}
use Rattle.join.specs.Join.{met, met_word, joined_graph, joined_locks, join_number, join_call}
use Rattle.join.specs.Filling.{met_by, met_word_by, Meets, Stand}
use Rattle.join.proofs.Accepted.{Fits, fits, call_is}

-- what the tests of a join that is not refused give to what fills the slices
pub record Ready (g : Graph) (ls : List ℕ) (h : Graph) (ks : List ℕ) (a b l : ℕ) : Type 0 where
  pub known : Fits g ls h ks a b l
  pub meets : Meets g.outputs (g.I + g.N) h.I
  pub stand : Stand h.N h.nodes
  pub outputs_low : (j : ℕ) → j < h.O → get_or h.outputs j 0 / 2 ≤ 104096

-- the words by their numbers and tables are those of the definition
module _ (g h : Graph) where
  words_are : (n : ℕ) → tab n (met_word_by h.nodes g.outputs (g.I + g.N) h.I) ≡ tab n (met_word g h)
  unfolding met_word met is_edge
  words_are n = tab_same n _ _ (λ j l. refl)

  outputs_are : (n : ℕ) → tab n (λ j. met_by g.outputs (g.I + g.N) h.I (get_or h.outputs j 0)) ≡ tab n (λ j. met g h (get_or h.outputs j 0))
  unfolding met
  outputs_are n = tab_same n _ _ (λ j l. refl)

-- nodes put after nodes, from the front
nodes_filled : (n m : ℕ) (f e : ℕ → ℕ) (l l₁ l₂ : List ℕ) → 3 * (n + m) ≤ length l → l₁ ≡ filled (tab (3 * n) f) l → l₂ ≡ words_put (3 * n) (tab (3 * m) e) l₁
    → l₂ ≡ filled (tab (3 * n) f ++ tab (3 * m) e) l
nodes_filled n m f e l l₁ l₂ h p q =
    let a = length_tab (3 * n) f in
    let b = length_tab (3 * m) e in
    q ∙ rw p (rw a at (puts_filled (tab (3 * n) f) (tab (3 * m) e) l (omega arith)))

-- locks copied after locks, from the front
locks_joined : (n m : ℕ) (ls ks rs rs₁ rs₂ : List ℕ) → LockBytes n ls → rs₁ ≡ paste rs 0 ls n → rs₂ ≡ paste rs₁ n ks m → rs₂ ≡ joined_locks n m ls ks rs
unfolding joined_locks
locks_joined n m ls ks rs rs₁ rs₂ p e d =
    let z : 0 + n ≡ n = omega arith in
    let f : rs₁ ≡ take n ls ++ drop n rs = e ∙ ap (λ (i : ℕ). take n ls ++ drop i rs) z in
    let l = length-take-le n ls p.enough in
    let a : take n rs₁ ≡ take n ls = ap (take n) f ∙ take_at (take n ls) (drop n rs) n l in
    let b : drop n rs₁ ≡ drop n rs = ap (drop n) f ∙ drop_at (take n ls) (drop n rs) n l in
    let c : drop (n + m) rs₁ ≡ drop (n + m) rs = sym (drop-drop m n rs₁) ∙ ap (drop m) b ∙ drop-drop m n rs in
    d ∙ rw (a, c)

module _ (g : Graph) (ls : List ℕ) (h : Graph) (ks ns os rs : List ℕ) where
  pub join_refused : (r : Result Sizes Refusal) (x : Refusal) → IsErrAnd r (λ y. y ≡ x) → number_of x ≡ join_number g ls h ks (held ns) (held os) (length rs)
      → locked_outcome (loaded_answer r) (loaded_graph r ns os) rs ≡ join_call g ls h ks ns os rs
  unfolding join_call
  join_refused r x e n = refused_load r x _ ns os rs _ e n

  module _ (z : join_number g ls h ks (held ns) (held os) (length rs) ≡ 0) where
    abbrev known : Fits g ls h ks (held ns) (held os) (length rs)
    known = fits g ls h ks (held ns) (held os) (length rs) z

    pub ready : Ready g ls h ks (held ns) (held os) (length rs)
    unfolding is_edge
    ready =
        let p = known.first_admitted in
        let s = known.second_admitted in
        record {
          known = known;
          meets = record {
            few_indices = omega (arith, p.few_inputs, p.few_nodes);
            few_inputs = s.few_inputs;
            enough = omega (arith, known.meet, p.held_outputs);
            low = λ j l. omega (arith, p.output_below j (omega (arith, known.meet)), p.few_inputs, p.few_nodes);
          };
          stand = record {
            few = s.few_nodes;
            readable = readable h s;
            low = λ j l t. omega (arith, s.below j l t, s.few_inputs, s.few_nodes);
          };
          outputs_low = λ j l. omega (arith, s.output_below j l, s.few_inputs, s.few_nodes);
        }

    pub join_accepted : (ns₁ ns₂ os' rs₁ rs₂ : List ℕ) → ns₁ ≡ filled (tab (3 * g.N) (word g)) ns
        → ns₂ ≡ words_put (3 * g.N) (tab (3 * h.N) (met_word_by h.nodes g.outputs (g.I + g.N) h.I)) ns₁
        → os' ≡ filled (tab h.O (λ j. met_by g.outputs (g.I + g.N) h.I (get_or h.outputs j 0))) os
        → rs₁ ≡ paste rs 0 ls g.N → rs₂ ≡ paste rs₁ g.N ks h.N
        → locked_outcome (accepted (g.I ∷ (g.N + h.N) ∷ h.O ∷ [])) (graph_of g.I (g.N + h.N) h.O ns₂ os') rs₂ ≡ join_call g ls h ks ns os rs
    unfolding joined_graph
    join_accepted ns₁ ns₂ os' rs₁ rs₂ p q eo r t =
        let room = known.rooms in
        let en = nodes_filled g.N h.N (word g) (met_word_by h.nodes g.outputs (g.I + g.N) h.I) ns ns₁ ns₂ (omega (arith, room.long_nodes, held_le ns)) p q in
        let er = locks_joined g.N h.N ls ks rs rs₁ rs₂ known.first_locks r t in
        rw (en, eo, er, words_are g h (3 * h.N), outputs_are g h h.O) (sym (call_is g ls h ks ns os rs z))
