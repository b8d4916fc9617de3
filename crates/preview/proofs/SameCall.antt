-- The bytes of a preview tell the tree call's choice: made, its moves give the tree call's graph. A preview with bytes enough is refused
-- as the tree call is. From the laws on lists of moves.
use mathlib.Core.Path.{◌≡◌, refl, sym, ap, ◌∙◌, fun_ext}
use mathlib.Core.Bool.{true, false}
use mathlib.Core.List.{List, [], ◌∷◌}
use mathlib.Core.Logic.{⊎_elim, ◌⊎◌, inl, inr, ◌≢◌}
use Prim.Native.Nat.{ℕ, zero, suc, ◌+◌, ◌-◌, ◌≤◌, ◌<◌}
use native.Mathlib.Omega.{arith}
use borrow.Author.Tests.{lt-ltb, ltb-true}
use lib.Dec.{ltb}
use lib.ListN.{length, get_or}
use Rattle.graph.specs.Finite.{if_less, first}
use Rattle.graph.specs.Graph.{Graph, node}
use Rattle.graph.specs.Admission.{tables_number, content_number, admission_number}
use Rattle.graph.proofs.Cases.{eq_or_ne, true_or_false}
use Rattle.graph.proofs.Finite.{get_d_tab}
use Rattle.graph.proofs.Tests.{less, equal, long_slice}
use Rattle.moves.specs.Apply.{Choice, none, at, put, apply}
use Rattle.graph.specs.Count.{C}
use Rattle.graph.specs.Answer.{Answer, Outcome}
use Rattle.moves.specs.Outside.{saved_by}
use Rattle.moves.specs.Tree.{root_of, members, tree}
use Rattle.moves.specs.Compose.{IsRoot}
use Rattle.moves.specs.Call.{moved, best_at, rewrite, is_node, tree_number, tree_call}
use Rattle.moves.proofs.Changed.{at_other}
use Rattle.moves.proofs.Count.{clash}
use Rattle.moves.proofs.Readers.{both_true}
use Rattle.state.specs.State.{stands}
use Rattle.state.specs.Step.{Made, Parted}
use Rattle.state.specs.declared.moving.Step.{Step}
use Rattle.trees.specs.Stepping.{tree_moved}
use Rattle.tree_call.proofs.Saved.{rewrite_is}
use Rattle.preview.specs.Telling.{DecidedAs}
use Rattle.moves.proofs.Programme.{members_zero, members_in, members_out}
use Rattle.preview.specs.Preview.{tree_moves, moves_told, choice_in, preview_number, preview_answer, preview_bytes, AsTreeCall}
use Rattle.graph.proofs.Answers.{accepted_is, accepted_outcome}
use Rattle.preview.proofs.Refusing.{accepted_preview}
use Rattle.preview.proofs.Choices.{choice_at, choice_none}

-- moves at nodes leave every other index alone
put_nil : (d : Choice) (ms : List ℕ) → put d [] ms ≡ d
unfolding put
put_nil d ms = refl

put_short : (d : Choice) (u : ℕ) (us : List ℕ) → put d (u ∷ us) [] ≡ d
unfolding put
put_short d u us = refl

put_one : (d : Choice) (u k : ℕ) (us ms : List ℕ) → put d (u ∷ us) (k ∷ ms) ≡ put (at d u k) us ms
unfolding put
put_one d u k us ms = refl

module _ (g : Graph) (r u : ℕ) where
  put_past : (n : ℕ) (ms : List ℕ) (d : Choice) → ((v : ℕ) → v < n → u ≢ node g v) → put d (members g r n) ms u ≡ d u
  put_past zero ms d h = rw (members_zero g r, put_nil d ms)
  put_past (suc n) ms d h = go (eq_or_ne (root_of g (node g n)) r) ms (λ ms d. put_past n ms d (λ v l. h v (omega arith)))
    where
      go : (root_of g (node g n) ≡ r) ⊎ (root_of g (node g n) ≢ r) → (ms : List ℕ) → ((ms : List ℕ) (d : Choice) → put d (members g r n) ms u ≡ d u)
          → put d (members g r (suc n)) ms u ≡ d u
      go (inr e) ms ih = rw (members_out g r n e) (ih ms d)
      go (inl e) [] ih = rw (members_in g r n e, put_short d (node g n) (members g r n))
      go (inl e) (k ∷ ms) ih =
          rw (members_in g r n e, put_one d (node g n) k (members g r n) ms) (ih ms (at d (node g n) k) ∙ at_other d (node g n) k u (h n (omega arith)))

pub node_is : (g : Graph) (v : ℕ) → v < g.N → is_node g (node g v) ≡ true
unfolding is_node
node_is g v l = rw (lt-ltb g.I (node g v) (omega arith), lt-ltb (node g v) (node g g.N) (omega arith))

pub node_of : (g : Graph) (u : ℕ) → is_node g u ≡ true → (u - (g.I + 1) < g.N) × (node g (u - (g.I + 1)) ≡ u)
unfolding is_node
node_of g u e =
    let t = both_true (ltb g.I u) (ltb u (node g g.N)) e in
    let a = ltb-true g.I u t.0 in
    let b = ltb-true u (node g g.N) t.1 in
    (omega (arith, a, b), omega (arith, a, b))

module _ (g : Graph) (ls : List ℕ) (r : ℕ) where
  moves_past : (u : ℕ) → is_node g u ≡ false → tree_moves g ls r u ≡ 0
  unfolding tree_moves tree
  moves_past u e = put_past g r u g.N (best_at g ls (members g r g.N)) none (λ v l z. clash (node_is g v l) (rw (← z) e))

  module _ (bs : List ℕ) (enough : g.N ≤ length bs) where
    pub told_at : (v : ℕ) → v < g.N → get_or (moves_told g ls r bs) v 0 ≡ tree_moves g ls r (node g v)
    unfolding moves_told
    told_at v l =
        get_d_tab (length bs) (λ j. if_less j g.N (tree_moves g ls r (node g j)) (get_or bs j 0)) v (omega arith)
        ∙ sym (less v g.N (tree_moves g ls r (node g v)) (get_or bs v 0) l refl)

    -- what the bytes tell, index by index
    choice_told : (u : ℕ) → choice_in g (moves_told g ls r bs) u ≡ tree_moves g ls r u
    choice_told u =
        ⊎_elim
        (λ (e : is_node g u ≡ true).
        let n = node_of g u e in
        rw (← n.1) (choice_at g (moves_told g ls r bs) (u - (g.I + 1)) n.0 ∙ told_at (u - (g.I + 1)) n.0))
        (λ (e : is_node g u ≡ false). choice_past e ∙ sym (moves_past u e))
        (true_or_false (is_node g u))
      where
        choice_past : is_node g u ≡ false → choice_in g (moves_told g ls r bs) u ≡ 0
        choice_past e = choice_none g (moves_told g ls r bs) u e

    pub choice_is : choice_in g (moves_told g ls r bs) ≡ tree_moves g ls r
    choice_is = fun_ext choice_told

    -- the moves in the bytes, made, give the tree call's graph
    pub graph_told : apply g (choice_in g (moves_told g ls r bs)) ≡ moved g (tree g r) (best_at g ls (tree g r))
    unfolding moved tree_moves
    graph_told = ap (apply g) choice_is

-- the moves of the root's tree told, and made in scratch, which becomes sc': what the tree call saves
pub preview_is : (g : Graph) (ls sc sc' bs bs' : List ℕ) (r v b : ℕ) (s : Step) (x : Answer) → IsRoot g r → v ≡ r - (g.I + 1)
    → (bs' ≡ moves_told g ls (node g v) bs) × DecidedAs g ls (node g v) sc
    → Made sc g sc' (tree_moved (stands g sc) ls (node g v)) s.count × Parted (rewrite (stands g sc) ls (tree (stands g sc) (node g v))) s
    → b ≡ C g → x ≡ saved_by b s.count s.before s.after → (x ≡ (rewrite g ls (tree g r)).answer) × (bs' ≡ moves_told g ls r bs)
preview_is g ls sc sc' bs bs' r v b s x i e t m p q =
    let n : node g v ≡ r = omega (arith, e, i.after_inputs) in
    (ap (λ (o : Outcome). o.answer) (rewrite_is g (tree_moved g ls (node g v)) ls sc sc' r v b s x i e t.1.itself m refl p q), t.0 ∙ ap (λ u. moves_told g ls u bs) n)

-- a fault that two numbers begin with is told once
first_again : (t l x : ℕ) → first t (first (first t l) x) ≡ first (first t l) x
unfolding first
first_again zero l x = refl
first_again (suc t) l x = refl

first_none : (x : ℕ) → first 0 x ≡ x
unfolding first
first_none x = refl

module _ (g : Graph) (ls bs : List ℕ) (s r : ℕ) where
  number_alike : g.N ≤ length bs → preview_number g ls (length bs) s r ≡ tree_number g ls s r
  unfolding preview_number tree_number admission_number
  number_alike l = rw (← long_slice (length bs) g.N l, first_none _) (first_again (tables_number g ls) (content_number g ls) _)

  pub tree_accepted : preview_number g ls (length bs) s r ≡ 0 → (tree_number g ls s r ≡ 0) × (g.N ≤ length bs)
  tree_accepted e = let l = (accepted_preview g ls (length bs) s r e).3 in (sym (number_alike l) ∙ e, l)

  call_is : tree_number g ls s r ≡ 0 → tree_call g ls s r ≡ rewrite g ls (tree g r)
  unfolding tree_call
  call_is e = sym (accepted_outcome (tree_number g ls s r) g (rewrite g ls (tree g r)) e)

  answered : preview_number g ls (length bs) s r ≡ 0 → preview_answer g ls (length bs) s r ≡ (tree_call g ls s r).answer
  unfolding preview_answer
  answered e =
      sym (accepted_is (preview_number g ls (length bs) s r) (rewrite g ls (tree g r)).answer e) ∙ ap (λ o. o.answer) (sym (call_is (tree_accepted e).0))

  pub bytes_told : preview_number g ls (length bs) s r ≡ 0 → preview_bytes g ls bs s r ≡ moves_told g ls r bs
  unfolding preview_bytes
  bytes_told e = sym (equal (preview_number g ls (length bs) s r) 0 (moves_told g ls r bs) bs e refl)

  left : preview_number g ls (length bs) s r ≡ 0 → apply g (choice_in g (preview_bytes g ls bs s r)) ≡ (tree_call g ls s r).graph
  unfolding rewrite
  left e =
      let t = tree_accepted e in
      ap (λ x. apply g (choice_in g x)) (bytes_told e) ∙ graph_told g ls r bs t.1 ∙ ap (λ o. o.graph) (sym (call_is t.0))

  pub as_tree_call : AsTreeCall g ls bs s r
  as_tree_call = record { refused_alike = number_alike; same_answer = answered; same_graph = left }
