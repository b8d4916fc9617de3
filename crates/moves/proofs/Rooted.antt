-- Nodes of which one has all readers outside: what their moves save on other edges are that node's odd readers, before less after. So
-- it is with one node, and with the tree of a root. From the law of other edges and the laws of readers.
use Rattle.std.proofs.Common.{◌≡◌, ℕ, zero, suc, ◌+◌, ◌*◌, ◌/◌, ◌%◌, ◌<◌, true, false, cond, ◌≢◌, List, [], ◌∷◌, sym, refl, ap, ◌∙◌, ⊎_elim, arith, eq-eqb, ne_eqb}
use Rattle.graph.specs.Graph.{Graph, node, word, output, is_edge, is_xor}
use Rattle.graph.specs.Count.{named, output_named}
use Rattle.graph.specs.Admission.{Admitted}
use Rattle.graph.specs.Answer.{others_of}
use Rattle.graph.specs.Finite.{difference}
use Rattle.graph.specs.Turned.{turned_by}
use Rattle.graph.proofs.Alike.{Alike, alike_edge}
use Rattle.graph.proofs.Cases.{true_or_false, eq_or_ne}
use Rattle.graph.proofs.Finite.{sum_same}
use Rattle.moves.specs.Apply.{Choice, none, put, apply, seen}
use Rattle.moves.specs.Call.{moved, best_at, rewrite, among, split}
use Rattle.moves.specs.Cost.{shown}
use Rattle.moves.specs.Decide.{numbers_of}
use Rattle.moves.specs.Outside.{odd_outside, outside_word, outside_output, odd_by, NodeOdds}
use Rattle.moves.specs.Rows.{flag}
use Rattle.moves.specs.declared.gains.Odds.{Odds}
use Rattle.moves.specs.Tree.{is_root, reader, root_of, members, tree}
use Rattle.moves.proofs.Apply as applied
use Rattle.moves.proofs.Changed.{at_same, out_adds, seen_none}
use Rattle.moves.proofs.Compose.{seen_node}
use Rattle.moves.proofs.Count.{clash}
use Rattle.moves.proofs.Flags.{flag_bit}
use Rattle.moves.proofs.Kept.{apply_idle}
use Rattle.moves.proofs.Outside.{among_none, among_here, among_later, Only, put_only, none_only, edge_adds, mark_adds, word_outside, word_inside, output_outside, others_are}
use Rattle.moves.proofs.Programme.{members_zero, members_in, members_out}
use Rattle.moves.proofs.Readers.{names, named_by_lem, single, reader_is, root_of_root, root_of_inner, root_of_above, not_root}
use Rattle.moves.proofs.Shown.{all_readers}
use Rattle.moves.proofs.Split.{rewrite_others}

-- of the nodes us only r has readers outside, and all of them are
pub record Rooted (g : Graph) (us : List ℕ) (r : ℕ) : Type 0 where
  pub member : among us r ≡ true
  pub read_outside : (j : ℕ) → j < 3 * g.N → is_edge g j ≡ true → word g j / 2 ≡ r → among us (node g (j / 3)) ≡ false
  pub rest_inside : (j : ℕ) → j < 3 * g.N → is_edge g j ≡ true → among us (word g j / 2) ≡ true → word g j / 2 ≢ r → among us (node g (j / 3)) ≡ true
  pub outputs : (j : ℕ) → j < g.O → among us (output g j / 2) ≡ true → output g j / 2 ≡ r

module _ (g : Graph) (adm : Admitted g) (us : List ℕ) (r : ℕ) (h : Rooted g us r) (m : Choice) (only : Only us m) where
  off_word : (j : ℕ) → j < 3 * g.N → named g r j ≡ false → outside_word (apply g m) us j ≡ 0
  off_word j l n =
      ⊎_elim
      (λ (t : among us (node g (j / 3)) ≡ true). word_inside g adm us m only j t)
      (λ (t : among us (node g (j / 3)) ≡ false).
      word_outside g adm us m only j t ∙
      ⊎_elim
      (λ (s : among us (word g j / 2) ≡ true).
      rw s
      (⊎_elim
      (λ (e : is_edge g j ≡ true). absurd (clash (h.rest_inside j l e s (λ z. clash (named_by_lem g r j e z) n)) t))
      (λ (e : is_edge g j ≡ false). mark_adds g adm us m only j e)
      (true_or_false (is_edge g j))))
      (λ (s : among us (word g j / 2) ≡ false). rw s)
      (true_or_false (among us (word g j / 2))))
      (true_or_false (among us (node g (j / 3))))

  root_word : (j : ℕ) → j < 3 * g.N → outside_word (apply g m) us j ≡ cond (named g r j) ((word g j + seen g m r) % 2) 0
  root_word j l =
      ⊎_elim
      (λ (n : named g r j ≡ true).
      let x = names g r j n in
      let t = h.read_outside j l x.0 x.1 in
      rw (n, word_outside g adm us m only j t, edge_adds g adm us m only j l t x.0, x.1, h.member))
      (λ (n : named g r j ≡ false). rw n (off_word j l n))
      (true_or_false (named g r j))

  root_output : (j : ℕ) → j < g.O → outside_output (apply g m) us j ≡ cond (output_named g r j) ((output g j + seen g m r) % 2) 0
  unfolding output_named
  root_output j l =
      output_outside g adm us m only j ∙
      ⊎_elim
      (λ (e : output g j / 2 ≡ r). rw (out_adds g m adm j l, e, h.member, eq-eqb r r refl))
      (λ (e : output g j / 2 ≢ r).
      rw (ne_eqb _ _ e)
      (⊎_elim
      (λ (q : among us (output g j / 2) ≡ true). absurd (e (h.outputs j l q)))
      (λ (q : among us (output g j / 2) ≡ false). rw q)
      (true_or_false (among us (output g j / 2)))))
      (eq_or_ne (output g j / 2) r)

  -- the odd edges outside, once m is made
  pub outside_after : odd_outside (apply g m) us ≡ shown g r (seen g m r)
  unfolding odd_outside shown apply turned_by
  outside_after = omega (arith, sum_same (3 * g.N) _ _ root_word, sum_same g.O _ _ root_output)

-- as the graph stands
pub outside_root : (g : Graph) → Admitted g → (us : List ℕ) (r : ℕ) → Rooted g us r → odd_outside g us ≡ shown g r 0
outside_root g adm us r h = rw (apply_idle g none adm (λ u. refl), seen_none g none r refl) at (outside_after g adm us r h none (none_only us))

-- complement bits are not looked at
rooted_kept : (g h : Graph) → Alike g h → (us : List ℕ) (r : ℕ) → Rooted g us r → Rooted h us r
rooted_kept g h a us r t =
    record {
      member = t.member;
      read_outside = λ j l e q. rw a.same_I (t.read_outside j (rw a.same_N at l) (rw (alike_edge g h a j) at e) (rw (a.wired j) at q));
      rest_inside = λ j l e q z.
          rw a.same_I
          (t.rest_inside j (rw a.same_N at l) (rw (alike_edge g h a j) at e) (rw (a.wired j) at q) (λ y. z (a.wired j ∙ y)));
      outputs = λ j l q. a.out_wired j ∙ t.outputs j (rw a.same_O at l) (rw (a.out_wired j) at q);
    }

module _ (g : Graph) (adm : Admitted g) (us : List ℕ) (r : ℕ) (h : Rooted g us r) (ms : List ℕ) where
  -- M-104: from the readers before
  pub root_others : (split us g (moved g us ms)).others ≡ difference (shown g r 0) (shown g r (seen g (put none us ms) r))
  unfolding moved
  root_others = others_are g adm us (put none us ms) (put_only us ms) ∙ rw (outside_root g adm us r h, outside_after g adm us r h (put none us ms) (put_only us ms))

  -- and from those before and after
  pub root_others_after : (split us g (moved g us ms)).others ≡ difference (shown g r 0) (shown (moved g us ms) r 0)
  unfolding moved
  root_others_after =
      let m : Choice = put none us ms in
      others_are g adm us m (put_only us ms) ∙
      rw (outside_root g adm us r h, outside_root (apply g m) (applied.admitted g m adm) us r (rooted_kept g (apply g m) (applied.apply_alike g m adm) us r h))

-- one node
module _ (g : Graph) (adm : Admitted g) (v : ℕ) where
  one_other : (w : ℕ) → w ≢ node g v → among (node g v ∷ []) w ≡ false
  one_other w e = among_later [] (node g v) w e ∙ among_none w

  one_is : (w : ℕ) → among (node g v ∷ []) w ≡ true → w ≡ node g v
  one_is w e = ⊎_elim (λ (q : w ≡ node g v). q) (λ (q : w ≢ node g v). absurd (clash e (one_other w q))) (eq_or_ne w (node g v))

  pub node_rooted : Rooted g (node g v ∷ []) (node g v)
  node_rooted =
      record {
        member = among_here [] (node g v) (node g v) refl;
        read_outside = λ j l e q. one_other (node g (j / 3)) (λ z. omega (arith, adm.below j l e));
        rest_inside = λ j l e q z. absurd (z (one_is (word g j / 2) q));
        outputs = λ j l q. one_is (output g j / 2) q;
      }

  -- M-104: a node call's others, from the numbers of the node before it
  pub node_others : (ls : List ℕ) → v < g.N → (k : ℕ) (o : Odds) → NodeOdds (numbers_of g ls v) k o
      → (split (node g v ∷ []) g (moved g (node g v ∷ []) (k ∷ []))).others ≡ difference o.before o.after
  unfolding put odd_by numbers_of
  node_others ls l k o r =
      let b : o.before ≡ shown g (node g v) 0 = r.before ∙ all_readers g (node g v) 0 (omega arith) in
      let a : o.after ≡ shown g (node g v) (flag (is_xor g v) k 3) = r.after ∙ all_readers g (node g v) (flag (is_xor g v) k 3) (flag_bit (is_xor g v) k 3 (omega arith)) in
      root_others g adm (node g v ∷ []) (node g v) node_rooted (k ∷ []) ∙ rw (b, a, seen_node g (put none (node g v ∷ []) (k ∷ [])) v l, at_same none (node g v) k)

  pub node_best_others : (ls : List ℕ) → v < g.N → (k : ℕ) → k ∷ [] ≡ best_at g ls (node g v ∷ []) → (o : Odds) → NodeOdds (numbers_of g ls v) k o
      → others_of (rewrite g ls (node g v ∷ [])).answer ≡ difference o.before o.after
  node_best_others ls l k e o r = rewrite_others g ls (node g v ∷ []) ∙ rw (← e) (node_others ls l k o r)

-- the tree of a root
module _ (g : Graph) (r : ℕ) where
  in_members : (k v : ℕ) → v < k → root_of g (node g v) ≡ r → among (members g r k) (node g v) ≡ true
  in_members zero v h e = absurd (omega arith)
  in_members (suc k) v h e =
      ⊎_elim
      (λ (q : v ≡ k). rw (members_in g r k (rw (← q) e)) (among_here (members g r k) (node g k) (node g v) (ap (node g) q)))
      (λ (q : v ≢ k).
      ⊎_elim
      (λ (z : root_of g (node g k) ≡ r). rw (members_in g r k z) (among_later (members g r k) (node g k) (node g v) (λ y. q (omega arith)) ∙ in_members k v (omega arith) e))
      (λ (z : root_of g (node g k) ≢ r). rw (members_out g r k z) (in_members k v (omega arith) e))
      (eq_or_ne (root_of g (node g k)) r))
      (eq_or_ne v k)

  of_members : (k w : ℕ) → among (members g r k) w ≡ true → (g.I < w) × (w < node g k) × (root_of g w ≡ r)
  of_members zero w e = absurd (clash (rw (members_zero g r) at e) (among_none w))
  of_members (suc k) w e = go (of_members k w)
    where
      go : (among (members g r k) w ≡ true → (g.I < w) × (w < node g k) × (root_of g w ≡ r)) → (g.I < w) × (w < node g (suc k)) × (root_of g w ≡ r)
      go later =
          ⊎_elim
          (λ (z : root_of g (node g k) ≡ r).
          ⊎_elim
          (λ (q : w ≡ node g k). rw q (omega arith, omega arith, z))
          (λ (q : w ≢ node g k). let x = later (sym (among_later (members g r k) (node g k) w q) ∙ (rw (members_in g r k z) at e)) in (x.0, omega arith, x.2))
          (eq_or_ne w (node g k)))
          (λ (z : root_of g (node g k) ≢ r). let x = later (rw (members_out g r k z) at e) in (x.0, omega arith, x.2))
          (eq_or_ne (root_of g (node g k)) r)

module _ (g : Graph) (adm : Admitted g) (n : ℕ) (h : n < g.N) (t : is_root g (node g n) ≡ true) where
  pub tree_rooted : Rooted g (tree g (node g n)) (node g n)
  unfolding tree
  tree_rooted =
      record {
        member = in_members g (node g n) g.N n h (root_of_root g adm (node g n) t);
        read_outside = λ j l e q.
            ⊎_elim
            (λ (y : among (members g (node g n) g.N) (node g (j / 3)) ≡ true).
            let x = of_members g (node g n) g.N (node g (j / 3)) y in
            absurd (omega (arith, adm.below j l e, root_of_above g adm (node g (j / 3)), x.2)))
            (λ (y : among (members g (node g n) g.N) (node g (j / 3)) ≡ false). y)
            (true_or_false (among (members g (node g n) g.N) (node g (j / 3))));
        rest_inside = λ j l e q z.
            let u : ℕ = word g j / 2 in
            let x = of_members g (node g n) g.N u q in
            let s = not_root g adm (node g n) u x.2 z in
            let p : 3 * (j / 3) + j % 3 ≡ j = omega arith in
            let y : reader g u ≡ node g (j / 3) = reader_is g adm u (j / 3) s (j % 3) (omega arith) (omega arith) (rw p e) (rw p refl) in
            in_members g (node g n) g.N (j / 3) (omega arith) (ap (root_of g) (sym y) ∙ sym (root_of_inner g adm u x.0 (omega (arith, x.1)) s) ∙ x.2);
        outputs = λ j l q.
            let x = of_members g (node g n) g.N (output g j / 2) q in
            ⊎_elim
            (λ (z : output g j / 2 ≡ node g n). z)
            (λ (z : output g j / 2 ≢ node g n). absurd ((single g (output g j / 2) (not_root g adm (node g n) (output g j / 2) x.2 z)).no_out j l refl))
            (eq_or_ne (output g j / 2) (node g n));
      }

  -- M-104: a tree call's others are its root's odd readers, before less after
  pub tree_best_others : (ls : List ℕ) → others_of (rewrite g ls (tree g (node g n))).answer ≡ difference (shown g (node g n) 0) (shown (moved g (tree g (node g n)) (best_at g ls (tree g (node g n)))) (node g n) 0)
  tree_best_others ls = rewrite_others g ls (tree g (node g n)) ∙ root_others_after g adm (tree g (node g n)) (node g n) tree_rooted (best_at g ls (tree g (node g n)))
