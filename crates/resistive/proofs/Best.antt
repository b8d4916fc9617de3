-- M-109: the moves decided from the root down are the best by the key, for any number of moves a node that leaves the root's
-- readers unturned.
use mathlib.Core.Path.{◌≡◌, refl, sym, ap, ◌∙◌}
use mathlib.Core.Bool.{Bool, true, false, ◌&&◌}
use mathlib.Core.List.{List, map}
use mathlib.Core.Logic.{⊎_elim, ◌≢◌}
use Prim.Native.Nat.{ℕ, suc, ◌+◌, ◌-◌, ◌*◌, ◌/◌, ◌≤◌, ◌<◌}
use native.Mathlib.Omega.{arith}
use borrow.Author.Tests.{eq-eqb, ne_eqb, lt-ltb}
use lib.Dec.{eqb, ltb}
use Rattle.graph.specs.Admission.{Admitted}
use Rattle.graph.specs.Count.{output_adds}
use Rattle.graph.specs.Graph.{Graph, is_xor, node, word}
use Rattle.moves.specs.Apply.{Choice, seen, apply, at, none, put}
use Rattle.moves.specs.Call.{moved}
use Rattle.moves.specs.Cost.{inner}
use Rattle.resistive.specs.Resistive.{key, still_at, best_still}
use Rattle.resistive.specs.Family.{miss_key, below, KeyCosts, earlier, seen_in, reader_family, KeyDecided}
use Rattle.moves.specs.Rows.{flag}
use Rattle.moves.specs.Tree.{is_root, place, root_of, tree}
use Rattle.graph.proofs.Cases.{eq_or_ne, lt_or_le}
use Rattle.graph.proofs.Finite.{sum_same, sum_but_one}
use Rattle.moves.proofs.Changed.{at_same, at_other, seen_none, out_adds}
use Rattle.moves.proofs.Compose.{seen_low}
use Rattle.moves.proofs.Count.{clash}
use Rattle.resistive.proofs.Potential.{node_key, Ψ, Ψ_zero}
use Rattle.resistive.proofs.Step.{family_same, Ψ_other, Ψ_step, seen_at, own_key, reader_key, reader_after, tight_key}
use Rattle.moves.proofs.Potential.{undecided, undecided_yes, inner_is, Off}
use Rattle.moves.proofs.Programme.{Programme, Decides, Agree, best_of, programme_best}
use Rattle.choice.proofs.Best.{best_shift, first_shift}
use Rattle.moves.proofs.Readers.{root_of_root, root_of_inner, not_root}
use Rattle.moves.proofs.Step.{at_zero}
use Rattle.moves.proofs.TreeBest.{reader_node}
use Rattle.moves.proofs.Moves.{some_fit}
use Rattle.resistive.proofs.Misses.{majorities, key_by_misses}
use Rattle.resistive.proofs.Still.{still_at_pos, still_at_root}
use Rattle.choice.specs.Inner.{FirstBelow}
use Rattle.moves.specs.Compose.{IsRoot}

pub seen_same : (g : Graph) (d m : Choice) (u : ℕ) → d u ≡ m u → seen g d u ≡ seen g m u
unfolding seen
seen_same g d m u e = rw e

and_swap : (a b e : Bool) → (a && b) && e ≡ ((a && true) && e) && b
and_swap true true true = refl
and_swap true true false = refl
and_swap true false true = refl
and_swap true false false = refl
and_swap false b e = refl

-- of what a node of the tree names, the undecided are the non-roots below n
undecided_earlier : (g : Graph) (r n p u : ℕ) → u < node g p → undecided g r p u ≡ inner g u → undecided g r n u ≡ earlier g n u
unfolding undecided earlier
undecided_earlier g r n p u l e =
    and_swap (ltb g.I u) (ltb u (node g n)) (eqb (root_of g u) r) ∙ ap (λ x. x && ltb u (node g n)) (ap (λ x. (ltb g.I u && x) && eqb (root_of g u) r) (sym (lt-ltb _ _ l)) ∙ e)

module _ (g : Graph) (mv : ℕ → ℕ) (pos : (u : ℕ) → 0 < mv u) (adm : Admitted g) (c : ℕ → ℕ → ℕ) (tn : ℕ → ℕ) (tpos : (u : ℕ) → 0 < tn u) (o : ℕ → ℕ) (cs : KeyCosts g mv c tn o)
    (t : ℕ) (h : t < g.N) (isr : is_root g (node g t) ≡ true) where
  abbrev r : ℕ
  r = node g t

  own_root : root_of g r ≡ r
  own_root = root_of_root g adm r isr

  abbrev both : ℕ → Choice → ℕ → ℕ
  both n d = λ k. node_key g c tn r n (at d (node g n) k) n + node_key g c tn r n (at d (node g n) k) (place g (node g n) / 3)

  abbrev readers_key : ℕ → Choice → ℕ
  readers_key n d = node_key g c tn r (suc n) d (place g (node g n) / 3)

  inside : (n : ℕ) → n < t → root_of g (node g n) ≡ r → is_root g (node g n) ≡ false
  inside n l i = not_root g adm r (node g n) i (λ z. omega arith)

  off_at : (d : Choice) (n k : ℕ) → root_of g (node g n) ≡ r → Off g r d → Off g r (at d (node g n) k)
  off_at d n k i off u q = at_other d (node g n) k u (λ z. q (rw z i)) ∙ off u q

  programme : Programme (miss_key g r) mv pos g r t (Off g r) (Ψ g c tn r) readers_key both o
  programme = record {
    ends = λ d q. Ψ_zero g c tn r adm d;
    kept = λ n k d l i j off. off_at d n k i off;
    passes = λ n d l i off. Ψ_other g c tn r adm n d i;
    steps = λ n k d l i j off. Ψ_step g c tn r adm n (omega arith) i d off (inside n l i) k;
    tight = λ n m d l i off b. tight_key g c tn r adm n (omega arith) i d off (inside n l i) tpos mv o cs m b;
  }

  -- the root leaves its readers
  module _ (k : ℕ) (still : flag (is_xor g t) k 3 ≡ 0) where
    seen_still : seen g (at none r k) ≡ seen g none
    seen_still = seen_at g c tn r adm t h own_root none (λ u q. refl) k ∙ rw still (at_zero (seen g none) r (seen_none g none r refl))

    node_still : (v : ℕ) → v ≢ t → node_key g c tn r t (at none r k) v ≡ node_key g c tn r t none v
    unfolding node_key
    node_still v q = rw (at_other none r k (node g v) (λ z. q (omega arith)), seen_still)

    out_still : (j : ℕ) → j < g.O → output_adds (apply g (at none r k)) j ≡ output_adds (apply g none) j
    out_still j l = rw (out_adds g (at none r k) adm j l, out_adds g none adm j l, seen_still)

    Ψ_root : Ψ g c tn r t (at none r k) + node_key g c tn r t none t ≡ below g c tn t k + Ψ g c tn r t none
    unfolding Ψ
    Ψ_root =
        omega (
          arith,
          sum_but_one g.N (node_key g c tn r t (at none r k)) (node_key g c tn r t none) t h (λ v l q. node_still v q),
          sum_same g.O _ _ out_still,
          own_key g c tn r adm t h own_root none (λ u q. refl) k,
        )

  module _ (m : Choice) (dec : KeyDecided g mv c tn r m) (still : (k : ℕ) → k < mv r → flag (is_xor g t) k 3 ≡ 0) where
    module _ (n : ℕ) (l : n < t) (i : root_of g (node g n) ≡ r) (d : Choice) (off : Off g r d) (ag : Agree (miss_key g r) mv pos g r m (suc n) d) where
      abbrev p : ℕ
      p = place g (node g n) / 3

      above : (node g n < node g p) × (p < g.N) × (root_of g (node g p) ≡ r)
      above =
          let s = inside n l i in
          let a = reader_node g adm (node g n) s in
          (a.1, a.2, ap (root_of g) (sym a.0) ∙ sym (root_of_inner g adm (node g n) (omega arith) (omega arith) s) ∙ i)

      -- an index that a word of the reader names, and that is not undecided
      seen_agrees : (u : ℕ) → u < node g p → u ≢ node g n → undecided g r n u ≡ false → seen g d u ≡ seen_in g r m u
      unfolding seen_in
      seen_agrees u lo q y =
          ⊎_elim
          (λ (e : root_of g u ≡ r).
          rw (eq-eqb _ _ e)
          (⊎_elim
          (λ (w : g.I < u).
          ⊎_elim
          (λ (x : u < node g n). absurd (clash (undecided_yes g r n u w x e) y))
          (λ (x : node g n ≤ u).
          let z : g.I + 1 + (u - (g.I + 1)) ≡ u = omega arith in
          seen_same g d m u (rw z at (ag (u - (g.I + 1)) (omega arith) (omega (arith, above)) (rw z e))))
          (lt_or_le u (node g n)))
          (λ (w : u ≤ g.I). seen_low g d u w ∙ sym (seen_low g m u w))
          (lt_or_le g.I u)))
          (λ (e : root_of g u ≢ r). rw (ne_eqb _ _ e) (seen_none g d u (off u e)))
          (eq_or_ne (root_of g u) r)

      reader_agrees : (x : ℕ) → reader_key g c tn r adm n (omega arith) i d off (inside n l i) x ≡ reader_family g c tn r m n x
      unfolding reader_key reader_family
      reader_agrees x =
          let a = above in
          rw (eq-eqb _ _ a.2, ag p (omega arith) a.1 a.2)
          (family_same g true (undecided g r n) (earlier g n) (at (seen g d) (node g n) x) (at (seen_in g r m) (node g n) x) c tn p (m (node g p))
          (λ j k e. undecided_earlier g r n p (word g (3 * p + j) / 2) (omega (arith, adm.below (3 * p + j) (omega arith) e)) (inner_is g c r adm p a.1 a.2 j k e))
          (λ j k e y.
          ⊎_elim
          (λ (q : word g (3 * p + j) / 2 ≡ node g n). rw q (at_same (seen g d) (node g n) x ∙ sym (at_same (seen_in g r m) (node g n) x)))
          (λ (q : word g (3 * p + j) / 2 ≢ node g n).
          at_other (seen g d) (node g n) x (word g (3 * p + j) / 2) q ∙
          seen_agrees (word g (3 * p + j) / 2) (omega (arith, adm.below (3 * p + j) (omega arith) e)) q y ∙
          sym (at_other (seen_in g r m) (node g n) x (word g (3 * p + j) / 2) q))
          (eq_or_ne (word g (3 * p + j) / 2) (node g n))))

      first_agrees : FirstBelow (both n d) (mv (node g n)) (m (node g n))
      first_agrees =
          first_shift (both n d) (λ k. below g c tn n k + reader_family g c tn r m n (flag (is_xor g n) k 3)) 0 0 (mv (node g n)) (m (node g n))
          (λ k q.
          omega (
            arith,
            own_key g c tn r adm n (omega arith) i d off k,
            reader_after g c tn r adm n (omega arith) i d off (inside n l i) k,
            reader_agrees (flag (is_xor g n) k 3),
          ))
          (dec.rest n (omega arith) i (λ z. omega arith))

    decides : Decides (miss_key g r) mv pos g r t (Off g r) (Ψ g c tn r) both m (below g c tn t) (node_key g c tn r t none t) (Ψ g c tn r t none)
    decides = record {
      good = λ k l u q. at_other none r k u (λ z. q (rw z own_root));
      root = λ k l. Ψ_root k (still k l);
      top = dec.top t refl;
      rest = λ n d l i off ag. first_agrees n l i d off ag;
    }

    pub key_programme : map m (tree g r) ≡ best_of (miss_key g r) mv (tree g r) none
    key_programme =
        programme_best (miss_key g r) mv pos g r t (Off g r) (Ψ g c tn r) readers_key both o programme m (below g c tn t) (node_key g c tn r t none t) (Ψ g c tn r t none) decides adm h refl isr

-- the key by misses is the key up to a constant
by_misses : (g : Graph) (ls : List ℕ) (r : ℕ) → Admitted g → best_of (miss_key g r) (still_at g ls r) (tree g r) none ≡ best_still g ls r
unfolding best_still moved
by_misses g ls r adm =
    best_shift (λ ms. miss_key g r (put none (tree g r) ms)) (λ ms. key g r (apply g (put none (tree g r) ms))) ((g.N - majorities g r) * 304097) (map (still_at g ls r) (tree g r))
    (some_fit (still_at g ls r) (still_at_pos g ls r) (tree g r)) (λ ms. key_by_misses g r adm (put none (tree g r) ms))

-- M-109's choice
pub still_best : (g : Graph) (ls : List ℕ) (r : ℕ) (c : ℕ → ℕ → ℕ) (tn : ℕ → ℕ) (o : ℕ → ℕ) (m : Choice) → Admitted g → IsRoot g r → ((u : ℕ) → 0 < tn u)
    → KeyCosts g (still_at g ls r) c tn o → KeyDecided g (still_at g ls r) c tn r m → map m (tree g r) ≡ best_still g ls r
still_best g ls r c tn o m adm i tpos cs dec = go (r - (g.I + 1)) (omega (arith, i.after_inputs))
  where
    go : (t : ℕ) → node g t ≡ r → map m (tree g r) ≡ best_still g ls r
    go t e =
        rw (← e)
        (key_programme g (still_at g ls (node g t)) (still_at_pos g ls (node g t)) adm c tn tpos o (rw e cs) t (omega (arith, i.within)) (rw e i.root) m (rw e dec)
        (λ k l. still_at_root g ls (node g t) t k refl l) ∙ by_misses g ls (node g t) adm)
