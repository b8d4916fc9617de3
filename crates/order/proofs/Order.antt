-- M-111: which lists of moves end in the same graph, the rules for two moves at one node, and lists in other orders. From a list as one
-- choice (Combining), and from what a graph tells of the choice (Telling).
use mathlib.Core.Path.{◌≡◌, refl, sym, ap, ◌∙◌, fun_ext}
use mathlib.Core.Bool.{Bool, true, false, cond}
use mathlib.Core.List.{List, [], ◌∷◌, ◌++◌, Perm, Permᴰ}
use mathlib.Core.Logic.{⊎_elim, ◌≢◌, ∥∥₁_elim}
use Prim.Native.Nat.{ℕ, ◌+◌, ◌-◌, ◌≤◌, ◌<◌}
use native.Mathlib.Omega.{arith}
use native.Mathlib.Nat.{ℕ_set}
use lib.Dec.{eqb}
use Rattle.graph.specs.Admission.{Admitted}
use Rattle.graph.specs.Finite.{if_equal}
use Rattle.graph.specs.Graph.{Graph, node, is_xor}
use Rattle.graph.proofs.Cases.{eq_or_ne, true_or_false}
use Rattle.moves.specs.Apply.{none, at, put, apply}
use Rattle.moves.specs.Call.{is_node, moved, node_fault}
use Rattle.moves.specs.Compose.{combined}
use Rattle.moves.specs.Rows.{arity, kind_moves}
use Rattle.moves.proofs.Changed.{at_same, at_other}
use Rattle.moves.proofs.Count.{clash}
use Rattle.moves.proofs.Kept.{apply_idle}
use Rattle.moves.proofs.Known.{node_known}
use Rattle.moves.proofs.Moves.{kind_moves_lem, moves_no_more}
use Rattle.many.specs.Many.{Entry, one_by_one}
use Rattle.rounds.proofs.Calls.{is_node_lem}
use Rattle.order.specs.Order.{entry, Moves, MovesUnder, combination, CombineAlike, OrderOfMoves, Make, Rules, AnyOrder}
use Rattle.order.proofs.Combining.{combined_last, combined_third, combined_twice, combined_swap, combined_assoc, combination_here, combination_other, combination_permitted, none_first, nothing, one_choice}
use Rattle.order.proofs.Telling.{choice_told}

-- what is no node has no move
pub no_move : (g : Graph) (es : List Entry) → Moves g es → (u : ℕ) → is_node g u ≡ false → combination g es u ≡ 0
no_move g [] s u f = nothing g u
no_move g (e ∷ es) s u f =
    ⊎_elim
    (λ (q : u ≡ e.node). absurd (clash (rw q s.0) f))
    (λ (n : u ≢ e.node). combination_other g e es u n ∙ no_move g es s.2 u f)
    (eq_or_ne u e.node)

-- a node by its index
pub node_of : (g : Graph) (u : ℕ) → is_node g u ≡ true → (g.I < u) × (u < node g g.N)
unfolding node_fault
node_of g u t = node_known g u (rw t)

module _ (g : Graph) (adm : Admitted g) where
  module _ (es fs : List Entry) (s : Moves g es) (t : Moves g fs) where
    alike_all : CombineAlike g es fs → (u : ℕ) → combination g es u ≡ combination g fs u
    alike_all a u =
        ⊎_elim
        (λ (n : is_node g u ≡ true).
        let b = node_of g u n in
        let q : u ≡ node g (u - (g.I + 1)) = omega arith in
        rw q (a (u - (g.I + 1)) (omega arith)))
        (λ (n : is_node g u ≡ false). no_move g es s u n ∙ sym (no_move g fs t u n))
        (true_or_false (is_node g u))

    pub same_when : CombineAlike g es fs → one_by_one g es ≡ one_by_one g fs
    same_when a = one_choice g adm es s ∙ ap (apply g) (fun_ext (alike_all a)) ∙ sym (one_choice g adm fs t)

    pub same_only : one_by_one g es ≡ one_by_one g fs → CombineAlike g es fs
    same_only e =
        choice_told g adm (combination g es) (combination g fs) (combination_permitted g es) (combination_permitted g fs)
        (sym (one_choice g adm es s) ∙ e ∙ one_choice g adm fs t)

  pub order : (es fs : List Entry) → OrderOfMoves g es fs
  order es fs s t = (same_only es fs s t, same_when es fs s t)

  -- with locks: a list that leaves the locked nodes alone is such a list, and so is any other
  pub under : (ls : List ℕ) (es : List Entry) → MovesUnder g ls es → Moves g es
  under ls [] s = tt
  under ls (e ∷ es) s = (s.0, omega (arith, s.1, moves_no_more g ls e.node), under ls es s.2)

-- two moves at one node
module _ (g : Graph) (adm : Admitted g) (v : ℕ) (h : v < g.N) where
  abbrev u : ℕ
  u = node g v

  moves_at_lem : (m : ℕ) → m < arity (is_xor g v) → m < kind_moves g u
  moves_at_lem m l = rw (kind_moves_lem g v) l

  pub make : (k l m : ℕ) → k < arity (is_xor g v) → l < arity (is_xor g v) → m < arity (is_xor g v)
      → combined (is_xor g v) k l ≡ m → Make g u k l m
  make k l m a b c e =
      let n : is_node g u ≡ true = is_node_lem g v h in
      same_when g adm (entry u k ∷ entry u l ∷ []) (entry u m ∷ []) (n, moves_at_lem k a, (n, moves_at_lem l b, tt)) (n, moves_at_lem m c, tt)
      (λ w i.
      ⊎_elim
      (λ (q : node g w ≡ u).
      let z : u - (g.I + 1) ≡ v = omega arith in
      rw (
        q,
        combination_here g (entry u k) (entry u l ∷ []),
        combination_here g (entry u l) [],
        combination_here g (entry u m) [],
        nothing g u,
        z,
        combined_last (is_xor g v) l b,
        combined_last (is_xor g v) m c,
      ) e)
      (λ (d : node g w ≢ u).
      rw (
        combination_other g (entry u k) (entry u l ∷ []) (node g w) d,
        combination_other g (entry u l) [] (node g w) d,
        combination_other g (entry u m) [] (node g w) d,
      ))
      (eq_or_ne (node g w) u))

  none_made : one_by_one g (entry u 0 ∷ []) ≡ g
  unfolding one_by_one moved put
  none_made = apply_idle g (at none u 0) adm (λ w. ⊎_elim (λ (q : w ≡ u). rw q (at_same none u 0)) (λ (d : w ≢ u). at_other none u 0 w d) (eq_or_ne w u))

  maj_twice : is_xor g v ≡ false → Make g u 1 1 0
  unfolding arity combined
  maj_twice f = make 1 1 0 (rw f (omega arith)) (rw f (omega arith)) (rw f (omega arith)) (rw f)

  xor_twice : is_xor g v ≡ true → (m : ℕ) → m < 4 → Make g u m m 0
  unfolding arity
  xor_twice t m l = make m m 0 (rw t l) (rw t l) (rw t (omega arith)) (combined_twice (is_xor g v) m)

  xor_third : is_xor g v ≡ true → (k l m : ℕ) → 1 ≤ k → k ≤ 3 → 1 ≤ l → l ≤ 3 → 1 ≤ m → m ≤ 3 → k ≢ l → m ≢ k → m ≢ l → Make g u k l m
  unfolding arity
  xor_third t k l m k₁ k₃ l₁ l₃ m₁ m₃ d₁ d₂ d₃ =
      make k l m (rw t (omega arith)) (rw t (omega arith)) (rw t (omega arith)) (rw t (combined_third k l m k₁ k₃ l₁ l₃ m₁ m₃ d₁ d₂ d₃))

pub rules : (g : Graph) → Admitted g → Rules g
rules g adm = record { none = none_made g adm; majority_twice = maj_twice g adm; xor_equal = xor_twice g adm; xor_different = xor_third g adm }

-- lists in another order, and one list after the other
module _ (g : Graph) (u : ℕ) where
  -- what one more entry makes of the combination of those after it
  either : (a b : Bool) (x : Bool) (m n k : ℕ)
      → cond a (combined x m (cond b (combined x n k) k)) (cond b (combined x n k) k) ≡ cond b (combined x n (cond a (combined x m k) k)) (cond a (combined x m k) k)
  either true true x m n k = combined_swap x m n k
  either true false x m n k = refl
  either false true x m n k = refl
  either false false x m n k = refl

  pub reordered : (es fs : List Entry) → Permᴰ es fs → combination g es u ≡ combination g fs u
  unfolding combination if_equal
  reordered es fs Permᴰ.nil = refl
  reordered es fs (Permᴰ.cons {a = a} {b = b} {l₁ = l₁} {l₂ = l₂} e d) = ap (λ (x : Entry). combination g (x ∷ l₁) u) e ∙ rw (reordered l₁ l₂ d)
  reordered es fs (Permᴰ.swap {a = a} {b = b} {a' = a'} {b' = b'} {l = l} e₁ e₂) =
      either (eqb a.node u) (eqb b.node u) (is_xor g (u - (g.I + 1))) a.move b.move (combination g l u)
      ∙ ap (λ (x : Entry). combination g (x ∷ a ∷ l) u) e₂
      ∙ ap (λ (x : Entry). combination g (a' ∷ x ∷ l) u) e₁
  reordered es fs (Permᴰ.trans {l₂ = l₂} d₁ d₂) = reordered es l₂ d₁ ∙ reordered l₂ fs d₂

  pub appended : (es fs : List Entry) → combination g (es ++ fs) u ≡ combined (is_xor g (u - (g.I + 1))) (combination g es u) (combination g fs u)
  appended [] fs = rw (nothing g u) (sym (none_first g fs u))
  appended (e ∷ es) fs =
      ⊎_elim
      (λ (q : u ≡ e.node).
      rw (
        q,
        combination_here g e (es ++ fs),
        combination_here g e es,
        ← q,
        appended es fs,
      ) (sym (combined_assoc (is_xor g (u - (g.I + 1))) e.move (combination g es u) (combination g fs u))))
      (λ (n : u ≢ e.node). rw (combination_other g e (es ++ fs) u n, combination_other g e es u n) (appended es fs))
      (eq_or_ne u e.node)

pub moves_both : (g : Graph) (es fs : List Entry) → Moves g es → Moves g fs → Moves g (es ++ fs)
moves_both g [] fs s t = t
moves_both g (e ∷ es) fs s t = (s.0, s.1, moves_both g es fs s.2 t)

module _ (g : Graph) (adm : Admitted g) (es fs : List Entry) where
  alike : Perm es fs → CombineAlike g fs es
  alike p v h = ∥∥₁_elim p (ℕ_set _ _) (λ d. sym (reordered g (node g v) es fs d))

  cancelled : Perm es fs → (v : ℕ) → v < g.N → combination g (es ++ fs) (node g v) ≡ combination g [] (node g v)
  cancelled p v h = appended g (node g v) es fs ∙ rw (alike p v h, nothing g (node g v)) (combined_twice _ _)

  -- other orders of one list, and a list made once more
  pub any_order : AnyOrder g es fs
  unfolding one_by_one
  any_order s t p = record { redone = same_when g adm fs es t s (alike p); undone = same_when g adm (es ++ fs) [] (moves_both g es fs s t) tt (cancelled p) }
