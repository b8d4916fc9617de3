-- A move made at one node, word by word: how often it turns each; and two moves at different nodes, made one after the other. From the laws
-- of a changed move and of composition.
use Rattle.std.proofs.Common.{◌≡◌, ℕ, zero, suc, ◌+◌, ◌-◌, ◌*◌, ◌/◌, ◌%◌, ◌<◌, Bool, true, false, ◌≢◌, sym, refl, ap, ◌∙◌, ⊎_elim, arith, le-ltb, eq-eqb}
use mathlib.Core.Path.{fun_ext}
use Rattle.graph.specs.Admission.{Admitted}
use Rattle.graph.specs.Finite.{if_less, if_equal}
use Rattle.graph.specs.Graph.{Graph, node, word, is_edge, is_xor}
use Rattle.graph.specs.Turned.{only}
use Rattle.graph.proofs.Cases.{eq_or_ne}
use Rattle.graph.proofs.Edge.{edge_none}
use Rattle.graph.proofs.Tests.{equal, unequal}
use Rattle.graph.proofs.Turned.{only_at, only_off}
use Rattle.moves.specs.Apply.{Choice, none, at, own, seen, apply}
use Rattle.moves.specs.Rows.{rows, first_row, arity, flag, kind_moves}
use Rattle.moves.specs.Compose.{combined, compose, Permitted}
use Rattle.moves.proofs.Changed.{at_same, at_other, seen_other, seen_none, own_other, own_none, own_at}
use Rattle.moves.proofs.Compose.{seen_node, apply_apply}
use Rattle.moves.proofs.Moves.{arity_pos, kind_pos, node_row}

-- an XOR's moves leave its third word
pub flag_third : (m : ℕ) → flag true m 2 ≡ 0
unfolding flag rows first_row arity if_less
flag_third zero = refl
flag_third (suc zero) = refl
flag_third (suc (suc zero)) = refl
flag_third (suc (suc (suc zero))) = refl
flag_third (suc (suc (suc (suc m)))) = rw (le-ltb (suc (suc (suc (suc m)))) 4 (omega arith))

-- a word that is no edge is the third of an XOR
mark_xor : (g : Graph) (v k : ℕ) → k < 3 → is_edge g (3 * v + k) ≡ false → (k ≡ 2) × (is_xor g v ≡ true)
unfolding is_xor
mark_xor g v k h e =
    let b = edge_none g (3 * v + k) e in
    let q : k ≡ 2 = omega (arith, b.0) in
    (q, eq-eqb _ _ (ap (λ i. word g (3 * v + i)) (sym q) ∙ b.1))

-- which no move turns
pub mark_still : (g : Graph) (v k m : ℕ) → k < 3 → is_edge g (3 * v + k) ≡ false → flag (is_xor g v) m k ≡ 0
mark_still g v k m h e = let q = mark_xor g v k h e in rw (q.0, q.1) (flag_third m)

-- move m at node v alone
module _ (g : Graph) (v m : ℕ) where
  abbrev choice : Choice
  choice = at none (node g v) m

  abbrev f : ℕ → ℕ
  f k = flag (is_xor g v) m k

  -- how often v's own words are turned
  abbrev mine : ℕ → ℕ
  mine i = only (3 * v) (f 0) i + only (3 * v + 1) (f 1) i + only (3 * v + 2) (f 2) i

  pub mine_elsewhere : (i : ℕ) → i / 3 ≢ v → mine i ≡ 0
  mine_elsewhere i d =
      omega (
        arith,
        only_off (3 * v) (f 0) i (λ z. d (omega arith)),
        only_off (3 * v + 1) (f 1) i (λ z. d (omega arith)),
        only_off (3 * v + 2) (f 2) i (λ z. d (omega arith)),
      )

  here : (k i : ℕ) → k < 3 → i ≡ 3 * v + k → mine i ≡ f k
  here zero i p e =
      let q : i ≡ 3 * v = omega arith in
      rw q (omega (arith, only_at (3 * v) (f 0), only_off (3 * v + 1) (f 1) (3 * v) (omega arith), only_off (3 * v + 2) (f 2) (3 * v) (omega arith)))
  here (suc zero) i p e = rw e (omega (arith, only_at (3 * v + 1) (f 1), only_off (3 * v) (f 0) (3 * v + 1) (omega arith), only_off (3 * v + 2) (f 2) (3 * v + 1) (omega arith)))
  here (suc (suc zero)) i p e = rw e (omega (arith, only_at (3 * v + 2) (f 2), only_off (3 * v) (f 0) (3 * v + 2) (omega arith), only_off (3 * v + 1) (f 1) (3 * v + 2) (omega arith)))
  here (suc (suc (suc k))) i p e = absurd (omega arith)

  pub mine_own : (i : ℕ) → own g choice i ≡ mine i
  mine_own i =
      ⊎_elim
      (λ (e : i / 3 ≡ v).
      let q : i ≡ 3 * v + i % 3 = omega arith in
      ap (own g choice) q ∙ own_at g choice v (i % 3) (omega arith) ∙ ap (λ x. flag (is_xor g v) x (i % 3)) (at_same none (node g v) m) ∙ sym (here (i % 3) i (omega arith) q))
      (λ (e : i / 3 ≢ v). own_other none (node g v) m g i (λ z. e (omega arith)) ∙ own_none g none i refl ∙ sym (mine_elsewhere i e))
      (eq_or_ne (i / 3) v)

  pub mine_mark : (i : ℕ) → is_edge g i ≡ false → mine i ≡ 0
  mine_mark i n =
      ⊎_elim
      (λ (e : i / 3 ≡ v).
      let q : i ≡ 3 * v + i % 3 = omega arith in
      here (i % 3) i (omega arith) q ∙ mark_still g v (i % 3) m (omega arith) (ap (is_edge g) (sym q) ∙ n))
      (λ (e : i / 3 ≢ v). mine_elsewhere i e)
      (eq_or_ne (i / 3) v)

  -- and a word that names index u
  pub mine_seen : v < g.N → (u : ℕ) → seen g choice u ≡ if_equal u (node g v) (f 3) 0
  mine_seen l u =
      ⊎_elim
      (λ (e : u ≡ node g v). equal u (node g v) (f 3) 0 e (rw (e, seen_node g choice v l, at_same none (node g v) m)))
      (λ (e : u ≢ node g v). unequal u (node g v) (f 3) 0 e (seen_other none (node g v) m g u e ∙ seen_none g none u refl))
      (eq_or_ne u (node g v))

-- a move joined to none
pub combined_left : (x : Bool) (m : ℕ) → m < arity x → combined x m 0 ≡ m
unfolding combined arity
combined_left true m h = omega arith
combined_left false m h = omega arith

pub combined_right : (x : Bool) (m : ℕ) → m < arity x → combined x 0 m ≡ m
unfolding combined arity
combined_right true m h = omega arith
combined_right false m h = omega arith

combined_none : (x : Bool) → combined x 0 0 ≡ 0
combined_none x = combined_left x 0 (arity_pos x)

module _ (g : Graph) where
  pub permitted_at : (v m : ℕ) → m < kind_moves g (node g v) → Permitted g (at none (node g v) m)
  permitted_at v m l w i =
      ⊎_elim
      (λ (e : w ≡ v). rw (e, at_same none (node g v) m) l)
      (λ (e : w ≢ v). rw (at_other none (node g v) m (node g w) (λ z. e (omega arith))) (kind_pos g _))
      (eq_or_ne w v)

  -- move a at node p, and then move k at another node v
  module _ (adm : Admitted g) (p v a k : ℕ) (d : p ≢ v) (pa : a < kind_moves g (node g p)) (pk : k < kind_moves g (node g v)) where
    kind_of : (w : ℕ) → is_xor g (node g w - (g.I + 1)) ≡ is_xor g w
    kind_of w = let e : node g w - (g.I + 1) ≡ w = omega arith in rw e

    both : (u : ℕ) → compose g (at none (node g p) a) (at none (node g v) k) u ≡ at (at none (node g p) a) (node g v) k u
    unfolding compose
    both u =
        ⊎_elim
        (λ (e : u ≡ node g v).
        rw (e, at_same none (node g v) k, at_same (at none (node g p) a) (node g v) k, at_other none (node g p) a (node g v) (λ z. d (omega arith)), kind_of v)
        (combined_right (is_xor g v) k (node_row g v k pk)))
        (λ (e : u ≢ node g v).
        rw (at_other none (node g v) k u e, at_other (at none (node g p) a) (node g v) k u e)
        (⊎_elim
        (λ (q : u ≡ node g p). rw (q, at_same none (node g p) a, kind_of p) (combined_left (is_xor g p) a (node_row g p a pa)))
        (λ (q : u ≢ node g p). rw (at_other none (node g p) a u q) (combined_none (is_xor g (u - (g.I + 1)))))
        (eq_or_ne u (node g p))))
        (eq_or_ne u (node g v))

    pub pair_apply : apply (apply g (at none (node g p) a)) (at none (node g v) k) ≡ apply g (at (at none (node g p) a) (node g v) k)
    pair_apply = apply_apply g (at none (node g p) a) (at none (node g v) k) (permitted_at p a pa) (permitted_at v k pk) adm ∙ ap (apply g) (fun_ext both)
