-- `tell` meets its contract: the moves of the tree's nodes passed are told. From the laws on links and on `set`.
use mathlib.Core.Path.{◌≡◌, refl, ◌∙◌}
use mathlib.Core.Bool.{true}
use mathlib.Core.List.{List}
use mathlib.Core.Logic.{⊎_elim, ◌≢◌}
use Prim.Native.Nat.{ℕ, ◌≤◌, ◌<◌}
use native.Mathlib.Nat.{eq-or-lt_of_le}
use native.Mathlib.Omega.{arith}
use lib.ListN.{length, set, length-set}
use lib.Seq.{get_or-set_same, get_or-set_other}
use Rattle.graph.specs.Graph.{Graph, mark, node, is_xor}
use Rattle.graph.proofs.Cases.{eq_or_ne, lt_or_le}
use Rattle.moves.specs.Tree.{is_root, root_of}
use Rattle.moves.proofs.Deciding.{arity_low}
use Rattle.moves.proofs.Moves.{kind_moves_lem}
use Rattle.moves.proofs.Readers.{root_of_root, root_of_above}
use Rattle.graph.specs.Turned.{turned_by}
use Rattle.state.specs.State.{field, stands, Ordered}
use Rattle.state.proofs.Alike.{alike_is_root}
use Rattle.state.proofs.Stands.{stands_alike}
use Rattle.trees.proofs.Ready.{Ready, ordered_ready}
use Rattle.trees.proofs.Falling.{bound_of, bound_mark, bound_node, next_lower}
use Rattle.preview.specs.Telling.{MovesStored, Told}
use borrow.Author.Rules.{rules}
use Rattle.preview.proofs.telling.tell.Goals as goal
use Rattle.preview.proofs.telling.tell.Invariants.{Inv}

module _ (g : Graph) (sc : List ℕ) (o : Ordered g sc) (r : ℕ) (h : r < g.N) (t : is_root g (node g r) ≡ true) where
  abbrev k : Graph
  k = stands g sc

  ready : Ready k sc
  ready = ordered_ready g sc o

  within : r < k.N
  unfolding stands turned_by
  within = h

  own_root : root_of k (node k r) ≡ node k r
  unfolding stands turned_by
  own_root = root_of_root k ready.admitted (node k r) (alike_is_root g (stands g sc) (stands_alike g sc o.admitted) (node g r) ∙ t)

  begin : (bs : List ℕ) (v : ℕ) → v ≡ r → Inv g sc r bs bs v
  begin bs v e =
      let d : v ≢ mark = λ z. omega (arith, o.admitted.few_nodes) in
      record {
        same = refl;
        told = λ x l b q. absurd (omega (arith, l, bound_node v d, e, q, root_of_above k ready.admitted (node k x)));
        kept = λ j f. refl;
        here = λ z. rw e (omega arith, own_root);
      }

  module _ (td : MovesStored k (node k r) sc) (bs₀ bs : List ℕ) (v : ℕ) (iv : Inv g sc r bs₀ bs v) (d : v ≢ mark) (w : ℕ) (e : w ≡ v) where
    low : w ≤ r
    low = rw e (iv.here d).0

    in_tree : root_of k (node k w) ≡ node k r
    in_tree = rw e (iv.here d).1

    below : w < k.N
    below = omega (arith, low, within)

    small : field sc w 4 < 256
    small = omega (arith, td w below in_tree, kind_moves_lem k w, arity_low (is_xor k w))

    again : (y x : ℕ) → y ≡ field sc w 4 → x ≡ field sc w 5 → w < length bs → Inv g sc r bs₀ (set bs w y) x × (bound_of x < bound_of v)
    again y x ey q l =
        let n = next_lower k sc ready r w x below in_tree q in
        let b = bound_node v d in (
          record {
            same = simp length-set iv.same;
            told = λ z a c s.
                ⊎_elim
                (λ (i : z < w). absurd (n.free z a i s))
                (λ (i : w ≤ z).
                ⊎_elim
                (λ (j : w ≡ z). rw (← j) (get_or-set_same bs w y 0 l ∙ ey))
                (λ (j : w < z). get_or-set_other bs w z y 0 (λ p. omega arith) ∙ iv.told z (omega (arith, b, e, j)) c s)
                (eq-or-lt_of_le i))
                (lt_or_le z w);
            kept = λ j f.
                ⊎_elim
                (λ (i : j ≡ w). absurd (omega (arith, n.bound, f (rw i below) (rw i in_tree), i)))
                (λ (i : j ≢ w). get_or-set_other bs w j y 0 i ∙ iv.kept j (λ a s. omega (arith, f a s, n.bound, b, e)))
                (eq_or_ne j w);
            here = λ z. (omega (arith, n.lower z, low), n.here z);
          },
          omega (arith, n.bound, b, e),
        )

  last : (bs₀ bs : List ℕ) (v : ℕ) → Inv g sc r bs₀ bs v → v ≡ mark → Told k (node g r) sc bs₀ bs
  unfolding stands turned_by
  last bs₀ bs v iv e =
      let b = bound_mark v e in
      record { same = iv.same; told = λ x l q. iv.told x (omega arith) l q; kept = λ j f. iv.kept j (λ a q. absurd (f a q)) }

  as-stands : MovesStored k (node g r) sc → MovesStored k (node k r) sc
  unfolding stands turned_by
  as-stands td = td

pub narrow-v-requires : goal.narrow-v-requires
narrow-v-requires c = omega (arith, c.requires.0.admitted.few_nodes, c.requires.1)

pub loop-v-init : goal.loop-v-init
loop-v-init c = let p = c.requires in begin _ _ p.0 _ p.1 p.2 _ _ c.narrow-v.ensures

pub wide-w-requires : goal.wide-w-requires
wide-w-requires c = search rules

pub read-requires : goal.read-requires
read-requires c = omega (arith, (c.loop-v.invariant.here (λ e. omega arith)).0, c.wide-w.ensures, c.requires.1, c.requires.0.long, c.requires.0.admitted.few_nodes)

pub byte-requires : goal.byte-requires
byte-requires c = let p = c.requires in omega (arith, c.read.ensures, small _ _ p.0 _ p.1 p.2 (as-stands _ _ p.0 _ p.1 p.2 p.3) _ _ _ c.loop-v.invariant (λ e. omega arith) _ c.wide-w.ensures)

pub bounds-bytes-w : goal.bounds-bytes-w
bounds-bytes-w c = omega (arith, (c.loop-v.invariant.here (λ e. omega arith)).0, c.loop-v.invariant.same, c.wide-w.ensures, c.requires.1, c.requires.4)

pub read-v-requires : goal.read-v-requires
read-v-requires c = omega (arith, (c.loop-v.invariant.here (λ e. omega arith)).0, c.wide-w.ensures, c.requires.1, c.requires.0.long, c.requires.0.admitted.few_nodes)

pub loop-v-smaller : goal.loop-v-smaller
loop-v-smaller c =
    let p = c.requires in
    (again _ _ p.0 _ p.1 p.2 (as-stands _ _ p.0 _ p.1 p.2 p.3) _ _ _ c.loop-v.invariant (λ e. omega arith) _ c.wide-w.ensures _ _ (c.byte.ensures ∙ c.read.ensures) c.read-v.ensures (omega (arith, (c.loop-v.invariant.here (λ e. omega arith)).0, c.loop-v.invariant.same, c.wide-w.ensures, p.1, p.4))).1

pub loop-v-preserved : goal.loop-v-preserved
loop-v-preserved c =
    let p = c.requires in
    (again _ _ p.0 _ p.1 p.2 (as-stands _ _ p.0 _ p.1 p.2 p.3) _ _ _ c.loop-v.invariant (λ e. omega arith) _ c.wide-w.ensures _ _ (c.byte.ensures ∙ c.read.ensures) c.read-v.ensures (omega (arith, (c.loop-v.invariant.here (λ e. omega arith)).0, c.loop-v.invariant.same, c.wide-w.ensures, p.1, p.4))).0

pub shape_of-bytes : goal.shape_of-bytes
shape_of-bytes c = c.loop-v.invariant.same

pub returns : goal.returns
returns c = let p = c.requires in last _ _ p.0 _ p.1 p.2 _ _ _ c.loop-v.invariant (omega arith)
