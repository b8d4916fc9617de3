-- Two graphs that differ in complement bits alone have the same roots, places and links. From the laws of such graphs.
use mathlib.Core.Path.{◌≡◌, refl, ap, ◌∙◌}
use mathlib.Core.List.{List}
use Prim.Native.Nat.{ℕ, zero, suc, ◌+◌, ◌-◌}
use native.Mathlib.Omega.{arith}
use Rattle.graph.specs.Graph.{Graph, node}
pub use Rattle.graph.proofs.Alike.{Alike, alike_then, alike_back, alike_edge, alike_xor, alike_wiring, alike_named, alike_out_named, named_all, alike_node_readers, alike_readers, alike_admitted}
use Rattle.moves.specs.Call.{is_node}
use Rattle.moves.specs.Rows.{kind_moves, lock_at, moves_at}
use Rattle.moves.specs.Tree.{is_root, place, reader, root_in, root_of}
use Rattle.state.specs.State.{field, Neighbours, Linked}
use Rattle.state.specs.Step.{TreesKept}

module _ (g h : Graph) (a : Alike g h) where
  alike_kind : (u : ℕ) → kind_moves h u ≡ kind_moves g u
  unfolding kind_moves
  alike_kind u = rw (alike_xor g h a (u - (h.I + 1)), a.same_I)

  pub alike_moves : (ls : List ℕ) (u : ℕ) → moves_at h ls u ≡ moves_at g ls u
  unfolding moves_at lock_at
  alike_moves ls u = rw (alike_kind u, a.same_I, a.same_N)

  pub alike_kind_moves : (v : ℕ) → kind_moves h (node h v) ≡ kind_moves g (node g v)
  alike_kind_moves v = ap (λ i. kind_moves h (i + 1 + v)) a.same_I ∙ alike_kind (node g v)

  pub alike_moves_at : (ls : List ℕ) (v : ℕ) → moves_at h ls (node h v) ≡ moves_at g ls (node g v)
  alike_moves_at ls v = ap (λ i. moves_at h ls (i + 1 + v)) a.same_I ∙ alike_moves ls (node g v)

  pub alike_is_node : (u : ℕ) → is_node h u ≡ is_node g u
  unfolding is_node
  alike_is_node u = rw (a.same_I, a.same_N)

  pub alike_is_root : (u : ℕ) → is_root h u ≡ is_root g u
  unfolding is_root
  alike_is_root u = rw (alike_readers g h a u, alike_node_readers g h a u)

  pub alike_place : (u : ℕ) → place h u ≡ place g u
  unfolding place
  alike_place u = rw (named_all g h a u, a.same_N)

  alike_reader : (u : ℕ) → reader h u ≡ reader g u
  unfolding reader
  alike_reader u = rw (alike_place u, a.same_I)

  alike_root_in : (f u : ℕ) → root_in h f u ≡ root_in g f u
  unfolding root_in
  alike_root_in zero u = refl
  alike_root_in (suc f) u = rw (alike_is_root u, alike_reader u, alike_root_in f (reader g u))

  pub alike_root_of : (u : ℕ) → root_of h u ≡ root_of g u
  unfolding root_of
  alike_root_of u = alike_root_in h.N u ∙ ap (λ n. root_in g n u) a.same_N

  alike_neighbours : (v w : ℕ) → Neighbours g v w → Neighbours h v w
  alike_neighbours v w n =
      record {
        rising = n.rising;
        within = rw a.same_N n.within;
        same = rw (alike_root_of (node h w), alike_root_of (node h v), a.same_I) n.same;
        between = λ x p q. rw (alike_root_of (node h x), alike_root_of (node h v), a.same_I) (n.between x p q);
      }

  module _ (sc sc' : List ℕ) (k : TreesKept sc sc') where
    pub alike_linked : Linked g sc → Linked h sc'
    alike_linked l =
        let five : (v : ℕ) → field sc' v 5 ≡ field sc v 5 = λ v. k.others v 5 (omega arith) (omega arith) (omega arith) in
        let six : (v : ℕ) → field sc' v 6 ≡ field sc v 6 = λ v. k.others v 6 (omega arith) (omega arith) (omega arith) in
        let seven : (v : ℕ) → field sc' v 7 ≡ field sc v 7 = λ v. k.others v 7 (omega arith) (omega arith) (omega arith) in
        record {
          lower = λ v b e. rw (five v) (alike_neighbours (field sc v 5) v (l.lower v (rw a.same_N at b) (rw (five v) at e)));
          no_lower = λ v b e x p. rw (alike_root_of (node h x), alike_root_of (node h v), a.same_I) (l.no_lower v (rw a.same_N at b) (rw (five v) at e) x p);
          higher = λ v b e. rw (six v) (alike_neighbours v (field sc v 6) (l.higher v (rw a.same_N at b) (rw (six v) at e)));
          no_higher = λ v b e. rw (alike_is_root (node h v), a.same_I) (l.no_higher v (rw a.same_N at b) (rw (six v) at e));
          lowest = λ v b e. rw (seven v, alike_root_of (node h (field sc v 7)), a.same_I) (l.lowest v (rw a.same_N at b) (rw (alike_is_root (node h v), a.same_I) at e));
          no_lowest = λ v b e x p. rw (alike_root_of (node h x), a.same_I) (l.no_lowest v (rw a.same_N at b) (rw (alike_is_root (node h v), a.same_I) at e) x (rw (seven v) at p));
        }
