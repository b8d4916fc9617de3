-- `make_moves` meets its contract: the moves of the tree's nodes passed are made. From the laws on the pass.
use mathlib.Core.Path.{◌≡◌, refl, sym, ap, ◌∙◌}
use mathlib.Core.Bool.{true}
use mathlib.Core.List.{List}
use mathlib.Core.Logic.{◌≢◌}
use Prim.Native.Nat.{ℕ, suc, ◌+◌, ◌≤◌, ◌<◌}
use Rattle.graph.specs.Graph.{Graph, mark, node}
use Rattle.graph.specs.Turned.{turned_by}
use Rattle.graph.specs.Count.{C}
use Rattle.moves.specs.Rows.{moves_at}
use Rattle.moves.specs.Apply.{apply, at, none}
use Rattle.moves.specs.Tree.{is_root, root_of, tree}
use Rattle.moves.specs.Call.{moved, best_at}
use Rattle.moves.proofs.Moves.{moves_no_more}
use Rattle.moves.proofs.Readers.{root_of_root}
use Rattle.state.specs.State.{field, stands, Ordered}
use Rattle.state.specs.Step.{Made}
use Rattle.state.proofs.Alike.{alike_is_root, alike_moves_at}
use Rattle.state.proofs.Stands.{stands_alike}
use Rattle.trees.specs.Deciding.{TreeDecided}
use Rattle.trees.proofs.Ready.{Ready, ordered_ready, stands_I}
use Rattle.trees.proofs.Falling.{bound_of, bound_mark, bound_node, next_lower}
use Rattle.trees.proofs.MakePass.{MadeFrom, made_begin, made_down, made_all, made_step}
use native.Mathlib.Omega.{arith}
use Rattle.trees.proofs.making.make_moves.Goals as goal
use Rattle.trees.proofs.making.make_moves.Goals.{After-read-v, Start}
use Rattle.trees.proofs.making.make_moves.Invariants.{Inv}
use Rattle.graph.specs.Tables.{lent_graph}

module _ (g : Graph) (sc₁ : List ℕ) (o : Ordered g sc₁) (r : ℕ) (h : r < g.N) (t : is_root g (node g r) ≡ true) where
  abbrev k : Graph
  k = stands g sc₁

  ready : Ready k sc₁
  ready = ordered_ready g sc₁ o

  within : r < k.N
  unfolding stands turned_by
  within = h

  own_root : root_of k (node k r) ≡ node k r
  unfolding stands turned_by
  own_root = root_of_root k ready.admitted (node k r) (alike_is_root g (stands g sc₁) (stands_alike g sc₁ o.admitted) (node g r) ∙ t)

  begin : (v now : ℕ) → v ≡ r → now ≡ C (stands g sc₁) → Inv g sc₁ r sc₁ v now
  begin v now e q =
      let d : v ≢ mark = λ z. omega (arith, o.admitted.few_nodes) in
      record {
        mf = rw (bound_node v d, e) (made_begin k sc₁ ready.admitted r within g o refl);
        here = λ z. rw e (omega arith, own_root);
        count = q;
      }

  module _ (ls : List ℕ) (td : TreeDecided k ls (node k r) sc₁) (sc : List ℕ) (v now : ℕ) (iv : Inv g sc₁ r sc v now) (d : v ≢ mark) (w m : ℕ) (e : w ≡ v) (em : m ≡ field sc w 4) where
    low : w ≤ r
    low = rw e (iv.here d).0

    in_tree : root_of k (node k w) ≡ node k r
    in_tree = rw e (iv.here d).1

    passed : MadeFrom k sc₁ r (suc w) g sc
    passed = rw (e, ← bound_node v d) iv.mf

    stored : m ≡ field sc₁ w 4
    stored = em ∙ passed.kept.others w 4 (omega arith) (λ z. omega arith) (λ z. omega arith)

    fits : m < moves_at k ls (node k w)
    fits = rw stored (td.permitted w (omega (arith, low, within)) in_tree)

    fits-now : m < moves_at g ls (node g w)
    fits-now = rw (sym (alike_moves_at g k (stands_alike g sc₁ o.admitted) ls w)) fits

    same-I : g.I ≡ k.I
    unfolding apply turned_by
    same-I = sym (stands_I g sc) ∙ ap (λ x. x.I) passed.stands_for

    again : (sc' : List ℕ) (c x : ℕ) → Made sc g sc' (apply (stands g sc) (at none (g.I + 1 + w) m)) c → x ≡ field sc' w 5 → Inv g sc₁ r sc' x c × (bound_of x < bound_of v)
    again sc' c x mk q =
        let b : w < k.N = omega (arith, low, within) in
        let st = made_step k sc₁ ready.admitted r within w b in_tree g sc passed m (omega (arith, fits, moves_no_more k ls (node k w))) stored g.I same-I g sc' mk.became in
        let n = next_lower k sc₁ ready r w x b in_tree (q ∙ st.kept.others w 5 (omega arith) (λ z. omega arith) (λ z. omega arith)) in (
          record {
            mf = made_down k sc₁ ready.admitted r within w (bound_of x) g sc' n.bound n.free st;
            here = λ z. (omega (arith, n.lower z, low), n.here z);
            count = mk.count ∙ ap C (sym mk.became.stands_for);
          },
          omega (arith, n.bound, bound_node v d),
        )

  last : (ls : List ℕ) → TreeDecided k ls (node g r) sc₁ → (sc : List ℕ) (v now : ℕ) → Inv g sc₁ r sc v now → v ≡ mark → Made sc₁ g sc (moved k (tree k (node g r)) (best_at k ls (tree k (node g r)))) now
  unfolding stands turned_by
  last ls td sc v now iv e =
      let mf : MadeFrom k sc₁ r 0 g sc = rw (bound_mark v e) at iv.mf in
      let s = made_all k sc₁ ready.admitted r within ls g sc td mf in
      record {
        became = record { ordered = mf.ordered; stands_for = s; kept = mf.kept };
        count = iv.count ∙ ap C s;
      }

  as-stands : (ls : List ℕ) → TreeDecided k ls (node g r) sc₁ → TreeDecided k ls (node k r) sc₁
  unfolding stands turned_by
  as-stands ls td = td

abbrev graph-of : Start → Graph
graph-of s = lent_graph s.args.lent.now

-- what a turn makes

module _ (s : Start) where
  decided : let a = s.args in let g = graph-of s in TreeDecided (stands g a.scratch.now) a.lent.now.locks.now (node (stands g a.scratch.now) a.root) a.scratch.now
  decided = let p = s.requires in as-stands (graph-of s) s.args.scratch.now p.0 s.args.root p.1 p.2 s.args.lent.now.locks.now p.4

loop-both : (c : After-read-v) → Inv (graph-of (goal.at.After-read-v c).Start) c.args.scratch.now c.args.root c.make_move-c.new.scratch c.read-v.result c.make_move-c.result × (bound_of c.read-v.result < bound_of c.loop-v.v)
loop-both c =
    let p = c.requires in
    again _ _ p.0 _ p.1 p.2 _ (decided (goal.at.After-read-v c).Start) _ _ _ c.loop-v.invariant (λ e. omega arith) _ _ refl c.read-m.ensures _ _ _ c.make_move-c.ensures c.read-v.ensures

pub overflow_cast-v : goal.overflow_cast-v
overflow_cast-v c = let p = c.requires in omega (arith, p.0.admitted.few_nodes, p.1)

pub loop-v-init : goal.loop-v-init
loop-v-init c = let p = c.requires in begin _ _ p.0 _ p.1 p.2 _ _ refl p.3

pub read-m-requires : goal.read-m-requires
read-m-requires c = let p = c.requires in omega (arith, (c.loop-v.invariant.here (λ e. omega arith)).0, c.loop-v.invariant.mf.ordered.long, p.1, p.0.admitted.few_nodes)

pub make_move-c-requires : goal.make_move-c-requires
make_move-c-requires c =
    let p = c.requires in
    let l = c.loop-v in (
      l.invariant.mf.ordered,
      omega (arith, (l.invariant.here (λ e. omega arith)).0, p.1),
      fits-now _ _ p.0 _ p.1 p.2 _ (decided (goal.at.make_move-c-requires c).Start) _ _ _ l.invariant (λ e. omega arith) _ _ refl c.read-m.ensures,
      l.invariant.count,
      p.5,
    )

pub read-v-requires : goal.read-v-requires
read-v-requires c = let p = c.requires in omega (arith, (c.loop-v.invariant.here (λ e. omega arith)).0, p.1, p.0.admitted.few_nodes, c.make_move-c.ensures.became.ordered.long)

pub loop-v-smaller : goal.loop-v-smaller
loop-v-smaller c = (loop-both (goal.at.loop-v-smaller c).After-read-v).1

pub loop-v-preserved : goal.loop-v-preserved
loop-v-preserved c = (loop-both (goal.at.loop-v-preserved c).After-read-v).0

pub shape_of-scratch : goal.shape_of-scratch
shape_of-scratch c = c.loop-v.invariant.mf.kept.long

pub returns : goal.returns
returns c = let p = c.requires in last _ _ p.0 _ p.1 p.2 _ p.4 _ _ _ c.loop-v.invariant (omega arith)
