-- The nodes of a tree by falling index, along the links: from one to the next lower, none of the tree between. From the laws on
-- links.
use mathlib.Core.Path.{◌≡◌, refl, sym, ◌∙◌}
use mathlib.Core.List.{List}
use mathlib.Core.Logic.{⊎_elim, ◌≢◌}
use Prim.Native.Nat.{ℕ, suc, ◌≤◌, ◌<◌}
use native.Mathlib.Omega.{arith}
use Rattle.graph.specs.Finite.{if_equal}
use Rattle.graph.specs.Graph.{Graph, mark, node}
use Rattle.graph.proofs.Cases.{eq_or_ne}
use Rattle.graph.proofs.Tests.{equal, unequal}
use Rattle.moves.specs.Tree.{root_of}
use Rattle.state.specs.State.{field, Neighbours}
use Rattle.trees.proofs.Ready.{Ready}

-- from which node on all are passed, v being the next to pass, or the mark
unfoldable pub bound_of : ℕ → ℕ
bound_of v = if_equal v mark 0 (suc v)

pub bound_mark : (v : ℕ) → v ≡ mark → bound_of v ≡ 0
unfolding bound_of
bound_mark v e = sym (equal v mark 0 (suc v) e refl)

pub bound_node : (v : ℕ) → v ≢ mark → bound_of v ≡ suc v
unfolding bound_of
bound_node v e = sym (unequal v mark 0 (suc v) e refl)

-- w is the next of the tree of r below its node v, or the mark
pub record Next (h : Graph) (r v w : ℕ) : Type 0 where
  pub bound : bound_of w ≤ v
  pub free : (x : ℕ) → bound_of w ≤ x → x < v → root_of h (node h x) ≢ node h r
  pub lower : w ≢ mark → w < v
  pub here : w ≢ mark → root_of h (node h w) ≡ node h r

pub next_lower : (h : Graph) (sc : List ℕ) → Ready h sc → (r v w : ℕ) → v < h.N → root_of h (node h v) ≡ node h r → w ≡ field sc v 5 → Next h r v w
next_lower h sc rd r v w l t e =
    ⊎_elim
    (λ (m : w ≡ mark).
    let b = bound_mark w m in
    record {
      bound = omega arith;
      free = λ x i j z. rd.linked.no_lower v l (sym e ∙ m) x j (z ∙ sym t);
      lower = λ z. absurd (z m);
      here = λ z. absurd (z m);
    })
    (λ (m : w ≢ mark).
    let b = bound_node w m in
    let n : Neighbours h w v = rw e (rd.linked.lower v l (λ z. m (e ∙ z))) in
    let s : root_of h (node h w) ≡ node h r = sym n.same ∙ t in
    record {
      bound = omega (arith, n.rising);
      free = λ x i j z. n.between x (omega arith) j (z ∙ sym s);
      lower = λ z. n.rising;
      here = λ z. s;
    })
    (eq_or_ne w mark)
