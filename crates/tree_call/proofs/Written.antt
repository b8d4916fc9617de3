-- The moves stored for a tree written one by one along its links: the tables are then those after all of them. From the laws of the pass
-- that chooses a tree's moves, and of links.
use mathlib.Core.Path.{◌≡◌, refl, sym, ap, ◌∙◌}
use mathlib.Core.Bool.{true, cond}
use mathlib.Core.List.{List}
use mathlib.Core.Logic.{◌≢◌}
use Prim.Native.Nat.{ℕ, suc, ◌≤◌, ◌<◌}
use native.Mathlib.Omega.{arith}
use Rattle.graph.specs.Admission.{Admitted}
use Rattle.graph.specs.Graph.{Graph, mark, node}
use Rattle.moves.specs.Apply.{Choice, none, at, apply}
use Rattle.moves.specs.Rows.{kind_moves}
use Rattle.moves.specs.Tree.{is_root, place, root_of}
use Rattle.moves.proofs.Apply.{admitted, apply_alike, same_xor}
use Rattle.moves.proofs.Kept.{apply_idle}
use Rattle.moves.proofs.Moves.{moves_no_more}
use Rattle.moves.proofs.Readers.{root_of_root}
use Rattle.state.specs.State.{field, Ordered}
use Rattle.state.proofs.Alike.{Alike, alike_is_root, alike_place}
use Rattle.trees.specs.Deciding.{MovesHeld, stored_moved}
use Rattle.trees.proofs.Falling.{bound_of, bound_mark, bound_node, next_lower}
use Rattle.trees.proofs.MakePass.{Chosen, chosen_none, chosen_down, chosen_stored, chosen_applied, chosen_step}
use Rattle.trees.proofs.Ready.{ordered_itself}

-- k is h with the moves written that scratch has for the tree of r, down to before node v, which is the next
pub record WrittenTo (h : Graph) (sc : List ℕ) (r v : ℕ) (k : Graph) : Type 0 where
  pub d : Choice
  pub chosen : Chosen h sc r (bound_of v) d
  pub written : k ≡ apply h d
  pub here : v ≢ mark → (v ≤ r) × (root_of h (node h v) ≡ node h r)

module _ (h : Graph) (sc : List ℕ) (o : Ordered h sc) (r : ℕ) (rn : r < h.N) (t : is_root h (node h r) ≡ true) where
  pub written_none : (v : ℕ) → v ≡ r → WrittenTo h sc r v h
  written_none v e =
      let m : v ≢ mark = λ z. omega (arith, o.admitted.few_nodes) in
      record {
        d = none;
        chosen = rw (bound_node v m, e) (chosen_none h sc o.admitted r rn);
        written = sym (apply_idle h none o.admitted (λ u. refl));
        here = λ z. rw e (omega arith, root_of_root h o.admitted (node h r) t);
      }

  module _ (ls : List ℕ) (held : MovesHeld h ls (node h r) sc) (v : ℕ) (k : Graph) (w : WrittenTo h sc r v k) where
    pub written_all : v ≡ mark → k ≡ stored_moved h (node h r) sc
    written_all e = w.written ∙ chosen_stored h sc o.admitted r rn w.d (rw (bound_mark v e) at w.chosen)

    module _ (d : v ≢ mark) where
      pub next_node : v < h.N
      next_node = omega (arith, (w.here d).0)

      fits : field sc v 4 < kind_moves h (node h v)
      fits = omega (arith, held v next_node (w.here d).1, moves_no_more h ls (node h v))

      same : Alike h k
      same = rw w.written (apply_alike h w.d o.admitted)

      same_moves : kind_moves k (node h v) ≡ kind_moves h (node h v)
      unfolding kind_moves
      same_moves = rw w.written (rw (same_xor h w.d o.admitted, (apply_alike h w.d o.admitted).same_I))

      pub next_asks : (p m : ℕ) → p ≡ field sc v 3 → m ≡ field sc v 4 → Admitted k × (v < h.N) × (m < kind_moves k (node h v)) × (p ≡ cond (is_root k (node h v)) mark (place k (node h v)))
      next_asks p m e q = (
        rw w.written (admitted h w.d o.admitted),
        next_node,
        omega (arith, fits, same_moves, q),
        rw (alike_is_root h k same (node h v), alike_place h k same (node h v)) (e ∙ o.placed v next_node),
      )

      pub next_written : (m x : ℕ) (k' : Graph) → m ≡ field sc v 4 → x ≡ field sc v 5 → k' ≡ apply k (at none (node h v) m) → WrittenTo h sc r x k' × (bound_of x < bound_of v)
      next_written m x k' e q s =
          let here = (w.here d).1 in
          let c : Chosen h sc r (suc v) w.d = rw (← bound_node v d) w.chosen in
          let low : m < kind_moves h (node h v) = omega (arith, fits, e) in
          let n = next_lower h sc (ordered_itself h sc o) r v x next_node here q in (
            record {
              d = at w.d (node h v) m;
              chosen = chosen_down h sc o.admitted r rn v (bound_of x) _ n.bound n.free (chosen_step h sc o.admitted r rn v next_node here w.d c m low e);
              written = s ∙ ap (λ (y : Graph). apply y (at none (node h v) m)) w.written ∙ chosen_applied h sc o.admitted r rn v next_node here w.d c m low e;
              here = λ z. (omega (arith, n.lower z, (w.here d).0), n.here z);
            },
            omega (arith, n.bound, bound_node v d),
          )
