-- The moves of a decided tree made one by one, by falling index: the state then stands for the graph after the tree call. From the
-- law of composition and the laws on states.
use mathlib.Core.Path.{◌≡◌, refl, sym, ap, ◌∙◌, fun_ext}
use mathlib.Core.List.{List}
use mathlib.Core.Logic.{⊎_elim, ◌≢◌}
use Prim.Native.Nat.{ℕ, suc, ◌+◌, ◌-◌, ◌≤◌, ◌<◌}
use native.Mathlib.Omega.{arith}
use native.Mathlib.Nat.{eq-or-lt_of_le}
use borrow.Author.Tests.{eq-eqb, ne_eqb, lt-ltb, le-ltb}
use Rattle.graph.specs.Graph.{Graph, node, is_xor}
use Rattle.graph.specs.Admission.{Admitted}
use Rattle.graph.proofs.Cases.{eq_or_ne, lt_or_le}
use Rattle.moves.specs.Rows.{kind_moves}
use Rattle.moves.specs.Apply.{Choice, none, at, apply}
use Rattle.moves.specs.Compose.{Permitted, compose}
use Rattle.moves.specs.Tree.{root_of, tree}
use Rattle.moves.specs.Call.{moved, best_at}
use Rattle.moves.proofs.Changed.{at_same, at_other}
use Rattle.moves.proofs.Compose.{apply_apply}
use Rattle.moves.proofs.Kept.{apply_idle}
use Rattle.moves.proofs.Potential.{Off}
use Rattle.moves.proofs.Readers.{root_of_above}
use Rattle.moves.proofs.Moves.{kind_pos, has_row, node_row}
use Rattle.moves.proofs.Written.{within, put_tree}
use Rattle.state.specs.State.{field, stands, Ordered}
use Rattle.state.specs.Step.{TreesKept, Became}
use Rattle.moves.proofs.Made.{combined_left, combined_right}
use Rattle.trees.specs.Deciding.{moves_in, stored_moved, TreeDecided}
use Rattle.trees.proofs.DecidePass.{moves_at_lem}

-- a choice that is m in the tree of r and moves nothing outside
in_or_out : (h : Graph) (r : ℕ) (m d : Choice) (u : ℕ) → (h.I < u → u < node h h.N → root_of h u ≡ r → m u ≡ d u) → (root_of h u ≢ r → d u ≡ 0) → (u ≤ h.I → d u ≡ 0)
    → (node h h.N ≤ u → d u ≡ 0) → within h r m u ≡ d u
unfolding within
in_or_out h r m d u same off low high =
    ⊎_elim
    (λ (a : h.I < u).
    ⊎_elim
    (λ (b : u < h.I + 1 + h.N).
    ⊎_elim
    (λ (e : root_of h u ≡ r). rw (lt-ltb h.I u a, lt-ltb u (h.I + 1 + h.N) b, eq-eqb (root_of h u) r e) (same a b e))
    (λ (e : root_of h u ≢ r). rw (lt-ltb h.I u a, lt-ltb u (h.I + 1 + h.N) b, ne_eqb (root_of h u) r e) (sym (off e)))
    (eq_or_ne (root_of h u) r))
    (λ (b : h.I + 1 + h.N ≤ u). rw (lt-ltb h.I u a, le-ltb u (h.I + 1 + h.N) b) (sym (high b)))
    (lt_or_le u (h.I + 1 + h.N)))
    (λ (a : u ≤ h.I). rw (le-ltb h.I u a) (sym (low a)))
    (lt_or_le h.I u)

-- d is the choice of the moves that scratch sc has for the tree's nodes from n on
pub record Chosen (h : Graph) (sc : List ℕ) (r n : ℕ) (d : Choice) : Type 0 where
  pub permitted : Permitted h d
  pub off : Off h (node h r) d
  pub low : (u : ℕ) → u < node h n → d u ≡ 0
  pub high : (u : ℕ) → node h h.N ≤ u → d u ≡ 0
  pub made : (v : ℕ) → n ≤ v → v < h.N → root_of h (node h v) ≡ node h r → d (node h v) ≡ field sc v 4

-- the state in which they are made
pub record MadeFrom (h : Graph) (sc₁ : List ℕ) (r n : ℕ) (g : Graph) (sc : List ℕ) : Type 0 where
  pub d : Choice
  pub chosen : Chosen h sc₁ r n d
  pub ordered : Ordered g sc
  pub stands_for : stands g sc ≡ apply h d
  pub kept : TreesKept sc₁ sc

module _ (h : Graph) (sc₁ : List ℕ) (adm : Admitted h) (r : ℕ) (rn : r < h.N) where
  pub chosen_none : Chosen h sc₁ r (suc r) none
  chosen_none =
      record {
        permitted = λ v l. kind_pos h (node h v);
        off = λ u q. refl;
        low = λ u q. refl;
        high = λ u q. refl;
        made = λ v l k t. absurd (omega (arith, root_of_above h adm (node h v)));
      }

  -- fewer nodes than n, none of the tree between
  pub chosen_down : (n n' : ℕ) (d : Choice) → n' ≤ n → ((x : ℕ) → n' ≤ x → x < n → root_of h (node h x) ≢ node h r) → Chosen h sc₁ r n d → Chosen h sc₁ r n' d
  chosen_down n n' d l free c =
      record {
        permitted = c.permitted;
        off = c.off;
        low = λ u q. c.low u (omega arith);
        high = c.high;
        made = λ v k b t. ⊎_elim (λ (a : v < n). absurd (free v k a t)) (λ (a : n ≤ v). c.made v a b t) (lt_or_le v n);
      }

  -- all of them: the graph after the moves stored
  pub chosen_stored : (d : Choice) → Chosen h sc₁ r 0 d → apply h d ≡ stored_moved h (node h r) sc₁
  unfolding moved
  chosen_stored d c = ap (apply h) (sym only_tree) ∙ ap (apply h) (sym (put_tree h (node h r) (moves_in h.I sc₁)))
    where
      inside : (u : ℕ) → h.I < u → u < node h h.N → root_of h u ≡ node h r → moves_in h.I sc₁ u ≡ d u
      inside u a b t =
          let v : ℕ = u - (h.I + 1) in
          let q : node h v ≡ u = omega arith in
          (rw q at (moves_at_lem h sc₁ v ∙ sym (c.made v (omega arith) (omega arith) (rw q t))))

      only_tree : within h (node h r) (moves_in h.I sc₁) ≡ d
      only_tree = fun_ext (λ u. in_or_out h (node h r) (moves_in h.I sc₁) d u (inside u) (c.off u) (λ l. c.low u (omega arith)) (c.high u))

  -- where these are the best, the tree call
  pub chosen_all : (ls : List ℕ) (d : Choice) → TreeDecided h ls (node h r) sc₁ → Chosen h sc₁ r 0 d → apply h d ≡ moved h (tree h (node h r)) (best_at h ls (tree h (node h r)))
  chosen_all ls d td c = chosen_stored d c ∙ ap (moved h (tree h (node h r))) td.best

  -- the move m at node v of the tree besides those above it
  module _ (v : ℕ) (vn : v < h.N) (here : root_of h (node h v) ≡ node h r) (d : Choice) (c : Chosen h sc₁ r (suc v) d) (m : ℕ) (fits : m < kind_moves h (node h v)) (em : m ≡ field sc₁ v 4) where
    still_own : d (node h v) ≡ 0
    still_own = c.low (node h v) (omega arith)

    all_fit : (u : ℕ) → d u < kind_moves h u
    all_fit u =
        ⊎_elim
        (λ (a : h.I < u).
        ⊎_elim
        (λ (b : u < node h h.N). let q : node h (u - (h.I + 1)) ≡ u = omega arith in (rw q at (c.permitted (u - (h.I + 1)) (omega arith))))
        (λ (b : node h h.N ≤ u). rw (c.high u b) (kind_pos h u))
        (lt_or_le u (node h h.N)))
        (λ (a : u ≤ h.I). rw (c.low u (omega arith)) (kind_pos h u))
        (lt_or_le h.I u)

    joined : compose h d (at none (node h v) m) ≡ at d (node h v) m
    unfolding compose
    joined =
        fun_ext (λ u.
        ⊎_elim
        (λ (e : u ≡ node h v).
        let q : node h v - (h.I + 1) ≡ v = omega arith in
        rw (e, at_same none (node h v) m, at_same d (node h v) m, still_own, q) (combined_right (is_xor h v) m (node_row h v m fits)))
        (λ (e : u ≢ node h v).
        rw (at_other none (node h v) m u e, at_other d (node h v) m u e) (combined_left (is_xor h (u - (h.I + 1))) (d u) (has_row h u (d u) (all_fit u))))
        (eq_or_ne u (node h v)))

    permitted_with : (y : Choice) → Permitted h y → Permitted h (at y (node h v) m)
    permitted_with y p w l =
        ⊎_elim
        (λ (e : w ≡ v). rw (e, at_same y (node h v) m) fits)
        (λ (e : w ≢ v). rw (at_other y (node h v) m (node h w) (λ z. e (omega arith))) (p w l))
        (eq_or_ne w v)

    pub chosen_applied : apply (apply h d) (at none (node h v) m) ≡ apply h (at d (node h v) m)
    chosen_applied = apply_apply h d (at none (node h v) m) c.permitted (permitted_with none (λ w l. kind_pos h (node h w))) adm ∙ ap (apply h) joined

    pub chosen_step : Chosen h sc₁ r v (at d (node h v) m)
    chosen_step =
        record {
          permitted = permitted_with d c.permitted;
          off = λ u e. at_other d (node h v) m u (λ z. e (rw z here)) ∙ c.off u e;
          low = λ u l. at_other d (node h v) m u (λ z. omega arith) ∙ c.low u (omega arith);
          high = λ u l. at_other d (node h v) m u (λ z. omega arith) ∙ c.high u l;
          made = λ w l b t.
              ⊎_elim
              (λ (e : v ≡ w). rw (← e, at_same d (node h v) m) em)
              (λ (e : v < w). at_other d (node h v) m (node h w) (λ q. omega arith) ∙ c.made w e b t)
              (eq-or-lt_of_le l);
        }

  -- the same of states
  pub made_begin : (g : Graph) → Ordered g sc₁ → stands g sc₁ ≡ h → MadeFrom h sc₁ r (suc r) g sc₁
  made_begin g o e =
      record {
        d = none;
        chosen = chosen_none;
        ordered = o;
        stands_for = e ∙ sym (apply_idle h none adm (λ u. refl));
        kept = record { long = refl; others = λ v f l p q. refl };
      }

  pub made_down : (n n' : ℕ) (g : Graph) (sc : List ℕ) → n' ≤ n → ((x : ℕ) → n' ≤ x → x < n → root_of h (node h x) ≢ node h r) → MadeFrom h sc₁ r n g sc → MadeFrom h sc₁ r n' g sc
  made_down n n' g sc l free mf =
      record { d = mf.d; chosen = chosen_down n n' mf.d l free mf.chosen; ordered = mf.ordered; stands_for = mf.stands_for; kept = mf.kept }

  pub made_all : (ls : List ℕ) (g : Graph) (sc : List ℕ) → TreeDecided h ls (node h r) sc₁ → MadeFrom h sc₁ r 0 g sc → stands g sc ≡ moved h (tree h (node h r)) (best_at h ls (tree h (node h r)))
  made_all ls g sc td mf = mf.stands_for ∙ chosen_all ls mf.d td mf.chosen

  pub made_step : (v : ℕ) → v < h.N → root_of h (node h v) ≡ node h r → (g : Graph) (sc : List ℕ) → MadeFrom h sc₁ r (suc v) g sc → (m : ℕ) → m < kind_moves h (node h v) → m ≡ field sc₁ v 4
      → (i : ℕ) → i ≡ h.I → (g' : Graph) (sc' : List ℕ) → Became sc g' sc' (apply (stands g sc) (at none (i + 1 + v) m)) → MadeFrom h sc₁ r v g' sc'
  made_step v vn here g sc mf m fits em i ei g' sc' be =
      record {
        d = at mf.d (node h v) m;
        chosen = chosen_step v vn here mf.d mf.chosen m fits em;
        ordered = be.ordered;
        stands_for = be.stands_for ∙ ap (λ y. apply y (at none (i + 1 + v) m)) mf.stands_for ∙ ap (λ y. apply (apply h mf.d) (at none (y + 1 + v) m)) ei ∙
            chosen_applied v vn here mf.d mf.chosen m fits em;
        kept = record { long = be.kept.long ∙ mf.kept.long; others = λ w f l p q. be.kept.others w f l p q ∙ mf.kept.others w f l p q };
      }
