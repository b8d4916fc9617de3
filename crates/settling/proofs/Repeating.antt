-- Rounds over a state, one after the other, are settling: what is left after a round is the whole. From what is left
-- after a round (crate rounds, Rest) and from what the phases of a round make of a state.
use mathlib.Core.Path.{◌≡◌, refl, sym, ap, ◌∙◌, subst}
use mathlib.Core.List.{List}
use Prim.Native.Nat.{ℕ, suc, ◌+◌, ◌-◌, ◌*◌, ◌≤◌, ◌<◌}
use native.Mathlib.Omega.{arith}
use native.Mathlib.Numerals.{add-one}
use lib.ListN.{length}
use Rattle.graph.specs.Graph.{Graph}
use Rattle.graph.specs.Count.{C}
use Rattle.graph.proofs.Adds.{C_le}
use Rattle.graph.proofs.DifferenceSum.{no_difference}
use Rattle.state.specs.State.{stands, Ordered}
use Rattle.state.proofs.Stands.{stands_alike, stands_admitted}
use Rattle.rounds.specs.Round.{Progress, start, round}
use Rattle.rounds.specs.Inner.{phases}
use Rattle.rounds.specs.Settle.{Rounds, settle_in, settle}
use Rattle.settling.specs.Phase.{Room, Carried, Phase, AllRounds}
use Rattle.settling.specs.declared.phases.Tally.{Tally}
use Rattle.rounds.proofs.Rest.{later, later_rounds, later_made, left_more, left_last}

-- so many rounds have been made, the last of which took C from c to that of the tally t: where that lowered C, the rest of settling
-- follows, and else nothing; the calls made are p
pub record Going (ls : List ℕ) (g : Graph) (sc₀ sc : List ℕ) (rounds c : ℕ) (t : Tally) : Type 0 where
  pub fuel : ℕ
  pub p : Progress
  pub ordered : Ordered g sc
  pub long : length sc ≡ length sc₀
  pub carried : Carried p g sc t.before t.after
  pub here : t.count ≡ C (stands g sc)
  pub few : rounds ≤ C (stands g sc₀) + 1
  pub sum : t.before ≤ rounds * 304097500000
  pub sum_after : t.after ≤ rounds * 304097500000
  pub more : t.count < c → (settle ls (stands g sc₀) ≡ later rounds (settle_in (suc fuel) ls p)) × (C (stands g sc) ≤ fuel) × (rounds + t.count ≤ C (stands g sc₀))
  pub done : c ≤ t.count → settle ls (stands g sc₀) ≡ later rounds (record { rounds = 0; made = p })

pub count_few : (g : Graph) (sc : List ℕ) → Ordered g sc → C (stands g sc) ≤ 304096
count_few g sc o = let a = stands_admitted g sc o.admitted in omega (arith, C_le (stands g sc), a.few_nodes, a.few_outputs)

-- before the first round
pub going_first : (ls : List ℕ) (g : Graph) (sc : List ℕ) → Ordered g sc → (t : Tally) → t.count ≡ C (stands g sc) → t.before ≡ 0 → t.after ≡ 0
    → Going ls g sc sc 0 (t.count + 1) t
unfolding settle later start
going_first ls g sc o t e x y =
    record {
      fuel = C (stands g sc);
      p = start (stands g sc);
      ordered = o;
      long = refl;
      carried = record { graph = refl; others = rw (x, y) (sym (no_difference 0)) };
      here = e;
      few = omega arith;
      sum = omega arith;
      sum_after = omega arith;
      more = λ l. (refl, omega arith, omega arith);
      done = λ l. absurd (omega arith);
    }

module _ (ls : List ℕ) (g : Graph) (sc₀ sc : List ℕ) (rounds c : ℕ) (t : Tally) where
  pub going_few : Ordered g sc₀ → Going ls g sc₀ sc rounds c t → rounds ≤ 304097
  going_few o w = omega (arith, w.few, count_few g sc₀ o)

  pub going_room : Ordered g sc₀ → Going ls g sc₀ sc rounds c t → Room t 100000000000000000
  going_room o w = let r = going_few o w in record { low = omega (arith, w.sum, r); low_after = omega (arith, w.sum_after, r) }

  -- a round that does not lower C is the last
  pub going_last : Ordered g sc₀ → Going ls g sc₀ sc rounds c t → c ≤ t.count
      → AllRounds ls g sc₀ sc (record { rounds = rounds; tally = t })
  going_last o w l =
      let q = w.done l in
      let r = going_room o w in
      let e : (settle ls (stands g sc₀)).made ≡ w.p = ap (λ (x : Rounds). x.made) q ∙ later_made rounds _ in
      record {
        ordered = w.ordered;
        long = w.long;
        carried = rw e w.carried;
        rounds = ap (λ (x : Rounds). x.rounds) q ∙ later_rounds rounds _ ∙ omega arith;
        count = w.here;
        few = r.low;
        few_after = r.low_after;
      }

  -- what the three phases make of a state is a round
  round_here : (w : Going ls g sc₀ sc rounds c t) (sc' : List ℕ) (u : Tally) → Phase (phases ls g.N) 500000 g sc t sc' u
      → Carried (round ls w.p) g sc' u.before u.after
  unfolding round
  round_here w sc' u x =
      let e : w.p.graph.N ≡ g.N = ap (λ (y : Graph). y.N) w.carried.graph ∙ (stands_alike g sc w.ordered.admitted).same_N in
      subst (λ (n : ℕ). Carried (phases ls n w.p) g sc' u.before u.after) (sym e) (x.makes w.p w.carried)

  -- one that does is followed by another
  pub going_more : Going ls g sc₀ sc rounds c t → t.count < c → (sc' : List ℕ) (u : Tally) → Phase (phases ls g.N) 500000 g sc t sc' u
      → Going ls g sc₀ sc' (rounds + 1) t.count u
  going_more w l sc' u x =
      let m = w.more l in
      let r = round_here w sc' u x in
      let b : C w.p.graph ≡ t.count = ap C w.carried.graph ∙ sym w.here in
      let a : C (round ls w.p).graph ≡ u.count = ap C r.graph ∙ sym x.count in
      record {
        fuel = w.fuel - 1;
        p = round ls w.p;
        ordered = x.ordered;
        long = x.long ∙ w.long;
        carried = r;
        here = x.count;
        few = omega (arith, m.2);
        sum = omega (arith, w.sum, x.few);
        sum_after = omega (arith, w.sum_after, x.few_after);
        more = λ q.
            let f : w.fuel ≡ suc (w.fuel - 1) = omega (arith, m.1, w.here) in (
              rw (add-one rounds) (m.0 ∙ left_more ls rounds w.fuel w.p (omega (arith, a, b)) (w.fuel - 1) f),
              omega (arith, m.1, w.here, x.count),
              omega (arith, m.2),
            );
        done = λ q. rw (add-one rounds) (m.0 ∙ left_last ls rounds w.fuel w.p (omega (arith, a, b)));
      }
