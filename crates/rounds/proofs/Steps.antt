-- Calls made one after the other: both sums of what they have saved add to what C has fallen by, and where C has not fallen, none
-- changed the graph and each saw the last one. From what each call does (Calls).
use mathlib.Core.Path.{◌≡◌, refl, ap, ◌∙◌}
use mathlib.Core.Bool.{Bool, true, false, cond}
use mathlib.Core.Logic.{⊎_elim}
use Prim.Native.Nat.{ℕ, zero, suc, ◌+◌, ◌-◌, ◌≤◌, ◌<◌}
use native.Mathlib.Omega.{arith}
use native.Mathlib.Nat.{not-suc-le-zero, eq-or-lt_of_le, le_of_suc-le-suc}
use lib.IntN.{◌+ℤ◌}
use Rattle.graph.specs.Graph.{Graph}
use Rattle.graph.specs.Count.{C}
use Rattle.graph.specs.Finite.{difference}
use Rattle.graph.specs.Admission.{Admitted}
use Rattle.graph.specs.Answer.{Outcome, own_of, others_of, saving_of}
use Rattle.graph.proofs.DifferenceSum.{interchange, telescope}
use Rattle.moves.proofs.Count.{clash}
use Rattle.moves.proofs.Kept.{Kept, kept_none, kept_then}
use Rattle.rounds.specs.Round.{Progress, after, each}
use Rattle.rounds.proofs.Calls.{Honest}

-- both sums of p are together what C has fallen by from c
abbrev pub Sums : ℕ → Progress → Type 0
Sums c p = p.own +ℤ p.others ≡ difference c (C p.graph)

-- a step from p to q that has lowered C by so much
pub record Moved (p q : Progress) (saved : ℕ) : Type 0 where
  pub sums : (c : ℕ) → Sums c p → Sums c q
  pub keeps : Kept p.graph q.graph saved

-- what a step does, and P, which then holds of the graph, where it saves nothing
pub record Sound (step : Progress → Progress) (P : Graph → Type 0) : Type 0 where
  pub saves : Progress → ℕ
  pub moves : (p : Progress) → Admitted p.graph → Moved p (step p) (saves p)
  pub still : (p : Progress) → Admitted p.graph → saves p ≡ 0 → ((step p).graph ≡ p.graph) × P p.graph

-- one call
pub after_sound : (call : Graph → Outcome) → Honest call → Sound (after call) (λ g. C g ≤ C (call g).graph)
unfolding after
after_sound call h =
    record {
      saves = λ p. C p.graph - C (call p.graph).graph;
      moves = λ p adm.
          record {
            sums = λ c e.
                let g : Graph = p.graph in
                let o : Outcome = call g in
                interchange p.own (own_of o.answer) p.others (others_of o.answer) ∙
                ap (λ x. x +ℤ saving_of o.answer) e ∙
                ap (λ x. difference c (C g) +ℤ x) (h.adds g) ∙
                telescope c (C g) (C o.graph);
            keeps = h.keeps p.graph adm;
          };
      still = λ p adm e. let l : C p.graph ≤ C (call p.graph).graph = omega (arith, (h.keeps p.graph adm).count) in (h.still p.graph adm l, l);
    }

-- a call made only where a test passes
cond_moved : (b : Bool) (p q : Progress) (s : ℕ) → Admitted p.graph → Moved p q s → Moved p (cond b q p) (cond b s 0)
cond_moved true p q s adm m = m
cond_moved false p q s adm m = record { sums = λ c e. e; keeps = kept_none p.graph adm }

cond_still : (b : Bool) (p q : Progress) (s : ℕ) (P : Type 0) → (s ≡ 0 → (q.graph ≡ p.graph) × P) → cond b s 0 ≡ 0
    → ((cond b q p).graph ≡ p.graph) × (b ≡ true → P)
cond_still true p q s P h e = ((h e).0, (λ t. (h e).1))
cond_still false p q s P h e = (refl, (λ t. absurd (clash t refl)))

pub cond_sound : (test : Graph → Bool) (step : Progress → Progress) (P : Graph → Type 0) → Sound step P
    → Sound (λ p. cond (test p.graph) (step p) p) (λ g. test g ≡ true → P g)
cond_sound test step P h =
    record {
      saves = λ p. cond (test p.graph) (h.saves p) 0;
      moves = λ p adm. cond_moved (test p.graph) p (step p) (h.saves p) adm (h.moves p adm);
      still = λ p adm e. cond_still (test p.graph) p (step p) (h.saves p) (P p.graph) (h.still p adm) e;
    }

-- one step after the other
pub then_sound : (a b : Progress → Progress) (P Q : Graph → Type 0) → Sound a P → Sound b Q → Sound (λ p. b (a p)) (λ g. P g × Q g)
then_sound a b P Q h k =
    record {
      saves = λ p. h.saves p + k.saves (a p);
      moves = λ p adm.
          let m = h.moves p adm in
          let n = k.moves (a p) m.keeps.stays.admitted in
          record { sums = λ c e. n.sums c (m.sums c e); keeps = kept_then p.graph (a p).graph (b (a p)).graph (h.saves p) (k.saves (a p)) m.keeps n.keeps };
      still = λ p adm e.
          let m = h.moves p adm in
          let x = h.still p adm (omega arith) in
          let y = k.still (a p) m.keeps.stays.admitted (omega arith) in
          ((y.0 ∙ x.0), (x.1, rw x.0 at y.1));
    }

-- a step for each of the first n nodes
module _ (step : ℕ → Progress → Progress) (P : ℕ → Graph → Type 0) (h : (v : ℕ) → Sound (step v) (P v)) where
  pub each_sound : (n : ℕ) → Sound (each step n) (λ g. (v : ℕ) → v < n → P v g)
  unfolding each
  each_sound zero =
      record {
        saves = λ p. 0;
        moves = λ p adm. record { sums = λ c e. e; keeps = kept_none p.graph adm };
        still = λ p adm e. (refl, (λ v l. absurd (not-suc-le-zero l)));
      }
  each_sound (suc n) =
      let s = then_sound (each step n) (step n) (λ g. (v : ℕ) → v < n → P v g) (P n) (each_sound n) (h n) in
      record {
        saves = s.saves;
        moves = s.moves;
        still = λ p adm e.
            let x = s.still p adm e in (
              x.0,
              (λ v l. ⊎_elim (λ (q : v ≡ n). rw q x.1.1) (λ (k : v < n). x.1.0 v k) (eq-or-lt_of_le (le_of_suc-le-suc l))),
            );
      }
