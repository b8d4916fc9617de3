-- Settling the parts of a join and then the whole keeps every output's value, and C does not rise. From what settling keeps, and from the
-- values of a join.
use mathlib.Core.Path.{◌≡◌, refl, ap, ◌∙◌}
use mathlib.Core.List.{List}
use Prim.Native.Nat.{ℕ, zero, suc, ◌%◌, ◌≤◌}
use native.Mathlib.Omega.{arith}
use Rattle.graph.specs.Graph.{Graph}
use Rattle.graph.specs.Count.{C}
use Rattle.graph.specs.Admission.{Admitted}
use Rattle.graph.specs.Answer.{Outcome, LockedOutcome, guarded}
use Rattle.graph.specs.Value.{output_value}
use Rattle.graph.proofs.Admit.{admitted}
use Rattle.graph.proofs.Fixed.{output_alike}
use Rattle.graph.proofs.Tests.{both}
use Rattle.moves.proofs.Kept.{Stays, stays_none}
use Rattle.rounds.specs.Settle.{settle, settled, settle_number, settle_call}
use Rattle.rounds.proofs.Rounds.{settle_ended}
use Rattle.join.proofs.Accepted.{joined_values, parts_admitted}
use Rattle.promises.specs.Stages.{join_settled, StagesSettled}

-- a graph that is g but for complement bits, and whose C is no higher
record Lowered (g h : Graph) : Type 0 where
  stays : Stays g h
  less : C h ≤ C g

guarded_lowered : (k : ℕ) (g : Graph) (o : Outcome) → Admitted g → Lowered g o.graph → Lowered g (guarded k g o).graph
unfolding guarded
guarded_lowered zero g o adm l = l
guarded_lowered (suc k) g o adm l = record { stays = stays_none g adm; less = omega arith }

guarded_admitted : (k : ℕ) (g : Graph) (o : Outcome) → (k ≡ 0 → Admitted g) → Admitted (guarded k g o).graph → Admitted g
unfolding guarded
guarded_admitted zero g o f adm = f refl
guarded_admitted (suc k) g o f adm = adm

-- settling, accepted or refused
module _ (g : Graph) (ls : List ℕ) (s : ℕ) where
  settle_lowered : Admitted g → Lowered g (settle_call g ls s).graph
  unfolding settle_call
  settle_lowered adm =
      let k = (settle_ended ls g adm).keeps in
      guarded_lowered (settle_number g ls s) g (settled g (settle ls g)) adm (record { stays = k.stays; less = omega (arith, k.count) })

  was_admitted : Admitted (settle_call g ls s).graph → Admitted g
  unfolding settle_call settle_number
  was_admitted adm = guarded_admitted (settle_number g ls s) g (settled g (settle ls g)) (λ z. admitted g ls (both _ _ z).0) adm

-- M-113: both sentences on settling
pub stages : (g : Graph) (ls : List ℕ) (s : ℕ) (h : Graph) (ks : List ℕ) (t : ℕ) (ns os rs : List ℕ) (w : ℕ) → StagesSettled g ls s h ks t ns os rs w
stages g ls s h ks t ns os rs w e =
    let g' : Graph = (settle_call g ls s).graph in
    let h' : Graph = (settle_call h ks t).graph in
    let o : LockedOutcome = join_settled g ls s h ks t ns os rs in
    let p = parts_admitted g' ls h' ks ns os rs e in
    let j = joined_values g' ls h' ks ns os rs e in
    let gs = (settle_lowered g ls s (was_admitted g ls s p.0)).stays in
    let hs = (settle_lowered h ks t (was_admitted h ks t p.1)).stays in
    let l = settle_lowered o.graph o.locks w j.admitted in
    record {
      values = λ a k b.
          l.stays.outputs a k (omega (arith, j.outputs, hs.same_O))
          ∙ j.values a k (omega (arith, hs.same_O))
          ∙ hs.outputs (output_value g' a) k b
          ∙ output_alike h (output_value g' a) (output_value g a)
          (λ i c. ap (λ (x : ℕ). x % 2) (gs.outputs a i (omega (arith, j.meet, gs.same_O, hs.same_I)))) k;
      count = l.less;
    }
