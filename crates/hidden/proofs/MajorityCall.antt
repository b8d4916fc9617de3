-- The majority call keeps the outputs' values, the number of nodes, and that the graph is admitted. From its answers.
use mathlib.Core.Path.{◌≡◌, refl}
use mathlib.Core.Bool.{true, false, ◌&&◌}
use mathlib.Core.Logic.{⊎_elim}
use mathlib.Core.List.{List}
use Prim.Native.Nat.{ℕ, ◌+◌, ◌-◌, ◌<◌}
use native.Mathlib.Omega.{arith}
use borrow.Author.Tests.{ltb-true}
use lib.Dec.{ltb, eqb}
use Rattle.graph.specs.Finite.{if_less, if_equal, first}
use Rattle.graph.specs.Graph.{Graph}
use Rattle.graph.specs.Admission.{Admitted, admission_number}
use Rattle.graph.proofs.Admit.{admitted}
use Rattle.graph.proofs.Answers.{accepted_outcome}
use Rattle.graph.proofs.Cases.{true_or_false}
use Rattle.graph.proofs.Tests.{both, on, passes}
use Rattle.moves.specs.Call.{is_node, node_fault, scratch_fault}
use Rattle.hidden.specs.Truth.{Triple, leak, truth}
use Rattle.hidden.specs.Majority.{is_majority, made}
use Rattle.hidden.specs.Call.{triple_fault, lock_fault, majority_number, majority_outcome, majority_call}
use Rattle.hidden.specs.Keeps.{Keeps, Same}
use Rattle.hidden.specs.Inner.{Rising}
use Rattle.hidden.specs.Promises.{MajorityKeeps}
use Rattle.moves.proofs.Readers.{both_true}
use Rattle.hidden.proofs.Made.{made_keeps}

pub keeps_itself : (g : Graph) → Admitted g → Keeps g g
keeps_itself g adm = record { inputs = refl; outputs = refl; fewer = omega arith; admitted = adm; same = λ a j h. refl }

pub rising_is : (t : Triple) (u : ℕ) → triple_fault t u ≡ 0 → Rising t u
unfolding triple_fault
rising_is t u e =
    let a = on 0 t.one 6 (if_less t.one t.two (if_less t.two t.three (if_less t.three u 0 7) 7) 7) e in
    let b = on t.one t.two 6 (if_less t.two t.three (if_less t.three u 0 7) 7) a.1 in
    let c = on t.two t.three 6 (if_less t.three u 0 7) b.1 in
    let d = on t.three u 6 0 c.1 in
    record { positive = a.0; second = b.0; third = c.0; below = d.0 }

pub node_is : (g : Graph) (u : ℕ) → node_fault g u ≡ 0 → (g.I < u) × (u < g.I + 1 + g.N)
unfolding node_fault is_node
node_is g u e =
    let b = both_true (ltb g.I u) (ltb u (g.I + 1 + g.N)) (passes (ltb g.I u && ltb u (g.I + 1 + g.N)) 6 e) in
    (ltb-true g.I u b.0, ltb-true u (g.I + 1 + g.N) b.1)

pub same_itself : (g : Graph) → Admitted g → Same g g
same_itself g adm = record { keeps = keeps_itself g adm; nodes = refl; all = λ a i h. refl }

pub made_same : (g : Graph) → Admitted g → (t : Triple) (u : ℕ) → g.I < u → u < g.I + 1 + g.N → Rising t u → is_majority (truth g t u) ≡ true → Same g (made g t u)
made_same g adm t u lo hi r is =
    let v : ℕ = u - (g.I + 1) in
    let e : u ≡ g.I + 1 + v = omega arith in
    let k = made_keeps g adm t v (omega arith) (rw e at r) (rw e at is) in
    rw e (record { keeps = k.0; nodes = k.1; all = k.2 })

pub outcome_same : (g : Graph) → Admitted g → (t : Triple) (u : ℕ) → g.I < u → u < g.I + 1 + g.N → Rising t u → Same g (majority_outcome g t u).graph
unfolding majority_outcome if_equal
outcome_same g adm t u lo hi r =
    ⊎_elim
    (λ (e : eqb (truth g t u) leak ≡ true). rw e (same_itself g adm))
    (λ (e : eqb (truth g t u) leak ≡ false).
    ⊎_elim
    (λ (m : is_majority (truth g t u) ≡ true). rw (e, m) (made_same g adm t u lo hi r m))
    (λ (m : is_majority (truth g t u) ≡ false). rw (e, m) (same_itself g adm))
    (true_or_false (is_majority (truth g t u))))
    (true_or_false (eqb (truth g t u) leak))

pub majority_keeps : (g : Graph) (ls : List ℕ) (s : ℕ) (t : Triple) (u : ℕ) → MajorityKeeps g ls s t u
unfolding majority_call majority_number
majority_keeps g ls s t u e =
    let a = both (admission_number g ls) (first (node_fault g u) (first (triple_fault t u) (first (lock_fault g ls u) (scratch_fault g s)))) e in
    let b = both (node_fault g u) (first (triple_fault t u) (first (lock_fault g ls u) (scratch_fault g s))) a.1 in
    let d = both (triple_fault t u) (first (lock_fault g ls u) (scratch_fault g s)) b.1 in
    let n = node_is g u b.0 in
    rw (← accepted_outcome (majority_number g ls s t u) g (majority_outcome g t u) e)
    (outcome_same g (admitted g ls a.0) t u n.0 n.1 (rising_is t u d.0))

pub outcome_number : (g : Graph) (t : Triple) (u : ℕ) → (majority_outcome g t u).answer.number ≡ 0
unfolding majority_outcome if_equal
outcome_number g t u =
    ⊎_elim
    (λ (e : eqb (truth g t u) leak ≡ true). rw e)
    (λ (e : eqb (truth g t u) leak ≡ false).
    ⊎_elim (λ (m : is_majority (truth g t u) ≡ true). rw (e, m)) (λ (m : is_majority (truth g t u) ≡ false). rw (e, m)) (true_or_false (is_majority (truth g t u))))
    (true_or_false (eqb (truth g t u) leak))
