-- The majority call whole: outputs do not matter to it, a refusal changes nothing, and no accepted answer has a number. From the definitions.
use mathlib.Core.Path.{◌≡◌, refl, ap, ◌∙◌}
use mathlib.Core.Bool.{true, false}
use mathlib.Core.Logic.{⊎_elim}
use mathlib.Core.List.{List, []}
use Prim.Native.Nat.{ℕ, zero, suc, ◌+◌, ◌*◌, ◌≤◌, ◌<◌}
use native.Mathlib.Omega.{arith}
use lib.Dec.{eqb}
use lib.ListN.{get_or}
use Rattle.graph.specs.Finite.{if_equal}
use Rattle.graph.specs.Graph.{Graph, graph_of, is_edge, is_xor}
use Rattle.graph.specs.Value.{node_value}
use Rattle.graph.specs.Admission.{Admitted, admission_number}
use Rattle.graph.specs.Answer.{Answer, Outcome, outcome}
use Rattle.graph.proofs.Admit.{admitted}
use Rattle.graph.proofs.Answers.{accepted_outcome}
use Rattle.graph.proofs.Cases.{true_or_false}
use Rattle.graph.proofs.Tests.{both, off}
use Rattle.moves.specs.Call.{node_fault, scratch_fault}
use Rattle.moves.proofs.Known.{node_known}
use Rattle.evaluation.specs.Inner.{nodes_of}
use Rattle.hidden.specs.Truth.{Triple, leak, leaks, node_byte, over, truth}
use Rattle.hidden.specs.Majority.{is_majority, rewired, majority_of, made}
use Rattle.hidden.specs.Inner.{Rising}
use Rattle.hidden.specs.Call.{triple_fault, lock_fault, majority_number, majority_outcome, majority_call}
use Rattle.hidden.proofs.Tables.{no_stray}
use Rattle.hidden.proofs.MajorityCall.{rising_is, outcome_number}

module _ (i n o : ℕ) (ns os : List ℕ) (t : Triple) where
  over_same : (k : ℕ) → over (graph_of i n o ns os) t k ≡ over (nodes_of i n ns) t k
  unfolding over node_byte leaks is_edge node_value is_xor
  over_same zero = refl
  over_same (suc k) = rw (over_same k)

  pub truth_same : (u : ℕ) → truth (graph_of i n o ns os) t u ≡ truth (nodes_of i n ns) t u
  unfolding truth
  truth_same u = ap (λ (l : List ℕ). get_or l u 0) (over_same n)

  -- the outcome with outputs beside it
  abbrev lift : Outcome → Outcome
  lift x = outcome x.answer (graph_of x.graph.I x.graph.N o x.graph.nodes os)

  lifted : (u : ℕ) → lift (majority_outcome (nodes_of i n ns) t u) ≡ majority_outcome (graph_of i n o ns os) t u
  unfolding majority_outcome if_equal made majority_of rewired
  lifted u =
      rw (truth_same u)
      (⊎_elim
      (λ (e : eqb (truth (nodes_of i n ns) t u) leak ≡ true). rw e)
      (λ (e : eqb (truth (nodes_of i n ns) t u) leak ≡ false).
      ⊎_elim
      (λ (m : is_majority (truth (nodes_of i n ns) t u) ≡ true). rw (e, m))
      (λ (m : is_majority (truth (nodes_of i n ns) t u) ≡ false). rw (e, m))
      (true_or_false (is_majority (truth (nodes_of i n ns) t u))))
      (true_or_false (eqb (truth (nodes_of i n ns) t u) leak)))

  pub with_outputs : (a : Answer) (ns' : List ℕ) (u : ℕ) → outcome a (nodes_of i n ns') ≡ majority_outcome (nodes_of i n ns) t u → outcome a (graph_of i n o ns' os) ≡ majority_outcome (graph_of i n o ns os) t u
  with_outputs a ns' u e = ap lift e ∙ lifted u

module _ (g : Graph) (ls : List ℕ) (s : ℕ) (t : Triple) (u : ℕ) where
  pub accepted_call : (o : Outcome) → majority_number g ls s t u ≡ 0 → o ≡ majority_outcome g t u → o ≡ majority_call g ls s t u
  unfolding majority_call
  accepted_call o z e = e ∙ accepted_outcome (majority_number g ls s t u) g (majority_outcome g t u) z

  pub accepted_number : (o : Outcome) → o ≡ majority_outcome g t u → o.answer.number ≡ 0
  accepted_number o e = ap (λ (x : Outcome). x.answer.number) e ∙ outcome_number g t u

  -- what an accepted call knows
  pub record Fine : Type 0 where
    pub admitted : Admitted g
    pub after_inputs : g.I < u
    pub within : u < g.I + 1 + g.N
    pub rising : Rising t u
    pub long : 8 * g.N ≤ s

  pub fine : majority_number g ls s t u ≡ 0 → Fine
  unfolding majority_number scratch_fault
  fine e =
      let a = both (admission_number g ls) _ e in
      let b = both (node_fault g u) _ a.1 in
      let c = both (triple_fault t u) _ b.1 in
      let d = both (lock_fault g ls u) _ c.1 in
      let k = node_known g u b.0 in
      record { admitted = admitted g ls a.0; after_inputs = k.0; within = k.1; rising = rising_is t u c.0; long = (off s (8 * g.N) 7 0 d.1).0 }

-- without its outputs it is admitted too
pub bare_admitted : (i n o : ℕ) (ns os : List ℕ) → Admitted (graph_of i n o ns os) → Admitted (nodes_of i n ns)
unfolding is_edge
bare_admitted i n o ns os a =
    record {
      few_inputs = a.few_inputs;
      few_nodes = a.few_nodes;
      few_outputs = omega arith;
      long_nodes = a.long_nodes;
      long_outputs = omega arith;
      held_nodes = a.held_nodes;
      held_outputs = omega arith;
      clean_nodes = a.clean_nodes;
      clean_outputs = no_stray 0 [] (λ j h k. absurd (omega arith));
      below = a.below;
      output_below = λ j h. absurd (omega arith);
    }
