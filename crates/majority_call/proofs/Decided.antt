-- What the majority call comes to, by the node's truth value. From the definitions.
use mathlib.Core.Path.{◌≡◌, sym, ap, ◌∙◌}
use mathlib.Core.Bool.{true, false, ◌&&◌}
use mathlib.Core.Logic.{◌≢◌}
use mathlib.Core.List.{List, [], ◌∷◌}
use Prim.Native.Nat.{ℕ, ◌+◌, ◌-◌, ◌*◌}
use native.Mathlib.Omega.{arith}
use borrow.Author.Tests.{eqb-true, eq-eqb, ne_eqb}
use lib.Dec.{eqb}
use lib.ListN.{set}
use Rattle.graph.specs.Finite.{if_equal}
use Rattle.graph.specs.Graph.{Graph}
use Rattle.graph.specs.Answer.{accepted, outcome}
use Rattle.evaluation.specs.Inner.{nodes_of}
use Rattle.graph.specs.Literals.{bit}
use Rattle.state.specs.State.{field}
use Rattle.trees.specs.Filling.{Cleared}
use Rattle.hidden.specs.Truth.{Triple, leak, truth}
use Rattle.hidden.specs.Majority.{is_majority, complements, rewired, majority_of, made}
use Rattle.hidden.specs.Inner.{Rising}
use Rattle.hidden.specs.Call.{majority_outcome}
use Rattle.moves.proofs.Readers.{both_true}
use Rattle.majority_call.specs.Valuing.{is_valued, Facts, Asked}

-- cleared scratch says nothing
pub cleared_facts : (g : Graph) (sc : List ℕ) → Cleared g.N sc → Facts g sc
unfolding is_valued
cleared_facts g sc z =
    record {
      valued = λ v t h p e.
          let b = both_true (eqb (field sc v 2) t.one) (eqb (field sc v 3) t.two && eqb (field sc v 4) t.three) e in
          absurd (omega (arith, eqb-true (field sc v 2) t.one b.0, z (8 * v + 2) (omega arith)));
      way = λ v t h k. absurd (omega (arith, k, z (8 * v + 0) (omega arith)));
    }

pub asked : (g : Graph) (sc : List ℕ) (n u : ℕ) (t : Triple) → n ≡ g.N → Cleared n sc → Rising t u → Asked g sc t
asked g sc n u t e z r = record { facts = cleared_facts g sc (rw e at z); positive = r.positive; second = r.second; third = r.third }

module _ (g : Graph) (t : Triple) (u : ℕ) where
  pub decided_leak : (f : ℕ) → f ≡ truth g t u → f ≡ leak → outcome (accepted (2 ∷ [])) g ≡ majority_outcome g t u
  unfolding majority_outcome if_equal
  decided_leak f e z = rw (eq-eqb (truth g t u) leak (sym e ∙ z))

  pub decided_other : (f : ℕ) → f ≡ truth g t u → f ≢ leak → is_majority f ≡ false → outcome (accepted (1 ∷ [])) g ≡ majority_outcome g t u
  unfolding majority_outcome if_equal
  decided_other f e n m = rw (ne_eqb (truth g t u) leak (λ z. n (e ∙ z)), ← e, m)

  pub decided_made : (f : ℕ) → f ≡ truth g t u → f ≢ leak → is_majority f ≡ true → outcome (accepted (0 ∷ [])) (made g t u) ≡ majority_outcome g t u
  unfolding majority_outcome if_equal
  decided_made f e n m = let q : is_majority (truth g t u) ≡ true = rw e at m in rw (ne_eqb (truth g t u) leak (λ z. n (e ∙ z)), q)

-- the node table of a node made
pub made_table : (i n : ℕ) (ns ns' : List ℕ) (t : Triple) (u v f c : ℕ) → v ≡ u - i - 1 → f ≡ truth (nodes_of i n ns) t u → c ≡ complements f
    → ns' ≡ set (set (set ns (3 * v) (2 * t.one + bit 0 c)) (3 * v + 1) (2 * t.two + bit 1 c)) (3 * v + 2) (2 * t.three + bit 2 c)
    → nodes_of i n ns' ≡ made (nodes_of i n ns) t u
unfolding made majority_of rewired
made_table i n ns ns' t u v f c p e q s =
    let w : u - (i + 1) ≡ v = omega arith in
    let d : complements (truth (nodes_of i n ns) t u) ≡ c = ap complements (sym e) ∙ sym q in
    rw (w, d) (ap (nodes_of i n) s)
