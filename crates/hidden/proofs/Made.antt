-- A node that is made a majority keeps every value. From substitution and the eight bytes.
use mathlib.Core.Path.{◌≡◌, refl, sym, ap, ◌∙◌}
use mathlib.Core.Bool.{true}
use mathlib.Core.Logic.{◌≢◌}
use mathlib.Core.List.{List}
use Prim.Native.Nat.{ℕ, ◌+◌, ◌-◌, ◌*◌, ◌/◌, ◌%◌, ◌<◌}
use native.Mathlib.Omega.{arith}
use lib.ListN.{get_or}
use Rattle.graph.specs.Admission.{Admitted}
use Rattle.graph.specs.Graph.{Graph, mark}
use Rattle.graph.specs.Value.{majority, literal_value, values, value}
use Rattle.graph.specs.Literals.{bit}
use Rattle.graph.proofs.Fixed.{value_bit}
use Rattle.hidden.specs.Truth.{Triple, truth}
use Rattle.hidden.specs.Majority.{is_majority, complements, rewired, majority_of, made}
use Rattle.hidden.specs.Keeps.{Keeps}
use Rattle.hidden.specs.Inner.{Rising}
use Rattle.hidden.specs.Promises.{pick}
use Rattle.hidden.proofs.Eight.{below_256, majority_is, majority_bits}
use Rattle.hidden.proofs.Over.{truth_holds}
use Rattle.hidden.proofs.Rewired.{rewired_keeps}

pub bit_lt : (j w : ℕ) → bit j w < 2
unfolding bit
bit_lt j w = omega arith

literal_of_lem : (vs : List ℕ) (i b : ℕ) → b < 2 → literal_value vs (2 * i + b) ≡ (get_or vs i 0 + b) % 2
unfolding literal_value
literal_of_lem vs i b h =
    let p : (2 * i + b) / 2 ≡ i = omega arith in
    let q : (2 * i + b) % 2 ≡ b = omega arith in
    rw (p, q)

module _ (g : Graph) (adm : Admitted g) (t : Triple) (v : ℕ) (within : v < g.N) (r : Rising t (g.I + 1 + v))
    (is : is_majority (truth g t (g.I + 1 + v)) ≡ true) where
  f : ℕ
  f = truth g t (g.I + 1 + v)

  c : ℕ
  c = complements f

  x₀ : ℕ → ℕ → ℕ
  x₀ i k = 2 * i + bit k c

  x_below : (i k : ℕ) → i < g.I + 1 + v → x₀ i k / 2 < g.I + 1 + v
  unfolding x₀
  x_below i k h = omega (arith, bit_lt k c)

  z_mark : x₀ t.three 2 ≢ mark
  unfolding x₀
  z_mark e = omega (arith, bit_lt 2 c, r.below, adm.few_inputs, adm.few_nodes)

  picked : (a : ℕ → ℕ) → majority ((value g a t.one + bit 0 c) % 2) ((value g a t.two + bit 1 c) % 2) ((value g a t.three + bit 2 c) % 2) ≡ value g a (g.I + 1 + v)
  unfolding c f
  picked a =
      let e = majority_is (truth g t (g.I + 1 + v)) is in
      sym (majority_bits c _ _ _ e.0 (value_bit g a t.one) (value_bit g a t.two) (value_bit g a t.three))
      ∙ ap (bit (pick (value g a t.one) (value g a t.two) (value g a t.three))) e.1
      ∙ sym (truth_holds g adm t (g.I + 1 + v) (omega arith) (λ q. omega (arith, below_256 _ is)) a)

  module _ (a : ℕ → ℕ) (h : Graph) (ih : (i : ℕ) → i < g.I + 1 + v → get_or (values h a g.N) i 0 ≡ value g a i) where
    same_literal : (i k : ℕ) → i < g.I + 1 + v → literal_value (values h a g.N) (x₀ i k) ≡ (value g a i + bit k c) % 2
    unfolding x₀
    same_literal i k l = literal_of_lem (values h a g.N) i (bit k c) (bit_lt k c) ∙ ap (λ (n : ℕ). (n + bit k c) % 2) (ih i l)

    same_node : majority (literal_value (values h a g.N) (x₀ t.one 0)) (literal_value (values h a g.N) (x₀ t.two 1)) (literal_value (values h a g.N) (x₀ t.three 2)) ≡ value g a (g.I + 1 + v)
    same_node =
        rw (
          same_literal t.one 0 (omega (arith, r.second, r.third, r.below)),
          same_literal t.two 1 (omega (arith, r.third, r.below)),
          same_literal t.three 2 r.below,
        ) (picked a)

  new : Graph
  new = rewired g v (x₀ t.one 0) (x₀ t.two 1) (x₀ t.three 2)

  new_keeps : Keeps g new × ((a : ℕ → ℕ) (i : ℕ) → i < g.I + 1 + g.N → value new a i ≡ value g a i)
  unfolding new value rewired
  new_keeps =
      rewired_keeps g adm v (x₀ t.one 0) (x₀ t.two 1) (x₀ t.three 2) within z_mark
      (x_below t.one 0 (omega (arith, r.second, r.third, r.below))) (x_below t.two 1 (omega (arith, r.third, r.below))) (x_below t.three 2 r.below)
      (λ a ih. same_node a new ih)

  is_new : made g t (g.I + 1 + v) ≡ new
  unfolding made majority_of new x₀ c f
  is_new = let e : g.I + 1 + v - (g.I + 1) ≡ v = omega arith in rw e

  new_N : new.N ≡ g.N
  unfolding new rewired
  new_N = refl

-- every value of every index stays, and the graph stays admitted
pub made_keeps : (g : Graph) → Admitted g → (t : Triple) (v : ℕ) → v < g.N → Rising t (g.I + 1 + v) → is_majority (truth g t (g.I + 1 + v)) ≡ true
    → Keeps g (made g t (g.I + 1 + v)) × ((made g t (g.I + 1 + v)).N ≡ g.N)
    × ((a : ℕ → ℕ) (i : ℕ) → i < g.I + 1 + g.N → value (made g t (g.I + 1 + v)) a i ≡ value g a i)
made_keeps g adm t v w r is = rw (is_new g adm t v w r is) ((new_keeps g adm t v w r is).0, new_N g adm t v w r is, (new_keeps g adm t v w r is).1)

-- under every assignment the node is the majority of the three, complemented: so signatures of any assignments tell triples that are none
pub value_majority : (g : Graph) → Admitted g → (t : Triple) (v : ℕ) → v < g.N → Rising t (g.I + 1 + v) → is_majority (truth g t (g.I + 1 + v)) ≡ true → (a : ℕ → ℕ)
    → majority ((value g a t.one + bit 0 (complements (truth g t (g.I + 1 + v)))) % 2) ((value g a t.two + bit 1 (complements (truth g t (g.I + 1 + v)))) % 2)
    ((value g a t.three + bit 2 (complements (truth g t (g.I + 1 + v)))) % 2) ≡ value g a (g.I + 1 + v)
unfolding c f
value_majority g adm t v w r is a = picked g adm t v w r is a
