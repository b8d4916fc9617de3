-- `third_turns` meets its contract: an XOR's is 0 whatever was looked up. From the law of an index that was read.
use mathlib.Core.Path.{◌≡◌, refl, ap, ◌∙◌}
use mathlib.Core.Bool.{Bool, true, false, cond}
use native.Mathlib.Omega.{arith}
use Prim.Native.Nat.{ℕ, ◌+◌, ◌-◌, ◌*◌, ◌≤◌, ◌<◌}
use mir.Val.{bool_byte}
use lib.ListN.{get_or}
use Rattle.graph.specs.Graph.{index}
use Rattle.graph.specs.Literals.{bit_at}
use Rattle.graph.proofs.Literals.{held_index, names_index}
use Rattle.many.specs.Making.{named}
use Rattle.many.proofs.making.third_turns.Goals as goal
use Rattle.many.proofs.making.third_turns.Goals.{After-index_at-third}
use Rattle.graph.specs.Tables.{lent_table}

either-below : (k : Bool) (u v end : ℕ) → u < end → (k ≡ false → v < end) → cond k u v < end
either-below true u v end h f = h
either-below false u v end h f = f refl

kind-bit : (k : Bool) → bool_byte k ≤ 1
kind-bit true = omega arith
kind-bit false = omega arith

-- what is looked up, by the kind

either-turns : (k : Bool) (f b c : ℕ) → (k ≡ false → b ≡ c) → (f + b) * (1 - bool_byte k) ≡ cond k 0 (f + c)
either-turns true f b c e = omega arith
either-turns false f b c e = omega (arith, e refl)

either-few : (k : Bool) (f b : ℕ) → f ≤ 1 → b ≤ 1 → (f + b) * (1 - bool_byte k) ≤ 2
either-few true f b p q = omega arith
either-few false f b p q = omega arith

-- the third index, where there is one

third-named : (c : After-index_at-third) → c.args.xor ≡ false
    → c.index_at-third.result ≡ index (get_or (lent_table c.args.table.now) (c.args.at + 2) 0)
third-named c k = names_index c.index_at-third.ensures (omega (arith, c.requires.3 k))

pub index_at-first-requires : goal.index_at-first-requires
index_at-first-requires c = omega (arith, c.requires.1)

pub overflow_add-at : goal.overflow_add-at
overflow_add-at c = omega (arith, held_index c.args.table.now.indices.now c.args.table.now.bits.now (c.args.at + 2) c.requires.1)

pub bit_at-requires : goal.bit_at-requires
bit_at-requires c =
    let f = names_index c.index_at-first.ensures (omega (arith, c.requires.2)) in
    let e = either-below c.args.xor c.index_at-first.result c.index_at-third.result 104128 (omega (arith, f, c.requires.2)) (λ k. omega (arith, third-named (goal.at.bit_at-requires c).After-index_at-third k, c.requires.3 k)) in
    omega (arith, e, c.either_index-u.ensures, c.requires.4)

pub overflow_sub-result : goal.overflow_sub-result
overflow_sub-result c = omega (arith, kind-bit c.args.xor)

pub overflow_mul-result : goal.overflow_mul-result
overflow_mul-result c = omega (arith, either-few c.args.xor c.args.f c.bit_at.result c.requires.0 c.bit_at.ensures.1)

pub returns : goal.returns
unfolding named
returns c =
    let a = c.args in (
      either-turns a.xor a.f c.bit_at.result _ (λ k. c.bit_at.ensures.0 ∙ ap (bit_at a.seen.now) (c.either_index-u.ensures ∙ ap (λ (b : Bool). cond b c.index_at-first.result c.index_at-third.result) k ∙ third-named (goal.at.returns c).After-index_at-third k)),
      either-few a.xor a.f c.bit_at.result c.requires.0 c.bit_at.ensures.1,
    )
