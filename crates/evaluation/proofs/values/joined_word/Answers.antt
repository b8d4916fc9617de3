-- `values::joined_word` meets its contract: bits of one word or the other, by a mask. From the laws on bits.
use mathlib.Core.Path.{ap₂, ◌∙◌}
use mathlib.Core.Bool.{cond}
use Prim.Native.Nat.{ℕ}
use native.Mathlib.Omega.{arith}
use Rattle.evaluation.proofs.Bits.{mask_fits, bit_either}
use Rattle.evaluation.proofs.values.joined_word.Goals as goal

pub overflow_mul-result : goal.overflow_mul-result
overflow_mul-result c = omega (arith, mask_fits c.args.xor)

pub returns : goal.returns
returns c j h =
    let a = c.args in
    bit_either a.xor c.majority_word-a.result c.exclusive_word-e.result j h
    ∙ ap₂ (λ (p q : ℕ). cond a.xor p q) (c.exclusive_word-e.ensures j) (c.majority_word-a.ensures j)
