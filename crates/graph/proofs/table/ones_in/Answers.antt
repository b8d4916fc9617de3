-- `ones_in` meets its contract. From the law of one word more.
use Rattle.std.proofs.Common.{◌≡◌, ℕ, ◌*◌, ◌<◌, get_or, refl, ap, ◌∙◌, add-one, arith}
use lib.Count.{ones-le}
use Rattle.std.proofs.lemmas.List.{get_or-take, length-take-le}
use Rattle.graph.specs.Finite.{sum}
use Rattle.graph.specs.Literals.{bit_at, ones_in}
use Rattle.graph.proofs.Ones.{ones_more}
use Rattle.graph.proofs.table.ones_in.Goals as goal

pub loop-word-init : goal.loop-word-init
unfolding sum ones_in
loop-word-init c = (omega arith, omega arith, refl, refl)

pub overflow_add-c : goal.overflow_add-c
overflow_add-c c =
    let l = c.loop-word in
    let bs = c.args.bits.now in
    let k : l.word-index < c.args.words = rw (length-take-le c.args.words bs c.requires.0) at c.loop-word-test.true in
    rw (get_or-take c.args.words bs l.word-index 0 k)
    (omega (arith, k, ones-le 64 (get_or bs l.word-index 0) (omega (arith, c.type_inv.bits l.word-index))))

pub loop-word-preserved : goal.loop-word-preserved
unfolding ones_in sum
loop-word-preserved c =
    let l = c.loop-word in
    let bs = c.args.bits.now in
    let k : l.word-index < c.args.words = rw (length-take-le c.args.words bs c.requires.0) at c.loop-word-test.true in
    let w = get_or bs l.word-index 0 in
    let h : w < 18446744073709551616 = omega (arith, c.type_inv.bits l.word-index) in
    rw (get_or-take c.args.words bs l.word-index 0 k)
    (omega arith, omega (arith, ones-le 64 w h), omega (arith, ones_more bs l.word-index h, l.invariant.2), rw (add-one l.word-index) (omega (arith, l.invariant.3)))

pub returns : goal.returns
returns c =
    let a = c.args in
    let i = c.loop-word.invariant in
    let e : c.loop-word.word-index ≡ a.words = omega (arith, length-take-le a.words a.bits.now c.requires.0) in
    (i.3 ∙ ap (λ (k : ℕ). ones_in k a.bits.now) e, i.2 ∙ ap (λ (k : ℕ). sum (64 * k) (bit_at a.bits.now)) e, omega arith)
