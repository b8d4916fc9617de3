-- `majority_of` meets its contract. From the laws on tests.
use mathlib.Core.Path.{refl, ap}
use Prim.Native.Nat.{ℕ, ◌+◌}
use Rattle.graph.proofs.Tests.{equal, unequal}
use Rattle.majority_call.specs.Valuing.{voted_of}
use Rattle.majority_call.proofs.valuing.majority_of.Goals as goal

pub returns-then-a-eq-LEAK : goal.returns-then-a-eq-LEAK
unfolding voted_of
returns-then-a-eq-LEAK c = equal _ _ _ _ c.if-a-eq-LEAK.true refl

pub returns-then-b-eq-LEAK : goal.returns-then-b-eq-LEAK
unfolding voted_of
returns-then-b-eq-LEAK c = unequal _ _ _ _ c.if-a-eq-LEAK.false (equal _ _ _ _ c.if-b-eq-LEAK.true refl)

pub returns-then-c-eq-LEAK : goal.returns-then-c-eq-LEAK
unfolding voted_of
returns-then-c-eq-LEAK c = unequal _ _ _ _ c.if-a-eq-LEAK.false (unequal _ _ _ _ c.if-b-eq-LEAK.false (equal _ _ _ _ c.if-c-eq-LEAK.true refl))

pub returns-then-a-eq-UNKNOWN : goal.returns-then-a-eq-UNKNOWN
unfolding voted_of
returns-then-a-eq-UNKNOWN c =
    unequal _ _ _ _ c.if-a-eq-LEAK.false
    (unequal _ _ _ _ c.if-b-eq-LEAK.false
    (unequal _ _ _ _ c.if-c-eq-LEAK.false (equal _ _ _ _ c.if-a-eq-UNKNOWN.true (ap (λ (n : ℕ). 512 + n) c.index_of.ensures))))

pub returns-then-b-eq-UNKNOWN : goal.returns-then-b-eq-UNKNOWN
unfolding voted_of
returns-then-b-eq-UNKNOWN c =
    unequal _ _ _ _ c.if-a-eq-LEAK.false
    (unequal _ _ _ _ c.if-b-eq-LEAK.false
    (unequal _ _ _ _ c.if-c-eq-LEAK.false (unequal _ _ _ _ c.if-a-eq-UNKNOWN.false (equal _ _ _ _ c.if-b-eq-UNKNOWN.true (ap (λ (n : ℕ). 512 + n) c.index_of-then-b-eq-UNKNOWN.ensures)))))

pub returns-then-c-eq-UNKNOWN : goal.returns-then-c-eq-UNKNOWN
unfolding voted_of
returns-then-c-eq-UNKNOWN c =
    unequal _ _ _ _ c.if-a-eq-LEAK.false
    (unequal _ _ _ _ c.if-b-eq-LEAK.false
    (unequal _ _ _ _ c.if-c-eq-LEAK.false (unequal _ _ _ _ c.if-a-eq-UNKNOWN.false
    (unequal _ _ _ _ c.if-b-eq-UNKNOWN.false (equal _ _ _ _ c.if-c-eq-UNKNOWN.true (ap (λ (n : ℕ). 512 + n) c.index_of-then-c-eq-UNKNOWN.ensures))))))

pub returns : goal.returns
unfolding voted_of
returns c =
    unequal _ _ _ _ c.if-a-eq-LEAK.false
    (unequal _ _ _ _ c.if-b-eq-LEAK.false
    (unequal _ _ _ _ c.if-c-eq-LEAK.false
    (unequal _ _ _ _ c.if-a-eq-UNKNOWN.false
    (unequal _ _ _ _ c.if-b-eq-UNKNOWN.false
    (unequal _ _ _ _ c.if-c-eq-UNKNOWN.false (rw (c.majority_byte.ensures, c.turned.ensures, c.turned-2.ensures, c.turned-3.ensures)))))))
