-- `check_locks` meets its contract: what the locks passed come to is by the greatest of their bytes. From the step of that law.
use Rattle.std.proofs.Common.{◌≡◌, ℕ, ◌<◌, sym, refl, ap, ◌∙◌, arith}
use Rattle.std.proofs.lemmas.List.{get_or-take, length-take-le}
use Rattle.graph.specs.Finite.{if_less, first_of}
use Rattle.graph.specs.Admission.{locks_number}
use Rattle.graph.proofs.Steps.{lock_next}
use Rattle.graph.proofs.Tests.{less, no_less}
use Rattle.graph.proofs.faults.check_locks.Goals as goal
use Rattle.graph.proofs.faults.check_locks.Goals.{After-loop-lock}

pub loop-lock-init : goal.loop-lock-init
unfolding locks_number first_of if_less
loop-lock-init c = (omega arith, refl)

pub loop-lock-preserved : goal.loop-lock-preserved
loop-lock-preserved c =
    let a = c.args in
    let l = c.loop-lock in
    let k : l.lock-index < a.nodes = rw (length-take-le a.nodes a.locks.now c.requires) at c.loop-lock-test.true in
    (omega arith, lock_next _ l.lock-index l.most _ l.invariant.1 (rw (get_or-take a.nodes a.locks.now l.lock-index 0 k) at c.max-most.ensures))

-- all locks are passed
passed : (c : After-loop-lock) → if_less 1 c.loop-lock.most 13 0 ≡ locks_number c.args.nodes c.args.locks.now
passed c =
    let a = c.args in
    let e : c.loop-lock.lock-index ≡ a.nodes = omega (arith, length-take-le a.nodes a.locks.now c.requires) in
    sym c.loop-lock.invariant.1 ∙ ap (λ (n : ℕ). locks_number n a.locks.now) e

pub returns-then-most-gt1 : goal.returns-then-most-gt1
returns-then-most-gt1 c = less 1 c.loop-lock.most 13 0 (omega arith) refl ∙ passed (goal.at.returns-then-most-gt1 c).After-loop-lock

pub returns : goal.returns
returns c = no_less 1 c.loop-lock.most 13 0 (omega arith) refl ∙ passed (goal.at.returns c).After-loop-lock
