-- `insert` meets its contract: what is left to be inserted gives the same list. From the laws on insertion.
use mathlib.Core.Path.{◌≡◌, refl, ◌∙◌}
use Prim.Native.Nat.{ℕ, ◌≤◌, ◌<◌}
use native.Mathlib.Omega.{arith}
use lib.ListN.{length-set}
use Rattle.finder.proofs.Inserting.{carried_on, found_on, end_on}
use Rattle.finder.proofs.nearness.insert.Goals as goal
use Rattle.finder.proofs.nearness.insert.Goals.{After-loop-k}

inside : (k n l l₀ : ℕ) → k < n → n < l₀ → l ≡ l₀ → (k < l) × (n ≤ l)
inside k n l l₀ h b e = (omega arith, omega arith)

pub loop-k-init : goal.loop-k-init
loop-k-init c = (omega arith, refl, refl)

pub bounds-list-k : goal.bounds-list-k
bounds-list-k c =
    (inside _ _ _ _ c.loop-k-test.true c.requires.1 c.loop-k.invariant.1).0

pub shape_of-list-then-list-k : goal.shape_of-list-then-list-k
shape_of-list-then-list-k c = c.loop-k.invariant.1

pub returns-then-list-k : goal.returns-then-list-k
returns-then-list-k c =
    record {
      same = c.loop-k.invariant.1;
      few = omega arith;
      list = found_on c.loop-k.k c.args.n c.loop-k.carried c.loop-k.list c.loop-k-test.true (inside _ _ _ _ c.loop-k-test.true c.requires.1 c.loop-k.invariant.1).1 c.if-list-k.true ∙ c.loop-k.invariant.2;
    }

pub carry-carried-requires : goal.carry-carried-requires
carry-carried-requires c =
    (inside _ _ _ _ c.loop-k-test.true c.requires.1 c.loop-k.invariant.1).0

pub loop-k-preserved : goal.loop-k-preserved
loop-k-preserved c = (
  omega (arith, c.loop-k-test.true),
  c.carry-carried.auto.list ∙ c.loop-k.invariant.1,
  carried_on c.loop-k.k c.args.n c.loop-k.carried c.loop-k.list c.loop-k-test.true (inside _ _ _ _ c.loop-k-test.true c.requires.1 c.loop-k.invariant.1).1 _ _ c.if-list-k.false c.carry-carried.ensures
      ∙ c.loop-k.invariant.2,
)

end : (n l l₀ : ℕ) → n < l₀ → l ≡ l₀ → n < l
end n l l₀ b e = omega arith

pub bounds-list-n : goal.bounds-list-n
bounds-list-n c = end _ _ _ c.requires.1 c.loop-k.invariant.1

pub shape_of-list : goal.shape_of-list
shape_of-list c = length-set c.loop-k.list c.args.n c.loop-k.carried ∙ c.loop-k.invariant.1

pub returns : goal.returns
returns c =
    record {
      same = length-set c.loop-k.list c.args.n c.loop-k.carried ∙ c.loop-k.invariant.1;
      few = omega arith;
      list = end_on c.loop-k.k c.args.n c.loop-k.carried c.loop-k.list (omega (arith, c.loop-k-test.false, c.loop-k.invariant.0)) (end _ _ _ c.requires.1 c.loop-k.invariant.1) ∙ c.loop-k.invariant.2;
    }
