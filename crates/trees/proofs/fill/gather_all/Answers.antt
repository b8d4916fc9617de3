-- `gather_all` meets its contract: the nodes passed are done. From the laws on stores.
use mathlib.Core.Path.{◌≡◌, refl, ◌∙◌}
use mathlib.Core.List.{List}
use Prim.Native.Nat.{ℕ, ◌+◌, ◌*◌, ◌≤◌}
use native.Mathlib.Omega.{arith}
use Rattle.state.specs.State.{field}
use Rattle.trees.proofs.Noting.{gathered_zero, gathered_suc}
use Rattle.trees.proofs.fill.gather_all.Goals as goal
use Rattle.trees.proofs.fill.gather_all.Invariants.{Inv}

counts : (l : List ℕ) (n : ℕ) (sc₀ sc : List ℕ) (v : ℕ) → Inv l n sc₀ sc v → (field sc₀ v 4 ≤ 1000000) × (field sc₀ v 6 ≤ 1000000)
    → (field sc v 4 ≤ 1000000) × (field sc v 6 ≤ 1000000)
counts l n sc₀ sc v iv k =
    omega (arith, k, iv.done.kept (8 * v + 4) (omega arith) (omega arith) (omega arith), iv.done.kept (8 * v + 6) (omega arith) (omega arith) (omega arith))

pub loop-v-init : goal.loop-v-init
loop-v-init c = record { within = omega arith; same = refl; done = gathered_zero _ _ _ }

pub gather-requires : goal.gather-requires
gather-requires c =
    let p = c.requires in
    let iv = c.loop-v.invariant in
    let q = p.2 c.loop-v.v (omega arith) in
    let k = counts _ _ _ _ _ iv (q.1, q.2) in
    (omega arith, q.0, omega (arith, iv.same, p.1), k.0, k.1)

pub loop-v-preserved : goal.loop-v-preserved
loop-v-preserved c =
    let iv = c.loop-v.invariant in
    record { within = omega arith; same = c.scratch-1.given ∙ iv.same; done = gathered_suc _ _ _ _ _ _ iv.done c.gather.ensures }

pub shape_of-scratch : goal.shape_of-scratch
shape_of-scratch c = c.loop-v.invariant.same

pub returns : goal.returns
returns c =
    let e : c.loop-v.v ≡ c.args.nodes = omega (arith, c.loop-v.invariant.within) in
    rw e at c.loop-v.invariant.done
