-- `ways_from` meets its contract.
use mathlib.Core.Path.{◌≡◌, ◌∙◌}
use Prim.Native.Nat.{ℕ, ◌+◌, ◌≤◌}
use native.Mathlib.Omega.{arith}
use Rattle.finder.proofs.following.ways_from.Goals as goal

room : (n w l l₀ : ℕ) → n ≤ 18 → w ≤ 9 → 27 ≤ l₀ → l ≡ l₀ → (n ≤ 27) × (n + w ≤ l)
room n w l l₀ h k q e = (omega arith, omega arith)

pub ways_by-o-requires : goal.ways_by-o-requires
ways_by-o-requires c =
    let o = c.ways_by-n in
    let r = room o.result _ _ _ (omega (arith, o.ensures.1, c.requires.4)) c.requires.4 c.requires.5 o.ensures.2 in
    (c.requires.0, c.requires.1, c.requires.2, c.requires.3, omega arith, r.0, r.1, o.ensures.0)

pub ways_by-requires : goal.ways_by-requires
ways_by-requires c =
    let p = c.ways_by-o in
    let o = c.ways_by-n in
    let r = room p.result _ _ _ (omega (arith, o.ensures.1, p.ensures.1, c.requires.4)) c.requires.4 c.requires.5 (p.ensures.2 ∙ o.ensures.2) in
    (c.requires.0, c.requires.1, c.requires.2, c.requires.3, omega arith, r.0, r.1, p.ensures.0)

pub returns : goal.returns
returns c =
    let q = c.ways_by in
    let p = c.ways_by-o in
    let o = c.ways_by-n in
    (q.ensures.0, omega (arith, o.ensures.1, p.ensures.1, q.ensures.1, c.requires.4), q.ensures.2 ∙ p.ensures.2 ∙ o.ensures.2)
