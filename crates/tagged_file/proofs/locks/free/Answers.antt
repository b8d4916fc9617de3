-- `free` clears the first bytes: what `fill` leaves, as a list by its places. From the definitions alone.
use mathlib.Core.Path.{◌≡◌, refl, ap, ◌∙◌}
use mathlib.Core.List.{List, ◌∷◌, ◌++◌}
use Prim.Native.Nat.{ℕ, zero, suc}
use lib.ListN.{drop, replicate}
use lib.Seq.{length-take-le}
use Rattle.graph.specs.Finite.{tab}
use Rattle.tagged_file.specs.Load.{free_locks}
use Rattle.tagged_file.proofs.locks.free.Goals as goal

zeros : (n : ℕ) → replicate n 0 ≡ tab n (λ v. 0)
unfolding tab
zeros zero = refl
zeros (suc n) = ap (λ (l : List ℕ). 0 ∷ l) (zeros n)

pub returns : goal.returns
unfolding free_locks
returns c =
    let n = c.args.nodes in
    let ls = c.args.locks.now in
    let e = c.fill.ensures.after (λ y e. e) in
    ap (λ (l : List ℕ). l ++ drop n ls) (e ∙ ap (λ (k : ℕ). replicate k 0) (length-take-le n ls c.requires) ∙ zeros n)
