-- What is left of settling after k rounds is, with those k rounds, the whole. From the equations of settling (Rounds).
use mathlib.Core.Path.{◌≡◌, refl, ap, ◌∙◌}
use mathlib.Core.List.{List}
use Prim.Native.Nat.{ℕ, zero, suc, ◌+◌, ◌≤◌, ◌<◌}
use native.Mathlib.Omega.{arith}
use Rattle.graph.specs.Count.{C}
use Rattle.rounds.specs.Round.{Progress, round}
use Rattle.rounds.specs.Settle.{Rounds, settle_in}
use Rattle.rounds.proofs.Rounds.{settle_in_more, settle_in_last}

-- k rounds more, before these
unfoldable pub later : ℕ → Rounds → Rounds
later zero r = r
later (suc k) r = later k (record { rounds = suc r.rounds; made = r.made })

pub later_rounds : (k : ℕ) (r : Rounds) → (later k r).rounds ≡ k + r.rounds
unfolding later
later_rounds zero r = omega arith
later_rounds (suc k) r = omega (arith, later_rounds k (record { rounds = suc r.rounds; made = r.made }))

pub later_made : (k : ℕ) (r : Rounds) → (later k r).made ≡ r.made
unfolding later
later_made zero r = refl
later_made (suc k) r = later_made k (record { rounds = suc r.rounds; made = r.made })

later_more : (k : ℕ) (r : Rounds) → later k (record { rounds = suc r.rounds; made = r.made }) ≡ later (suc k) r
unfolding later
later_more k r = refl

-- what is left after a round, of fuel that is at least C before it
pub left_more : (ls : List ℕ) (k f : ℕ) (p : Progress) → C (round ls p).graph < C p.graph → (f' : ℕ) → f ≡ suc f' → later k (settle_in (suc f) ls p) ≡ later (suc k) (settle_in (suc f') ls (round ls p))
left_more ls k f p b f' e = ap (later k) (settle_in_more ls f p b ∙ rw e) ∙ later_more k (settle_in (suc f') ls (round ls p))

pub left_last : (ls : List ℕ) (k f : ℕ) (p : Progress) → C p.graph ≤ C (round ls p).graph → later k (settle_in (suc f) ls p) ≡ later (suc k) (record { rounds = 0; made = round ls p })
left_last ls k f p b = ap (later k) (settle_in_last ls f p b) ∙ later_more k (record { rounds = 0; made = round ls p })
