-- Locks set one by one. What inner functions ask of each other, and no promise to a caller.
use Rattle.std.specs.Prelude.{ℕ, ◌-◌, List, [], ◌∷◌, set}

-- the bytes t with a 1 for each of these indices, low's being the first byte
abbrev pub locked_at : ℕ → List ℕ → List ℕ → List ℕ
locked_at low [] t = t
locked_at low (u ∷ l) t = locked_at low l (set t (u - low) 1)
