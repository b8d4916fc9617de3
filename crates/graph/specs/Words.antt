-- The libraries' words that specs/ is written in, passed on under one name. No promise to a caller.
pub use Rattle.std.specs.Prelude.{ℕ, zero, suc, ◌+◌, ◌-◌, ◌*◌, ◌/◌, ◌%◌, ◌^◌, ◌≤◌, ◌<◌, min, max, Bool, true, false, not, cond, ◌&&◌, ◌≡◌, ◌⊎◌, eqb, ltb, leb, length, get_or, take, drop, ℤ, pos, negsuc, ◌+ℤ◌}
pub use mathlib.Core.List.{List, [], ◌∷◌, ◌++◌, map, flat_map, Perm}
pub use Rattle.std.proofs.Math.IntN.{sub_ℕ}
pub use Rattle.std.specs.Int.Count.{ones}
