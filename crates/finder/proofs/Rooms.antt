-- Both slices of a table are as long as they were, and so it holds as many literals. From the law on what a table holds.
use mathlib.Core.Path.{◌≡◌, refl, ◌∙◌}
use mathlib.Core.List.{List}
use Prim.Native.Nat.{ℕ}
use lib.ListN.{length}
use Rattle.graph.specs.Literals.{literals, held}
use Rattle.graph.proofs.Literals.{length_literals, held_literals}

pub record SameRoom (us₀ bs₀ us bs : List ℕ) : Type 0 where
  pub indices : length us ≡ length us₀
  pub bits : length bs ≡ length bs₀

pub room_same : (us bs : List ℕ) → SameRoom us bs us bs
room_same us bs = record { indices = refl; bits = refl }

module _ (us₀ bs₀ us bs : List ℕ) (r : SameRoom us₀ bs₀ us bs) where
  pub room_then : (vs ds : List ℕ) → length vs ≡ length us → length ds ≡ length bs → SameRoom us₀ bs₀ vs ds
  room_then vs ds a b = record { indices = a ∙ r.indices; bits = b ∙ r.bits }

  pub held_kept : held (literals us bs) ≡ held (literals us₀ bs₀)
  held_kept = rw (held_literals us bs, held_literals us₀ bs₀, r.indices, r.bits)

  pub places_kept : length (literals us bs) ≡ length (literals us₀ bs₀)
  places_kept = rw (length_literals us bs, length_literals us₀ bs₀, r.indices, r.bits)
