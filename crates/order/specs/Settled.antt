-- Settling a settled graph (document 02's M-111).
use Rattle.std.specs.Prelude.{◌↔◌, ◌*◌, ◌≤◌, ◌<◌, ◌≡◌, ◌∷◌}
use Rattle.graph.specs.All.{ℕ, List, [], get_or, pos, Graph, C, Admitted, LockBytes, gained, outcome}
use Rattle.rounds.specs.All.{settle_number, settle_call, NothingLowers}

-- a settled graph, under the locks ls: what an accepted settling under them has left
pub record SettledUnder (ls : List ℕ) (g : Graph) : Type 0 where
  pub before : Graph
  pub scratch : ℕ
  pub accepted : settle_number before ls scratch ≡ 0
  pub left : (settle_call before ls scratch).graph ≡ g

-- the same without a settling: an admitted graph on which no choice of moves lowers C
pub record LowestUnder (ls : List ℕ) (g : Graph) : Type 0 where
  pub admitted : Admitted g
  pub locks : LockBytes g.N ls
  pub lowest : NothingLowers g ls

-- with any scratch that is long enough: one round, C as it was, nothing saved by any call, and the very graph
abbrev pub OneRound : List ℕ → Graph → Type 0
OneRound ls g = (s : ℕ) → 8 * g.N ≤ s → settle_call g ls s ≡ outcome (gained (1 ∷ C g ∷ C g ∷ []) (pos 0) (pos 0)) g

-- M-111's last sentence, and that both senses of "settled" are one
pub record Settling (ls : List ℕ) (g : Graph) : Type 0 where
  pub once : SettledUnder ls g → OneRound ls g
  pub senses : SettledUnder ls g ↔ LowestUnder ls g

-- with locks: a graph that is settled under some is settled under any that lock no fewer of its nodes
abbrev pub MoreLocked : ℕ → List ℕ → List ℕ → Type 0
MoreLocked n ls ks = (v : ℕ) → v < n → get_or ls v 0 ≡ 1 → get_or ks v 0 ≡ 1

abbrev pub StaysSettled : List ℕ → List ℕ → Graph → Type 0
StaysSettled ls ks g = MoreLocked g.N ls ks → LockBytes g.N ks → SettledUnder ls g → SettledUnder ks g
