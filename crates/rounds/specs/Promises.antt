-- What settling promises beside its definition.
use Rattle.std.specs.Prelude.{◌*◌, ◌≤◌, ◌<◌, ◌≡◌, ◌∷◌}
use Rattle.graph.specs.All.{ℕ, true, List, [], get_or, pos, Graph, graph_of, mark, node, Admitted, LockBytes, gained, outcome, guarded}
use Rattle.moves.specs.All.{is_root, tree, rewrite, word_fault, node_call, pair_rewrite, pair_call, tree_call}
use Rattle.rounds.specs.Settle.{settle, settled, settle_number, settle_call}

-- of an admitted graph with its locks and s words of scratch: at node v a round's steps are document 01's calls
pub record AsCalls (g : Graph) (ls : List ℕ) (s v : ℕ) : Type 0 where
  pub tree_step : is_root g (node g v) ≡ true → tree_call g ls s (node g v) ≡ rewrite g ls (tree g (node g v))
  pub node_step : node_call g ls (node g v) ≡ rewrite g ls (node g v ∷ [])
  pub pair_step : (k : ℕ) → word_fault g (node g v) k ≡ 0 → pair_call g ls (node g v) k ≡ pair_rewrite g ls (node g v) k

-- with no node locked it is settling with no locks at all, as document 01 has it
abbrev pub SettleFree : Graph → List ℕ → ℕ → Type 0
SettleFree g ls s = ((v : ℕ) → v < g.N → get_or ls v 0 ≡ 0) → settle_call g ls s ≡ guarded (settle_number g ls s) g (settled g (settle [] g))

-- a settling worked out by the team, beside document 01's rows (crate promises): two rounds lower C, the third does not. With the
-- phases in any other order two rounds would do, and end in the same graph; without pairs C would end at 4
abbrev worked : Graph
worked = graph_of 2 3 1 (4 ∷ 5 ∷ mark ∷ 5 ∷ 7 ∷ 2 ∷ 9 ∷ 5 ∷ 9 ∷ []) (11 ∷ [])

abbrev worked_after : Graph
worked_after = graph_of 2 3 1 (4 ∷ 4 ∷ mark ∷ 5 ∷ 6 ∷ 2 ∷ 8 ∷ 4 ∷ 8 ∷ []) (10 ∷ [])

abbrev pub Settles : Type 0
Settles = settle_call worked (0 ∷ 0 ∷ 0 ∷ []) 24 ≡ outcome (gained (3 ∷ 7 ∷ 1 ∷ []) (pos 3) (pos 3)) worked_after

pub record Promises : Type 0 where
  pub as_calls : (g : Graph) (ls : List ℕ) (s v : ℕ) → Admitted g → LockBytes g.N ls → 8 * g.N ≤ s → v < g.N → AsCalls g ls s v
  pub settle_free : (g : Graph) (ls : List ℕ) (s : ℕ) → SettleFree g ls s
  pub settles : Settles
