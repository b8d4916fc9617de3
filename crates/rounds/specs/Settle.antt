-- Settling (document 01's term): rounds until one does not lower C.
use Rattle.std.specs.Prelude.{◌≤◌, ◌<◌, ◌≡◌, ◌∷◌}
use Rattle.graph.specs.All.{ℕ, zero, suc, true, List, [], map, if_less, first, Graph, node, C, admission_number, gained, Outcome, outcome, guarded}
use Rattle.choice.specs.All.{Fits}
use Rattle.moves.specs.All.{moves_at, is_root, tree, moved, scratch_fault, is_node, word_fault, named_by}
use Rattle.rounds.specs.Round.{Progress, start, round}

-- how many rounds were made, and what they have saved and left
pub record Rounds : Type 0 where
  pub rounds : ℕ
  pub made : Progress

-- a round after p: it is the last, or at most f more follow
unfoldable pub settle_in : ℕ → List ℕ → Progress → Rounds
settle_in zero ls p = record { rounds = 0; made = p }
settle_in (suc f) ls p =
    let q = round ls p in
    let more = settle_in f ls q in
    if_less (C q.graph) (C p.graph) (record { rounds = suc more.rounds; made = more.made }) (record { rounds = 1; made = q })

-- each round but the last lowers C by one at least, so that C g + 1 rounds are enough
unfoldable pub settle : List ℕ → Graph → Rounds
settle ls g = settle_in (suc (C g)) ls (start g)

-- the call, with s words of scratch: the rounds made, that last one included, with C before and after, and what all its calls saved
unfoldable pub settle_number : Graph → List ℕ → ℕ → ℕ
settle_number g ls s = first (admission_number g ls) (scratch_fault g s)

-- what it comes to after those rounds
abbrev pub settled : Graph → Rounds → Outcome
settled g r =
    let p = r.made in
    outcome (gained (r.rounds ∷ C g ∷ C p.graph ∷ []) p.own p.others) p.graph

unfoldable pub settle_call : Graph → List ℕ → ℕ → Outcome
settle_call g ls s = guarded (settle_number g ls s) g (settled g (settle ls g))

-- no choice of moves at one node, on a pair or on a tree that leaves locked nodes alone lowers C. A pair is a node with a node that one of its words names
pub record NothingLowers (g : Graph) (ls : List ℕ) : Type 0 where
  pub at_node : (v : ℕ) → v < g.N → (m : ℕ) → m < moves_at g ls (node g v) → C g ≤ C (moved g (node g v ∷ []) (m ∷ []))
  pub on_pair : (v k : ℕ) → v < g.N → word_fault g (node g v) k ≡ 0 → is_node g (named_by g (node g v) k) ≡ true
      → (a b : ℕ) → a < moves_at g ls (named_by g (node g v) k) → b < moves_at g ls (node g v)
      → C g ≤ C (moved g (named_by g (node g v) k ∷ node g v ∷ []) (a ∷ b ∷ []))
  pub on_tree : (v : ℕ) → v < g.N → is_root g (node g v) ≡ true → (ms : List ℕ) → Fits (map (moves_at g ls) (tree g (node g v))) ms
      → C g ≤ C (moved g (tree g (node g v)) ms)
