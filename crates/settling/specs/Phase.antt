-- What the inner functions of settling make of a state. No promise to a caller.
use Rattle.std.specs.Prelude.{◌≡◌, List, [], ◌∷◌, ℕ, ◌+◌, ◌*◌, ◌≤◌, length}
use Rattle.graph.specs.Answer.{Answer, gained}
use Rattle.graph.specs.Finite.{difference}
use Rattle.graph.specs.Graph.{Graph}
use Rattle.graph.specs.Count.{C}
use Rattle.state.specs.State.{stands, Ordered}
use Rattle.state.specs.declared.moving.Step.{Step}
use Rattle.rounds.specs.Round.{Progress}
use Rattle.rounds.specs.Settle.{settle}
use Rattle.settling.specs.declared.all.Figures.{Figures}
use Rattle.settling.specs.declared.all.RoundsMade.{RoundsMade}
use Rattle.settling.specs.declared.phases.Tally.{Tally}

-- sums that are low enough to grow
pub record Room (t : Tally) (m : ℕ) : Type 0 where
  pub low : t.before ≤ m
  pub low_after : t.after ≤ m

-- u is the tally t after one more step
pub record Added (t : Tally) (s : Step) (u : Tally) : Type 0 where
  pub count : u.count ≡ s.count
  pub before : u.before ≡ t.before + s.before
  pub after : u.after ≡ t.after + s.after

-- tables g, scratch sc and both sums stand for the calls p
pub record Carried (p : Progress) (g : Graph) (sc : List ℕ) (before after : ℕ) : Type 0 where
  pub graph : p.graph ≡ stands g sc
  pub others : p.others ≡ difference before after

-- beside the tables of g, which stay, scratch sc and tally t became sc' and t', in order, as the steps `made` of a round, of at most k
-- calls, make of the calls that they stood for; C is that of the graph that they stand for now
pub record Phase (made : Progress → Progress) (k : ℕ) (g : Graph) (sc : List ℕ) (t : Tally) (sc' : List ℕ) (t' : Tally) : Type 0 where
  pub ordered : Ordered g sc'
  pub long : length sc' ≡ length sc
  pub makes : (p : Progress) → Carried p g sc t.before t.after → Carried (made p) g sc' t'.before t'.after
  pub count : t'.count ≡ C (stands g sc')
  pub few : t'.before ≤ t.before + k * 608195
  pub few_after : t'.after ≤ t.after + k * 608195

-- scratch and tally of which a call of a phase may be made
pub record Ready (g : Graph) (t : Tally) (sc : List ℕ) : Type 0 where
  pub ordered : Ordered g sc
  pub count : t.count ≡ C (stands g sc)
  pub room : Room t 250000000000000000

-- the calls of a phase: what those at each node make of a progress, and how many they are at most
pub record Calls : Type 0 where
  pub made : ℕ → Progress → Progress
  pub most : ℕ

-- scratch became what all rounds make of it, with the locks ls
pub record AllRounds (ls : List ℕ) (g : Graph) (sc sc' : List ℕ) (r : RoundsMade) : Type 0 where
  pub ordered : Ordered g sc'
  pub long : length sc' ≡ length sc
  pub carried : Carried (settle ls (stands g sc)).made g sc' r.tally.before r.tally.after
  pub rounds : (settle ls (stands g sc)).rounds ≡ r.rounds
  pub count : r.tally.count ≡ C (stands g sc')
  pub few : r.tally.before ≤ 100000000000000000
  pub few_after : r.tally.after ≤ 100000000000000000

-- figures from which both sums can be made
pub record Fair (r : Figures) : Type 0 where
  pub few : r.odd ≤ 100000000000000000
  pub few_after : r.later ≤ 100000000000000000

-- the answer that they give
abbrev pub figured : Figures → Answer
figured r = gained (r.rounds ∷ r.before ∷ r.after ∷ []) (difference (r.before + r.later) (r.after + r.odd)) (difference r.odd r.later)

-- the tables of g became those of h by settling with the locks ls
pub record SettledTo (ls : List ℕ) (g h : Graph) (r : Figures) : Type 0 where
  pub graph : (settle ls g).made.graph ≡ h
  pub others : (settle ls g).made.others ≡ difference r.odd r.later
  pub rounds : (settle ls g).rounds ≡ r.rounds
  pub before : r.before ≡ C g
  pub after : r.after ≡ C h
  pub fair : Fair r
