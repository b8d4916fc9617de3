-- What the inner steps of a move do to the graph that the state stands for, and what of scratch they leave. No promise to a caller.
use Rattle.std.specs.Prelude.{◌≡◌, cond, ◌≢◌, List, ℕ, ◌*◌, ◌≤◌, ◌<◌, length}
use Rattle.graph.specs.Answer.{Outcome, others_of}
use Rattle.graph.specs.Finite.{difference}
use Rattle.graph.specs.Graph.{Graph}
use Rattle.graph.specs.Count.{C, named, output_named}
use Rattle.graph.specs.Turned.{turned_by, up_to, only, never}
use Rattle.state.specs.State.{field, stands, Ordered}
use Rattle.state.specs.declared.moving.Step.{Step}

-- g, the word at place j of its node table turned f times
abbrev pub word_turned : Graph → ℕ → ℕ → Graph
word_turned g j f = turned_by g (only j f) never

-- how often a word is turned when every reader of index u is turned f times
unfoldable pub read_turns : Graph → ℕ → ℕ → ℕ → ℕ
read_turns g u f = up_to (3 * g.N) (λ j. cond (named g u j) f 0)

unfoldable pub output_read_turns : Graph → ℕ → ℕ → ℕ → ℕ
output_read_turns g u f = up_to g.O (λ j. cond (output_named g u j) f 0)

-- g, every reader of index u turned f times
abbrev pub readers_turned : Graph → ℕ → ℕ → Graph
readers_turned g u f = turned_by g (read_turns g u f) (output_read_turns g u f)

-- scratch after, as before but for the counts of complemented readers and the pending turns
pub record TreesKept (before after : List ℕ) : Type 0 where
  pub long : length after ≡ length before
  pub others : (v f : ℕ) → f < 8 → f ≢ 1 → f ≢ 2 → field after v f ≡ field before v f

-- what a step that leaves the trees makes of a state with scratch `before`: tables g and scratch `after`, in order, that stand for h
pub record Became (before : List ℕ) (g : Graph) (after : List ℕ) (h : Graph) : Type 0 where
  pub ordered : Ordered g after
  pub stands_for : stands g after ≡ h
  pub kept : TreesKept before after

-- and c is C of that graph
pub record Made (before : List ℕ) (g : Graph) (after : List ℕ) (h : Graph) (c : ℕ) : Type 0 where
  pub became : Became before g after h
  pub count : c ≡ C h

-- what a call with outcome o saves on other edges, by the odd ones that its step tells
pub record Parted (o : Outcome) (s : Step) : Type 0 where
  pub others : others_of o.answer ≡ difference s.before s.after
  pub few : s.before ≤ 608195
  pub few_after : s.after ≤ 608195
