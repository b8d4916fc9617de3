-- The kinds of calls, by the words that say them: what inner functions ask of each other, and no promise to a caller.
use Rattle.std.specs.Prelude.{◌≡◌, ◌<◌, Result, MatchResult}
use Rattle.graph.specs.All.{ℕ}
use Rattle.replay.specs.declared.kind.Kind.{Kind}
use Rattle.replay.specs.declared.kind.Kind.TheVariants.{Node, Pair, Tree, Settling, Many, Majority, Finder, Resistive}
use Rattle.replay.specs.declared.CallsFault.{CallsFault}
use Rattle.replay.specs.declared.CallsFault.TheVariants.{UnknownKind}

abbrev pub word_of : Kind → ℕ
word_of Node = 0
word_of Pair = 1
word_of Tree = 2
word_of Settling = 3
word_of Many = 4
word_of Majority = 5
word_of Finder = 6
word_of Resistive = 7

-- the kind of a word, or that none has it
abbrev pub Decodes : ℕ → Result Kind CallsFault → Type 0
Decodes word r = MatchResult r (λ k. word_of k ≡ word) (λ f. (f ≡ UnknownKind) × (7 < word))
