-- What one call of a replay answers and leaves: what inner functions ask of each other, and no promise to a caller.
use Rattle.std.specs.Prelude.{◌≡◌, Result, Ok, Err}
use Rattle.graph.specs.All.{ℕ, ℤ, Answer, others_of}
use Rattle.promises.specs.All.{Call, Locked, step, left}
use Rattle.replay.specs.Replay.{second_of, calls_number}
use Rattle.replay.specs.declared.CallsFault.{CallsFault}
use Rattle.replay.specs.declared.calls.CallAnswer.{CallAnswer}

-- the number of what refuses words, 0 where nothing does
abbrev pub fault_number : {T : Type 0} → Result T CallsFault → ℕ
fault_number (Ok x) = 0
fault_number (Err f) = calls_number f

-- t is what an answer comes to, `second` being its second word, where n nodes are left
pub record Answers (second : Answer → ℤ) (a : Answer) (n : ℕ) (t : CallAnswer) : Type 0 where
  pub number : t.number ≡ a.number
  pub own : t.own ≡ second a
  pub others : t.others ≡ others_of a
  pub nodes : t.nodes ≡ n

-- t is what the call c answers on d, and h what it leaves
pub record Tells (d : Locked) (c : Call) (h : Locked) (t : CallAnswer) : Type 0 where
  pub answer : Answers (second_of c) (step d c).answer h.graph.N t
  pub leaves : h ≡ left (step d c)
