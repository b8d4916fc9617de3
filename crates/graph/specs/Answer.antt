-- What calls answer: document 01's number, and the values returned.
use Rattle.std.specs.Prelude.{◌≢◌, ◌≡◌, ◌∷◌, ◌+ℤ◌, Result, Ok, Err}
use Rattle.graph.specs.Words.{ℕ, zero, suc, List, [], get_or, ℤ, pos}
use Rattle.graph.specs.{Graph.Graph, declared.Refusal.Refusal}
use Rattle.graph.specs.declared.Refusal.TheVariants.{MissingBytes, WrongField, OverLimit, ShortSlice, BadLiteral, ExtraBytes, NoSuchNode, ShortScratch, ShortBuffer, BadText, HasLatches, WrongNumbering, BadLock, NotRising, NoSuchMove, LockedNode, ManyInputs, BadWanted, StagesDiffer}

-- document 01's number of each refusal, and document 02's
abbrev pub number_of : Refusal → ℕ
number_of MissingBytes = 1
number_of WrongField = 2
number_of OverLimit = 3
number_of ShortSlice = 4
number_of BadLiteral = 5
number_of ExtraBytes = 6
number_of NoSuchNode = 7
number_of ShortScratch = 8
number_of ShortBuffer = 9
number_of BadText = 10
number_of HasLatches = 11
number_of WrongNumbering = 12
number_of BadLock = 13
number_of NotRising = 14
number_of NoSuchMove = 15
number_of LockedNode = 16
number_of ManyInputs = 17
number_of BadWanted = 18
number_of StagesDiffer = 19

-- the number of what refuses a call, 0 where nothing does
abbrev pub refusal_number : {T : Type 0} → Result T Refusal → ℕ
refusal_number (Ok x) = 0
refusal_number (Err r) = number_of r

-- a call's answer: the number, 0 where it is accepted, and the values that it then returns beside it, with the signed ones apart
pub record Answer : Type 0 where
  pub number : ℕ
  pub values : List ℕ
  pub signed : List ℤ

abbrev pub accepted : List ℕ → Answer
accepted vs = record { number = 0; values = vs; signed = [] }

abbrev pub refused : ℕ → Answer
refused k = record { number = k; values = []; signed = [] }

-- of a call that saves: over the words of the nodes that it names, and over all other edges
abbrev pub gained : List ℕ → ℤ → ℤ → Answer
gained vs own others = record { number = 0; values = vs; signed = own ∷ others ∷ [] }

-- of a call that tells its saving in one number
abbrev pub whole : ℤ → Answer
whole saving = record { number = 0; values = []; signed = saving ∷ [] }

-- both numbers of an answer, and the saving, which is their sum; a refused call saves nothing
abbrev pub own_of : Answer → ℤ
own_of a = get_or a.signed 0 (pos 0)

abbrev pub others_of : Answer → ℤ
others_of a = get_or a.signed 1 (pos 0)

abbrev pub saving_of : Answer → ℤ
saving_of a = own_of a +ℤ others_of a

-- a call that would be refused by k, 0 being no fault, and else answers a
unfoldable pub unless : ℕ → Answer → Answer
unless zero a = a
unless (suc k) a = refused (suc k)

-- what a call answers that returns a value or is refused: as an answer, where f tells the value
abbrev pub answer_by : {T : Type 0} → (T → Answer) → Result T Refusal → Answer
answer_by f (Ok x) = f x
answer_by f (Err r) = refused (number_of r)

-- what an admission check and a count of complemented edges answer
abbrev pub admission_answer : {T : Type 0} → Result T Refusal → Answer
admission_answer = answer_by (λ _. accepted [])

abbrev pub count_answer : Result ℕ Refusal → Answer
count_answer = answer_by (λ c. accepted (c ∷ []))

-- an answer with the graph as the call leaves it
pub record Outcome : Type 0 where
  pub answer : Answer
  pub graph : Graph

abbrev pub outcome : Answer → Graph → Outcome
outcome a g = record { answer = a; graph = g }

-- a call on g that would be refused by k, 0 being no fault, and else has the outcome o: a refusal changes nothing
unfoldable pub guarded : ℕ → Graph → Outcome → Outcome
guarded zero g o = o
guarded (suc k) g o = outcome (refused (suc k)) g

-- an answer with the graph and its locks, of a call that writes both
pub record LockedOutcome : Type 0 where
  pub answer : Answer
  pub graph : Graph
  pub locks : List ℕ

abbrev pub locked_outcome : Answer → Graph → List ℕ → LockedOutcome
locked_outcome a g ls = record { answer = a; graph = g; locks = ls }

unfoldable pub guarded_locks : ℕ → Graph → List ℕ → LockedOutcome → LockedOutcome
guarded_locks zero g ls o = o
guarded_locks (suc k) g ls o = locked_outcome (refused (suc k)) g ls

-- scratch is free after an accepted call, and as it was after a refusal
abbrev pub ScratchKept : Answer → List ℕ → List ℕ → Type 0
ScratchKept a before after = (a.number ≢ 0) → after ≡ before
