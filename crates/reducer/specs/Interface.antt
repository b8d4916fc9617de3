-- What an entry for C returns and leaves, by the shape of its answer: r is the number that it returns; what it tells beside stands at a place that is
-- lent for it, and is what stood there where nothing is told.
use Rattle.std.specs.Prelude.{◌≡◌, ◌∷◌}
use Rattle.graph.specs.All.{ℕ, List, [], length, ℤ, Graph, Answer, Outcome, LockedOutcome, accepted, unless, literals}
use Rattle.file_checks.specs.All.{field_number, field_payload}
use Rattle.tagged_file.specs.All.{WriteOutcome}
use Rattle.class_figures.specs.All.{ClassOutcome}
use Rattle.answers.specs.All.{told, told_one, told_signed, told_gain}
use Rattle.std.specs.Borrow.{MutBor}
use denote.Triple.Both.{Both}

-- a place that is lent as `&mut`: what it holds when the call begins, and when it has ended
abbrev pub Lent : Type 0 → Type 0
Lent X = Both (MutBor X) (MutBor X)

-- where in the bytes the payload starts, after the 3 bytes of the head, and its length
unfoldable pub field_answer : List ℕ → Answer
field_answer s = unless (field_number s) (accepted (3 ∷ length (field_payload s) ∷ []))

-- node, pair, tree, resistive and settling: the graph k, and both numbers of the saving
pub record SavingLeft (o : Outcome) (r : ℕ) (k : Graph) (saving : Lent (List ℤ)) : Type 0 where
  pub number : r ≡ o.answer.number
  pub graph : k ≡ o.graph
  pub tells : saving.exit.now ≡ told_signed o.answer saving.entry.now

-- many moves: the graph k, and the whole saving
pub record GainLeft (o : Outcome) (r : ℕ) (k : Graph) (saving : Lent ℤ) : Type 0 where
  pub number : r ≡ o.answer.number
  pub graph : k ≡ o.graph
  pub tells : saving.exit.now ≡ told_gain o.answer saving.entry.now

-- load, import and replay: both tables, the locks, and I, N and O
pub record GraphLeft (o : LockedOutcome) (r : ℕ) (us bs vs ds ls numbers : Lent (List ℕ)) : Type 0 where
  pub number : r ≡ o.answer.number
  pub nodes : literals us.exit.now bs.exit.now ≡ o.graph.nodes
  pub outputs : literals vs.exit.now ds.exit.now ≡ o.graph.outputs
  pub locks : ls.exit.now ≡ o.locks
  pub tells : numbers.exit.now ≡ told o.answer numbers.entry.now

-- write and export: the buffer, and how many of its bytes are the file or the text
pub record TextLeft (o : WriteOutcome) (r : ℕ) (buffer : Lent (List ℕ)) (size : Lent ℕ) : Type 0 where
  pub number : r ≡ o.answer.number
  pub bytes : buffer.exit.now ≡ o.buffer
  pub tells : size.exit.now ≡ told_one o.answer size.entry.now

-- the finder: the graph k, the locks, and the new number of nodes
pub record FoundLeft (o : LockedOutcome) (r : ℕ) (k : Graph) (ls : List ℕ) (was is : ℕ) : Type 0 where
  pub number : r ≡ o.answer.number
  pub graph : k ≡ o.graph
  pub locks : ls ≡ o.locks
  pub tells : is ≡ told_one o.answer was

-- a class: the graph k, the record, the rounds with C before and after, and both numbers of the saving
pub record ClassLeft (o : ClassOutcome) (r : ℕ) (k : Graph) (sheet figures : Lent (List ℕ)) (savings : Lent (List ℤ)) : Type 0 where
  pub number : r ≡ o.answer.number
  pub graph : k ≡ o.graph
  pub book : sheet.exit.now ≡ o.book
  pub tells : figures.exit.now ≡ told o.answer figures.entry.now
  pub saves : savings.exit.now ≡ told_signed o.answer savings.entry.now

-- and its figures, with the improvement
pub record FiguresLeft (a : Answer) (r : ℕ) (figures : Lent (List ℕ)) (improvement : Lent (List ℤ)) : Type 0 where
  pub number : r ≡ a.number
  pub tells : figures.exit.now ≡ told a figures.entry.now
  pub improves : improvement.exit.now ≡ told_signed a improvement.entry.now
