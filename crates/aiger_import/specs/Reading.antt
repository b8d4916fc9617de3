-- What reading numbers and lines from the front of the bytes finds. What inner functions ask of each other, and no promise to a
-- caller.
use Rattle.std.specs.Prelude.{◌≡◌, Result, Ok, List, ℕ, suc, ◌*◌, ◌≤◌, ◌<◌, length, get_or, drop}
use Rattle.graph.specs.Answer.{refusal_number}
use Rattle.graph.specs.Inner.{IsWord}
use Rattle.graph.specs.declared.Refusal.{Refusal}
use Rattle.aiger.specs.Lines.{digits, number, ended_number, skip, number_at, line_number}
use Rattle.aiger.specs.Import.{head_i, head_o, head_a, body, header_number}
use Rattle.aiger_import.specs.declared.header.Header.{Header}
use Rattle.aiger_import.specs.declared.lines.Number.{Number}

-- the digits at the front: what they say and how many they are, unless they say 2 to the 32nd or more
pub record DigitsRead (s : List ℕ) (value count : ℕ) : Type 0 where
  pub known : value < 4294967296 → (value ≡ number s) × (count ≡ digits s)
  pub over : 4294967296 ≤ value → 4294967296 ≤ number s

-- a number at the front: its value, and its bytes with the one after it
pub record NumberIs (s : List ℕ) (n : Number) : Type 0 where
  pub value_is : n.value ≡ number s
  pub size_is : n.size ≡ suc (digits s)
  pub within : n.size ≤ length s

-- the number at the front, which the byte `end` has to follow
pub record NumberRead (end : ℕ) (s : List ℕ) (r : Result Number Refusal) : Type 0 where
  pub fault_is : refusal_number r ≡ ended_number end s
  pub is : (n : Number) → r ≡ Ok n → NumberIs s n

-- n numbers at the front take so many bytes
pub record Taken (n : ℕ) (s : List ℕ) (size : ℕ) : Type 0 where
  pub within : size ≤ length s
  pub after : drop size s ≡ skip n s

-- n numbers at the front whose fault is f: where there is none, the bytes that they take
pub record Passed (f n : ℕ) (s : List ℕ) (r : Result ℕ Refusal) : Type 0 where
  pub fault_is : refusal_number r ≡ f
  pub taken : (size : ℕ) → r ≡ Ok size → Taken n s size

-- a line of k numbers with a space after each and one with a newline, and where it has no fault its numbers
pub record LineRead (k : ℕ) (s ns : List ℕ) (r : Result ℕ Refusal) : Type 0 where
  pub passed : Passed (line_number k s) (suc k) s r
  pub numbers : (size : ℕ) → r ≡ Ok size → (j : ℕ) → j ≤ k → get_or ns j 0 ≡ number_at s j

-- what an accepted header of the text s says
pub record HeaderIs (s : List ℕ) (h : Header) : Type 0 where
  pub inputs_is : h.sizes.inputs ≡ head_i s
  pub nodes_is : h.sizes.nodes ≡ head_a s
  pub outputs_is : h.sizes.outputs ≡ head_o s
  pub within : h.size ≤ length s
  pub after : drop h.size s ≡ body s

-- the header of the text s, with tables of so many words and so many lock bytes lent
pub record HeaderRead (s : List ℕ) (node_room output_room lock_room : ℕ) (r : Result Header Refusal) : Type 0 where
  pub fault_is : refusal_number r ≡ header_number s node_room output_room lock_room
  pub is : (h : Header) → r ≡ Ok h → HeaderIs s h

-- What the fill pass asks of the check pass. A number that fits stands at the front, and a byte below the digits after it
pub record NumberThere (s : List ℕ) : Type 0 where
  pub within : digits s < length s
  pub fits : number s < 4294967296
  pub stop : get_or s (digits s) 0 < 48

-- n lines of one number
abbrev pub Ones : ℕ → List ℕ → Type 0
Ones n s = (j : ℕ) → j < n → NumberThere (skip j s)

-- the line of an output at the front, and n of them
pub record OutputLine (s : List ℕ) : Type 0 where
  pub one : NumberThere s
  pub word : IsWord (number s)

abbrev pub OutputLines : ℕ → List ℕ → Type 0
OutputLines n s = (j : ℕ) → j < n → OutputLine (skip j s)

-- the line of a gate, and n of them
pub record GateLine (s : List ℕ) : Type 0 where
  pub three : (k : ℕ) → k ≤ 2 → NumberThere (skip k s)
  pub left : IsWord (number_at s 1)
  pub right : IsWord (number_at s 2)

abbrev pub GateLines : ℕ → List ℕ → Type 0
GateLines n s = (k : ℕ) → k < n → GateLine (skip (3 * k) s)
