-- The report of document 01: its lines, and what the call that makes it answers and leaves.
use Rattle.std.specs.Prelude.{◌+◌, ◌*◌, ◌/◌, ◌∷◌, ◌++◌, Result, Ok, Err}
use Rattle.graph.specs.All.{ℕ, List, [], length, get_or, drop, if_less, if_equal, Graph, mark, held, Answer, accepted, refused, LockedOutcome, locked_outcome, decimal}
use Rattle.tagged_file.specs.All.{in_order, load_call}
use Rattle.rounds.specs.All.{settle_call}
use Rattle.report.specs.declared.RoomFault.{RoomFault}
use Rattle.report.specs.declared.RoomFault.TheVariants.{Scratch, Buffer}

-- "inputs "
unfoldable pub inputs_text : List ℕ
inputs_text = 105 ∷ 110 ∷ 112 ∷ 117 ∷ 116 ∷ 115 ∷ 32 ∷ []

-- " nodes "
unfoldable pub nodes_text : List ℕ
nodes_text = 32 ∷ 110 ∷ 111 ∷ 100 ∷ 101 ∷ 115 ∷ 32 ∷ []

-- " outputs "
unfoldable pub outputs_text : List ℕ
outputs_text = 32 ∷ 111 ∷ 117 ∷ 116 ∷ 112 ∷ 117 ∷ 116 ∷ 115 ∷ 32 ∷ []

-- "before "
unfoldable pub before_text : List ℕ
before_text = 98 ∷ 101 ∷ 102 ∷ 111 ∷ 114 ∷ 101 ∷ 32 ∷ []

-- " after "
unfoldable pub after_text : List ℕ
after_text = 32 ∷ 97 ∷ 102 ∷ 116 ∷ 101 ∷ 114 ∷ 32 ∷ []

-- " rounds "
unfoldable pub rounds_text : List ℕ
rounds_text = 32 ∷ 114 ∷ 111 ∷ 117 ∷ 110 ∷ 100 ∷ 115 ∷ 32 ∷ []

-- "node "
unfoldable pub node_text : List ℕ
node_text = 110 ∷ 111 ∷ 100 ∷ 101 ∷ 32 ∷ []

-- " maj "
unfoldable pub maj_text : List ℕ
maj_text = 32 ∷ 109 ∷ 97 ∷ 106 ∷ 32 ∷ []

-- " xor "
unfoldable pub xor_text : List ℕ
xor_text = 32 ∷ 120 ∷ 111 ∷ 114 ∷ 32 ∷ []

-- " "
unfoldable pub space_text : List ℕ
space_text = 32 ∷ []

-- "out "
unfoldable pub out_text : List ℕ
out_text = 111 ∷ 117 ∷ 116 ∷ 32 ∷ []

-- "refused "
unfoldable pub refused_text : List ℕ
refused_text = 114 ∷ 101 ∷ 102 ∷ 117 ∷ 115 ∷ 101 ∷ 100 ∷ 32 ∷ []

-- a text and a number after it
unfoldable pub numbered : List ℕ → ℕ → List ℕ
numbered t a = t ++ decimal a

-- a line of one numbered text, of two, three and four; a line ends by a newline, the byte 10
unfoldable pub line1 : List ℕ → ℕ → List ℕ
line1 t a = numbered t a ++ (10 ∷ [])

unfoldable pub line2 : List ℕ → ℕ → List ℕ → ℕ → List ℕ
line2 t a u b = numbered t a ++ line1 u b

unfoldable pub line3 : List ℕ → ℕ → List ℕ → ℕ → List ℕ → ℕ → List ℕ
line3 t a u b v c = numbered t a ++ line2 u b v c

unfoldable pub line4 : List ℕ → ℕ → List ℕ → ℕ → List ℕ → ℕ → List ℕ → ℕ → List ℕ
line4 t a u b v c w d = numbered t a ++ line3 u b v c w d

-- line 1: I, N and O; line 2: C before, C after, and the rounds
unfoldable pub sizes_line : ℕ → ℕ → ℕ → List ℕ
sizes_line i n o = line3 inputs_text i nodes_text n outputs_text o

unfoldable pub counts_line : ℕ → ℕ → ℕ → List ℕ
counts_line before after rounds = line3 before_text before after_text after rounds_text rounds

-- a node of this index and these words: an XOR, where the third is the mark, else a majority
unfoldable pub node_line : ℕ → ℕ → ℕ → ℕ → List ℕ
node_line i x y z =
    if_equal z mark (line3 node_text i xor_text x space_text y) (line4 node_text i maj_text x space_text y space_text z)

unfoldable pub output_line : ℕ → List ℕ
output_line x = line1 out_text x

-- node v, where there are i inputs, and output j of the tables
unfoldable pub node_line_at : ℕ → List ℕ → ℕ → List ℕ
node_line_at i ns v = node_line (i + 1 + v) (get_or ns (3 * v) 0) (get_or ns (3 * v + 1) 0) (get_or ns (3 * v + 2) 0)

unfoldable pub output_line_at : List ℕ → ℕ → List ℕ
output_line_at os j = output_line (get_or os j 0)

-- the graph g, settled in so many rounds, with C before and after
unfoldable pub settled_text : ℕ → ℕ → ℕ → Graph → List ℕ
settled_text rounds before after g =
    (sizes_line g.I g.N g.O ++ counts_line before after rounds)
    ++ (in_order (node_line_at g.I g.nodes) 0 g.N ++ in_order (output_line_at g.outputs) 0 g.O)

-- what is printed of settling's outcome: a refusal is one line
unfoldable pub text_of : LockedOutcome → List ℕ
text_of o =
    if_equal o.answer.number 0
    (settled_text (get_or o.answer.values 0 0) (get_or o.answer.values 1 0) (get_or o.answer.values 2 0) o.graph)
    (line1 refused_text o.answer.number)

-- a graph with its locks settled, with s words of scratch: settling is lent the locks to be read
abbrev pub settled_with : Graph → List ℕ → ℕ → LockedOutcome
settled_with g ls s = locked_outcome (settle_call g ls s).answer (settle_call g ls s).graph ls

-- loading's outcome settled; a refused file has nothing to settle
unfoldable pub then_settle : LockedOutcome → ℕ → LockedOutcome
then_settle loaded s = if_equal loaded.answer.number 0 (settled_with loaded.graph loaded.locks s) loaded

-- the file settled in the tables ns and os and the lock bytes ls
unfoldable pub settled_file : List ℕ → List ℕ → List ℕ → List ℕ → ℕ → LockedOutcome
settled_file file ns os ls s = then_settle (load_call file ns os ls) s

-- The lengths alone decide whether there is a report, and what they refuse has numbers that are none of document 01's. 103:
-- scratch does not do for as many nodes as the node table has room for; 104: the buffer has fewer than 128 bytes for the
-- first two lines and 18 for each literal that the tables hold, which is enough for numbers of ten digits.
abbrev pub room_number : RoomFault → ℕ
room_number Scratch = 103
room_number Buffer = 104

unfoldable pub buffer_number : ℕ → ℕ → ℕ → ℕ
buffer_number node_room output_room room = if_less room (128 + 18 * (node_room + output_room)) 104 0

unfoldable pub report_number : ℕ → ℕ → ℕ → ℕ → ℕ
report_number node_room output_room s room = if_less s (8 * (node_room / 3)) 103 (buffer_number node_room output_room room)

abbrev pub reported_answer : Result ℕ RoomFault → Answer
reported_answer (Ok n) = accepted (n ∷ [])
reported_answer (Err f) = refused (room_number f)

-- an answer with the tables, the locks and the buffer as the call leaves them
pub record ReportOutcome : Type 0 where
  pub answer : Answer
  pub nodes : List ℕ
  pub outputs : List ℕ
  pub locks : List ℕ
  pub buffer : List ℕ

abbrev pub report_outcome : Answer → List ℕ → List ℕ → List ℕ → List ℕ → ReportOutcome
report_outcome a ns os ls b = record { answer = a; nodes = ns; outputs = os; locks = ls; buffer = b }

-- the text of an outcome at the front of the buffer, the rest of which is left
unfoldable pub printed : LockedOutcome → List ℕ → ReportOutcome
printed o b =
    report_outcome (accepted (length (text_of o) ∷ [])) o.graph.nodes o.graph.outputs o.locks (text_of o ++ drop (length (text_of o)) b)

-- reporting the file into the tables, the locks and the buffer, with s words of scratch
unfoldable pub report_call : List ℕ → List ℕ → List ℕ → List ℕ → ℕ → List ℕ → ReportOutcome
report_call file ns os ls s b =
    if_equal (report_number (held ns) (held os) s (length b)) 0
    (printed (settled_file file ns os ls s) b)
    (report_outcome (refused (report_number (held ns) (held os) s (length b))) ns os ls b)
