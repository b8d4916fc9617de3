-- Importing ASCII AIGER: the first fault from front to back, and the graph, whose nodes are all free.
use Rattle.std.specs.Prelude.{◌+◌, ◌*◌, ◌%◌, ◌∷◌}
use Rattle.graph.specs.All.{ℕ, List, [], length, get_or, drop, if_less, if_equal, first, first_of, tab, Graph, graph_of, index, held, filled, room_number, accepted, LockedOutcome, locked_outcome, guarded_locks}
use Rattle.tagged_file.specs.All.{blank, free_locks}
use Rattle.aiger.specs.Lines.{number, skip, number_at, line_number}

-- the numbers of the header "aag M I L O A", and what follows it
abbrev pub head_m : List ℕ → ℕ
head_m s = number_at (drop 4 s) 0

abbrev pub head_i : List ℕ → ℕ
head_i s = number_at (drop 4 s) 1

abbrev pub head_l : List ℕ → ℕ
head_l s = number_at (drop 4 s) 2

abbrev pub head_o : List ℕ → ℕ
head_o s = number_at (drop 4 s) 3

abbrev pub head_a : List ℕ → ℕ
head_a s = number_at (drop 4 s) 4

abbrev pub body : List ℕ → List ℕ
body s = skip 5 (drop 4 s)

-- 10: other bytes than "aag " at the front
unfoldable pub aag_number : List ℕ → ℕ
aag_number s =
    if_equal (get_or s 0 0) 97
    (if_equal (get_or s 1 0) 97
    (if_equal (get_or s 2 0) 103
    (if_equal (get_or s 3 0) 32 0 10)
    10)
    10)
    10

-- the header: limits and lent slices as for loading
unfoldable pub header_number : List ℕ → ℕ → ℕ → ℕ → ℕ
header_number s node_room output_room lock_room =
    first (aag_number s)
    (first (line_number 4 (drop 4 s))
    (if_equal (head_l s) 0
    (if_equal (head_m s) (head_i s + head_a s)
    (room_number (head_i s) (head_a s) (head_o s) node_room output_room lock_room)
    12)
    11))

-- The lines after the header: I of one number, O of one number, A of three. Line by line, the bytes s at its front:

-- input k, counted from 0
unfoldable pub input_line_number : List ℕ → ℕ → ℕ
input_line_number s k = first (line_number 0 s) (if_equal (number s) (2 * (1 + k)) 0 12)

-- an output, which may name an index below v
unfoldable pub output_line_number : List ℕ → ℕ → ℕ
output_line_number s v = first (line_number 0 s) (if_less (index (number s)) v 0 5)

-- the gate with index v
unfoldable pub gate_line_number : List ℕ → ℕ → ℕ
gate_line_number s v =
    first (line_number 2 s)
    (if_equal (number s) (2 * v)
    (if_less (index (number_at s 1)) v
    (if_less (index (number_at s 2)) v 0 5)
    5)
    12)

-- i inputs; o outputs, which may name an index below v; n gates, the first with index v
unfoldable pub input_lines_number : List ℕ → ℕ → ℕ
input_lines_number s i = first_of i (λ k. input_line_number (skip k s) k)

unfoldable pub output_lines_number : List ℕ → ℕ → ℕ → ℕ
output_lines_number s o v = first_of o (λ j. output_line_number (skip j s) v)

unfoldable pub gate_lines_number : List ℕ → ℕ → ℕ → ℕ
gate_lines_number s n v = first_of n (λ k. gate_line_number (skip (3 * k) s) (v + k))

-- the body s: i inputs, then o outputs, then n gates
unfoldable pub body_number : List ℕ → ℕ → ℕ → ℕ → ℕ
body_number s i n o =
    first (input_lines_number s i)
    (first (output_lines_number (skip i s) o (i + 1 + n))
    (gate_lines_number (skip (i + o) s) n (i + 1)))

-- the whole text: the first fault from front to back
unfoldable pub import_number : List ℕ → ℕ → ℕ → ℕ → ℕ
import_number s node_room output_room lock_room =
    let rest = body_number (body s) (head_i s) (head_a s) (head_o s) in
    first (header_number s node_room output_room lock_room) rest

-- word j of the node table: 0 in front, where the line has the gate's own number, then the line's other two
unfoldable pub gate_word : List ℕ → ℕ → ℕ → ℕ
gate_word s at j = if_equal (j % 3) 0 0 (number_at s (at + j))

-- the graph that an accepted text says, in the lent tables
unfoldable pub graph_imported : List ℕ → List ℕ → List ℕ → Graph
graph_imported s ns os =
    let i : ℕ = head_i s in
    let n : ℕ = head_a s in
    let o : ℕ = head_o s in
    graph_of i n o
    (filled (tab (3 * n) (gate_word (body s) (i + o))) ns)
    (filled (tab o (λ j. number_at (body s) (i + j))) os)

-- importing the text s into the tables ns and os and the lock bytes ls
unfoldable pub import_call : List ℕ → List ℕ → List ℕ → List ℕ → LockedOutcome
import_call s ns os ls =
    guarded_locks (import_number s (held ns) (held os) (length ls)) (blank ns os) ls
    (locked_outcome (accepted (head_i s ∷ head_a s ∷ head_o s ∷ [])) (graph_imported s ns os) (free_locks (head_a s) ls))
