-- The file of a graph with its locks, and what writing answers and leaves in the buffer.
use Rattle.std.specs.Prelude.{◌+◌, ◌*◌, ◌/◌, ◌%◌, ◌∷◌, ◌++◌, Result}
use Rattle.graph.specs.All.{ℕ, zero, suc, List, [], length, get_or, drop, if_less, if_equal, first, Graph, mark, admission_number, Answer, accepted, refused}
use Rattle.graph.specs.declared.Refusal.{Refusal}
use Rattle.graph.specs.Answer.{answer_by}

-- n as so many bytes, big-endian
unfoldable pub big : ℕ → ℕ → List ℕ
big zero n = []
big (suc width) n = big width (n / 256) ++ (n % 256 ∷ [])

-- a field: a one-byte tag, a two-byte length and a payload
unfoldable pub field_of : ℕ → List ℕ → List ℕ
field_of tag payload = (tag ∷ big 2 (length payload)) ++ payload

unfoldable pub head_field : ℕ → ℕ → ℕ → List ℕ
head_field i n o = field_of 1 (big 4 i ++ (big 4 n ++ big 4 o))

-- a node of these words: an XOR, where the third is the mark, else a majority
unfoldable pub node_field : ℕ → ℕ → ℕ → List ℕ
node_field x y z = if_equal z mark (field_of 3 (big 4 x ++ big 4 y)) (field_of 2 (big 4 x ++ (big 4 y ++ big 4 z)))

unfoldable pub output_field : ℕ → List ℕ
output_field x = field_of 4 (big 4 x)

-- the lock of the node with index u and lock byte b: none where it is free
unfoldable pub lock_field : ℕ → ℕ → List ℕ
lock_field b u = if_equal b 1 (field_of 6 (big 4 u)) []

unfoldable pub end_field : List ℕ
end_field = field_of 5 []

-- node v and output j of the tables, and the lock of node v, the first node having index i
unfoldable pub node_field_at : List ℕ → ℕ → List ℕ
node_field_at ns v = node_field (get_or ns (3 * v) 0) (get_or ns (3 * v + 1) 0) (get_or ns (3 * v + 2) 0)

unfoldable pub output_field_at : List ℕ → ℕ → List ℕ
output_field_at os j = output_field (get_or os j 0)

unfoldable pub lock_field_at : ℕ → List ℕ → ℕ → List ℕ
lock_field_at i ls v = lock_field (get_or ls v 0) (i + v)

-- f v, f (v + 1) and so on, n of them in a row
abbrev pub in_order : (ℕ → List ℕ) → ℕ → ℕ → List ℕ
in_order f v zero = []
in_order f v (suc n) = f v ++ in_order f (v + 1) n

-- the file: one 01, N fields of 02 or 03, O of 04, an 06 for each locked node by rising index, one 05, nothing more
unfoldable pub file_of : Graph → List ℕ → List ℕ
file_of g ls =
    head_field g.I g.N g.O
    ++ (in_order (node_field_at g.nodes) 0 g.N
    ++ (in_order (output_field_at g.outputs) 0 g.O
    ++ (in_order (lock_field_at (g.I + 1) ls) 0 g.N
    ++ end_field)))

-- 3, 4, 5 and 13, then 9 where the buffer has too little room
unfoldable pub write_number : Graph → List ℕ → ℕ → ℕ
write_number g ls room = first (admission_number g ls) (if_less room (length (file_of g ls)) 9 0)

abbrev pub written_answer : Result ℕ Refusal → Answer
written_answer = answer_by (λ n. accepted (n ∷ []))

-- an answer with the buffer as the call leaves it
pub record WriteOutcome : Type 0 where
  pub answer : Answer
  pub buffer : List ℕ

abbrev pub write_outcome : Answer → List ℕ → WriteOutcome
write_outcome a b = record { answer = a; buffer = b }

abbrev pub write_by : ℕ → List ℕ → List ℕ → WriteOutcome
write_by zero file b = write_outcome (accepted (length file ∷ [])) (file ++ drop (length file) b)
write_by (suc k) file b = write_outcome (refused (suc k)) b

-- writing g with the locks ls into the buffer b: its front is the file, the rest is left; refused, all of it is left
unfoldable pub write_call : Graph → List ℕ → List ℕ → WriteOutcome
write_call g ls b = write_by (write_number g ls (length b)) (file_of g ls) b
